-- Payloads of balanced stores: how long they are, and which are broken.
use Rattle.std.proofs.Common.{◌≡◌, refl, ap, sym, ◌∙◌, subst, inl, inr, arith, ℕ, ◌<◌, ◌≤◌, Option, Some, None, Err}
use Rattle.std.proofs.Common.{List, [], ◌∷◌, ◌++◌, drop, length, map, take}
use Rattle.std.specs.Prelude.{IfSome, IsSomeAnd}
use Rattle.std.specs.List.{AllByRecursion, Contains}
use Rattle.std.specs.List.Sorted.{IsStrictlySortedBy}
use Rattle.std.specs.declared.cmp.Ordering.TheVariants.{Less}
use Rattle.std.proofs.Math.Seq.{take-append_seam}
use Rattle.std.proofs.lemmas.List.{length-take}
use Rattle.std.proofs.lemmas.List.Elements.{All-contains, recursion_from_All}
use Rattle.hm_types.specs.Faults.{IsCaused}
use Rattle.hm_types.specs.Space.{rounded}
use Rattle.hm_types.specs.declared.damage.TheConstants.{BAD_PAYLOAD}
use Rattle.hm_types.specs.declared.fault.Fault.{Fault}
use Rattle.hm_types.specs.declared.fault.Fault.TheVariants.{Media, Damaged, NoMemory}
use Rattle.hm_types.specs.Elements.{FullElement, key_cmp}
use Rattle.hm_key.specs.Balance.{IsBalanced, IsHeld, full_elements, full_of, payload_of}
use Rattle.hm_key.specs.Counts.{Subject, inode_subject, record_subject}
use Rattle.hm_key.specs.Elements.{IsContent, element_cmp, element_key}
use Rattle.hm_key.specs.Extents.{AreExtents, Extent, IsExtent, extent_at}
use Rattle.hm_key.specs.Versions.{AreSorted}
use Rattle.hm_key.specs.declared.element.Element.{Element}
use Rattle.hm_key.specs.declared.rec_type.TheConstants.{INODE, PFS_RECORD}
use Rattle.hm_key.proofs.BalanceLemmas.{extent_each}
use Rattle.hm_records.specs.Faults.{IsBadPayload, IsReadFault}
use Rattle.hm_records.specs.Payload.{IsPayload, SpellsInode, SpellsPfs}
use Rattle.hm_records.proofs.CountsLemmas.{own_keys-sorted, settled}
use Rattle.hm_records.proofs.InodeLemmas.{length-inode}
use Rattle.hm_records.proofs.PayloadLemmas.{payload_short}
use Rattle.hm_cursor.specs.Read.{IsReadInto}
use Rattle.hm_cursor.specs.Told.{CountsBytes, HasReadingCause, HasSearchingCause, IsDamage, IsLongPayload, IsPayloadDamage, Lists, OnBalanced}
use Rattle.hm_cursor.specs.Version.{IsNewestOf, IsVersion}
use Rattle.hm_cursor.proofs.ToldLemmas.{counts_newest}

-- a held payload has as many bytes as its element says
pub length-payload : (xs : List Extent) (e : Element) → AreExtents xs → IsHeld xs e → length (payload_of xs e) ≡ e.len
length-payload xs e live held = by_extent (extent_at e.payload xs) refl held where
  by_extent : (o : Option Extent) → extent_at e.payload xs ≡ o → IsSomeAnd o (λ x. x.len ≡ rounded e.len) → length (payload_of xs e) ≡ e.len
  by_extent None is held = absurd held
  by_extent (Some x) is held =
      let here : IsExtent x = (extent_each IsExtent e.payload x xs (recursion_from_All IsExtent xs live.each) is).0 in
      let enough : e.len ≤ length x.bytes = omega (arith, here.bytes) in
      rw is (omega (arith, length-take e.len x.bytes))

-- so has the payload of each element of a balanced store
length-balanced : (es : List Element) (xs : List Extent) (e : Element) → AreExtents xs → IsBalanced es xs → Contains es e
    → length (payload_of xs e) ≡ e.len
length-balanced es xs e live balanced has = length-payload xs e live (All-contains (IsHeld xs) es e balanced.held has)

-- what holds of what a function gives for each of a list
pub all_map : {X Y : Type 0} (f : X → Y) (P : Y → Type 0) (list : List X) → AllByRecursion (λ x. P (f x)) list → AllByRecursion P (map f list)
all_map f P [] all = tt
all_map f P (x ∷ list) all = (all.0, all_map f P list all.1)

-- elements with their payloads are in the order of their keys
pub full_sorted : (es : List Element) (xs : List Extent) → IsStrictlySortedBy element_cmp es → AreSorted (full_elements es xs)
unfolding IsStrictlySortedBy
full_sorted [] xs rising = tt
full_sorted (e ∷ es) xs rising =
    (all_map (full_of xs) (λ (y : FullElement). key_cmp (element_key e) y.key ≡ Less) es rising.0, full_sorted es xs rising.1)

-- the bytes that count for a subject are those of the newest element that is seen
counted_bytes : (es : List Element) (xs : List Extent) (s : Subject) (t len : ℕ) (buffer : List ℕ) (e : Element) → IsContent es
    → CountsBytes (es, xs) t s buffer (Some (e, len)) → take len buffer ≡ payload_of xs e
counted_bytes es xs s t len buffer e content found =
    settled (full_elements es xs) t (own_keys-sorted (full_elements es xs) (full_sorted es xs content.rising)) s (take len buffer) (payload_of xs e)
    found.1 (counts_newest es xs s t e found.0)

-- the payload of an inode that is longer than one
long_inode : (lists : Lists) (s : Subject) (pfs obj : ℕ) (fault : Fault) → AreExtents lists.1 → IsBalanced lists.0 lists.1 → s ≡ inode_subject pfs obj
    → IsLongPayload lists s 32 fault → IsPayloadDamage lists fault
long_inode lists s pfs obj (Media before after) live balanced about long = tt
long_inode lists s pfs obj NoMemory live balanced about long = tt
long_inode lists s pfs obj (Damaged at kind) live balanced about long =
    let e : Element = long.0 in
    let type : e.base.rec_type ≡ INODE = ap (λ (s : Subject). s.rec_type) (long.2 ∙ about) in
    let size : length (payload_of lists.1 e) ≡ e.len = length-balanced lists.0 lists.1 e live balanced long.1 in (
      long.3.1,
      record {
        element = e;
        there = long.1;
        place = sym long.3.0;
        broken = λ is. let spelled = is.inode type in omega (arith, ap length spelled.2, length-inode spelled.0, long.3.2);
      },
    )

-- a fault of a search for an inode
pub searched_inode : {A B : Type 0} {es : Option (List Element)} {xs : Option (List Extent)} {old new : ℕ} (s : Subject) (pfs obj : ℕ) (fault : Fault)
    → IfSome xs AreExtents → s ≡ inode_subject pfs obj
    → HasSearchingCause {T = A} es xs s 32 old new (Err fault) → HasReadingCause {T = B} es xs old new (Err fault)
searched_inode {A} {B} {es} {xs} s pfs obj fault live about cause = record {
  counted = record { never_falls = cause.counted.never_falls; caused = cause.counted.caused };
  damage = by_told es xs fault live cause.damage;
} where
  by_told : (es : Option (List Element)) (xs : Option (List Extent)) (fault : Fault) → IfSome xs AreExtents
      → OnBalanced es xs (λ lists. IsDamage fault → IsLongPayload lists s 32 fault) → OnBalanced es xs (λ lists. IsPayloadDamage lists fault)
  by_told None xs fault live told = tt
  by_told (Some es) None fault live told = tt
  by_told (Some es) (Some xs) (Media before after) live told = λ balanced. tt
  by_told (Some es) (Some xs) NoMemory live told = λ balanced. tt
  by_told (Some es) (Some xs) (Damaged at kind) live told =
      λ balanced. long_inode (es, xs) s pfs obj (Damaged at kind) live balanced about (told balanced tt)

-- a payload that does not spell what its element is about
unspelled : (lists : Lists) (e : Element) (P : List ℕ → Type 0) (bytes : List ℕ) (at : ℕ) (fault : Fault) → Contains lists.0 e → e.payload ≡ at
    → (IsPayload (full_of lists.1 e) → P (payload_of lists.1 e)) → bytes ≡ payload_of lists.1 e → (P bytes → ⊥) → IsBadPayload at fault
    → IsPayloadDamage lists fault
unspelled lists e P bytes at fault there place grammar read none bad =
    subst (IsPayloadDamage lists) (sym bad)
    (refl, record { element = e; there = there; place = place; broken = λ is. none (subst P (sym read) (grammar is)) })

-- the payload of an inode that spells none
pub unread_inode : {B : Type 0} {es : Option (List Element)} {xs : Option (List Extent)} {old new : ℕ} (s : Subject) (t pfs obj len : ℕ)
    (buffer : List ℕ) (found : Option (Element × ℕ)) (e : Element) (fault : Fault)
    → IfSome es IsContent → s ≡ inode_subject pfs obj → OnBalanced es xs (λ lists. CountsBytes lists t s buffer found)
    → found ≡ Some (e, len) → old ≤ new → (SpellsInode (take len buffer) → ⊥) → IsBadPayload e.payload fault
    → HasReadingCause {T = B} es xs old new (Err fault)
unread_inode {B} {es} {xs} {old} {new} s t pfs obj len buffer found e fault content about told is rises none bad = record {
  counted = record { never_falls = rises; caused = subst (IsCaused old new) (sym bad) tt };
  damage = by_told es xs content told;
} where
  by_told : (es : Option (List Element)) (xs : Option (List Extent)) → IfSome es IsContent
      → OnBalanced es xs (λ lists. CountsBytes lists t s buffer found) → OnBalanced es xs (λ lists. IsPayloadDamage lists fault)
  by_told None xs content told = tt
  by_told (Some es) None content told = tt
  by_told (Some es) (Some xs) content told = λ balanced.
      let here : CountsBytes (es, xs) t s buffer (Some (e, len)) =
      subst (λ (o : Option (Element × ℕ)). CountsBytes (es, xs) t s buffer o) is (told balanced) in
      let type : e.base.rec_type ≡ INODE = ap (λ (s : Subject). s.rec_type) (here.0.version.about ∙ about) in
      unspelled (es, xs) e SpellsInode (take len buffer) e.payload fault here.0.there refl (λ is. is.inode type)
      (counted_bytes es xs s t len buffer e content here) none bad

-- a fault of a record's payload has its cause, where that breaks the grammar of records
broken_record : {B : Type 0} {es : Option (List Element)} {xs : Option (List Extent)} {old new : ℕ} (s : Subject) (t pfs : ℕ)
    (found : Option Element) (e : Element) (fault : Fault)
    → s ≡ record_subject pfs → IfSome es (λ list. IsVersion list s t found) → found ≡ Some e → old ≤ new → IsBadPayload e.payload fault
    → OnBalanced es xs (λ lists. Contains lists.0 e → e.base.rec_type ≡ PFS_RECORD → IsPayload (full_of lists.1 e) → ⊥)
    → HasReadingCause {T = B} es xs old new (Err fault)
broken_record {B} {es} {xs} {old} {new} s t pfs found e fault about told is rises bad broken = record {
  counted = record { never_falls = rises; caused = subst (IsCaused old new) (sym bad) tt };
  damage = by_told es xs told broken;
} where
  by_told : (es : Option (List Element)) (xs : Option (List Extent)) → IfSome es (λ list. IsVersion list s t found)
      → OnBalanced es xs (λ lists. Contains lists.0 e → e.base.rec_type ≡ PFS_RECORD → IsPayload (full_of lists.1 e) → ⊥)
      → OnBalanced es xs (λ lists. IsPayloadDamage lists fault)
  by_told None xs told broken = tt
  by_told (Some es) None told broken = tt
  by_told (Some es) (Some xs) told broken = λ balanced.
      let newest : IsNewestOf es s t e = subst (λ (o : Option Element). IsVersion es s t o) is told in
      let type : e.base.rec_type ≡ PFS_RECORD = ap (λ (s : Subject). s.rec_type) (newest.version.about ∙ about) in
      subst (IsPayloadDamage (es, xs)) (sym bad)
      (refl, record { element = e; there = newest.there; place = refl; broken = broken balanced newest.there type })

-- the payload of a record that is longer than any
pub long_record : {B : Type 0} {es : Option (List Element)} {xs : Option (List Extent)} {old new : ℕ} (s : Subject) (t pfs : ℕ)
    (found : Option Element) (e : Element)
    → IfSome xs AreExtents → s ≡ record_subject pfs → IfSome es (λ list. IsVersion list s t found) → found ≡ Some e
    → old ≤ new → 65568 < e.len
    → HasReadingCause {T = B} es xs old new (Err (Damaged e.payload BAD_PAYLOAD))
long_record {B} {es} {xs} s t pfs found e live about told is rises long =
    broken_record s t pfs found e (Damaged e.payload BAD_PAYLOAD) about told is rises refl (by_told es xs live) where
      by_told : (es : Option (List Element)) (xs : Option (List Extent)) → IfSome xs AreExtents
          → OnBalanced es xs (λ lists. Contains lists.0 e → e.base.rec_type ≡ PFS_RECORD → IsPayload (full_of lists.1 e) → ⊥)
      by_told None xs live = tt
      by_told (Some es) None live = tt
      by_told (Some es) (Some xs) live = λ balanced there type payload.
          omega (arith, length-balanced es xs e live balanced there, (payload_short (full_of xs e) payload).1)

-- the payload of a record that spells none
pub unread_record : {B : Type 0} {es : Option (List Element)} {xs : Option (List Extent)} {old new : ℕ} (read : Option (List Extent))
    (s : Subject) (t pfs len : ℕ) (buffer : List ℕ) (found : Option Element) (e : Element) (fault : Fault)
    → s ≡ record_subject pfs → read ≡ xs → IfSome es (λ list. IsVersion list s t found) → found ≡ Some e
    → IfSome read (λ list. IsReadInto list e buffer len) → old ≤ new
    → (IsBadPayload e.payload fault → SpellsPfs (take len buffer) → ⊥) → IsReadFault e.payload fault
    → HasReadingCause {T = B} es xs old new (Err fault)
unread_record {B} {es} {xs} {old} {new} read s t pfs len buffer found e fault about same told is into rises none (inl bad) =
    broken_record s t pfs found e fault about told is rises bad
    (by_told es xs (subst (λ (o : Option (List Extent)). IfSome o (λ list. IsReadInto list e buffer len)) same into)) where
      by_told : (es : Option (List Element)) (xs : Option (List Extent)) → IfSome xs (λ list. IsReadInto list e buffer len)
          → OnBalanced es xs (λ lists. Contains lists.0 e → e.base.rec_type ≡ PFS_RECORD → IsPayload (full_of lists.1 e) → ⊥)
      by_told None xs into = tt
      by_told (Some es) None into = tt
      by_told (Some es) (Some xs) into = λ balanced there type payload.
          none bad (subst SpellsPfs (sym into.bytes) (payload.pfs type))
unread_record {B} {es} {xs} {old} {new} read s t pfs len buffer found e fault about same told is into rises none (inr short) = record {
  counted = record { never_falls = rises; caused = subst (IsCaused old new) (sym short) tt };
  damage = subst (λ (f : Fault). OnBalanced es xs (λ lists. IsPayloadDamage lists f)) (sym short) (by_told es xs);
} where
  by_told : (es : Option (List Element)) (xs : Option (List Extent)) → OnBalanced es xs (λ lists. IsPayloadDamage lists NoMemory)
  by_told None xs = tt
  by_told (Some es) None = tt
  by_told (Some es) (Some xs) = λ balanced. tt

-- a vector of a length, all of which was written over, holds what was written
pub read_whole : (n : ℕ) (whole front old : List ℕ) → whole ≡ take n (front ++ drop (length front) old) → length front ≡ n → whole ≡ front
read_whole n whole front old is size =
    is ∙ subst (λ (m : ℕ). take m (front ++ drop (length front) old) ≡ front) size (take-append_seam front (drop (length front) old))
