-- Where links lead, and which targets are damaged.
use Rattle.std.proofs.Common.{◌≡◌, ◌≢◌, ℕ, ◌^◌, ◌≤◌, true, false, List, [], ◌++◌, length, take, Option, None, Some, Result, Ok, Err, refl, sym, ap}
use Rattle.std.proofs.Common.{subst, ◌∙◌, inl, inr, arith}
use Rattle.std.specs.Prelude.{IfErr, IfOk, IfSome, codes, if◌then◌else◌}
use Rattle.std.specs.Option.{option_map_or}
use Rattle.std.proofs.lemmas.List.Elements.{All-contains}
use Rattle.hm_types.specs.Faults.{IsCaused}
use Rattle.hm_types.specs.Id.{id_text}
use Rattle.hm_types.specs.declared.fault.Fault.{Fault}
use Rattle.hm_types.specs.declared.fault.Fault.TheVariants.{Media, Damaged, NoMemory}
use Rattle.hm_types.specs.declared.id.Obj.{Obj}
use Rattle.hm_types.specs.declared.object.Content.{Content as Held}
use Rattle.hm_types.specs.declared.object.Content.TheVariants.{Nothing, File as of_file, Target, Linked}
use Rattle.hm_types.specs.declared.object.Object.{Object}
use Rattle.hm_key.specs.Balance.{IsBalanced, IsHeld, full_elements, payload_of}
use Rattle.hm_key.specs.Counts.{Content, Counts, IsRecordOf, Subject, record_subject, target_subject}
use Rattle.hm_key.specs.Elements.{IsContent}
use Rattle.hm_key.specs.Extents.{AreExtents, Extent}
use Rattle.hm_key.specs.declared.element.Element.{Element}
use Rattle.hm_key.specs.declared.rec_type.TheConstants.{SOFTLINK_TARGET}
use Rattle.hm_model.specs.Answer.{link_id, link_text, target_of}
use Rattle.hm_model.specs.Reply.{five_digits}
use Rattle.hm_model.specs.Volume.{PseudoFileSystem, Role, Volume, Master, Slave, system_of}
use Rattle.hm_records.specs.Changes.{CountsNothing}
use Rattle.hm_records.specs.Faults.{IsBadPayload, IsReadFault, Reads}
use Rattle.hm_records.specs.PfsRecord.{pfs_bytes}
use Rattle.hm_types.specs.Intervals.{open_end}
use Rattle.hm_records.specs.Target.{IsTarget, target_bytes}
use Rattle.hm_records.specs.View.{IsHeld as IsHeldAs, IsTargetOf, missing}
use Rattle.hm_records.specs.declared.inode.Inode.{Inode}
use Rattle.hm_records.specs.declared.kind.TheConstants.{PFS_LINK, SOFTLINK}
use Rattle.hm_records.specs.declared.pfs_record.PfsRecord.{PfsRecord}
use Rattle.hm_records.proofs.CountsLemmas.{record_counts}
use Rattle.hm_records.proofs.MadeLemmas.{softlink_made}
use Rattle.hm_records.proofs.ObjectLemmas.{object_one}
use Rattle.hm_volume.specs.Records.{HaveRecords, IsRecordFor, is_master}
use Rattle.hm_volume.proofs.RecordLemmas.{system_none, system_some}
use Rattle.hm_cursor.specs.Told.{CountsBytes, HasReadingCause, HasSearchingCause, IsDamage, IsLongPayload, IsPayloadDamage, IsRecordNow, Lists}
use Rattle.hm_cursor.specs.Told.{OnBalanced, fulls}
use Rattle.hm_cursor.proofs.PayloadLemmas.{length-payload}
use Rattle.hm_cursor.proofs.ToldLemmas.{counts_newest}
use Rattle.hm_view.specs.Volumes.{IsTargetTold, OnVolumes, id_by, text_by}
use Rattle.hm_view.proofs.SizeLemmas.{pfs_link_held, held_by}
use Rattle.hm_view.proofs.TreesLemmas.{nothing_told, own_keys, settled_told, volumes_of}

-- ---- a target that is damaged

-- the payload of a target that is longer than any
long_target : (lists : Lists) (s : Subject) (pfs object : ℕ) (fault : Fault) → AreExtents lists.1 → IsBalanced lists.0 lists.1
    → s ≡ target_subject pfs object → IsLongPayload lists s 1023 fault → IsPayloadDamage lists fault
long_target lists s pfs object (Media before after) live balanced about long = tt
long_target lists s pfs object NoMemory live balanced about long = tt
long_target lists s pfs object (Damaged at kind) live balanced about long =
    let e : Element = long.0 in
    let type : e.base.rec_type ≡ SOFTLINK_TARGET = ap (λ (s : Subject). s.rec_type) (long.2 ∙ about) in
    let size : length (payload_of lists.1 e) ≡ e.len =
    length-payload lists.1 e live (All-contains (IsHeld lists.1) lists.0 e balanced.held long.1) in (
      long.3.1,
      record {
        element = e;
        there = long.1;
        place = sym long.3.0;
        broken = λ is. let few = (is.target type).1 in omega (arith, few, size, long.3.2);
      },
    )

-- a fault of a search for a target
pub searched_target : {A B : Type 0} {es : Option (List Element)} {xs : Option (List Extent)} {old new : ℕ} (s : Subject) (pfs object : ℕ) (fault : Fault)
    → IfSome xs AreExtents → s ≡ target_subject pfs object
    → HasSearchingCause {T = A} es xs s 1023 old new (Err fault) → HasReadingCause {T = B} es xs old new (Err fault)
searched_target {A} {B} {es} {xs} {old} {new} s pfs object fault live about cause = record {
  counted = record { never_falls = cause.counted.never_falls; caused = cause.counted.caused };
  damage = by_told es xs fault live cause.damage;
} where
  by_told : (es : Option (List Element)) (xs : Option (List Extent)) (fault : Fault) → IfSome xs AreExtents
      → OnBalanced es xs (λ lists. IsDamage fault → IsLongPayload lists s 1023 fault) → OnBalanced es xs (λ lists. IsPayloadDamage lists fault)
  by_told None xs fault live told = tt
  by_told (Some es) None fault live told = tt
  by_told (Some es) (Some xs) (Media before after) live told = λ balanced. tt
  by_told (Some es) (Some xs) NoMemory live told = λ balanced. tt
  by_told (Some es) (Some xs) (Damaged at kind) live told =
      λ balanced. long_target (es, xs) s pfs object (Damaged at kind) live balanced about (told balanced tt)

-- the payload of a target that is none
broken_target : (lists : Lists) (s : Subject) (t pfs object len : ℕ) (buffer : List ℕ) (e : Element) (fault : Fault) → IsContent lists.0
    → s ≡ target_subject pfs object → CountsBytes lists t s buffer (Some (e, len)) → (IsTarget (take len buffer) → ⊥) → IsBadPayload e.payload fault
    → IsPayloadDamage lists fault
broken_target lists s t pfs object len buffer e fault content about found none bad =
    let type : e.base.rec_type ≡ SOFTLINK_TARGET = ap (λ (s : Subject). s.rec_type) (found.0.version.about ∙ about) in
    let same : take len buffer ≡ payload_of lists.1 e =
    settled_told lists t content s (take len buffer) (payload_of lists.1 e) found.1 (counts_newest lists.0 lists.1 s t e found.0) in
    subst (IsPayloadDamage lists) (sym bad)
    (refl, record { element = e; there = found.0.there; place = refl; broken = λ is. none (subst IsTarget (sym same) (is.target type)) })

-- a fault of reading a target
pub read_target : {es : Option (List Element)} {xs : Option (List Extent)} {old new : ℕ} (s : Subject) (t pfs object len : ℕ) (buffer : List ℕ)
    (answer : Option (Element × ℕ)) (e : Element) (result : Result (List ℕ) Fault) → IfSome es IsContent → s ≡ target_subject pfs object
    → OnBalanced es xs (λ lists. CountsBytes lists t s buffer answer) → answer ≡ Some (e, len) → old ≤ new
    → ((target : List ℕ) → IsTarget target → take len buffer ≡ target_bytes target → Reads target result) → IfErr result (IsReadFault e.payload)
    → HasReadingCause es xs old new result
read_target {es} {xs} {old} {new} s t pfs object len buffer answer e (Ok text) content about told is rises only read = record {
  counted = record { never_falls = rises; caused = tt };
  damage = by_told es xs;
} where
  by_told : (es : Option (List Element)) (xs : Option (List Extent)) → OnBalanced es xs (λ _. Unit {0})
  by_told = nothing_told
read_target {es} {xs} {old} {new} s t pfs object len buffer answer e (Err fault) content about told is rises only (inr short) = record {
  counted = record { never_falls = rises; caused = subst (IsCaused old new) (sym short) tt };
  damage = subst (λ (f : Fault). OnBalanced es xs (λ lists. IsPayloadDamage lists f)) (sym short) (nothing_told es xs);
}
read_target {es} {xs} {old} {new} s t pfs object len buffer answer e (Err fault) content about told is rises only (inl bad) = record {
  counted = record { never_falls = rises; caused = subst (IsCaused old new) (sym bad) tt };
  damage = by_told es xs content told;
} where
  none : IsTarget (take len buffer) → ⊥
  none target = let short : fault ≡ NoMemory = only (take len buffer) target refl in absurd (let e = sym bad ∙ short in cc)

  by_told : (es : Option (List Element)) (xs : Option (List Extent)) → IfSome es IsContent
      → OnBalanced es xs (λ lists. CountsBytes lists t s buffer answer) → OnBalanced es xs (λ lists. IsPayloadDamage lists fault)
  by_told None xs content told = tt
  by_told (Some es) None content told = tt
  by_told (Some es) (Some xs) content told = λ balanced.
      broken_target (es, xs) s t pfs object len buffer e fault content about
      (subst (λ (o : Option (Element × ℕ)). CountsBytes (es, xs) t s buffer o) is (told balanced)) none bad

-- ---- the target of a softlink

-- where nothing counts it is empty
pub target_none : (es : Option (List Element)) (xs : Option (List Extent)) (s : Subject) (t pfs object : ℕ) (buffer text : List ℕ)
    (answer : Option (Element × ℕ)) → s ≡ target_subject pfs object → answer ≡ None → text ≡ []
    → OnBalanced es xs (λ lists. CountsBytes lists t s buffer answer) → OnBalanced es xs (λ lists. IsTargetOf (Counts (fulls lists) t) pfs object text)
target_none None xs s t pfs object buffer text answer about is empty told = tt
target_none (Some es) None s t pfs object buffer text answer about is empty told = tt
target_none (Some es) (Some xs) s t pfs object buffer text answer about is empty told = λ balanced.
    missing (subst (CountsNothing (Counts (full_elements es xs) t)) about
    (subst (λ (o : Option (Element × ℕ)). CountsBytes (es, xs) t s buffer o) is (told balanced))) empty

-- ---- the text of a link to a PFS

-- by the role of the PFS
role_text : (s : PseudoFileSystem) (r : PfsRecord) → IsRecordFor s r → (if r.master then codes "-1" else id_text r.sync_end) ≡ link_id s
role_text s r for = by_role s.role refl where
  by_role : (role : Role) → s.role ≡ role → (if r.master then codes "-1" else id_text r.sync_end) ≡ link_id s
  by_role Master is =
      let master : r.master ≡ true = for.0 ∙ ap is_master is in
      rw (master, is) refl
  by_role Slave is =
      let slave : r.master ≡ false = for.0 ∙ ap is_master is in
      let end : r.sync_end.0 ≡ s.sync_end = for.2 in
      rw (slave, is) (ap (λ (n : ℕ). id_text (record { 0 = n })) end)

id_told : (lists : Lists) (volume : Volume) (pfs : ℕ) (answer : Option PfsRecord) → IsContent lists.0 → HaveRecords (fulls lists) volume
    → ((bytes : List ℕ) → IsRecordOf (fulls lists) pfs bytes → Counts (fulls lists) open_end (record_subject pfs) bytes)
    → ((bytes : List ℕ) → Counts (fulls lists) open_end (record_subject pfs) bytes → IsRecordOf (fulls lists) pfs bytes)
    → IsRecordNow lists pfs answer → id_by answer ≡ option_map_or link_id (system_of volume pfs) (codes "-1")
id_told lists volume pfs None content have to from none =
    ap (λ (o : Option PseudoFileSystem). option_map_or link_id o (codes "-1"))
    (sym (system_none (fulls lists) volume pfs have (λ bytes is. none bytes (to bytes is))))
id_told lists volume pfs (Some r) content have to from (ranges, there) =
    let (s, is, for) = system_some (fulls lists) volume pfs have r (own_keys lists content) (record { ranges = ranges; there = from (pfs_bytes r) there }) in
    role_text s r for ∙ sym (ap (λ (o : Option PseudoFileSystem). option_map_or link_id o (codes "-1")) is)

pub link_told : (es : Option (List Element)) (xs : Option (List Extent)) (pfs : ℕ) (answer : Option PfsRecord) (text : List ℕ) → IfSome es IsContent
    → text ≡ text_by answer pfs → OnBalanced es xs (λ lists. IsRecordNow lists pfs answer)
    → OnVolumes es xs (λ lists volume. text ≡ link_text volume pfs)
link_told es xs pfs answer text content is told =
    volumes_of es xs (λ lists. IsRecordNow lists pfs answer) (λ lists volume. text ≡ link_text volume pfs) content
    (λ lists volume view content shows now.
    let id = id_told lists volume pfs answer content shows.records
    (λ bytes. (record_counts (fulls lists) pfs (2 ^ 64) open_end bytes shows.ids (omega arith)).0)
    (λ bytes. (record_counts (fulls lists) pfs (2 ^ 64) open_end bytes shows.ids (omega arith)).1) now in
    is ∙ ap (λ (id : List ℕ). codes "@@" ++ (id ++ (codes ":" ++ five_digits pfs))) id)
    told

-- ---- targets

module _ (es : Option (List Element)) (xs : Option (List Extent)) (pfs t : ℕ) (object : Obj) (inode : Inode) (content : IfSome es IsContent) where
  abbrev pub Told : List ℕ → Type 0
  Told text = OnVolumes es xs (IsTargetTold t pfs object inode text)

  -- of a directory and of a file
  pub target_other : (text : List ℕ) → text ≡ [] → inode.kind ≢ SOFTLINK → inode.kind ≢ PFS_LINK → Told text
  target_other text empty no_softlink no_link =
      volumes_of es xs (λ _. Unit {0}) (IsTargetTold t pfs object inode text) content
      (λ lists volume view content shows _ o same made.
      empty ∙ by_content volume o.number.0 (Counts (fulls lists) t) o.content (held_by (Counts (fulls lists) t) pfs inode o made))
      (nothing_told es xs) where
        by_content : (volume : Volume) (number : ℕ) (counts : Content) (held : Held) → IsHeldAs counts pfs number inode held → [] ≡ target_of volume held
        by_content volume number counts Nothing holds = refl
        by_content volume number counts (of_file bytes) holds = refl
        by_content volume number counts (Target text) holds = absurd (no_softlink holds.0)
        by_content volume number counts (Linked other) holds = absurd (no_link holds.0)

  pub target_link : inode.kind ≡ PFS_LINK → (result : Result (List ℕ) Fault)
      → IfOk result (λ text. OnVolumes es xs (λ lists volume. text ≡ link_text volume inode.pfs.0)) → IfOk result Told
  target_link link (Err fault) told = tt
  target_link link (Ok text) told = by_told es xs content told where
    by_told : (es : Option (List Element)) (xs : Option (List Extent)) → IfSome es IsContent
        → OnVolumes es xs (λ lists volume. text ≡ link_text volume inode.pfs.0)
        → OnVolumes es xs (IsTargetTold t pfs object inode text)
    by_told None xs content told = tt
    by_told (Some es) None content told = tt
    by_told (Some es) (Some xs) content told = λ balanced volume view shows o same made.
        told balanced volume view shows ∙ sym (ap (target_of volume) (pfs_link_held (Counts (full_elements es xs) t) pfs inode o made link))

  pub target_softlink : inode.kind ≡ SOFTLINK → (result : Result (List ℕ) Fault)
      → IfOk result (λ text. OnBalanced es xs (λ lists. IsTargetOf (Counts (fulls lists) t) pfs object.0 text)) → IfOk result Told
  target_softlink softlink (Err fault) read = tt
  target_softlink softlink (Ok text) read =
      volumes_of es xs (λ lists. IsTargetOf (Counts (fulls lists) t) pfs object.0 text) (IsTargetTold t pfs object inode text) content
      (λ lists volume view content shows leads o same made.
      let counts = Counts (fulls lists) t in
      let mine = subst (λ (d : Obj). IsTargetOf counts pfs d.0 text) (sym same) leads in
      let there = made.object in
      let one = softlink_made pfs o.number there.inode text counts (record { ranges = there.ranges; there = there.there })
      (ap (λ (i : Inode). i.kind) made.same ∙ softlink) mine in
      sym (ap (λ (p : Object). target_of volume p.content) (object_one pfs o _ counts (settled_told lists t content) there one refl)))
      read
