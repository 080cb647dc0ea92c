-- What stores tell before and after calls that change nothing, and why such calls fail.
use Rattle.std.proofs.Common.{◌≡◌, ℕ, ◌≤◌, Bool, List, Option, Some, None, sym, subst, ◌∙◌, arith}
use Rattle.std.specs.Prelude.{IfSome}
use Rattle.hm_types.specs.Elements.{Key}
use Rattle.hm_types.specs.Faults.{IsCaused}
use Rattle.hm_types.specs.declared.fault.Fault.{Fault}
use Rattle.hm_types.specs.declared.fault.Fault.TheVariants.{Media, Damaged, NoMemory}
use Rattle.hm_types.specs.declared.id.Obj.{Obj}
use Rattle.hm_key.specs.Balance.{IsBalanced, payload_of}
use Rattle.hm_key.specs.Counts.{Counts}
use Rattle.hm_key.specs.Extents.{Extent}
use Rattle.hm_key.specs.Stores.{Same}
use Rattle.hm_key.specs.Elements.{IsContent, first_from, last_to}
use Rattle.hm_key.specs.declared.element.Element.{Element}
use Rattle.hm_records.specs.declared.entry.DirEntry.{DirEntry}
use Rattle.hm_cursor.specs.Names.{IsBehind, LeadsAt, IsObjectNamed}
use Rattle.hm_cursor.specs.Told.{Lists, OnBalanced, fulls}
use Rattle.hm_cursor.specs.Version.{IsFirst, IsLast}
use Rattle.hm_cursor.proofs.SearchLemmas.{IsFirstFrom, IsLastTo, found_first, found_last}

module _ {A : Type 0} where
  -- what follows from what is known of told content
  pub told : (o : Option A) {P Q : A → Type 0} → ((x : A) → P x → Q x) → IfSome o P → IfSome o Q
  told None step known = tt
  told (Some x) step known = step x known

  pub told_both : (o : Option A) {P Q R : A → Type 0} → ((x : A) → P x → Q x → R x) → IfSome o P → IfSome o Q → IfSome o R
  told_both None step one other = tt
  told_both (Some x) step one other = step x one other

  pub told_three : (o : Option A) {P Q R S : A → Type 0} → ((x : A) → P x → Q x → R x → S x) → IfSome o P → IfSome o Q → IfSome o R → IfSome o S
  told_three None step one two three = tt
  told_three (Some x) step one two three = step x one two three

  -- what is known of told content that stayed
  pub told_still : (new old : Option A) (P : A → Type 0) → new ≡ old → IfSome new P → IfSome old P
  told_still new old P same = subst (λ (o : Option A). IfSome o P) same

-- a search over a store that stayed finds the first element from its key on
pub told_first : (now was : Option (List Element)) (at : Key) (found : Option Element) (e : Element) → now ≡ was → IfSome was IsContent
    → IfSome now (λ es. found ≡ first_from at es) → found ≡ Some e → IfSome was (λ es. IsFirstFrom es at e)
told_first now was at found e same content read is =
    told_both was (λ es sorted here. found_first at e es sorted.rising (sym here ∙ is)) content (told_still now was (λ es. found ≡ first_from at es) same read)

-- a search over a store that stayed finds the last element up to its key
pub told_last : (now was : Option (List Element)) (at : Key) (found : Option Element) (e : Element) → now ≡ was → IfSome was IsContent
    → IfSome now (λ es. found ≡ last_to at es) → found ≡ Some e → IfSome was (λ es. IsLastTo es at e)
told_last now was at found e same content read is =
    told_both was (λ es sorted here. found_last at e es sorted.rising (sym here ∙ is)) content (told_still now was (λ es. found ≡ last_to at es) same read)

-- what two calls in turn keep, both keep
pub same_both : {S : Type 0} {elements_of : S → Option (List Element)} {mark_of : S → Key → ℕ} {extents_of : S → Option (List Extent)}
    {room_of : S → ℕ → ℕ} {free_of : S → ℕ} {old mid new : S}
    → Same elements_of mark_of extents_of room_of free_of old mid → Same elements_of mark_of extents_of room_of free_of mid new
    → Same elements_of mark_of extents_of room_of free_of old new
same_both first second = record {
  elements = second.elements ∙ first.elements;
  mark = second.mark ∙ first.mark;
  extents = second.extents ∙ first.extents;
  room = second.room ∙ first.room;
  free = second.free ∙ first.free;
}

-- what follows on balanced content from what is known of it, of its elements and of its extents
pub on_told : (es : Option (List Element)) (xs : Option (List Extent)) (P : List Element → Type 0) (X : List Extent → Type 0) (Q R : Lists → Type 0)
    → ((list : List Element) (extents : List Extent) → IsBalanced list extents → P list → X extents → Q (list, extents) → R (list, extents))
    → IfSome es P → IfSome xs X → OnBalanced es xs Q → OnBalanced es xs R
on_told None xs P X Q R step p x q = tt
on_told (Some es) None P X Q R step p x q = tt
on_told (Some es) (Some xs) P X Q R step p x q = λ balanced. step es xs balanced p x (q balanced)

-- two facts of told elements are one
pub both : {A : Type 0} (o : Option A) (P Q : A → Type 0) → IfSome o P → IfSome o Q → IfSome o (λ x. P x × Q x)
both None P Q p q = tt
both (Some x) P Q p q = (p, q)

-- nothing needs to be known
pub nothing_known : {A : Type 0} (o : Option A) → IfSome o (λ _. Unit {0})
nothing_known None = tt
nothing_known (Some x) = tt

-- what a search answered in a store that stayed
pub last_still : (now was : Option (List Element)) (at : Key) (last t : ℕ) (found answer : Option Element) → now ≡ was → found ≡ answer
    → IfSome now (λ es. IsLast es at last t found) → IfSome was (λ es. IsLast es at last t answer)
last_still now was at last t found answer same is read =
    subst (λ (o : Option (List Element)). IfSome o (λ es. IsLast es at last t answer)) same
    (subst (λ (f : Option Element). IfSome now (λ es. IsLast es at last t f)) is read)

pub first_still : (now was : Option (List Element)) (at : Key) (last t : ℕ) (found answer : Option Element) → now ≡ was → found ≡ answer
    → IfSome now (λ es. IsFirst es at last t found) → IfSome was (λ es. IsFirst es at last t answer)
first_still now was at last t found answer same is read =
    subst (λ (o : Option (List Element)). IfSome o (λ es. IsFirst es at last t answer)) same
    (subst (λ (f : Option Element). IfSome now (λ es. IsFirst es at last t f)) is read)

-- what was read in a store that stayed
pub read_still : (now was : Option (List Extent)) (e : Element) (name : List ℕ) (found answer : Option Obj) → now ≡ was → found ≡ answer
    → IfSome now (λ xs. IsObjectNamed (payload_of xs e) name found) → IfSome was (λ xs. IsObjectNamed (payload_of xs e) name answer)
read_still now was e name found answer same is read =
    subst (λ (o : Option (List Extent)). IfSome o (λ xs. IsObjectNamed (payload_of xs e) name answer)) same
    (subst (λ (f : Option Obj). IfSome now (λ xs. IsObjectNamed (payload_of xs e) name f)) is read)

-- the cause of a fault of a call is one in all calls of which that is the last
pub caused_later : (old mid new : ℕ) (fault : Fault) → old ≤ mid → IsCaused mid new fault → IsCaused old new fault
caused_later old mid new (Media before after) grows cause = record { begin = omega (arith, cause.begin); rose = cause.rose; end = cause.end }
caused_later old mid new (Damaged at kind) grows cause = tt
caused_later old mid new NoMemory grows cause = tt

-- two facts of balanced content are one
pub balanced_both : (es : Option (List Element)) (xs : Option (List Extent)) (P Q : Lists → Type 0) → OnBalanced es xs P → OnBalanced es xs Q
    → OnBalanced es xs (λ lists. P lists × Q lists)
balanced_both None xs P Q p q = tt
balanced_both (Some es) None P Q p q = tt
balanced_both (Some es) (Some xs) P Q p q = λ balanced. (p balanced, q balanced)

-- what a call answered of balanced content that stayed
balanced_still : {A : Type 0} (now was : Option (List Element)) (read before : Option (List Extent)) (P : A → Lists → Type 0) (found answer : A)
    → now ≡ was → read ≡ before → found ≡ answer → OnBalanced now read (P found) → OnBalanced was before (P answer)
balanced_still {A} now was read before P found answer same stay is known =
    subst (λ (o : Option (List Extent)). OnBalanced was o (P answer)) stay
    (subst (λ (o : Option (List Element)). OnBalanced o read (P answer)) same (subst (λ (a : A). OnBalanced now read (P a)) is known))

pub behind_still : (now was : Option (List Element)) (read before : Option (List Extent)) (t pfs : ℕ) (directory : Obj) (key : ℕ) (name : List ℕ)
    (found answer : Bool) → now ≡ was → read ≡ before → found ≡ answer
    → OnBalanced now read (λ lists. IsBehind (Counts (fulls lists) t) pfs directory key name found)
    → OnBalanced was before (λ lists. IsBehind (Counts (fulls lists) t) pfs directory key name answer)
behind_still now was read before t pfs directory key name found answer =
    balanced_still now was read before (λ (b : Bool) (lists : Lists). IsBehind (Counts (fulls lists) t) pfs directory key name b) found answer

pub leading_still : (now was : Option (List Element)) (read before : Option (List Extent)) (t pfs : ℕ) (directory : Obj) (key : ℕ)
    (found answer : Option DirEntry) → now ≡ was → read ≡ before → found ≡ answer
    → OnBalanced now read (λ lists. LeadsAt lists t pfs directory key found) → OnBalanced was before (λ lists. LeadsAt lists t pfs directory key answer)
leading_still now was read before t pfs directory key found answer =
    balanced_still now was read before (λ (o : Option DirEntry) (lists : Lists). LeadsAt lists t pfs directory key o) found answer
