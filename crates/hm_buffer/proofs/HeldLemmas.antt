-- Pages that are held, as one comes or goes, and parts of pages.
use Rattle.std.proofs.Common.{◌≡◌, ◌≢◌, ◌⊎◌, inl, inr, ⊎_elim, ℕ, ◌+◌, ◌*◌, ◌/◌, ◌%◌, ◌<◌, ◌≤◌, List, [], ◌∷◌, Option, Some, None, Result, Ok, Err}
use Rattle.std.proofs.Common.{sym, ◌∙◌, ap, subst, refl, arith, length, slice_index, slice_range}
use Rattle.std.specs.Prelude.{IfSome, OnErr, OnOk}
use Rattle.std.specs.Global.{Box}
use Rattle.std.proofs.lemmas.List.{places, ext_get_or}
use Rattle.std.proofs.lemmas.Bool.{cases_lt}
use Rattle.hm_types.specs.Told.{BothTell}
use Rattle.hm_types.specs.declared.fault.Failed.{Failed}
use Rattle.hm_disk.specs.Crash.{MayLeave, Told}
use Rattle.hm_disk.specs.Disk.{MayBeTorn, Written}
use Rattle.hm_disk.specs.WriteLaws.{MayLeave-overwritten}
use Rattle.hm_disk.proofs.RangeLemmas.{part_of_part}
use Rattle.hm_buffer.specs.Held.{AgreeWithDisk, ArePlaced, Empties, Forgets, GivesPage, Holds, IsApart, IsToldSize, bytes_of_page}
use Rattle.hm_buffer.specs.declared.held_page.HeldPage.{HeldPage}
use Rattle.hm_buffer.specs.declared.held_page.TheConstants.{SLOTS}

-- a short range of a disk is the part of its page
pub part_of_page : (xs : List ℕ) (place len : ℕ) → place % 4096 + len ≤ 4096
    → slice_range (bytes_of_page xs (place / 4096)) (place % 4096) (place % 4096 + len) ≡ slice_range xs place (place + len)
part_of_page xs place len within =
    let whole : place / 4096 * 4096 + place % 4096 ≡ place = omega arith in
    let ends : place / 4096 * 4096 + (place % 4096 + len) ≡ place + len = omega arith in
    part_of_part xs (place / 4096 * 4096) 4096 (place % 4096) (place % 4096 + len) (omega arith) within
    ∙ (ap (λ (n : ℕ). slice_range xs n (place / 4096 * 4096 + (place % 4096 + len))) whole ∙ ap (λ (n : ℕ). slice_range xs place n) ends)

-- so a short read of a page gives what the disk has there
pub read_held : (told : Option Told) (place len : ℕ) (page got : List ℕ) → GivesPage (place / 4096) page told → place % 4096 + len ≤ 4096
    → got ≡ slice_range page (place % 4096) (place % 4096 + len) → IfSome told (λ t. got ≡ slice_range t.bytes place (place + len))
read_held None place len page got given within is = tt
read_held (Some t) place len page got given within is =
    is ∙ (ap (λ (xs : List ℕ). slice_range xs (place % 4096) (place % 4096 + len)) given ∙ part_of_page t.bytes place len within)

-- bytes that agree over a range have the same part there
pub part_same : (xs ys : List ℕ) (p n : ℕ) → length ys ≡ length xs
    → ((byte : ℕ) → byte < length xs → p ≤ byte → byte < p + n → slice_index ys byte ≡ slice_index xs byte)
    → slice_range ys p (p + n) ≡ slice_range xs p (p + n)
part_same xs ys p n sized same =
    ext_get_or 0 (slice_range ys p (p + n)) (slice_range xs p (p + n)) (grind (arith, places, sized))
    (λ i below. let here : slice_index ys (p + i) ≡ slice_index xs (p + i) =
    same (p + i) (grind (arith, places, sized)) (omega arith) (grind (arith, places, sized)) in
    grind (arith, places, here, sized))

-- a write leaves a page that has no byte of its range
page_kept : (old new : List ℕ) (place count number : ℕ) → MayLeave old ((place, count) ∷ []) new → IsApart place count number
    → bytes_of_page new number ≡ bytes_of_page old number
page_kept old new place count number left apart =
    part_same old new (number * 4096) 4096 left.size (λ byte below from before. left.same byte below (beside apart byte from before, tt)) where
      beside : IsApart place count number → (byte : ℕ) → number * 4096 ≤ byte → byte < number * 4096 + 4096 → (byte < place) ⊎ (place + count ≤ byte)
      beside (inl low) byte from before = inl (omega arith)
      beside (inr high) byte from before = inr (omega arith)

-- whether a write succeeded or not, the disk differs in its range alone
written_or_torn : (place : ℕ) (bytes : List ℕ) (t u : Told) (result : Result (Unit {0}) Failed) → place + length bytes ≤ length t.bytes
    → OnOk result (Written place bytes t u) → OnErr result (MayBeTorn place (length bytes) t u) → MayLeave t.bytes ((place, length bytes) ∷ []) u.bytes
written_or_torn place bytes t u (Ok r) within ok err =
    subst (λ (xs : List ℕ). MayLeave t.bytes ((place, length bytes) ∷ []) xs) (sym ok.bytes_are)
    (MayLeave-overwritten t.bytes place (length bytes) bytes (omega arith) within)
written_or_torn place bytes t u (Err e) within ok err = torn err where
  torn : MayBeTorn place (length bytes) t u → MayLeave t.bytes ((place, length bytes) ∷ []) u.bytes
  torn (inl is) = is.bytes_are
  torn (inr is) = record {
    size = ap length is.bytes_are;
    same = λ byte below outside. ap (λ (xs : List ℕ). slice_index xs byte) is.bytes_are;
  }

-- what a write leaves of what was told
told_left : (place : ℕ) (bytes : List ℕ) (old new : Option Told) (result : Result (Unit {0}) Failed)
    → IfSome old (λ t. place + length bytes ≤ length t.bytes)
    → OnOk result (BothTell old new (Written place bytes)) → OnErr result (BothTell old new (MayBeTorn place (length bytes)))
    → BothTell old new (λ t u. MayLeave t.bytes ((place, length bytes) ∷ []) u.bytes)
told_left place bytes (Some t) (Some u) result within ok err = written_or_torn place bytes t u result within ok err
told_left place bytes None None result within ok err = tt
told_left place bytes (Some t) None (Ok r) within ok err = ok
told_left place bytes (Some t) None (Err e) within ok err = err
told_left place bytes None (Some u) (Ok r) within ok err = ok
told_left place bytes None (Some u) (Err e) within ok err = err

-- pages that have no byte of what was written are held still
pub held_after : (place : ℕ) (bytes : List ℕ) (old new : Option Told) (result : Result (Unit {0}) Failed) (before after : List (Option (Box HeldPage)))
    → IfSome old (λ t. place + length bytes ≤ length t.bytes)
    → OnOk result (BothTell old new (Written place bytes)) → OnErr result (BothTell old new (MayBeTorn place (length bytes)))
    → Forgets place (length bytes) before after → AgreeWithDisk old before → AgreeWithDisk new after
held_after place bytes old new result before after within ok err forgets held = by old new (told_left place bytes old new result within ok err) held where
  by : (o n : Option Told) → BothTell o n (λ t u. MayLeave t.bytes ((place, length bytes) ∷ []) u.bytes) → AgreeWithDisk o before → AgreeWithDisk n after
  by (Some t) (Some u) left were = λ i page holds.
      let kept = forgets i page holds in
      were i page kept.0 ∙ sym (page_kept t.bytes u.bytes place (length bytes) page.value.number left kept.1)
  by None None left were = tt
  by None (Some u) left were = absurd left
  by (Some t) None left were = tt

pub size_after : (place : ℕ) (bytes : List ℕ) (old new : Option Told) (result : Result (Unit {0}) Failed) (size : Option ℕ)
    → IfSome old (λ t. place + length bytes ≤ length t.bytes)
    → OnOk result (BothTell old new (Written place bytes)) → OnErr result (BothTell old new (MayBeTorn place (length bytes)))
    → IsToldSize size old → IsToldSize size new
size_after place bytes old new result None within ok err is = tt
size_after place bytes old new result (Some n) within ok err is = by old new (told_left place bytes old new result within ok err) is where
  by : (o m : Option Told) → BothTell o m (λ t u. MayLeave t.bytes ((place, length bytes) ∷ []) u.bytes) → IsToldSize (Some n) o → IsToldSize (Some n) m
  by (Some t) (Some u) left was = was ∙ sym left.size
  by None None left was = tt
  by None (Some u) left was = absurd left
  by (Some t) None left was = tt

pub placed_after : (place len : ℕ) (before after : List (Option (Box HeldPage))) → Forgets place len before after → ArePlaced before → ArePlaced after
placed_after place len before after forgets placed = λ i page holds. placed i page (forgets i page holds).0

-- one slot more was emptied, so that its page is held no more
pub one_more : (first k : ℕ) (args old new : List (Option (Box HeldPage))) → ArePlaced args → Empties ((first + k) % SLOTS) old new
    → ((i : ℕ) (page : Box HeldPage) → Holds old i page
    → Holds args i page × ((n : ℕ) → first ≤ n → n < first + k → page.value.number ≢ n))
    → (i : ℕ) (page : Box HeldPage) → Holds new i page
    → Holds args i page × ((n : ℕ) → first ≤ n → n < first + (k + 1) → page.value.number ≢ n)
one_more first k args old new placed empties so_far i page holds = (before.0, others) where
  emptied : Holds old i page × (i ≢ (first + k) % SLOTS)
  emptied = empties i page holds

  before : Holds args i page × ((n : ℕ) → first ≤ n → n < first + k → page.value.number ≢ n)
  before = so_far i page emptied.0

  others : (n : ℕ) → first ≤ n → n < first + (k + 1) → page.value.number ≢ n
  others n from below = ⊎_elim (λ low. before.1 n from low) (λ high is.
      let last : n ≡ first + k = omega arith in
      emptied.1 (sym (placed i page before.0) ∙ ap (λ (m : ℕ). m % SLOTS) (is ∙ last))) (cases_lt n (first + k))

-- a page that is none of those of a range has no byte of it
pub is_apart : (place len pages number : ℕ) → place % 4096 + len ≤ pages * 4096
    → ((n : ℕ) → place / 4096 ≤ n → n < place / 4096 + pages → number ≢ n) → IsApart place len number
is_apart place len pages number covered none = by (cases_lt number (place / 4096)) (cases_lt number (place / 4096 + pages)) where
  by : (number < place / 4096) ⊎ (place / 4096 ≤ number) → (number < place / 4096 + pages) ⊎ (place / 4096 + pages ≤ number) → IsApart place len number
  by (inl low) other = inl (omega arith)
  by (inr from) (inl below) = absurd (none number from below refl)
  by (inr from) (inr high) = inr (omega arith)
