-- The pages that a range of entries holds.
use Rattle.std.proofs.Common.{◌≡◌, ◌⊎◌, inl, inr, ℕ, suc, ◌+◌, ◌^◌, ◌<◌, ◌≤◌, List, [], ◌∷◌}
use Rattle.std.proofs.Common.{refl, sym, ap, subst, ◌∙◌, arith, length, get_or, slice_get, slice_range, Option, None, Some, IfSome}
use Rattle.std.proofs.lemmas.List.{ext_get_or}
use Rattle.std.proofs.lemmas.Option.{slice_get-get_or, slice_get_cases}
use Rattle.hm_types.specs.declared.limits.TheConstants.{PAGE_BYTES, UNDO_ENTRY_BYTES}
use Rattle.hm_disk.specs.Disk.{overwritten}
use Rattle.hm_header.specs.declared.header.Header.{Header}
use Rattle.hm_header.specs.Range.{HasRoom, IsEntry, IsSize}
use Rattle.hm_header.proofs.SliceLemmas.{slice-overwritten, slice-same}
use Rattle.hm_undo.specs.Entry.{IsUndoPageOf, SpellsUndoEntry, undo_entry_of}
use Rattle.hm_undo.specs.Log.{IsInEntry, entry_at, entry_place}
use Rattle.hm_undo.specs.Range.{Fit, HasUndoEntry, HasRange, OldPage, undo_entry_in}
use Rattle.hm_undo.proofs.EntryLemmas.{entry-is-one, length-entry, spelled-written}
use Rattle.hm_undo.proofs.LogLemmas.{entry-to, page-some, page-within, pool-within}

-- a page of a range
pub range-entry : (image : List ℕ) (header : Header) (olds : List OldPage) → HasRange image header olds → (i : ℕ) (d : OldPage)
    → i < length olds → HasUndoEntry image header (entry_at header.undo_first i) (get_or olds i d)
range-entry image header olds range i d below =
    let P : _ → Type 0 = λ o. IfSome o (HasUndoEntry image header (entry_at header.undo_first i)) in
    subst P (slice_get-get_or olds i d below) (range.each i)

same-old : (a b : OldPage) → a.at ≡ b.at → a.bytes ≡ b.bytes → a ≡ b
same-old a b at bytes =
    let make : ℕ → List ℕ → OldPage = λ x y. record { at = x; bytes = y } in
    let all : make a.at a.bytes ≡ make b.at b.bytes = rw (at, bytes) refl in
    all

pub entry-one : (image : List ℕ) (header : Header) (entry : ℕ) (a b : OldPage) → HasUndoEntry image header entry a → HasUndoEntry image header entry b → a ≡ b
entry-one image header entry a b is is' =
    let same = entry-is-one (undo_entry_in image header.bigblocks entry) a.at header.generation a.bytes b.at header.generation b.bytes is.spelled is'.spelled in
    same-old a b same.0 same.2

-- a header names one range of pages at most
pub range-is-one : (image : List ℕ) (header : Header) (a b : List OldPage) → HasRange image header a → HasRange image header b → a ≡ b
range-is-one image header a b is is' =
    ext_get_or none a b (is.count ∙ sym is'.count)
    (λ i below. entry-one image header (entry_at header.undo_first i) (get_or a i none) (get_or b i none)
    (range-entry image header a is i none below)
    (range-entry image header b is' i none (omega (arith, below, is.count, is'.count))))
  where
    none : OldPage
    none = record { at = 0; bytes = [] }

-- each of these pages stands in some entry
abbrev pub HasEach : List ℕ → Header → List OldPage → Type 0
HasEach image header olds = (i : ℕ) → IfSome (slice_get olds i) (λ old. (entry : ℕ) × HasUndoEntry image header entry old)

pub range-each : (image : List ℕ) (header : Header) (olds : List OldPage) → HasRange image header olds → HasEach image header olds
range-each image header olds range i = some (slice_get olds i) (range.each i)
  where
    some : (o : Option OldPage) → IfSome o (HasUndoEntry image header (entry_at header.undo_first i))
        → IfSome o (λ old. (entry : ℕ) × HasUndoEntry image header entry old)
    some None has = tt
    some (Some old) has = (entry_at header.undo_first i, has)

-- its pages lie inside the disk
pub range-fits : (image : List ℕ) (header : Header) (olds : List OldPage) → IsSize header.bigblocks → HasRoom (length image) header.bigblocks
    → HasEach image header olds → Fit (length image) olds
range-fits image header [] size room each = tt
range-fits image header (old ∷ olds) size room each = (
  (let here = (each 0).1 in omega (arith, page-within header.bigblocks old.at size here.page, here.spelled.sized, room)),
  range-fits image header olds size room (λ i. each (suc i)),
)

-- an entry stands where it was written
pub entry-written : (image : List ℕ) (header : Header) (entry : ℕ) (old : OldPage) → IsSize header.bigblocks → HasRoom (length image) header.bigblocks
    → IsEntry entry → header.generation < 2 ^ 64 → IsUndoPageOf header.bigblocks old.at → length old.bytes ≡ PAGE_BYTES
    → HasUndoEntry (overwritten image (entry_place header.bigblocks entry) (undo_entry_of old.at header.generation old.bytes)) header entry old
entry-written image header entry old size room is fits page sized = record {
  spelled = subst (λ (bytes : List ℕ). SpellsUndoEntry bytes old.at header.generation old.bytes) (sym here)
      (spelled-written old.at header.generation old.bytes (page-some header.bigblocks old.at size page) fits sized);
  page = page;
}
  where
    bytes : List ℕ
    bytes = undo_entry_of old.at header.generation old.bytes

    long : length bytes ≡ UNDO_ENTRY_BYTES
    long = omega (arith, length-entry old.at header.generation old.bytes, sized)

    here : undo_entry_in (overwritten image (entry_place header.bigblocks entry) bytes) header.bigblocks entry ≡ bytes
    here =
        ap (λ (n : ℕ). slice_range (overwritten image (entry_place header.bigblocks entry) bytes)
        (entry_place header.bigblocks entry) (entry_place header.bigblocks entry + n)) (sym long)
        ∙ slice-overwritten image (entry_place header.bigblocks entry) bytes
        (omega (arith, long, entry-to header.bigblocks entry is, pool-within header.bigblocks size, room))

-- entries with the same bytes hold the same pages
pub entry-same : (old new : List ℕ) (header : Header) (entry : ℕ) (page : OldPage) → length new ≡ length old
    → ((byte : ℕ) → IsInEntry header.bigblocks entry byte → byte < length old → get_or new byte 0 ≡ get_or old byte 0)
    → HasUndoEntry old header entry page → HasUndoEntry new header entry page
entry-same old new header entry page size same has = record {
  spelled = subst (λ (bytes : List ℕ). SpellsUndoEntry bytes page.at header.generation page.bytes) (sym here) has.spelled;
  page = has.page;
}
  where
    here : undo_entry_in new header.bigblocks entry ≡ undo_entry_in old header.bigblocks entry
    here = slice-same old new (entry_place header.bigblocks entry) (entry_place header.bigblocks entry + UNDO_ENTRY_BYTES) size
        (λ i below inside. same (entry_place header.bigblocks entry + i) (omega arith, omega (arith, below)) inside)

pub range-same : (old new : List ℕ) (header : Header) (olds : List OldPage) → length new ≡ length old
    → ((i byte : ℕ) → i < header.undo_count → IsInEntry header.bigblocks (entry_at header.undo_first i) byte → byte < length old
    → get_or new byte 0 ≡ get_or old byte 0)
    → HasRange old header olds → HasRange new header olds
range-same old new header olds size same range = record { count = range.count; each = λ i. more i (slice_get_cases olds i).1 }
  where
    kept : (i : ℕ) (page : OldPage) → i < length olds → HasUndoEntry old header (entry_at header.undo_first i) page
        → HasUndoEntry new header (entry_at header.undo_first i) page
    kept i page below has =
        entry-same old new header (entry_at header.undo_first i) page size
        (λ byte inside within. same i byte (omega (arith, below, range.count)) inside within) has

    more : (i : ℕ) → ((page : OldPage) × (i < length olds) × (slice_get olds i ≡ Some page) × (get_or olds i page ≡ page))
        ⊎ ((length olds ≤ i) × (slice_get olds i ≡ None))
        → IfSome (slice_get olds i) (HasUndoEntry new header (entry_at header.undo_first i))
    more i (inl some) =
        let P : Option OldPage → Type 0 = λ o. IfSome o (HasUndoEntry new header (entry_at header.undo_first i)) in
        let Q : Option OldPage → Type 0 = λ o. IfSome o (HasUndoEntry old header (entry_at header.undo_first i)) in
        subst P (sym some.2) (kept i some.0 some.1 (subst Q some.2 (range.each i)))
    more i (inr none) =
        let P : Option OldPage → Type 0 = λ o. IfSome o (HasUndoEntry new header (entry_at header.undo_first i)) in
        subst P (sym none.1) tt
