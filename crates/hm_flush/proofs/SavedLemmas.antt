-- The entries that a flush writes, and what they put back.
use Rattle.std.proofs.Common.{◌≡◌, ◌≢◌, ◌⊎◌, inl, inr, ⊎_elim, ℕ, suc, ◌+◌, ◌*◌, ◌<◌, ◌≤◌, List, [], ◌∷◌, ◌++◌, length, get_or, refl, sym, ◌∙◌, ap}
use Rattle.std.proofs.Common.{subst, arith, slice_index, slice_get, slice_range, Option, Some, None, IfSome}
use Rattle.std.specs.List.{AllByRecursion}
use Rattle.hm_types.specs.declared.limits.TheConstants.{PAGE_BYTES, UNDO_ENTRY_BYTES}
use Rattle.hm_types.specs.Offset.{byte_of}
use Rattle.hm_disk.specs.Crash.{Outside}
use Rattle.hm_disk.specs.Disk.{overwritten}
use Rattle.hm_disk.proofs.OverwriteLemmas.{length-overwritten}
use Rattle.hm_fields.specs.Pages.{PageMap}
use Rattle.hm_header.specs.declared.header.Header.{Header}
use Rattle.hm_pages.specs.Store.{Store}
use Rattle.hm_undo.specs.Entry.{IsUndoPageOf}
use Rattle.hm_undo.specs.Log.{IsInEntry, entry_at}
use Rattle.hm_undo.specs.Range.{Fit, HasRange, OldPage, old_places_of, put_back}
use Rattle.hm_undo.proofs.PutBackLemmas.{length-put_back, put_back-outside}
use Rattle.hm_undo.proofs.RangeLemmas.{HasEach, range-same}
use Rattle.hm_flush.specs.Guard.{ArePlaced, HasSaved, IsSavedAt}
use Rattle.hm_flush.specs.Recoverable.{HoldsPage, IsInPage, IsInPages}
use Rattle.hm_flush.proofs.PageLemmas.{either, page-beside, page-is-one, page-written, pages-apart}

module _ (map : PageMap) (header : Header) (log : List ℕ) (placed : ArePlaced header.bigblocks map) where
  -- where old pages of a map are put back, each page of it stands that is one of these, or that stood before
  pub put_back-holds : (image : List ℕ) (olds : List OldPage) → HasEach log header olds → AllByRecursion (λ old. map old.at ≡ Some old.bytes) olds
      → Fit (length image) olds → (at : ℕ) (page : List ℕ) → map at ≡ Some page → IsSavedAt at olds ⊎ HoldsPage image at page
      → HoldsPage (put_back image olds) at page
  put_back-holds image [] each are fit at page is (inl none) = absurd none
  put_back-holds image [] each are fit at page is (inr holds) = holds
  put_back-holds image (old ∷ olds) each are fit at page is have =
      ⊎_elim same (λ differ. other differ (put_back-holds image olds (λ i. each (suc i)) are.1 fit.1 at page is (rest differ have))) (either old.at at)
    where
      back : List ℕ
      back = put_back image olds

      size : length back ≡ length image
      size = length-put_back image olds fit.1

      sized : length old.bytes ≡ PAGE_BYTES
      sized = (each 0).1.spelled.sized

      inside : byte_of old.at + PAGE_BYTES ≤ length back
      inside = omega (arith, fit.0, sized, size)

      same : old.at ≡ at → HoldsPage (overwritten back (byte_of old.at) old.bytes) at page
      same here =
          let bytes : old.bytes ≡ page = page-is-one map old.at at old.bytes page here are.0 is in
          subst (λ (k : ℕ). HoldsPage (overwritten back (byte_of old.at) old.bytes) k page) here
          (page-written back old.at old.bytes sized inside ∙ bytes)

      rest : old.at ≢ at → IsSavedAt at (old ∷ olds) ⊎ HoldsPage image at page → IsSavedAt at olds ⊎ HoldsPage image at page
      rest differ (inl (inl here)) = absurd (differ here)
      rest differ (inl (inr more)) = inl more
      rest differ (inr holds) = inr holds

      other : old.at ≢ at → HoldsPage back at page → HoldsPage (overwritten back (byte_of old.at) old.bytes) at page
      other differ stood =
          page-beside back (byte_of old.at) at old.bytes page sized inside
          (length-overwritten back (byte_of old.at) old.bytes (omega (arith, inside, sized)))
          (pages-apart header.bigblocks old.at at (each 0).1.page (placed at page is) differ) stood

-- a byte of no page of a map lies outside old pages of it
pub outside-olds : (map : PageMap) (header : Header) (log : List ℕ) (olds : List OldPage) → HasEach log header olds
    → AllByRecursion (λ old. map old.at ≡ Some old.bytes) olds → (byte : ℕ) → ¬ IsInPages map byte → Outside (old_places_of olds) byte
outside-olds map header log [] each are byte out = tt
outside-olds map header log (old ∷ olds) each are byte out =
    (step (either-side byte (byte_of old.at) (length old.bytes)), outside-olds map header log olds (λ i. each (suc i)) are.1 byte out)
  where
    sized : length old.bytes ≡ PAGE_BYTES
    sized = (each 0).1.spelled.sized

    either-side : (b p n : ℕ) → ((b < p) ⊎ (p + n ≤ b)) ⊎ ((p ≤ b) × (b < p + n))
    either-side b p n = side
      where
        side : ((b < p) ⊎ (p + n ≤ b)) ⊎ ((p ≤ b) × (b < p + n))
        side = grind arith

    step : ((byte < byte_of old.at) ⊎ (byte_of old.at + length old.bytes ≤ byte)) ⊎ ((byte_of old.at ≤ byte) × (byte < byte_of old.at + length old.bytes))
        → (byte < byte_of old.at) ⊎ (byte_of old.at + length old.bytes ≤ byte)
    step (inl away) = away
    step (inr within) = absurd (out (old.at, old.bytes, are.0, (within.0, omega (arith, within.1, sized))))

-- entries hang on the log
pub saved-same : (header : Header) (s : Store) (to : ℕ) (old new : List ℕ) → length new ≡ length old
    → ((i byte : ℕ) → i < header.undo_count → IsInEntry header.bigblocks (entry_at header.undo_first i) byte → byte < length old
    → get_or new byte 0 ≡ get_or old byte 0)
    → HasSaved header s to old → HasSaved header s to new
saved-same header s to old new size same saved = record {
  olds = saved.olds;
  range = range-same old new header saved.olds size same saved.range;
  committed = saved.committed;
  live = saved.live;
}

-- one more page is in a list that has it at its end
pub saved-push : (at : ℕ) (olds : List OldPage) (old : OldPage) → old.at ≡ at → IsSavedAt at (olds ++ old ∷ [])
saved-push at [] old is = inl is
saved-push at (one ∷ olds) old is = inr (saved-push at olds old is)

pub saved-before : (at : ℕ) (olds : List OldPage) (old : OldPage) → IsSavedAt at olds → IsSavedAt at (olds ++ old ∷ [])
saved-before at [] old none = absurd none
saved-before at (one ∷ olds) old (inl here) = inl here
saved-before at (one ∷ olds) old (inr more) = inr (saved-before at olds old more)

pub committed-push : (map : PageMap) (olds : List OldPage) (old : OldPage) → AllByRecursion (λ o. map o.at ≡ Some o.bytes) olds → map old.at ≡ Some old.bytes
    → AllByRecursion (λ o. map o.at ≡ Some o.bytes) (olds ++ old ∷ [])
committed-push map [] old are is = (is, tt)
committed-push map (one ∷ olds) old are is = (are.0, committed-push map olds old are.1 is)

-- no page is in a list of none
pub saved-none : (at : ℕ) (olds : List OldPage) → length olds ≡ 0 → IsSavedAt at olds → ⊥
saved-none at [] none is = is
saved-none at (old ∷ olds) none is = absurd (omega (arith, none))
