-- Where the pages of a range lie beside the entries and the slots.
use Rattle.std.proofs.Common.{◌⊎◌, inl, inr, ⊎_elim, ℕ, zero, suc, ◌+◌, ◌<◌, ◌≤◌, List, [], ◌∷◌}
use Rattle.std.proofs.Common.{arith, length, get_or}
use Rattle.hm_types.specs.Offset.{byte_of}
use Rattle.hm_types.specs.declared.limits.TheConstants.{PAGE_BYTES, UNDO_ENTRY_BYTES}
use Rattle.hm_disk.specs.Crash.{MayLeave, Outside}
use Rattle.hm_header.specs.declared.header.Header.{Header}
use Rattle.hm_header.specs.OnDisk.{HasHeader}
use Rattle.hm_header.specs.Range.{IsEntry}
use Rattle.hm_header.proofs.HeaderLemmas.{header-same}
use Rattle.hm_header.proofs.KeptLemmas.{SameSlots, same-slots}
use Rattle.hm_undo.specs.Log.{IsInEntry, entry_at, entry_place}
use Rattle.hm_undo.specs.Range.{HasRange, OldPage, old_places_of}
use Rattle.hm_undo.proofs.LogLemmas.{page-apart}
use Rattle.hm_undo.proofs.RangeLemmas.{HasEach, range-each}
use Rattle.hm_undo.proofs.RecoveredLemmas.{past-slots}

-- no byte of an entry is one of a page
pages-out : (image : List ℕ) (header : Header) (olds : List OldPage) → HasEach image header olds → (entry byte : ℕ) → IsEntry entry
    → IsInEntry header.bigblocks entry byte → Outside (old_places_of olds) byte
pages-out image header [] each entry byte is inside = tt
pages-out image header (old ∷ olds) each entry byte is inside = (
  (let here = (each 0).1 in
      ⊎_elim (λ (low : byte_of old.at + PAGE_BYTES ≤ entry_place header.bigblocks entry). inr (omega (arith, low, inside, here.spelled.sized)))
      (λ (high : entry_place header.bigblocks entry + UNDO_ENTRY_BYTES ≤ byte_of old.at). inl (omega (arith, high, inside)))
      (page-apart header.bigblocks old.at entry is here.page)),
  pages-out image header olds (λ i. each (suc i)) entry byte is inside,
)

pub range-out : (image : List ℕ) (header : Header) (olds : List OldPage) → HasRange image header olds → (entry byte : ℕ) → IsEntry entry
    → IsInEntry header.bigblocks entry byte → Outside (old_places_of olds) byte
range-out image header olds range entry byte is inside = pages-out image header olds (range-each image header olds range) entry byte is inside

pub entry-small : (first i : ℕ) → IsEntry (entry_at first i)
entry-small first i = omega arith

-- a byte outside of all pages is outside of each
pub outside-page : (olds : List OldPage) (i : ℕ) (d : OldPage) → i < length olds → (byte : ℕ) → Outside (old_places_of olds) byte
    → (byte < byte_of (get_or olds i d).at) ⊎ (byte_of (get_or olds i d).at + length (get_or olds i d).bytes ≤ byte)
outside-page [] i d below byte outside = absurd (omega (arith, below))
outside-page (old ∷ olds) zero d below byte outside = outside.0
outside-page (old ∷ olds) (suc i) d below byte outside = outside-page olds i d (omega (arith, below)) byte outside.1

-- a header counts still where pages alone changed
pub header-stays : (image other : List ℕ) (header : Header) (slot : ℕ) (olds : List OldPage) → HasHeader image header slot → HasRange image header olds
    → MayLeave image (old_places_of olds) other → HasHeader other header slot
header-stays image other header slot olds counts range change =
    header-same image other header slot change.size same.first same.second counts
  where
    same : SameSlots image other
    same = same-slots image other change.size
        (λ byte below inside. change.same byte inside (past-slots image header olds (range-each image header olds range) byte below))
