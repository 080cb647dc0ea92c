-- Where the entries stand, beside all else.
use Rattle.std.proofs.Common.{◌≡◌, ◌≢◌, inl, inr, ⊎_elim, ℕ, ◌+◌, ◌*◌, ◌<◌, ◌≤◌, arith}
use Rattle.std.proofs.lemmas.Bool.{cases_lt}
use Rattle.hm_types.specs.declared.limits.TheConstants.{PAGE_BYTES, UNDO_ENTRY_BYTES}
use Rattle.hm_types.specs.Layout.{IsLayer2, IsPool, block_of, first_pool, first_undo, start_of}
use Rattle.hm_types.specs.declared.zone.TheConstants.{FREEMAP_ZONE}
use Rattle.hm_types.specs.Offset.{byte_of, zone_of}
use Rattle.hm_fields.specs.Fields.{Apart}
use Rattle.hm_header.specs.declared.header.TheConstants.{SLOT_BYTES}
use Rattle.hm_header.specs.Range.{IsCount, IsEntry, IsSize}
use Rattle.hm_undo.specs.Entry.{IsUndoPage, IsUndoPageOf}
use Rattle.hm_undo.specs.Log.{IsInEntry, IsUndo, entry_at, entry_place}

pub entry-from : (bigblocks entry : ℕ) → start_of (first_undo bigblocks) ≤ entry_place bigblocks entry
entry-from bigblocks entry = omega arith

pub entry-to : (bigblocks entry : ℕ) → IsEntry entry → entry_place bigblocks entry + UNDO_ENTRY_BYTES ≤ start_of (first_pool bigblocks)
entry-to bigblocks entry below = omega (arith, below)

pub pool-within : (bigblocks : ℕ) → IsSize bigblocks → start_of (first_pool bigblocks) ≤ start_of bigblocks
pool-within bigblocks size = omega (arith, size)

pub entry-within : (bigblocks entry : ℕ) → IsSize bigblocks → IsEntry entry → entry_place bigblocks entry + UNDO_ENTRY_BYTES ≤ start_of bigblocks
entry-within bigblocks entry size below = omega (arith, entry-to bigblocks entry below, pool-within bigblocks size)

pub entry-block : (bigblocks entry byte : ℕ) → IsEntry entry → IsInEntry bigblocks entry byte → IsUndo bigblocks (block_of byte)
entry-block bigblocks entry byte below inside = (omega (arith, inside, below), omega (arith, inside, below))

pub undo-alone : (bigblocks block : ℕ) → IsUndo bigblocks block → (2 ≤ block) × ¬ IsLayer2 bigblocks block × ¬ IsPool bigblocks block
undo-alone bigblocks block undo =
    (omega (arith, undo), (λ layer. omega (arith, undo, layer)), (λ pool. omega (arith, undo, pool)))

pub entry-past_slots : (bigblocks entry : ℕ) → 2 * SLOT_BYTES ≤ entry_place bigblocks entry
entry-past_slots bigblocks entry = omega arith

pub entries-apart : (bigblocks one other : ℕ) → one ≢ other
    → Apart (entry_place bigblocks one) UNDO_ENTRY_BYTES (entry_place bigblocks other) UNDO_ENTRY_BYTES
entries-apart bigblocks one other differ =
    ⊎_elim (λ below. inl (omega (arith, below)))
    (λ from. ⊎_elim (λ above. inr (omega (arith, above))) (λ to. absurd (differ (omega (arith, from, to)))) (cases_lt other one))
    (cases_lt one other)

entry_at-differ : (first count i j : ℕ) → IsCount count → i < j → j < count → entry_at first i ≢ entry_at first j
entry_at-differ first count i j few below within same = omega (arith, few, below, within, same)

pub range-apart : (bigblocks first count i j : ℕ) → IsCount count → i < j → j < count
    → Apart (entry_place bigblocks (entry_at first i)) UNDO_ENTRY_BYTES (entry_place bigblocks (entry_at first j)) UNDO_ENTRY_BYTES
range-apart bigblocks first count i j few below within =
    entries-apart bigblocks (entry_at first i) (entry_at first j) (entry_at-differ first count i j few below within)

-- a page that an entry may name
pub page-past_slots : (bigblocks at : ℕ) → IsUndoPageOf bigblocks at → 2 * SLOT_BYTES ≤ byte_of at
page-past_slots bigblocks at page = ⊎_elim (λ pool. omega (arith, pool.1)) (λ layer. omega (arith, layer.1)) page.zone

pub page-within : (bigblocks at : ℕ) → IsSize bigblocks → IsUndoPageOf bigblocks at → byte_of at + PAGE_BYTES ≤ start_of bigblocks
page-within bigblocks at size page =
    ⊎_elim (λ pool. omega (arith, pool.1, page.page, size)) (λ layer. omega (arith, layer.1, page.page, size)) page.zone

pub page-apart : (bigblocks at entry : ℕ) → IsEntry entry → IsUndoPageOf bigblocks at
    → Apart (byte_of at) PAGE_BYTES (entry_place bigblocks entry) UNDO_ENTRY_BYTES
page-apart bigblocks at entry is page =
    ⊎_elim (λ pool. inr (omega (arith, pool.1, is))) (λ layer. inl (omega (arith, layer.1, page.page, is))) page.zone

-- a page of some volume
pub page-some : (bigblocks at : ℕ) → IsSize bigblocks → IsUndoPageOf bigblocks at → IsUndoPage at
page-some bigblocks at size page = record { volume = page.volume; page = page.page; zone = ⊎_elim (λ pool. inl pool.0) (λ layer. inr (other layer)) page.zone }
  where
    other : (zone_of at ≡ FREEMAP_ZONE) × IsLayer2 bigblocks (block_of (byte_of at))
        → (zone_of at ≡ FREEMAP_ZONE) × (2 ≤ block_of (byte_of at)) × (block_of (byte_of at) < 4)
    other layer = (layer.0, layer.1.0, omega (arith, layer.1.0, layer.1.1, size))
