-- The entries of a volume that was just made.
use Rattle.std.specs.Prelude.{◌≡◌, ℕ, ◌+◌, ◌-◌, ◌*◌, ◌<◌, List, slice_index, if◌then◌else◌, nat_eq, nat_lt, pos, ◌-ℤ◌}
use Rattle.hm_types.specs.Layout.{first_undo, first_pool}
use Rattle.hm_types.specs.declared.limits.TheConstants.{BIGBLOCK_BYTES}
use Rattle.hm_types.specs.declared.zone.TheConstants.{VOLUME_ZONE, UNDO_ZONE, FREEMAP_ZONE, TREE_ZONE, UNAVAILABLE_ZONE}
use Rattle.hm_fields.specs.Fields.{get}
use Rattle.hm_freemap.specs.Entry.{entry_in}
use Rattle.hm_freemap.specs.declared.entry.Entry.{Entry}
use Rattle.hm_freemap.specs.declared.entry.TheConstants.{UNUSED}

-- the entry of a big-block that no space is handed out of
abbrev pub reserved_entry : ℕ → Entry
reserved_entry zone = record { zone = zone; append_off = 0; bytes_free = pos 0 }

-- the entry of one of the first four of the pool, in which so many bytes were taken
abbrev pub taken_entry : ℕ → ℕ → Entry
taken_entry zone taken = record { zone = zone; append_off = taken; bytes_free = pos BIGBLOCK_BYTES -ℤ pos taken }

-- the entry of one that was never begun
abbrev pub unused_entry : Entry
unused_entry = record { zone = UNUSED; append_off = 0; bytes_free = pos BIGBLOCK_BYTES }

-- The entry of a big-block of a volume whose zones 8 to 11 began the first four big-blocks of the pool, and took so
-- many bytes there.
abbrev pub fresh_entry : ℕ → List ℕ → ℕ → Entry
fresh_entry bigblocks taken block =
    if nat_eq block 0 then reserved_entry VOLUME_ZONE else
    (if nat_lt block (first_undo bigblocks) then reserved_entry FREEMAP_ZONE else
    (if nat_lt block (first_pool bigblocks) then reserved_entry UNDO_ZONE else
    (if nat_lt block (first_pool bigblocks + 4) then taken_entry (TREE_ZONE + (block - first_pool bigblocks)) (slice_index taken (block - first_pool bigblocks)) else
    (if nat_lt block bigblocks then unused_entry else reserved_entry UNAVAILABLE_ZONE))))

-- the page has these entries for so many big-blocks from one on
pub record HoldsFresh (bigblocks : ℕ) (taken : List ℕ) (first many : ℕ) (page : List ℕ) : Type 0 where
  pub entry : (i : ℕ) → i < many → entry_in page (i * 16) ≡ fresh_entry bigblocks taken (first + i)
  pub zero : (i : ℕ) → i < many → get page (i * 16 + 12) 4 ≡ 0
