-- Where the entries of the UNDO log stand. The log is a ring in the UNDO big-blocks of a volume.
use Rattle.std.specs.Prelude.{ℕ, ◌+◌, ◌*◌, ◌%◌, ◌<◌, ◌≤◌}
use Rattle.hm_types.specs.declared.limits.TheConstants.{UNDO_ENTRIES, UNDO_ENTRY_BYTES}
use Rattle.hm_types.specs.Layout.{first_pool, first_undo, start_of}

-- the entry that follows so many after the first of a range
abbrev pub entry_at : ℕ → ℕ → ℕ
entry_at first i = (first + i) % UNDO_ENTRIES

-- where an entry begins, in bytes from the start of the disk, on a volume of so many big-blocks
abbrev pub entry_place : ℕ → ℕ → ℕ
entry_place bigblocks entry = start_of (first_undo bigblocks) + entry * UNDO_ENTRY_BYTES

-- an UNDO big-block
abbrev pub IsUndo : ℕ → ℕ → Type 0
IsUndo bigblocks block = (first_undo bigblocks ≤ block) × (block < first_pool bigblocks)

-- a byte of an entry
abbrev pub IsInEntry : ℕ → ℕ → ℕ → Type 0
IsInEntry bigblocks entry byte =
    (entry_place bigblocks entry ≤ byte) × (byte < entry_place bigblocks entry + UNDO_ENTRY_BYTES)
