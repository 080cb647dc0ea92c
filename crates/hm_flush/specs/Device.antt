-- What the stages of a flush do to the disk beside their header changes.
use Rattle.std.specs.Prelude.{◌≡◌, ℕ, ◌+◌, List, Some, length, slice_index, slice_range}
use Rattle.hm_types.specs.declared.limits.TheConstants.{PAGE_BYTES}
use Rattle.hm_types.specs.Offset.{byte_of}
use Rattle.hm_disk.specs.Crash.{Told}
use Rattle.hm_disk.specs.Disk.{Written}
use Rattle.hm_undo.specs.Entry.{undo_entry_of}
use Rattle.hm_flush.specs.Group.{Group}

-- the entry at this place was written, with the bytes that stood at an offset, for the header of this generation
abbrev pub IsSaved : ℕ → ℕ → ℕ → Told → Told → Type 0
IsSaved place generation at old new =
    Written place (undo_entry_of at generation (slice_range old.bytes (byte_of at) (byte_of at + PAGE_BYTES))) old new

-- the page of this number was written where it belongs
pub record IsPageWritten (group : Group) (i : ℕ) (old new : Told) : Type 0 where
  pub page : List ℕ
  pub page_is : group.page i ≡ Some page
  pub sized : length page ≡ PAGE_BYTES
  pub written : Written (byte_of (slice_index group.places i)) page old new
