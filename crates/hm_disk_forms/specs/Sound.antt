-- What always holds of the fields of a disk in memory.
use Rattle.std.specs.Prelude.{◌≡◌, ℕ, ◌<◌, All, length, slice_index}
use Rattle.hm_disk_forms.specs.MemDisk.{FitsIn, told_after}
use Rattle.hm_disk_forms.specs.Pages.{byte_in_pages}
use Rattle.hm_disk_forms.specs.declared.mem_disk.MemDisk.TheInside.{Inside}

-- each change fits, and the pages read as their record says
pub record IsSound (d : Inside) : Type 0 where
  pub fit : All (FitsIn d.size) d.changes.items
  pub sized : length (told_after d.size d.changes.items).bytes ≡ d.size
  pub reads : (byte : ℕ) → byte < d.size
      → byte_in_pages d.pages byte ≡ slice_index (told_after d.size d.changes.items).bytes byte
