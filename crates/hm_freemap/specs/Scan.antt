-- What a look for free big-blocks finds.
use Rattle.std.specs.Prelude.{◌≡◌, ℕ, ◌<◌, ◌≤◌, min, Bool, List, slice_index, count_by, filter, Some}
use Rattle.hm_freemap.specs.Places.{page_of}
use Rattle.hm_freemap.specs.Stand.{Maps, HoldsPoolEntry, is_free_in}
use Rattle.hm_freemap.specs.declared.scan.Found.{Found}
use Rattle.hm_freemap.specs.declared.sheets.Sheets.{Sheets}

-- how many of some big-blocks are free, or `limit` if there are more, and the first four of them
pub record Finds (free : ℕ → Bool) (limit : ℕ) (blocks : List ℕ) (found : Found) : Type 0 where
  pub count : found.count ≡ min limit (count_by free blocks)
  pub first : (i : ℕ) → i < found.count → i < 4 → slice_index found.first i ≡ slice_index (filter free blocks) i

-- the pages are those with the entry of a big-block, in the three states
pub record AreRead (maps : Maps) (block : ℕ) (sheets : Sheets) : Type 0 where
  pub committed : maps.committed (page_of block) ≡ Some sheets.committed
  pub frozen : maps.frozen (page_of block) ≡ Some sheets.frozen
  pub current : maps.current (page_of block) ≡ Some sheets.current

-- each of the pages has an entry for a big-block of the pool
pub record AllHold (sheets : Sheets) (block : ℕ) : Type 0 where
  pub committed : HoldsPoolEntry sheets.committed block
  pub frozen : HoldsPoolEntry sheets.frozen block
  pub current : HoldsPoolEntry sheets.current block

-- which big-blocks are free is told by these pages, from one to before another
abbrev pub IsAgreed : (ℕ → Bool) → List ℕ → Sheets → ℕ → ℕ → Type 0
IsAgreed free append sheets from to =
    (block : ℕ) → from ≤ block → block < to → free block ≡ is_free_in append sheets.committed sheets.frozen sheets.current block
