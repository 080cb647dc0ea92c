-- The group of pages that a flush brings onto the disk.
use Rattle.std.specs.Prelude.{ℕ, zero, suc, ◌+◌, Bool, List, Option, is_some, slice_index, if◌then◌else◌}
use Rattle.hm_pages.specs.Store.{Store}

-- the raw offsets of the pages, the page of each number, and which of them were live as committed
pub record Group : Type 0 where
  pub places : List ℕ
  pub page : ℕ → Option (List ℕ)
  pub was_live : ℕ → Bool

-- the frozen group of a store of pages
abbrev pub group_of : Store → Group
group_of s = record {
  places = s.frozen_group;
  page = λ i. s.frozen (slice_index s.frozen_group i);
  was_live = λ i. is_some (s.committed (slice_index s.frozen_group i));
}

-- how many of the first so many pages were live
abbrev pub live_before : (ℕ → Bool) → ℕ → ℕ
live_before was_live zero = 0
live_before was_live (suc i) = live_before was_live i + (if was_live i then 1 else 0)

-- the number of the first page that was live, of so many from this one on; the number after these where none was
abbrev pub next_live : (ℕ → Bool) → ℕ → ℕ → ℕ
next_live was_live from zero = from
next_live was_live from (suc more) = if was_live from then from else next_live was_live (suc from) more
