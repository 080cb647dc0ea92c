-- The changes that are left, made one after another, give what all of them give.
use Rattle.std.proofs.Common.{◌≡◌, ◌≤◌, option_map, length}
use Rattle.std.specs.HashMap.{spare}
use Rattle.hm_pages.specs.Table.{page_at}
use Rattle.hm_pages.specs.Counts.{bytes_of}
use Rattle.hm_pages.proofs.FoldLemmas.{folded}
use Rattle.hm_pages.proofs.table.Table.apply.Given as goal

abbrev pub invariant-loop-at : goal.invariant-loop-at
invariant-loop-at l = record {
  value : folded (option_map bytes_of) (page_at l.self) l.at-iterator ≡ folded (option_map bytes_of) (page_at l.fn.self) l.fn.changes.places.entries;
  room : length l.at-iterator ≤ spare l.self.pages;
}
