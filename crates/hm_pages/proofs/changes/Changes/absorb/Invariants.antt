-- The changes that are left, put one after another, give what all of them give.
use Rattle.std.proofs.Common.{◌≡◌, ◌≤◌, ◌+◌, length}
use Rattle.std.specs.HashMap.{spare}
use Rattle.hm_pages.specs.Changes.{change_at}
use Rattle.hm_pages.specs.Counts.{pages_in}
use Rattle.hm_pages.proofs.FoldLemmas.{folded, put_change}
use Rattle.hm_pages.proofs.changes.Changes.absorb.Given as goal

abbrev pub invariant-loop-at : goal.invariant-loop-at
invariant-loop-at l = record {
  value : folded put_change (change_at l.self) l.at-iterator ≡ folded put_change (change_at l.fn.self) l.fn.later.places.entries;
  room : length l.at-iterator ≤ spare l.self.places;
  pages : l.self.pages + pages_in l.at-iterator ≤ l.fn.self.pages + l.fn.later.pages;
}
