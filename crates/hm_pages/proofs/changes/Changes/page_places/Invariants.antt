-- The offsets so far, and those that are left.
use Rattle.std.proofs.Common.{◌≡◌, ◌++◌}
use Rattle.hm_pages.proofs.ListedLemmas.{page_keys}
use Rattle.hm_pages.proofs.changes.Changes.page_places.Given as goal

abbrev pub invariant-loop-at : goal.invariant-loop-at
invariant-loop-at l = l.list.items ++ page_keys l.at-iterator ≡ page_keys l.self.places.entries
