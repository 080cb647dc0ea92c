use Rattle.std.proofs.Common.{◌≡◌, ◌≤◌, ◌<◌, ◌+◌, ◌-◌}
use Rattle.hm_key.specs.Counts.{Counts}
use Rattle.hm_key.specs.Stores.{Same}
use Rattle.hm_cursor.specs.Told.{OnBalanced, fulls}
use Rattle.hm_dirs.specs.Entries.{HaveAtMost}
use Rattle.hm_dirs.proofs.spot.has_few_entries.Given as goal

-- no more lead so far than entries were found
abbrev pub invariant-loop-key : goal.invariant-loop-key
invariant-loop-key g l = record {
  from : l.fn.first ≤ l.key;
  to : l.key ≤ l.last + 1;
  few : l.count < 1024;
  most : OnBalanced (g.T.HasElements.elements l.fn.store) (g.T.HasRoom.extents l.fn.store)
      (λ lists. HaveAtMost (Counts (fulls lists) l.fn.as_of.0) l.fn.pfs.0 l.fn.directory l.fn.first l.key l.count);
  keeps : Same g.T.HasElements.elements g.T.HasElements.mark g.T.HasRoom.extents g.T.HasRoom.room g.T.HasRoom.free l.fn.store l.store;
  name : g.T.Counted.name l.store ≡ g.T.Counted.name l.fn.store;
  frame : g.T.Counted.frame l.store ≡ g.T.Counted.frame l.fn.store;
  faults : g.T.Counted.faults l.fn.store ≤ g.T.Counted.faults l.store;
}

abbrev pub decreases-loop-key : goal.decreases-loop-key
decreases-loop-key g l = l.last + 1 - l.key
