use Rattle.std.proofs.Common.{◌≡◌, ◌≤◌, ◌-◌}
use Rattle.hm_key.specs.Stores.{Same}
use Rattle.hm_pfs.proofs.UnusedLemmas.{AllUsedIn}
use Rattle.hm_pfs.proofs.unused.unused_from.Given as goal

-- each number so far has a record
abbrev pub invariant-loop-number : goal.invariant-loop-number
invariant-loop-number g l = record {
  from : l.fn.from ≤ l.number;
  used : AllUsedIn (g.T.HasElements.elements l.fn.store) (g.T.HasRoom.extents l.fn.store) l.fn.from l.number;
  keeps : Same g.T.HasElements.elements g.T.HasElements.mark g.T.HasRoom.extents g.T.HasRoom.room g.T.HasRoom.free l.fn.store l.store;
  name : g.T.Counted.name l.store ≡ g.T.Counted.name l.fn.store;
  frame : g.T.Counted.frame l.store ≡ g.T.Counted.frame l.fn.store;
  faults : g.T.Counted.faults l.fn.store ≤ g.T.Counted.faults l.store;
}

abbrev pub decreases-loop-number : goal.decreases-loop-number
decreases-loop-number g l = 65536 - l.number
