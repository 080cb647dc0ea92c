use Rattle.std.proofs.Common.{◌≡◌, ◌≤◌}
use Rattle.hm_key.specs.Counts.{Counts}
use Rattle.hm_key.specs.Stores.{Same}
use Rattle.hm_cursor.specs.Told.{OnBalanced, fulls}
use Rattle.hm_cursor.proofs.NameLemmas.{NoneLeads}
use Rattle.hm_cursor.proofs.names.previous_name.Given as goal

-- no entry so far leads
abbrev pub invariant-loop-key : goal.invariant-loop-key
invariant-loop-key g l = record {
  to : l.key ≤ l.fn.last;
  passed : OnBalanced (g.T.HasElements.elements l.fn.store) (g.T.HasRoom.extents l.fn.store)
      (λ lists. NoneLeads (Counts (fulls lists) l.fn.as_of.0) l.fn.pfs.0 l.fn.directory l.key l.fn.last);
  keeps : Same g.T.HasElements.elements g.T.HasElements.mark g.T.HasRoom.extents g.T.HasRoom.room g.T.HasRoom.free l.fn.store l.store;
  name : g.T.Counted.name l.store ≡ g.T.Counted.name l.fn.store;
  frame : g.T.Counted.frame l.store ≡ g.T.Counted.frame l.fn.store;
  faults : g.T.Counted.faults l.fn.store ≤ g.T.Counted.faults l.store;
}

abbrev pub decreases-loop-key : goal.decreases-loop-key
decreases-loop-key g l = l.key
