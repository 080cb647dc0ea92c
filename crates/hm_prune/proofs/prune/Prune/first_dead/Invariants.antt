use Rattle.std.proofs.Common.{◌≡◌, ◌≤◌}
use Rattle.std.specs.Prelude.{IfSome}
use Rattle.hm_key.specs.Stores.{Same}
use Rattle.hm_cursor.proofs.ShownLemmas.{keys_left}
use Rattle.hm_prune.proofs.LookLemmas.{NonePassed}
use Rattle.hm_prune.proofs.prune.Prune.first_dead.Given as goal

-- no dead element was passed
abbrev pub invariant-loop-from : goal.invariant-loop-from
invariant-loop-from g l = record {
  passed : IfSome (g.T.HasElements.elements l.fn.store) (λ es. NonePassed l.fn.self.pfs.0 l.fn.self.kept es l.from);
  keeps : Same g.T.HasElements.elements g.T.HasElements.mark g.T.HasRoom.extents g.T.HasRoom.room g.T.HasRoom.free l.fn.store l.store;
  name : g.T.Counted.name l.store ≡ g.T.Counted.name l.fn.store;
  frame : g.T.Counted.frame l.store ≡ g.T.Counted.frame l.fn.store;
  faults : g.T.Counted.faults l.fn.store ≤ g.T.Counted.faults l.store;
}

abbrev pub decreases-loop-from : goal.decreases-loop-from
decreases-loop-from g l = keys_left l.from
