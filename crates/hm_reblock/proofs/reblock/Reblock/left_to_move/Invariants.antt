use Rattle.std.proofs.Common.{◌≡◌, ◌≤◌, ◌-◌, vec_len}
use Rattle.hm_key.specs.Stores.{Same}
use Rattle.hm_reblock.proofs.reblock.Reblock.left_to_move.Given as goal

-- the store stays, and the place rises
abbrev pub invariant-loop-known : goal.invariant-loop-known
invariant-loop-known g l = record {
  onward : l.fn.at ≤ l.at;
  keeps : Same g.T.HasElements.elements g.T.HasElements.mark g.T.HasRoom.extents g.T.HasRoom.room g.T.HasRoom.free l.fn.store l.store;
  name : g.T.Counted.name l.store ≡ g.T.Counted.name l.fn.store;
  frame : g.T.Counted.frame l.store ≡ g.T.Counted.frame l.fn.store;
  faults : g.T.Counted.faults l.fn.store ≤ g.T.Counted.faults l.store;
}

abbrev pub decreases-loop-known : goal.decreases-loop-known
decreases-loop-known g l = vec_len l.self.known - l.at
