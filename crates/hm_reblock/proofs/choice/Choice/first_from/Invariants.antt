use Rattle.std.proofs.Common.{◌≡◌, ◌≤◌}
use Rattle.std.specs.Prelude.{IfSome}
use Rattle.hm_key.specs.Key.{IsFrom, key_of}
use Rattle.hm_key.specs.Stores.{Same}
use Rattle.hm_cursor.proofs.ShownLemmas.{keys_left}
use Rattle.hm_reblock.proofs.LookLemmas.{NonePassed}
use Rattle.hm_reblock.proofs.choice.Choice.first_from.Given as goal

-- no element of the choice was passed
abbrev pub invariant-loop-next : goal.invariant-loop-next
invariant-loop-next g l = record {
  passed : IfSome (g.T.HasElements.elements l.fn.store) (λ es. NonePassed l.fn.self es (key_of l.fn.from) l.next);
  onward : IfSome l.next (λ b. IsFrom (key_of l.fn.from) (key_of b));
  keeps : Same g.T.HasElements.elements g.T.HasElements.mark g.T.HasRoom.extents g.T.HasRoom.room g.T.HasRoom.free l.fn.store l.store;
  name : g.T.Counted.name l.store ≡ g.T.Counted.name l.fn.store;
  frame : g.T.Counted.frame l.store ≡ g.T.Counted.frame l.fn.store;
  faults : g.T.Counted.faults l.fn.store ≤ g.T.Counted.faults l.store;
}

abbrev pub decreases-loop-next : goal.decreases-loop-next
decreases-loop-next g l = keys_left l.next
