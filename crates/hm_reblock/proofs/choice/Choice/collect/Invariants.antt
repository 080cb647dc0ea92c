use Rattle.std.proofs.Common.{◌≡◌, ◌≤◌}
use Rattle.std.specs.Prelude.{IfSome}
use Rattle.hm_key.specs.Key.{IsBefore, key_of}
use Rattle.hm_key.specs.Stores.{Same}
use Rattle.hm_reblock.specs.Choice.{AllNoted, IsFront}
use Rattle.hm_reblock.proofs.choice.Choice.collect.Given as goal

-- the walk came further
abbrev pub invariant-loop : goal.invariant-loop
invariant-loop g l = record {
  further : IfSome l.next (λ b. IsBefore (key_of l.fn.from) (key_of b));
  all : IfSome (g.T.HasElements.elements l.fn.store) (λ es. AllNoted l.fn.self es (key_of l.fn.from) l.next l.known.items);
  noted : IsFront l.fn.known.items l.known.items;
  keeps : Same g.T.HasElements.elements g.T.HasElements.mark g.T.HasRoom.extents g.T.HasRoom.room g.T.HasRoom.free l.fn.store l.store;
  name : g.T.Counted.name l.store ≡ g.T.Counted.name l.fn.store;
  frame : g.T.Counted.frame l.store ≡ g.T.Counted.frame l.fn.store;
  faults : g.T.Counted.faults l.fn.store ≤ g.T.Counted.faults l.store;
}
