use Rattle.std.proofs.Common.{◌≡◌, ◌≤◌, Some}
use Rattle.hm_types.specs.Space.{Spends, nothing}
use Rattle.hm_key.specs.Job.{ComesFurther}
use Rattle.hm_key.specs.Sweep.{place_from}
use Rattle.hm_prune.specs.Dead.{keeps_in}
use Rattle.hm_prune.specs.Prunes.{LosesAtMost, Prunes}
use Rattle.hm_prune.specs.declared.stretch.TheConstants.{MOST_REMOVED}
use Rattle.hm_prune.proofs.prune.Prune.remove_some.Given as goal

-- what went so far was dead, and the walk came further
abbrev pub invariant-loop : goal.invariant-loop
invariant-loop g l = record {
  prunes : Prunes g.T.HasElements.elements g.T.HasElements.mark g.T.HasRoom.extents
      (keeps_in l.fn.self.pfs.0 l.fn.self.kept) l.fn.store l.store;
  space : Spends g.T.HasRoom.room g.T.HasRoom.free nothing l.fn.store l.store;
  further : ComesFurther (place_from (Some l.fn.from)) (place_from l.step.next);
  few : l.step.removed ≤ MOST_REMOVED;
  loses : LosesAtMost l.step.removed (g.T.HasElements.elements l.fn.store) (g.T.HasElements.elements l.store);
  name : g.T.Counted.name l.store ≡ g.T.Counted.name l.fn.store;
  frame : g.T.Counted.frame l.store ≡ g.T.Counted.frame l.fn.store;
  faults : g.T.Counted.faults l.fn.store ≤ g.T.Counted.faults l.store;
}
