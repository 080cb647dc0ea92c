use Rattle.std.proofs.Common.{◌≡◌, ◌≤◌, ◌+◌, min}
use Rattle.std.specs.Prelude.{is_some}
use Rattle.hm_types.specs.Space.{Spends, nothing}
use Rattle.hm_files.proofs.CloseToldLemmas.{ClosedTold}
use Rattle.hm_files.proofs.close.close_between.Given as goal

-- the bytes so far are closed
abbrev pub invariant-loop-key : goal.invariant-loop-key
invariant-loop-key g l = record {
  low : min l.first l.last ≤ l.key;
  high : l.key ≤ l.last;
  closed : ClosedTold l.fn.pfs.0 l.fn.obj.0 l.fn.id.0 (l.key + 1) (l.last + 1) (g.T.HasElements.elements l.fn.store)
      (g.T.HasRoom.extents l.fn.store) (g.T.HasElements.elements l.store) (g.T.HasRoom.extents l.store);
  elements : is_some (g.T.HasElements.elements l.store) ≡ is_some (g.T.HasElements.elements l.fn.store);
  extents : is_some (g.T.HasRoom.extents l.store) ≡ is_some (g.T.HasRoom.extents l.fn.store);
  space : Spends g.T.HasRoom.room g.T.HasRoom.free nothing l.fn.store l.store;
  name : g.T.Counted.name l.store ≡ g.T.Counted.name l.fn.store;
  frame : g.T.Counted.frame l.store ≡ g.T.Counted.frame l.fn.store;
  faults : g.T.Counted.faults l.fn.store ≤ g.T.Counted.faults l.store;
}

abbrev pub decreases-loop-key : goal.decreases-loop-key
decreases-loop-key g l = l.key
