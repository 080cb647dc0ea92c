use Rattle.std.proofs.Common.{◌≡◌, ◌≤◌, map}
use Rattle.hm_types.specs.declared.id.Id.{Id}
use Rattle.hm_key.specs.Stores.{Same}
use Rattle.hm_view.proofs.SnapshotLemmas.{Named}
use Rattle.hm_view.proofs.snapshots.snapshot_ids.Given as goal

-- the ids of the names from a key on
abbrev pub invariant-loop-ids : goal.invariant-loop-ids
invariant-loop-ids g l = record {
  named : Named (g.T.HasElements.elements l.fn.store) (g.T.HasRoom.extents l.fn.store) l.fn.pfs.0 l.fn.as_of.0 l.fn.directory l.fn.shown.0
      (g.met.T.ElementStore.sorted l.fn.store) l.end (map (λ (id : Id). id.0) l.ids.items);
  keeps : Same g.T.HasElements.elements g.T.HasElements.mark g.T.HasRoom.extents g.T.HasRoom.room g.T.HasRoom.free l.fn.store l.store;
  name : g.T.Counted.name l.store ≡ g.T.Counted.name l.fn.store;
  frame : g.T.Counted.frame l.store ≡ g.T.Counted.frame l.fn.store;
  faults : g.T.Counted.faults l.fn.store ≤ g.T.Counted.faults l.store;
}

abbrev pub decreases-loop-ids : goal.decreases-loop-ids
decreases-loop-ids g l = l.end
