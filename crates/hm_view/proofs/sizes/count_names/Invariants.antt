use Rattle.std.proofs.Common.{◌≡◌, ◌≤◌, ◌+◌, ◌^◌}
use Rattle.hm_key.specs.Stores.{Same}
use Rattle.hm_view.proofs.ListingLemmas.{Counted}
use Rattle.hm_view.proofs.sizes.count_names.Given as goal

-- the names from a key on are counted
abbrev pub invariant-loop-key : goal.invariant-loop-key
invariant-loop-key g l = record {
  counted : Counted (g.T.HasElements.elements l.fn.store) (g.T.HasRoom.extents l.fn.store) l.fn.pfs.0 l.fn.as_of.0 l.fn.directory
      (g.met.T.ElementStore.sorted l.fn.store) l.end l.count;
  few : l.count + l.end ≤ 2 ^ 63;
  keeps : Same g.T.HasElements.elements g.T.HasElements.mark g.T.HasRoom.extents g.T.HasRoom.room g.T.HasRoom.free l.fn.store l.store;
  name : g.T.Counted.name l.store ≡ g.T.Counted.name l.fn.store;
  frame : g.T.Counted.frame l.store ≡ g.T.Counted.frame l.fn.store;
  faults : g.T.Counted.faults l.fn.store ≤ g.T.Counted.faults l.store;
}

abbrev pub decreases-loop-key : goal.decreases-loop-key
decreases-loop-key g l = l.end
