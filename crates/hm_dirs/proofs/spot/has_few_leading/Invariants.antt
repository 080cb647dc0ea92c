use Rattle.std.proofs.Common.{◌≡◌, ◌≤◌, ◌<◌, ◌+◌, ◌-◌, ℕ, List, length}
use Rattle.hm_key.specs.Stores.{Same}
use Rattle.hm_dirs.proofs.LeadToldLemmas.{KnownTold}
use Rattle.hm_dirs.proofs.spot.has_few_leading.Given as goal

-- the names so far are known
abbrev pub invariant-loop-key : goal.invariant-loop-key
invariant-loop-key g l = record {
  from : l.fn.first ≤ l.key;
  to : l.key ≤ l.last + 1;
  few : length l.names.items < 1024;
  known : (hash : List ℕ → ℕ)
      → KnownTold hash (g.T.HasElements.elements l.fn.store) (g.T.HasRoom.extents l.fn.store) l.fn.as_of.0 l.fn.pfs.0 l.fn.directory l.fn.first l.key
      l.names.items;
  keeps : Same g.T.HasElements.elements g.T.HasElements.mark g.T.HasRoom.extents g.T.HasRoom.room g.T.HasRoom.free l.fn.store l.store;
  name : g.T.Counted.name l.store ≡ g.T.Counted.name l.fn.store;
  frame : g.T.Counted.frame l.store ≡ g.T.Counted.frame l.fn.store;
  faults : g.T.Counted.faults l.fn.store ≤ g.T.Counted.faults l.store;
}

abbrev pub decreases-loop-key : goal.decreases-loop-key
decreases-loop-key g l = l.last + 1 - l.key
