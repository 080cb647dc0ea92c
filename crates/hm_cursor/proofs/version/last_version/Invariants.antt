use Rattle.std.proofs.Common.{◌≡◌, ◌≤◌}
use Rattle.std.specs.Prelude.{IfSome}
use Rattle.hm_key.specs.Key.{key_of}
use Rattle.hm_key.specs.Stores.{Same}
use Rattle.hm_cursor.specs.Version.{numbered}
use Rattle.hm_cursor.proofs.SpanLemmas.{NoneAbove}
use Rattle.hm_cursor.proofs.version.last_version.Given as goal

-- nothing counts in the span above `key`
abbrev pub invariant-loop-key : goal.invariant-loop-key
invariant-loop-key g l = record {
  high : l.key ≤ l.fn.at.key;
  above : IfSome (g.T.HasElements.elements l.fn.store)
      (λ es. NoneAbove es (numbered (key_of l.fn.at) l.fn.first) l.fn.at.key l.fn.as_of.0 l.key);
  keeps : Same g.T.HasElements.elements g.T.HasElements.mark g.T.HasRoom.extents g.T.HasRoom.room g.T.HasRoom.free l.fn.store l.store;
  name : g.T.Counted.name l.store ≡ g.T.Counted.name l.fn.store;
  frame : g.T.Counted.frame l.store ≡ g.T.Counted.frame l.fn.store;
  faults : g.T.Counted.faults l.fn.store ≤ g.T.Counted.faults l.store;
}

abbrev pub decreases-loop-key : goal.decreases-loop-key
decreases-loop-key g l = l.key
