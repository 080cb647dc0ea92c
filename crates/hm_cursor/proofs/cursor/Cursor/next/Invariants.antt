use Rattle.std.proofs.Common.{◌≡◌, ◌≤◌}
use Rattle.std.specs.Prelude.{IfSome}
use Rattle.hm_types.specs.Elements.{Key}
use Rattle.hm_key.specs.Stores.{Same}
use Rattle.hm_key.specs.Key.{IsWide}
use Rattle.hm_cursor.specs.Shown.{IsToCome}
use Rattle.hm_cursor.proofs.ShownLemmas.{NonePassed, keys_left}
use Rattle.hm_cursor.proofs.cursor.Cursor.next.Given as goal

-- no element that the cursor shows was passed
abbrev pub invariant-loop-from : goal.invariant-loop-from
invariant-loop-from g l = record {
  self : l.self ≡ l.fn.self;
  passed : IfSome (g.T.HasElements.elements l.fn.store) (λ es. NonePassed es l.fn.self l.from);
  onward : (key : Key) → IsWide key → IsToCome l.from key → IsToCome l.fn.self.from key;
  keeps : Same g.T.HasElements.elements g.T.HasElements.mark g.T.HasRoom.extents g.T.HasRoom.room g.T.HasRoom.free l.fn.store l.store;
  name : g.T.Counted.name l.store ≡ g.T.Counted.name l.fn.store;
  frame : g.T.Counted.frame l.store ≡ g.T.Counted.frame l.fn.store;
  faults : g.T.Counted.faults l.fn.store ≤ g.T.Counted.faults l.store;
}

abbrev pub decreases-loop-from : goal.decreases-loop-from
decreases-loop-from g l = keys_left l.from
