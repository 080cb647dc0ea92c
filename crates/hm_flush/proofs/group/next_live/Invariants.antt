use Rattle.std.proofs.Common.{◌≡◌, ◌≤◌, ◌-◌}
use Rattle.hm_pages.specs.Store.{contents}
use Rattle.hm_flush.specs.Group.{group_of, next_live}
use Rattle.hm_flush.proofs.group.next_live.Given as goal

abbrev pub invariant-loop-i : goal.invariant-loop-i
invariant-loop-i l = record {
  below : l.i ≤ l.end;
  same : next_live (group_of (contents l.pages)).was_live l.i (l.end - l.i)
      ≡ next_live (group_of (contents l.pages)).was_live l.fn.from (l.end - l.fn.from);
}

abbrev pub decreases-loop-i : goal.decreases-loop-i
decreases-loop-i l = l.end - l.i
