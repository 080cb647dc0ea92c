use Rattle.std.proofs.Common.{◌≡◌, ◌≤◌}
use Rattle.hm_pages.specs.Store.{contents}
use Rattle.hm_flush.specs.Group.{group_of, live_before}
use Rattle.hm_flush.proofs.group.count_live.Given as goal

abbrev pub invariant-loop-i : goal.invariant-loop-i
invariant-loop-i l = record {
  counted : l.live ≡ live_before (group_of (contents l.pages)).was_live l.i;
  few : l.live ≤ l.i;
}
