use Rattle.std.proofs.Common.{◌≡◌, ◌≤◌, ◌-◌}
use Rattle.std.specs.List.{range_with_len}
use Rattle.hm_types.specs.Layout.{first_pool}
use Rattle.hm_freemap.specs.Scan.{Finds}
use Rattle.hm_freemap.specs.Stand.{AreBelow, WhereTold, is_free_by}
use Rattle.hm_freemap.proofs.scan.scan.Given as goal

abbrev pub invariant-loop-from : goal.invariant-loop-from
invariant-loop-from g l = record {
  low : first_pool l.bigblocks ≤ l.from;
  high : l.from ≤ l.bigblocks;
  few : l.found.count ≤ l.limit;
  found : WhereTold (g.P.States.committed l.fn.pages) (g.P.States.frozen l.fn.pages) (g.P.Pages.pages l.fn.pages)
      (λ maps. Finds (is_free_by l.append maps) l.limit (range_with_len (first_pool l.bigblocks) (l.from - first_pool l.bigblocks)) l.found);
  pages : g.P.Pages.pages l.pages ≡ g.P.Pages.pages l.fn.pages;
  committed : g.P.States.committed l.pages ≡ g.P.States.committed l.fn.pages;
  frozen : g.P.States.frozen l.pages ≡ g.P.States.frozen l.fn.pages;
  layer2 : g.P.States.layer2 l.pages ≡ g.P.States.layer2 l.fn.pages;
  others : g.P.Pages.rest l.pages ≡ g.P.Pages.rest l.fn.pages;
  name : g.P.Counted.name l.pages ≡ g.P.Counted.name l.fn.pages;
  frame : g.P.Counted.frame l.pages ≡ g.P.Counted.frame l.fn.pages;
  below : AreBelow l.bigblocks l.found.first;
  faults : g.P.Counted.faults l.fn.pages ≤ g.P.Counted.faults l.pages;
}

abbrev pub decreases-loop-from : goal.decreases-loop-from
decreases-loop-from g l = l.bigblocks - l.from
