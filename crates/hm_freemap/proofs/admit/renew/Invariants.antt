use Rattle.std.proofs.Common.{◌≡◌, ◌≤◌}
use Rattle.hm_types.specs.Told.{BothTell}
use Rattle.hm_freemap.specs.Renew.{Renewing, count_first}
use Rattle.hm_freemap.specs.Stand.{AreBelow}
use Rattle.hm_freemap.proofs.admit.renew.Given as goal

abbrev pub invariant-loop-k : goal.invariant-loop-k
invariant-loop-k g l = record {
  next : l.next ≡ count_first l.lacking l.k;
  few : l.next ≤ l.k;
  below : AreBelow l.bigblocks l.append;
  told : BothTell (g.P.Pages.pages l.fn.pages) (g.P.Pages.pages l.pages) (Renewing l.lacking l.fresh l.k l.next l.fn.append l.append);
  committed : g.P.States.committed l.pages ≡ g.P.States.committed l.fn.pages;
  frozen : g.P.States.frozen l.pages ≡ g.P.States.frozen l.fn.pages;
  layer2 : g.P.States.layer2 l.pages ≡ g.P.States.layer2 l.fn.pages;
  others : g.P.Pages.rest l.pages ≡ g.P.Pages.rest l.fn.pages;
  name : g.P.Counted.name l.pages ≡ g.P.Counted.name l.fn.pages;
  frame : g.P.Counted.frame l.pages ≡ g.P.Counted.frame l.fn.pages;
  faults : g.P.Counted.faults l.fn.pages ≤ g.P.Counted.faults l.pages;
}
