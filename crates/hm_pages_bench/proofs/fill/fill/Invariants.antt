-- No call is open, and nothing is frozen.
use Rattle.std.proofs.Common.{◌≡◌, None}
use Rattle.hm_pages.specs.Store.{contents}
use Rattle.hm_pages_bench.proofs.fill.fill.Given as goal

abbrev pub invariant-loop-group : goal.invariant-loop-group
invariant-loop-group l = record {
  closed : (contents l.store).begin ≡ None;
  idle : (contents l.store).boundary ≡ None;
}

abbrev pub invariant-loop-call : goal.invariant-loop-call
invariant-loop-call l = record {
  closed : (contents l.store).begin ≡ None;
  idle : (contents l.store).boundary ≡ None;
}
