-- A call is open, and nothing is frozen.
use Rattle.std.proofs.Common.{◌≡◌, None}
use Rattle.std.specs.Option.{IsSome}
use Rattle.hm_pages.specs.Store.{contents}
use Rattle.hm_pages_bench.proofs.fill.one_call.Given as goal

abbrev pub invariant-loop-i : goal.invariant-loop-i
invariant-loop-i l = record {
  opened : IsSome (contents l.store).begin;
  idle : (contents l.store).boundary ≡ None;
}
