use Rattle.std.proofs.Common.{◌≡◌}
use Rattle.std.specs.Io.KnownBytes.{Keeps}
use Rattle.hm_pipe.proofs.std_source.StdSourceSource.take.Given as goal

-- a read that was interrupted takes nothing and is no fault
abbrev pub invariant-loop : goal.invariant-loop
invariant-loop g l = record {
  kept : Keeps (g.R.Read.remaining l.fn.self.inner) (g.R.Read.remaining l.self-inside.inner);
  faults : l.self-inside.faults ≡ l.fn.self.faults;
}
