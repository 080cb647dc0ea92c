use Rattle.std.proofs.Common.{◌≡◌}
use Rattle.hm_core.specs.Core.{Follows, KeepsStreams, Waits}
use Rattle.hm_core.specs.Seen.{devices as devices_of, seen as seen_core}
use Rattle.hm_shell.specs.Serving.{KeepsSize}
use Rattle.hm_shell.proofs.serve.end_job.Given as goal

abbrev pub invariant-loop : goal.invariant-loop
invariant-loop g l = record {
  waits : Waits (seen_core l.fn.core) (seen_core l.core);
  named : l.ticket.opening.0 ≡ l.fn.ticket.opening.0;
  follows : Follows (g.D.Disk.left_since (devices_of l.fn.core).disk) (g.D.Disk.left_since (devices_of l.core).disk) (seen_core l.fn.core)
      (seen_core l.core);
  size : KeepsSize (seen_core l.fn.core) (seen_core l.core);
  streams : KeepsStreams (devices_of l.fn.core) (devices_of l.core);
}
