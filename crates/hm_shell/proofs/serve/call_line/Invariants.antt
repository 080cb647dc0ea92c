use Rattle.std.proofs.Common.{◌≡◌}
use Rattle.hm_core.specs.Core.{Follows, KeepsStreams}
use Rattle.hm_core.specs.Seen.{devices as devices_of, seen as seen_core}
use Rattle.hm_shell.specs.Serving.{KeepsSize, Waited}
use Rattle.hm_shell.proofs.FlushLemmas.{stages_left}
use Rattle.hm_shell.proofs.serve.call_line.Given as goal

abbrev pub invariant-waiting : goal.invariant-waiting
invariant-waiting g l = record {
  waited : Waited (seen_core l.fn.core) (seen_core l.core);
  follows : Follows (g.D.Disk.left_since (devices_of l.fn.core).disk) (g.D.Disk.left_since (devices_of l.core).disk) (seen_core l.fn.core)
      (seen_core l.core);
  size : KeepsSize (seen_core l.fn.core) (seen_core l.core);
  streams : KeepsStreams (devices_of l.fn.core) (devices_of l.core);
  since_is : l.since.0 ≡ (seen_core l.fn.core).last;
  command_is : l.waiting ≡ l.fn.command;
}

abbrev pub decreases-waiting : goal.decreases-waiting
decreases-waiting g l = stages_left (seen_core l.core)
