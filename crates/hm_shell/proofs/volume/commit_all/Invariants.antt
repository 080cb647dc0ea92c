use Rattle.hm_core.specs.Core.{Follows, KeepsStreams, Waits}
use Rattle.hm_core.specs.Seen.{devices as devices_of, seen as seen_core}
use Rattle.hm_shell.specs.Serving.{KeepsSize}
use Rattle.hm_shell.proofs.CommitLemmas.{SoFar}
use Rattle.hm_shell.proofs.FlushLemmas.{stages_left}
use Rattle.hm_shell.proofs.volume.commit_all.Given as goal

abbrev pub invariant-flushing : goal.invariant-flushing
invariant-flushing g l = record {
  so_far : SoFar (seen_core l.fn.core) (seen_core l.core);
  waits : Waits (seen_core l.fn.core) (seen_core l.core);
  follows : Follows (g.D.Disk.left_since (devices_of l.fn.core).disk) (g.D.Disk.left_since (devices_of l.core).disk) (seen_core l.fn.core)
      (seen_core l.core);
  size : KeepsSize (seen_core l.fn.core) (seen_core l.core);
  streams : KeepsStreams (devices_of l.fn.core) (devices_of l.core);
}

abbrev pub decreases-flushing : goal.decreases-flushing
decreases-flushing g l = stages_left (seen_core l.core)
