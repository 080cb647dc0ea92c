use Rattle.std.proofs.Common.{◌≤◌}
use Rattle.hm_core.specs.Core.{KeepsStreams}
use Rattle.hm_core.specs.Seen.{devices as devices_of, seen as seen_core}
use Rattle.hm_shell.specs.Serving.{Serving}
use Rattle.hm_shell.proofs.serve.serve_lines.Given as goal

abbrev pub invariant-loop-line : goal.invariant-loop-line
invariant-loop-line g l =
    Serving l.fn.lines.items l.yielded l.line-iterator.rest.items (g.D.Disk.left_since (devices_of l.fn.core).disk)
    (g.D.Disk.left_since (devices_of l.core).disk) (seen_core l.fn.core) (seen_core l.core) (g.K.Sink.held l.fn.out) (g.K.Sink.held l.out)
    × (g.K.Sink.faults l.fn.out ≤ g.K.Sink.faults l.out)
    × KeepsStreams (devices_of l.fn.core) (devices_of l.core)
