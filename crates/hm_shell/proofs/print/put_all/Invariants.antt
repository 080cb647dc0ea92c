use Rattle.std.proofs.Common.{◌≤◌, take}
use Rattle.hm_pipe.specs.Pipe.{Gains}
use Rattle.hm_shell.specs.Printing.{joined}
use Rattle.hm_shell.proofs.print.put_all.Given as goal

abbrev pub invariant-loop-piece : goal.invariant-loop-piece
invariant-loop-piece g l = Gains (g.K.Sink.held l.fn.out) (joined (take l.piece-index l.pieces)) (g.K.Sink.held l.out) ×
    (g.K.Sink.faults l.fn.out ≤ g.K.Sink.faults l.out)
