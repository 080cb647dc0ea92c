use Rattle.hm_pipe_tests.proofs.Moved.{Moved}
use Rattle.hm_pipe_tests.proofs.copy_tests.copy.Given as goal

abbrev pub invariant-loop : goal.invariant-loop
invariant-loop g l = Moved
    (g.S.Source.left l.fn.source) (g.S.Source.left l.source)
    (g.K.Sink.held l.fn.sink) (g.K.Sink.held l.sink)
