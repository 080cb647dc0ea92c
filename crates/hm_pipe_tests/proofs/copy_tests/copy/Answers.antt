use Rattle.hm_pipe_tests.proofs.Moved.{moved_more}
use Rattle.hm_pipe_tests.proofs.copy_tests.copy.Goals as goal

pub loop-preserved : goal.loop-preserved
loop-preserved g c =
    moved_more _ _ _ _ _ _ _ c.loop.invariant c.in_ok-count.ensures.ok c.in_ok-put.ensures.ok
