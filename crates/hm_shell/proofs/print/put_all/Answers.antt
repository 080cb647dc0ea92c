use Rattle.std.proofs.Common.{arith}
use Rattle.hm_pipe.proofs.PipeLemmas.{Rose-wider}
use Rattle.hm_shell.proofs.PrintLemmas.{Gains-piece, Gains-part, on_err}
use Rattle.hm_shell.proofs.print.put_all.Goals as goal

pub returns-in_err-put-clause-err : goal.returns-in_err-put-clause-err
returns-in_err-put-clause-err g c =
    let part = Gains-part _ _ _ c.args.pieces.now c.loop-piece.piece-index _ c.in_err-put.ensures.err.0 c.loop-piece-test.true c.loop-piece.invariant.0
    c.in_err-put.ensures.err.1 in
    on_err c.from_residual.result (Rose-wider _ _ _ _ c.loop-piece.invariant.1 c.in_err-put.ensures.cause.failed (omega arith), part.0, part.1)

pub loop-piece-preserved : goal.loop-piece-preserved
loop-piece-preserved g c = (
  Gains-piece _ _ _ c.args.pieces.now c.loop-piece.piece-index _ c.loop-piece-test.true c.loop-piece.invariant.0 c.in_ok-put.ensures.ok,
  omega (arith, c.loop-piece.invariant.1, c.put.ensures.cause.never_falls),
)
