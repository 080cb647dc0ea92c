use Rattle.std.proofs.lemmas.Result.{err_from_is_err_and}
use Rattle.hm_model.proofs.WalkLemmas.{walk_on-stops}
use Rattle.hm_model.proofs.walk.walk_front.Goals as goal

pub returns-in_err-here-clause-err : goal.returns-in_err-here-clause-err
returns-in_err-here-clause-err c =
    let p = err_from_is_err_and c.from_residual-in_err-here.result c.from_residual-in_err-here.ensures.1 in
    rw (p.1, p.2) (walk_on-stops c.args.tree.now c.args.parts.now c.loop-part.part-index c.part-item.result c.loop-part.here c.in_err-here.field-0.0
    c.loop-part-test.true c.loop-part.invariant (rw c.part-item.is at c.in_err-here.ensures.err))
