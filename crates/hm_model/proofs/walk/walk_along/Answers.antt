use Rattle.std.proofs.lemmas.Result.{err_from_is_err_and}
use Rattle.hm_model.proofs.WalkLemmas.{walk_in-last, walk_in-stops}
use Rattle.hm_model.proofs.walk.walk_along.Goals as goal

pub returns-in_err-before-in-Some-clause-err : goal.returns-in_err-before-in-Some-clause-err
returns-in_err-before-in-Some-clause-err c =
    let p = err_from_is_err_and c.from_residual.result c.from_residual.ensures.1 in
    rw (p.1, p.2) (walk_in-stops c.args.tree.now c.args.follows c.args.parts.now c.in-Some.front.now c.in-Some.last.now c.in_err-before-in-Some.field-0.0
    c.in-Some.ensures.cases.0 c.in_err-before-in-Some.ensures.err)

pub returns-in_ok-before-in-Some-clause-ok : goal.returns-in_ok-before-in-Some-clause-ok
returns-in_ok-before-in-Some-clause-ok c =
    rw (walk_in-last c.args.tree.now c.args.follows c.args.parts.now c.in-Some.front.now c.in-Some.last.now c.in_ok-before-in-Some.before
    c.in-Some.ensures.cases.0 c.in_ok-before-in-Some.ensures.ok) c.go_over.ensures.ok

pub returns-in_ok-before-in-Some-clause-err : goal.returns-in_ok-before-in-Some-clause-err
returns-in_ok-before-in-Some-clause-err c =
    rw (walk_in-last c.args.tree.now c.args.follows c.args.parts.now c.in-Some.front.now c.in-Some.last.now c.in_ok-before-in-Some.before
    c.in-Some.ensures.cases.0 c.in_ok-before-in-Some.ensures.ok) c.go_over.ensures.err
