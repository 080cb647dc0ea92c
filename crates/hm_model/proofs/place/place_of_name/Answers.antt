use Rattle.std.specs.List.{each_same}
use Rattle.std.proofs.lemmas.Result.{err_from_is_err_and}
use Rattle.hm_model.proofs.PlaceLemmas.{front_of_now, named_last, name_at, name_ends, name_stops}
use Rattle.hm_model.proofs.place.place_of_name.Goals as goal

pub unreachable-requires-in_default-name : goal.unreachable-requires-in_default-name
unreachable-requires-in_default-name c =
    named_last c.args.parts.now c.in-Some.front.now c.in-Some.last.now c.in-Some.ensures.cases.0 c.in_default-name.is c.requires.named

pub walk_front-requires : goal.walk_front-requires
walk_front-requires c = front_of_now c.args.parts.now c.in-Some.front.now c.in-Some.last.now c.in-Some.ensures.cases.0 c.requires.now

pub returns-in_err-before-clause-err : goal.returns-in_err-before-clause-err
returns-in_err-before-clause-err c =
    let p = err_from_is_err_and c.from_residual.result c.from_residual.ensures.1 in
    rw (p.1, p.2) (name_stops c.args.tree.now c.args.parts.now c.in-Some.front.now c.in-Some.last.now c.in-Some-name.name c.in_err-before.field-0.0
    c.in-Some.ensures.cases.0 c.in-Some-name.is c.in_err-before.ensures.err)

pub returns-in_err-walk-clause-err : goal.returns-in_err-walk-clause-err
returns-in_err-walk-clause-err c =
    let p = err_from_is_err_and c.from_residual-in_err-walk.result c.from_residual-in_err-walk.ensures.1 in
    rw (p.1, p.2) (name_ends c.args.tree.now c.args.parts.now c.in-Some.front.now c.in-Some.last.now c.in-Some-name.name c.in_ok-before.before
    c.in_err-walk.field-0.0 c.in-Some.ensures.cases.0 c.in-Some-name.is c.in_ok-before.ensures.ok c.in_err-walk.ensures.err)

pub returns-clause-ok : goal.returns-clause-ok
returns-clause-ok c =
    rw (c.in_ok-clone.ensures.cases, each_same c.in_ok-before.before.passed.items c.in_ok-passed.passed.items c.in_ok-passed.ensures.cases.0)
    (name_at c.args.tree.now c.args.parts.now c.in-Some.front.now c.in-Some.last.now c.in-Some-name.name c.in_ok-before.before c.in_ok-walk.walk
    c.in-Some.ensures.cases.0 c.in-Some-name.is c.in_ok-before.ensures.ok c.in_ok-walk.ensures.ok)
