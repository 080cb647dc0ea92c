use Rattle.std.proofs.Common.{rules}
use Rattle.std.proofs.lemmas.Result.{err_from_is_err_and}
use Rattle.hm_model.proofs.PlaceLemmas.{front_of_now, named_last, new_at, new_not_in, new_stops}
use Rattle.hm_model.proofs.place.place_of_new.Goals as goal

pub unreachable-requires-in_default-name : goal.unreachable-requires-in_default-name
unreachable-requires-in_default-name c =
    named_last c.args.parts.now c.in-Some.front.now c.in-Some.last.now c.in-Some.ensures.cases.0 c.in_default-name.is c.requires.named

pub walk_front-requires : goal.walk_front-requires
walk_front-requires c = front_of_now c.args.parts.now c.in-Some.front.now c.in-Some.last.now c.in-Some.ensures.cases.0 c.requires.now

pub returns-in_err-walk-clause-err : goal.returns-in_err-walk-clause-err
returns-in_err-walk-clause-err c =
    let p = err_from_is_err_and c.from_residual.result c.from_residual.ensures.1 in
    rw (p.1, p.2) (new_stops c.args.tree.now c.args.parts.now c.in-Some.front.now c.in-Some.last.now c.in-Some-name.name c.in_err-walk.field-0.0
    c.in-Some.ensures.cases.0 c.in-Some-name.is c.in_err-walk.ensures.err)

pub returns-then-not-is_directory-clause-err : goal.returns-then-not-is_directory-clause-err
returns-then-not-is_directory-clause-err c =
    new_not_in c.args.tree.now c.args.parts.now c.in-Some.front.now c.in-Some.last.now c.in-Some-name.name c.in_ok-walk.walk c.in-Some.ensures.cases.0
    c.in-Some-name.is c.in_ok-walk.ensures.ok (search rules)

pub returns-clause-ok : goal.returns-clause-ok
returns-clause-ok c =
    rw c.in_ok-clone.ensures.cases (new_at c.args.tree.now c.args.parts.now c.in-Some.front.now c.in-Some.last.now c.in-Some-name.name c.in_ok-walk.walk
    c.in-Some.ensures.cases.0 c.in-Some-name.is c.in_ok-walk.ensures.ok (search rules))
