use Rattle.std.proofs.lemmas.Result.{err_from_is_err_and}
use Rattle.hm_model.proofs.PathsLemmas.{unread_one, nowhere_one, placed_one, unread_first, unread_second, nowhere_first, nowhere_second, placed_two}
use Rattle.hm_model.proofs.paths.find_places.Goals as goal

pub returns-in_err-path-in-One-clause-err : goal.returns-in_err-path-in-One-clause-err
returns-in_err-path-in-One-clause-err c =
    let p = err_from_is_err_and c.from_residual.result c.from_residual.ensures.1 in
    rw (p.1, p.2) (unread_one c.args.tree.now c.args.call.now c.in-One.u c.in-One.word.now c.in_err-path-in-One.field-0.0 c.in-One.ensures
    (rw c.needs_name.ensures at c.in_err-path-in-One.ensures.err))

pub returns-in_err-place-in-One-clause-err : goal.returns-in_err-place-in-One-clause-err
returns-in_err-place-in-One-clause-err c =
    let p = err_from_is_err_and c.from_residual-in_err-place-in-One.result c.from_residual-in_err-place-in-One.ensures.1 in
    rw (p.1, p.2) (nowhere_one c.args.tree.now c.args.call.now c.in-One.u c.in-One.word.now c.in_ok-path-in-One.path c.in_err-place-in-One.field-0.0
    c.in-One.ensures (rw c.needs_name.ensures at c.in_ok-path-in-One.ensures.ok) (rw c.parts.ensures at c.in_err-place-in-One.ensures.err))

pub returns-in_ok-place-in-One-clause-ok : goal.returns-in_ok-place-in-One-clause-ok
returns-in_ok-place-in-One-clause-ok c =
    placed_one c.args.tree.now c.args.call.now c.in-One.u c.in-One.word.now c.in_ok-path-in-One.path c.in_ok-place-in-One.place c.no_place.result
    c.in-One.ensures (rw c.needs_name.ensures at c.in_ok-path-in-One.ensures.ok) (rw c.parts.ensures at c.in_ok-place-in-One.ensures.ok) c.no_place.ensures

pub returns-in_err-path-in-Two-clause-err : goal.returns-in_err-path-in-Two-clause-err
returns-in_err-path-in-Two-clause-err c =
    let p = err_from_is_err_and c.from_residual-in_err-path-in-Two.result c.from_residual-in_err-path-in-Two.ensures.1 in
    rw (p.1, p.2) (unread_first c.args.tree.now c.args.call.now c.in-Two.u c.in-Two.v c.in-Two.word.now c.in-Two.other.now c.in_err-path-in-Two.field-0.0
    c.in-Two.ensures (rw c.needs_name-in-Two.ensures at c.in_err-path-in-Two.ensures.err))

pub returns-in_err-next-in-Two-clause-err : goal.returns-in_err-next-in-Two-clause-err
returns-in_err-next-in-Two-clause-err c =
    let p = err_from_is_err_and c.from_residual-in_err-next-in-Two.result c.from_residual-in_err-next-in-Two.ensures.1 in
    rw (p.1, p.2) (unread_second c.args.tree.now c.args.call.now c.in-Two.u c.in-Two.v c.in-Two.word.now c.in-Two.other.now c.in_ok-path-in-Two.path
    c.in_err-next-in-Two.field-0.0 c.in-Two.ensures (rw c.needs_name-in-Two.ensures at c.in_ok-path-in-Two.ensures.ok)
    (rw c.needs_name-in-Two-2.ensures at c.in_err-next-in-Two.ensures.err))

pub returns-in_err-place-in-Two-clause-err : goal.returns-in_err-place-in-Two-clause-err
returns-in_err-place-in-Two-clause-err c =
    let p = err_from_is_err_and c.from_residual-in_err-place-in-Two.result c.from_residual-in_err-place-in-Two.ensures.1 in
    rw (p.1, p.2) (nowhere_first c.args.tree.now c.args.call.now c.in-Two.u c.in-Two.v c.in-Two.word.now c.in-Two.other.now c.in_ok-path-in-Two.path
    c.in_ok-next-in-Two.next c.in_err-place-in-Two.field-0.0 c.in-Two.ensures (rw c.needs_name-in-Two.ensures at c.in_ok-path-in-Two.ensures.ok)
    (rw c.needs_name-in-Two-2.ensures at c.in_ok-next-in-Two.ensures.ok) (rw c.parts-in-Two.ensures at c.in_err-place-in-Two.ensures.err))

pub returns-in_err-second-in-Two-clause-err : goal.returns-in_err-second-in-Two-clause-err
returns-in_err-second-in-Two-clause-err c =
    let p = err_from_is_err_and c.from_residual-in_err-second-in-Two.result c.from_residual-in_err-second-in-Two.ensures.1 in
    rw (p.1, p.2) (nowhere_second c.args.tree.now c.args.call.now c.in-Two.u c.in-Two.v c.in-Two.word.now c.in-Two.other.now c.in_ok-path-in-Two.path
    c.in_ok-next-in-Two.next c.in_ok-place-in-Two.place c.in_err-second-in-Two.field-0.0 c.in-Two.ensures
    (rw c.needs_name-in-Two.ensures at c.in_ok-path-in-Two.ensures.ok) (rw c.needs_name-in-Two-2.ensures at c.in_ok-next-in-Two.ensures.ok)
    (rw c.parts-in-Two.ensures at c.in_ok-place-in-Two.ensures.ok) (rw c.parts-in-Two-2.ensures at c.in_err-second-in-Two.ensures.err))

pub returns-in_ok-second-in-Two-clause-ok : goal.returns-in_ok-second-in-Two-clause-ok
returns-in_ok-second-in-Two-clause-ok c =
    placed_two c.args.tree.now c.args.call.now c.in-Two.u c.in-Two.v c.in-Two.word.now c.in-Two.other.now c.in_ok-path-in-Two.path c.in_ok-next-in-Two.next
    c.in_ok-place-in-Two.place c.in_ok-second-in-Two.second c.in-Two.ensures (rw c.needs_name-in-Two.ensures at c.in_ok-path-in-Two.ensures.ok)
    (rw c.needs_name-in-Two-2.ensures at c.in_ok-next-in-Two.ensures.ok) (rw c.parts-in-Two.ensures at c.in_ok-place-in-Two.ensures.ok)
    (rw c.parts-in-Two-2.ensures at c.in_ok-second-in-Two.ensures.ok)
