use Rattle.std.proofs.lemmas.Result.{err_from_is_err_and}
use Rattle.hm_header.proofs.RangeLemmas.{bad_state, bad_undo, bad_append, bad_rest, all_in}
use Rattle.hm_header.proofs.body.decode.Goals as goal

pub returns-in_err-last-clause-err : goal.returns-in_err-last-clause-err
returns-in_err-last-clause-err c =
    let p = err_from_is_err_and c.from_residual-in_err-last.result c.from_residual-in_err-last.ensures.1 in
    rw (p.1, p.2)
    (bad_state c.args.slot.now c.args.size c.in_err-last.field-0.0 c.in_ok-version.ensures.in_range
    (c.in_err-last.ensures.err c.args.size))

pub returns-in_err-undo_first-clause-err : goal.returns-in_err-undo_first-clause-err
returns-in_err-undo_first-clause-err c =
    let p = err_from_is_err_and c.from_residual-in_err-undo_first.result
    c.from_residual-in_err-undo_first.ensures.1 in
    rw (p.1, p.2)
    (bad_undo c.args.slot.now c.args.size c.in_err-undo_first.field-0.0 c.in_ok-version.ensures.in_range
    (c.in_ok-last.ensures.in_range c.args.size) (c.in_err-undo_first.ensures.err c.args.size))

pub returns-in_err-append-clause-err : goal.returns-in_err-append-clause-err
returns-in_err-append-clause-err c =
    let p = err_from_is_err_and c.from_residual-in_err-append.result c.from_residual-in_err-append.ensures.1 in
    rw (p.1, p.2)
    (bad_append c.args.slot.now c.args.size c.in_err-append.field-0.0 c.in_ok-version.ensures.in_range
    (c.in_ok-last.ensures.in_range c.args.size) (c.in_ok-undo_first.ensures.in_range c.args.size)
    (c.in_err-append.ensures.err c.args.size))

pub returns-in_err-check-clause-err : goal.returns-in_err-check-clause-err
returns-in_err-check-clause-err c =
    let p = err_from_is_err_and c.from_residual-in_err-check.result c.from_residual-in_err-check.ensures.1 in
    rw (p.1, p.2)
    (bad_rest c.args.slot.now c.args.size c.in_err-check.field-0.0 c.in_ok-version.ensures.in_range
    (c.in_ok-last.ensures.in_range c.args.size) (c.in_ok-undo_first.ensures.in_range c.args.size)
    (c.in_ok-append.ensures.in_range c.args.size) (λ zero. c.in_err-check.ensures.err.0
    (c.rest_is_zero.ensures.1 zero))
    c.in_err-check.ensures.err.1)

pub returns-clause-in_range : goal.returns-clause-in_range
returns-clause-in_range c =
    all_in c.args.slot.now c.args.size c.in_ok-version.ensures.in_range (c.in_ok-last.ensures.in_range c.args.size)
    (c.in_ok-undo_first.ensures.in_range c.args.size) (c.in_ok-append.ensures.in_range c.args.size)
    (c.rest_is_zero.ensures.0 c.in_ok-check.ensures.ok)
