use Rattle.std.proofs.lemmas.Result.{err_from_is_err_and}
use Rattle.hm_pipe.proofs.PipeLemmas.{Gives-append}
use Rattle.hm_shell.proofs.read.read_script.Goals as goal

pub returns-in_err-extend_from_slice-clause-err : goal.returns-in_err-extend_from_slice-clause-err
returns-in_err-extend_from_slice-clause-err g c =
    let p = err_from_is_err_and c.from_residual-in_err-extend_from_slice.result c.from_residual-in_err-extend_from_slice.ensures.1 in
    rw (p.1, p.2) (_, Gives-append _ _ _ _ _ c.reading.invariant.0 c.in-Ok.ensures.ok)
