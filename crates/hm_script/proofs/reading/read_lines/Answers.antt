use Rattle.std.proofs.Common.{sym}
use Rattle.hm_script.specs.Reading.{IsLineFault}
use Rattle.hm_script.proofs.ReadingLemmas.{read_further, read_all, line_fault, same_fault}
use Rattle.hm_script.proofs.LineLemmas.{none_from_test}
use Rattle.hm_script.proofs.reading.read_lines.Goals as goal

pub returns-in_err-add_text-clause-err : goal.returns-in_err-add_text-clause-err
returns-in_err-add_text-clause-err c =
    let fault = line_fault _ _ _ c.split_line.result.1.now _ _ c.lines.invariant c.split_line.ensures.texts c.in_err-add_text.field-0.0
    c.in_err-add_text.ensures.err in
    same_fault (IsLineFault c.args.bytes.now) c.from_residual.result c.in_err-add_text.field-0.0 c.from_residual.ensures.1 fault

pub lines-preserved : goal.lines-preserved
lines-preserved c = read_further _ _ _ _ _ _ _ c.lines.invariant c.split_line.ensures.texts c.in_ok-add_text.ensures.ok

pub returns-clause-ok : goal.returns-clause-ok
returns-clause-ok c =
    rw c.in_ok-into_script.ensures (read_all _ _ _ _ (none_from_test c.lines.rest.now (sym c.lines-test.ensures)) c.lines.invariant)
