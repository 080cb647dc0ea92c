use Rattle.std.proofs.Common.{◌∙◌, sym}
use Rattle.std.proofs.lemmas.Result.{err_from_is_err_and}
use Rattle.hm_model.specs.declared.reply.Reply.TheVariants.{ReadOnly}
use Rattle.hm_model.proofs.ReadLemmas.{read_with_id, read_without_name, unread}
use Rattle.hm_model.proofs.read.read_path.Goals as goal

pub returns-in_err-path-clause-err : goal.returns-in_err-path-clause-err
returns-in_err-path-clause-err c =
    let p = err_from_is_err_and c.from_residual.result c.from_residual.ensures.1 in
    rw (p.1, p.2) (unread c.args.named c.args.word.now c.in_err-path.field-0.0 (rw c.bytes.ensures at c.in_err-path.ensures.err))

pub returns-then-carries_id-clause-err : goal.returns-then-carries_id-clause-err
returns-then-carries_id-clause-err c =
    read_with_id c.args.named c.args.word.now c.in_ok-path.path ReadOnly (rw c.bytes.ensures at c.in_ok-path.ensures.ok)
    (rw c.parts.ensures at (sym c.if-carries_id.ensures))

pub returns-then-not-has_last_name-clause-err : goal.returns-then-not-has_last_name-clause-err
returns-then-not-has_last_name-clause-err c =
    rw c.if-named.true (read_without_name c.args.word.now c.in_ok-path.path (rw c.bytes.ensures at c.in_ok-path.ensures.ok)
    (rw c.parts-then-named.ensures at (sym c.if-not-has_last_name.ensures)))
