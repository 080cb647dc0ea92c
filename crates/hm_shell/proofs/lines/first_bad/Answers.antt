use Rattle.hm_shell.proofs.LinesLemmas.{bad_in_front, bad_itself, front_too_long, none_before_it, unserved_from}
use Rattle.hm_shell.proofs.lines.first_bad.Goals as goal

pub bad_line-requires : goal.bad_line-requires
bad_line-requires c =
    bad_in_front c.args.script.now c.first_lines.result.now _ c.in-Some.earlier c.first_lines.ensures.texts
    (unserved_from c.first_lines.result.now c.in-Ok.blocks c.in-Some.earlier c.in-Ok.ensures.ok c.in-Some.ensures)

pub bad_line-requires-in-None : goal.bad_line-requires-in-None
bad_line-requires-in-None c =
    bad_itself c.args.script.now c.first_lines.result.now c.args.number c.requires c.first_lines.ensures.texts c.in-Ok.blocks c.in-Ok.ensures.ok
    c.in-None.ensures

-- the lines before the first one outside the grammar are inside it
pub bad_line-requires-in-Err-BadLine : goal.bad_line-requires-in-Err-BadLine
bad_line-requires-in-Err-BadLine c =
    let why = rw c.in-Err-BadLine.field-0-is at c.in-Err-BadLine.ensures.err in
    absurd (none_before_it c.args.script.now c.first_lines.result.now c.args.number c.requires c.first_lines.ensures.texts c.in-Err-BadLine.earlier why.1)

pub returns-in-Err-TooLong : goal.returns-in-Err-TooLong
returns-in-Err-TooLong c =
    front_too_long c.args.script.now c.first_lines.result.now _ c.first_lines.ensures.texts c.first_lines.ensures.shorter
    (rw c.in-Err-TooLong.field-0-is at c.in-Err-TooLong.ensures.err)
