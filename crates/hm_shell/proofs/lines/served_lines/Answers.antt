use Rattle.std.proofs.Common.{subst, sym}
use Rattle.hm_shell.specs.Lines.{AreServedLines}
use Rattle.hm_shell.proofs.LinesLemmas.{served_from, unserved_from}
use Rattle.hm_shell.proofs.lines.served_lines.Goals as goal

pub bad_line-requires : goal.bad_line-requires
bad_line-requires c = unserved_from c.args.script.now c.in-Ok.blocks c.in-Some.number c.in-Ok.ensures.ok c.in-Some.ensures

pub returns-in_ok-lines_of-in-None-clause-ok : goal.returns-in_ok-lines_of-in-None-clause-ok
returns-in_ok-lines_of-in-None-clause-ok c =
    subst (AreServedLines c.args.script.now) (sym c.in_ok-lines_of-in-None.ensures)
    (served_from c.args.script.now c.in-Ok.blocks c.in-Ok.ensures.ok c.in-None.ensures)
