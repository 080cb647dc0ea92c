use Rattle.std.proofs.Common.{◌+◌, length}
use Rattle.std.proofs.Math.Seq.{drop-length}
use Rattle.hm_script.proofs.LineLemmas.{first_line, only_line, rest_is}
use Rattle.hm_script.proofs.lines.split_line.Goals as goal

pub returns-in-Some-clause-texts : goal.returns-in-Some-clause-texts
returns-in-Some-clause-texts c = rw (rest_is (c.in-Some.end + 1) c.args.script.now)
    (first_line c.args.script.now c.in-Some.end c.in-Some.ensures.0 c.in-Some.ensures.1)

pub returns-in-None-clause-texts : goal.returns-in-None-clause-texts
returns-in-None-clause-texts c =
    rw (rest_is (length c.args.script.now) c.args.script.now, drop-length c.args.script.now) (only_line c.args.script.now c.requires c.in-None.ensures)
