use Rattle.hm_shell.specs.Seen.{seen}
use Rattle.hm_shell.specs.Words.{texts}
use Rattle.hm_shell.proofs.PrepareLemmas.{prepared_from}
use Rattle.hm_shell.proofs.job.prepare.Goals as goal

pub returns-clause-ok : goal.returns-clause-ok
returns-clause-ok g c =
    prepared_from (texts c.args.words.now) (seen g.S.Source.left g.S.Source.faults c.args.source.now)
    (seen g.S.Source.left g.S.Source.faults c.read_script.new.source) (record { newfs = c.in-Some.newfs; lines = c.in_ok-lines.lines })
    c.in_ok-script.script.items c.in-Some.ensures c.in_ok-script.ensures.ok (rw c.deref.ensures.value at c.in_ok-lines.ensures.ok)
