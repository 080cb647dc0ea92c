use Rattle.hm_core.specs.Seen.{seen as seen_core}
use Rattle.hm_core.proofs.CoreLemmas.{follows_further}
use Rattle.hm_shell.proofs.LineLemmas.{closed_printed, closed_stopped, ended_printed, ended_stopped, unended_printed, unended_stopped}
use Rattle.hm_shell.proofs.serve.serve_line.Goals as goal

pub returns-in-Closed-clause-ok : goal.returns-in-Closed-clause-ok
returns-in-Closed-clause-ok g c =
    closed_printed (seen_core c.args.core.now) (seen_core c.call_line.new.core) c.args.line c.in-Closed.place c.in-Closed.ensures.calls
    c.entry.result.now c.entry.ensures c.print_entry.result _ _ c.print_entry.ensures.ok

pub returns-in-Closed-clause-err : goal.returns-in-Closed-clause-err
returns-in-Closed-clause-err g c =
    closed_stopped (seen_core c.args.core.now) (seen_core c.call_line.new.core) c.args.line c.in-Closed.place c.in-Closed.ensures.calls
    c.entry.result.now c.entry.ensures c.print_entry.result _ _ c.print_entry.ensures.err

pub returns-in-Some-clause-ok : goal.returns-in-Some-clause-ok
returns-in-Some-clause-ok g c =
    ended_printed (seen_core c.args.core.now) (seen_core c.call_line.new.core) (seen_core c.end_job.new.core) c.args.line c.in-Opened.opening
    c.in-Opened.ticket c.in-Opened.ensures.calls c.in-Some.ending c.in-Some.ensures.ends c.entry-in-Some.result.now c.entry-in-Some-2.result.now
    c.entry-in-Some.ensures c.entry-in-Some-2.ensures c.print_ended.result _ _ c.print_ended.ensures.ok

pub returns-in-Some-clause-err : goal.returns-in-Some-clause-err
returns-in-Some-clause-err g c =
    ended_stopped (seen_core c.args.core.now) (seen_core c.call_line.new.core) (seen_core c.end_job.new.core) c.args.line c.in-Opened.opening
    c.in-Opened.ticket c.in-Opened.ensures.calls c.in-Some.ending c.in-Some.ensures.ends c.entry-in-Some.result.now c.entry-in-Some-2.result.now
    c.entry-in-Some.ensures c.entry-in-Some-2.ensures c.print_ended.result _ _ c.print_ended.ensures.err

pub returns-in-Some-clause-follows : goal.returns-in-Some-clause-follows
returns-in-Some-clause-follows g c =
    follows_further _ _ _ (seen_core c.args.core.now) (seen_core c.call_line.new.core) (seen_core c.end_job.new.core) c.call_line.ensures.follows
    c.end_job.ensures.follows

pub returns-in-None-clause-ok : goal.returns-in-None-clause-ok
returns-in-None-clause-ok g c =
    unended_printed (seen_core c.args.core.now) (seen_core c.call_line.new.core) (seen_core c.end_job.new.core) c.args.line c.in-Opened.opening
    c.in-Opened.ticket c.in-Opened.ensures.calls c.in-None.ensures.ends c.entry-in-None.result.now c.entry-in-None.ensures
    c.print_unended.result _ _ c.print_unended.ensures.ok

pub returns-in-None-clause-err : goal.returns-in-None-clause-err
returns-in-None-clause-err g c =
    unended_stopped (seen_core c.args.core.now) (seen_core c.call_line.new.core) (seen_core c.end_job.new.core) c.args.line c.in-Opened.opening
    c.in-Opened.ticket c.in-Opened.ensures.calls c.in-None.ensures.ends c.entry-in-None.result.now c.entry-in-None.ensures
    c.print_unended.result _ _ c.print_unended.ensures.err

pub returns-in-None-clause-follows : goal.returns-in-None-clause-follows
returns-in-None-clause-follows g c =
    follows_further _ _ _ (seen_core c.args.core.now) (seen_core c.call_line.new.core) (seen_core c.end_job.new.core) c.call_line.ensures.follows
    c.end_job.ensures.follows
