use Rattle.hm_shell.proofs.print.put_last.Goals as goal

pub returns-in-BadField-clause-ok : goal.returns-in-BadField-clause-ok
returns-in-BadField-clause-ok g c = rw (c.in-BadField.is, ← c.from.ensures) c.put_number.ensures.ok

pub returns-in-ScriptFault-clause-ok : goal.returns-in-ScriptFault-clause-ok
returns-in-ScriptFault-clause-ok g c = rw c.in-ScriptFault.is c.put_counts-in-ScriptFault.ensures.ok

pub returns-in-ScriptFault-clause-err : goal.returns-in-ScriptFault-clause-err
returns-in-ScriptFault-clause-err g c = rw c.in-ScriptFault.is c.put_counts-in-ScriptFault.ensures.err

pub returns-in-TooLong-clause-ok : goal.returns-in-TooLong-clause-ok
returns-in-TooLong-clause-ok g c = rw c.in-TooLong.is c.put-in-TooLong.ensures.ok
