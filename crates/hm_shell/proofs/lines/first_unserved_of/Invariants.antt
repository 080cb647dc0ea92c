use Rattle.std.proofs.Common.{All, take}
use Rattle.hm_shell.specs.Lines.{IsServable}
use Rattle.hm_shell.proofs.lines.first_unserved_of.Given as goal

abbrev pub invariant-loop-line : goal.invariant-loop-line
invariant-loop-line l = All IsServable (take l.line-index l.lines)
