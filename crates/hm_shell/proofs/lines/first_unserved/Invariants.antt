use Rattle.std.proofs.Common.{All, take}
use Rattle.hm_model.specs.Out.{lines_in}
use Rattle.hm_shell.specs.Lines.{IsServable}
use Rattle.hm_shell.proofs.lines.first_unserved.Given as goal

abbrev pub invariant-loop-block : goal.invariant-loop-block
invariant-loop-block l = All IsServable (lines_in (take l.block-index l.script))
