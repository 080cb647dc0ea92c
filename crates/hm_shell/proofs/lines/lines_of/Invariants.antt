use Rattle.std.proofs.Common.{◌≡◌}
use Rattle.hm_model.specs.Out.{lines_in}
use Rattle.hm_shell.proofs.lines.lines_of.Given as goal

abbrev pub invariant-loop-block : goal.invariant-loop-block
invariant-loop-block l = l.lines.items ≡ lines_in l.yielded
