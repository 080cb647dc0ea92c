use Rattle.std.proofs.Common.{All, subst, sym, ◌∙◌}
use Rattle.std.proofs.lemmas.Bool.{false≢true}
use Rattle.std.proofs.lemmas.List.{take_all}
use Rattle.hm_shell.specs.Lines.{IsServable}
use Rattle.hm_shell.proofs.LinesLemmas.{first_by_command, first_by_lane, passed_by_tests}
use Rattle.hm_shell.proofs.lines.first_unserved_of.Goals as goal
use Rattle.hm_shell.proofs.lines.first_unserved_of.Goals.{then-line-ne0-via-then-line-ne0, then-line-ne0-via-else-line-ne0+then-not-is_served}

pub returns-then-line-ne0 : goal.returns-then-line-ne0
returns-then-line-ne0 c = elim c.then-line-ne0.branch [
  | then-line-ne0-via-then-line-ne0 w ↦
      first_by_lane c.args.lines.now c.loop-line.line-index c.line-item.result c.loop-line-test.true c.line-item.is c.loop-line.invariant w.if-line-ne0.true
  | then-line-ne0-via-else-line-ne0+then-not-is_served w ↦
      first_by_command c.args.lines.now c.loop-line.line-index c.line-item.result c.loop-line-test.true c.line-item.is c.loop-line.invariant
      (λ is. false≢true (sym w.if-not-is_served.true ∙ w.is_served.ensures.1 is))
]

pub loop-line-preserved : goal.loop-line-preserved
loop-line-preserved c =
    passed_by_tests c.args.lines.now c.loop-line.line-index c.line-item.result c.loop-line-test.true c.line-item.is c.loop-line.invariant c.if-line-ne0.false
    (c.is_served.ensures.0 c.if-not-is_served.false)

pub returns : goal.returns
returns c = subst (All IsServable) (take_all c.loop-line.line-index c.args.lines.now c.loop-line-test.false) c.loop-line.invariant
