use Rattle.std.proofs.Common.{All, List, subst}
use Rattle.std.proofs.lemmas.List.{take_all}
use Rattle.hm_model.specs.declared.line.Line.{Line}
use Rattle.hm_model.specs.Out.{lines_in}
use Rattle.hm_shell.specs.Lines.{IsServable}
use Rattle.hm_shell.proofs.LinesLemmas.{block_passed, first_in_block}
use Rattle.hm_shell.proofs.lines.first_unserved.Goals as goal

pub returns-in-Some : goal.returns-in-Some
returns-in-Some c =
    let within = rw c.blocks-block-items.ensures at c.loop-block-test.true in
    let here = rw c.blocks-block-items.ensures at c.block-item.is in
    first_in_block c.args.script.now c.loop-block.block-index c.block-item.result within here c.loop-block.invariant c.in-Some.number
    (rw c.lines.ensures at c.in-Some.ensures)

pub loop-block-preserved : goal.loop-block-preserved
loop-block-preserved c =
    let within = rw c.blocks-block-items.ensures at c.loop-block-test.true in
    let here = rw c.blocks-block-items.ensures at c.block-item.is in
    block_passed c.args.script.now c.loop-block.block-index c.block-item.result within here c.loop-block.invariant (rw c.lines.ensures at c.in_default.ensures)

pub returns : goal.returns
returns c =
    let past = rw c.blocks-block-items.ensures at c.loop-block-test.false in
    subst (λ (blocks : List (List Line)). All IsServable (lines_in blocks)) (take_all c.loop-block.block-index c.args.script.now past) c.loop-block.invariant
