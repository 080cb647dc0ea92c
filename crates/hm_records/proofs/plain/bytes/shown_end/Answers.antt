use Rattle.std.proofs.Common.{List, sym, subst, ◌∙◌}
use Rattle.std.proofs.lemmas.Bool.{false≢true}
use Rattle.std.proofs.lemmas.List.{take_all}
use Rattle.hm_types.specs.Elements.{FullElement}
use Rattle.hm_key.specs.Counts.{Counts}
use Rattle.hm_records.specs.PlainView.{IsShownEnd}
use Rattle.hm_records.proofs.PlainLemmas.{end_passed, end_taken}
use Rattle.hm_records.proofs.plain.bytes.shown_end.Goals as goal
use Rattle.hm_records.proofs.plain.bytes.shown_end.Goals.{then-is_better_end, else-is_better_end}

pub loop-element-preserved : goal.loop-element-preserved
loop-element-preserved c = elim c.if-is_better_end.branch [
  | then-is_better_end w ↦
      rw (w.best-is, w.key.ensures)
      (end_taken (Counts c.args.elements.now c.args.id) c.args.elements.now c.loop-element.element-index c.args.pfs.0 c.args.obj.0 c.args.size c.args.block
      c.element-item.result c.loop-element-test.true c.element-item.is
      c.loop-element.best c.loop-element.invariant (c.is_better_end.ensures.0 w.if-is_better_end.true))
  | else-is_better_end w ↦
      rw w.best-is
      (end_passed (Counts c.args.elements.now c.args.id) c.args.elements.now c.loop-element.element-index c.args.pfs.0 c.args.obj.0 c.args.size c.args.block
      c.element-item.result c.loop-element-test.true c.element-item.is
      c.loop-element.best c.loop-element.invariant
      (λ held. false≢true (sym w.if-is_better_end.false ∙ c.is_better_end.ensures.1 held)))
]

pub returns : goal.returns
returns c =
    subst (λ (es : List FullElement).
    IsShownEnd (Counts c.args.elements.now c.args.id) c.args.pfs.0 c.args.obj.0 c.args.size c.args.block es c.loop-element.best)
    (take_all c.loop-element.element-index c.args.elements.now c.loop-element-test.false) c.loop-element.invariant
