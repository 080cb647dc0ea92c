use Rattle.std.proofs.Common.{List, sym, subst, ◌∙◌}
use Rattle.std.proofs.lemmas.Bool.{false≢true}
use Rattle.std.proofs.lemmas.List.{take_all}
use Rattle.std.specs.Option.{option_copied}
use Rattle.hm_types.specs.Elements.{FullElement}
use Rattle.hm_records.specs.PlainView.{IsNewest}
use Rattle.hm_records.proofs.PlainLemmas.{newest_passed, newest_taken}
use Rattle.hm_records.proofs.plain.element.newest.Goals as goal
use Rattle.hm_records.proofs.plain.element.newest.Goals.{then-is_newer_version, else-is_newer_version}

pub loop-element-preserved : goal.loop-element-preserved
loop-element-preserved c = elim c.if-is_newer_version.branch [
  | then-is_newer_version w ↦
      rw (w.newest-is, w.since-is, w.create.ensures)
      (newest_taken c.args.elements.now c.loop-element.element-index c.args.id c.args.subject.now c.element-item.result c.loop-element-test.true
      c.element-item.is
      (option_copied c.loop-element.newest) c.loop-element.since c.loop-element.invariant (c.is_newer_version.ensures.0 w.if-is_newer_version.true))
  | else-is_newer_version w ↦
      rw (w.newest-is, w.since-is)
      (newest_passed c.args.elements.now c.loop-element.element-index c.args.id c.args.subject.now c.element-item.result c.loop-element-test.true
      c.element-item.is
      (option_copied c.loop-element.newest) c.loop-element.since c.loop-element.invariant
      (λ held. false≢true (sym w.if-is_newer_version.false ∙ c.is_newer_version.ensures.1 held)))
]

pub returns : goal.returns
returns c =
    subst (λ (es : List FullElement). IsNewest es c.args.id c.args.subject.now (option_copied c.loop-element.newest))
    (take_all c.loop-element.element-index c.args.elements.now c.loop-element-test.false) c.loop-element.invariant.newest
