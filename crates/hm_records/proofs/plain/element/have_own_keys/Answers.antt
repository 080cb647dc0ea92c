use Rattle.std.proofs.Common.{List, sym, subst, ◌∙◌}
use Rattle.std.proofs.lemmas.List.{take_all}
use Rattle.hm_types.specs.Elements.{FullElement}
use Rattle.hm_key.specs.Versions.{HaveOwnKeys}
use Rattle.hm_records.proofs.PlainLemmas.{own_more}
use Rattle.hm_records.proofs.plain.element.have_own_keys.Goals as goal

pub loop-i-preserved : goal.loop-i-preserved
loop-i-preserved c =
    own_more c.args.elements.now c.loop-i.i c.index-elements-i.result c.loop-i-test.true c.index-elements-i.is c.loop-i.invariant
    (sym c.has_key.ensures ∙ c.if-has_key.false)

pub returns : goal.returns
returns c _ =
    subst (λ (es : List FullElement). HaveOwnKeys es) (take_all c.loop-i.i c.args.elements.now c.loop-i-test.false) c.loop-i.invariant
