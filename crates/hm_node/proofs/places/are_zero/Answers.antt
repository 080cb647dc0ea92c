use Rattle.std.proofs.Common.{rules, ◌≡◌, arith, sym, ◌∙◌, ◌+◌, ◌*◌}
use Rattle.hm_fields.specs.Fields.{get}
use Rattle.hm_node.proofs.ZeroLemmas.{zero_bytes, zero_field, zero_both, zero_part, zero_none}
use Rattle.hm_node.proofs.places.are_zero.Goals as goal

pub returns-then-get_u64-ne0 : goal.returns-then-get_u64-ne0
returns-then-get_u64-ne0 c = (
  λ is. absurd cc,
  λ zero. absurd (c.if-get_u64-ne0.true (c.get_u64.ensures ∙ zero_field c.args.page.now (c.args.from + 8 * c.loop-i.i) 8
      (zero_part c.args.page.now c.args.from (c.args.from + 8 * c.args.words) _ _ (omega arith) (omega arith) zero))),
)

pub loop-i-init : goal.loop-i-init
loop-i-init c = zero_none c.args.page.now _ _ (omega arith)

pub loop-i-preserved : goal.loop-i-preserved
loop-i-preserved c =
    let from = c.args.from + 8 * c.loop-i.i in
    let none : get c.args.page.now from 8 ≡ 0 = sym c.get_u64.ensures ∙ omega arith in
    let word = zero_bytes c.args.page.now from 8 none in
    zero_both c.args.page.now c.args.from from _ c.loop-i.invariant (zero_part c.args.page.now from (from + 8) _ _ (omega arith) (omega arith) word)

pub returns : goal.returns
returns c = (
  λ is. zero_part c.args.page.now c.args.from (c.args.from + 8 * c.loop-i.i) _ _ (omega arith)
      (omega arith) c.loop-i.invariant,
  λ zero. search rules,
)
