use Rattle.std.proofs.Common.{ap, ◌∙◌, arith}
use Rattle.hm_node.specs.declared.head.Head.{Head}
use Rattle.hm_search.proofs.LookLemmas.{none_below}
use Rattle.hm_search.proofs.look.next_at.Goals as goal

pub returns-else-i-from : goal.returns-else-i-from
returns-else-i-from c =
    none_below c.args.page.now c.args.i c.from.result (c.from.ensures ∙ ap (λ (h : Head). h.count) c.requires.head) (omega (arith, c.if-i-from.false))
