use Rattle.std.proofs.Common.{◌≡◌, ◌∙◌, ap, sym, rules}
use Rattle.hm_node.specs.Node.{count_of, node_in}
use Rattle.hm_node.specs.declared.head.Head.{Head}
use Rattle.hm_btree.proofs.PageLemmas.{count_in}
use Rattle.hm_btree.proofs.join.is_small_in.Goals as goal

pub returns : goal.returns
returns c =
    let same : count_of (node_in c.args.page.now) ≡ c.from.result =
    count_in c.args.page.now ∙ sym (c.from.ensures ∙ ap (λ (h : Head). h.count) c.read.ensures.value) in
    rw same (search rules)
