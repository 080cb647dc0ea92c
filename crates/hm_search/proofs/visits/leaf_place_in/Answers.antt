use Rattle.std.proofs.Common.{ℕ, false, ap, subst, sym, ◌∙◌, arith}
use Rattle.std.specs.List.Sorted.{IsStrictlySortedBy}
use Rattle.hm_key.specs.Elements.{element_cmp}
use Rattle.hm_key.specs.Key.{key_of}
use Rattle.hm_key.specs.Places.{leading}
use Rattle.hm_node.specs.Base.{base_in}
use Rattle.hm_node.specs.Leaf.{first_elements}
use Rattle.hm_node.specs.Places.{place}
use Rattle.hm_node.specs.declared.head.Head.{Head}
use Rattle.hm_node.proofs.EditLemmas.{leaf_bytes}
use Rattle.hm_search.specs.Look.{is_by}
use Rattle.hm_search.proofs.LookLemmas.{leaf_falls, leaf_rank, turn_rank}
use Rattle.hm_search.proofs.visits.leaf_place_in.Goals as goal

pub rank-requires : goal.rank-requires
rank-requires c =
    let count = c.from.ensures ∙ ap (λ (h : Head). h.count) c.read-head.ensures.value in
    record { few = omega (arith, count, (leaf_bytes c.args.page.now c.requires).few) }

pub returns-clause-ordered : goal.returns-clause-ordered
returns-clause-ordered c = λ order.
    let key = key_of c.args.at.now in
    let page = c.args.page.now in
    let n = c.from.result in
    let count = c.from.ensures ∙ ap (λ (h : Head). h.count) c.read-head.ensures.value in
    let sorted = subst (λ (k : ℕ). IsStrictlySortedBy element_cmp (first_elements page k)) (sym count) order in
    let rank = turn_rank (λ i. is_by false key (base_in page (place i))) n c.rank.result (leaf_falls key page n sorted) c.rank.ensures in
    leaf_rank key page n c.rank.result rank ∙ ap (λ (k : ℕ). leading key (first_elements page k)) count
