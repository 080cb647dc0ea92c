use Rattle.std.proofs.Common.{ℕ, true, ap, ◌∙◌, subst, sym}
use Rattle.std.specs.List.Sorted.{IsStrictlySortedBy}
use Rattle.hm_key.specs.Elements.{element_cmp, last_to}
use Rattle.hm_key.specs.Key.{key_of}
use Rattle.hm_node.specs.Base.{base_in}
use Rattle.hm_node.specs.Leaf.{first_elements, ArePlaces}
use Rattle.hm_node.specs.Places.{place}
use Rattle.hm_node.specs.declared.head.Head.{Head}
use Rattle.hm_search.specs.Look.{is_by}
use Rattle.hm_search.proofs.LookLemmas.{turn_rank}
use Rattle.hm_search.proofs.LookToLemmas.{leaf_falls_to, leaf_last, turn_found_to}
use Rattle.hm_search.proofs.look_to.see_leaf.Goals as goal

pub returns : goal.returns
returns c =
    let key = key_of c.args.at.now in
    let page = c.args.page.now in
    let n = c.from-count.result in
    let r = c.rank.result in
    let count = c.from-count.ensures ∙ ap (λ (h : Head). h.count) c.requires.head in
    record {
      found = turn_found_to key page n r c.element_before.result (subst (λ (k : ℕ). ArePlaces page k) (sym c.from-count.ensures) c.requires.places)
          c.rank.ensures c.element_before.ensures;
      ordered = λ order.
          let sorted = subst (λ (k : ℕ). IsStrictlySortedBy element_cmp (first_elements page k)) (sym count) order in
          let rank = turn_rank (λ i. is_by true key (base_in page (place i))) n r (leaf_falls_to key page n sorted) c.rank.ensures in
          sym c.element_before.ensures ∙ leaf_last key page n r rank ∙ ap (λ (k : ℕ). last_to key (first_elements page k)) count;
    }
