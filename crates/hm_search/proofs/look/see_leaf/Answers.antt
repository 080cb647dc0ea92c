use Rattle.std.proofs.Common.{ℕ, false, ap, ◌∙◌, subst, sym}
use Rattle.std.specs.List.Sorted.{IsStrictlySortedBy}
use Rattle.hm_key.specs.Key.{key_of}
use Rattle.hm_key.specs.Elements.{element_cmp, first_from}
use Rattle.hm_key.specs.Places.{leading}
use Rattle.hm_node.specs.Base.{base_in}
use Rattle.hm_node.specs.Leaf.{first_elements, ArePlaces}
use Rattle.hm_node.specs.Places.{place}
use Rattle.hm_node.specs.declared.head.Head.{Head}
use Rattle.hm_search.specs.Look.{is_by}
use Rattle.hm_search.proofs.LookLemmas.{leaf_falls, leaf_rank, leaf_first_at, turn_found, turn_rank}
use Rattle.hm_search.proofs.look.see_leaf.Goals as goal

pub returns : goal.returns
returns c =
    let key = key_of c.args.at.now in
    let page = c.args.page.now in
    let n = c.from-count.result in
    let r = c.rank-before.result in
    let count = c.from-count.ensures ∙ ap (λ (h : Head). h.count) c.requires.head in
    record {
      mirror = ap (λ (h : Head). h.mirror) c.requires.head;
      found = turn_found key page n r c.element_at.result (subst (λ (k : ℕ). ArePlaces page k) (sym c.from-count.ensures) c.requires.places)
          c.rank-before.ensures c.element_at.ensures;
      ordered = λ order.
          let sorted = subst (λ (k : ℕ). IsStrictlySortedBy element_cmp (first_elements page k)) (sym count) order in
          let rank = turn_rank (λ i. is_by false key (base_in page (place i))) n r (leaf_falls key page n sorted) c.rank-before.ensures in record {
            place = leaf_rank key page n r rank ∙ ap (λ (k : ℕ). leading key (first_elements page k)) count;
            first = sym c.element_at.ensures ∙ leaf_first_at key page n r rank ∙ ap (λ (k : ℕ). first_from key (first_elements page k)) count;
          };
    }
