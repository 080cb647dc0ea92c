use Rattle.std.proofs.Common.{◌≡◌, ℕ, true, ap, ◌∙◌, subst, sym}
use Rattle.std.specs.Prelude.{Some, slice_get}
use Rattle.std.specs.List.Sorted.{IsStrictlySortedBy}
use Rattle.hm_key.specs.Key.{key_of}
use Rattle.hm_node.specs.Base.{base_cmp, base_in}
use Rattle.hm_node.specs.Inner.{first_children, inner_in}
use Rattle.hm_node.specs.Places.{place}
use Rattle.hm_node.specs.declared.head.Head.{Head}
use Rattle.hm_search.specs.Look.{is_by}
use Rattle.hm_search.specs.LookTo.{before_place}
use Rattle.hm_search.specs.Search.{holder_place}
use Rattle.hm_search.specs.Tree.{children_of}
use Rattle.hm_search.proofs.ChildLemmas.{bounds}
use Rattle.hm_search.proofs.LookLemmas.{inner_falls, inner_rank, turn_rank}
use Rattle.hm_search.proofs.LookToLemmas.{before_there}
use Rattle.hm_search.proofs.look_to.see_inner.Goals as goal

pub returns : goal.returns
returns c =
    let key = key_of c.args.at.now in
    let page = c.args.page.now in
    let inner = inner_in page in
    let n = c.from-count.result in
    let h = c.saturating_sub-holder.result in
    let count = c.from-count.ensures ∙ ap (λ (h : Head). h.count) c.requires.head in
    record {
      child = (h, c.child_at.ensures);
      before = before_there (children_of inner) h c.child_before.result c.child_before.ensures;
      ordered = λ order.
          let sorted = subst (λ (k : ℕ). IsStrictlySortedBy base_cmp (bounds inner.right (first_children page k))) (sym count) order in
          let rank = turn_rank (λ i. is_by true key (base_in page (place i))) n c.rank.result (inner_falls key page n inner.right sorted) c.rank.ensures in
          let holder : h ≡ holder_place key inner.places.items =
          c.saturating_sub-holder.ensures ∙ inner_rank key page n c.rank.result inner.right sorted rank ∙ ap
          (λ (k : ℕ). holder_place key (first_children page k)) count in record {
            child = subst (λ (i : ℕ). slice_get (children_of inner) i ≡ Some c.child_at.result) holder c.child_at.ensures;
            before = subst (λ (i : ℕ). before_place (children_of inner) i ≡ c.child_before.result) holder c.child_before.ensures;
          };
    }
