use Rattle.std.proofs.Common.{ℕ, true, ap, subst, sym, ◌∙◌, arith}
use Rattle.std.specs.List.Sorted.{IsStrictlySortedBy}
use Rattle.hm_key.specs.Key.{key_of}
use Rattle.hm_node.specs.Base.{base_cmp, base_in}
use Rattle.hm_node.specs.Inner.{first_children, inner_in}
use Rattle.hm_node.specs.Places.{place}
use Rattle.hm_node.specs.declared.head.Head.{Head}
use Rattle.hm_node.proofs.InnerEditLemmas.{inner_bytes}
use Rattle.hm_search.specs.Look.{is_by}
use Rattle.hm_search.specs.Search.{holder_place}
use Rattle.hm_search.proofs.ChildLemmas.{bounds}
use Rattle.hm_search.proofs.LookLemmas.{inner_falls, inner_rank, turn_rank}
use Rattle.hm_search.proofs.visits.holder_place_in.Goals as goal

pub rank-requires : goal.rank-requires
rank-requires c =
    let count = c.from.ensures ∙ ap (λ (h : Head). h.count) c.read-head.ensures.value in
    record { few = omega (arith, count, (inner_bytes c.args.page.now c.requires).some.1) }

pub returns-clause-within : goal.returns-clause-within
returns-clause-within c =
    let count = c.from.ensures ∙ ap (λ (h : Head). h.count) c.read-head.ensures.value in
    omega (arith, count, c.saturating_sub.ensures, c.rank.ensures.bound, (inner_bytes c.args.page.now c.requires).some.0)

pub returns-clause-ordered : goal.returns-clause-ordered
returns-clause-ordered c = λ order.
    let key = key_of c.args.at.now in
    let page = c.args.page.now in
    let inner = inner_in page in
    let n = c.from.result in
    let count = c.from.ensures ∙ ap (λ (h : Head). h.count) c.read-head.ensures.value in
    let sorted = subst (λ (k : ℕ). IsStrictlySortedBy base_cmp (bounds inner.right (first_children page k))) (sym count) order in
    let rank = turn_rank (λ i. is_by true key (base_in page (place i))) n c.rank.result (inner_falls key page n inner.right sorted) c.rank.ensures in
    c.saturating_sub.ensures ∙ inner_rank key page n c.rank.result inner.right sorted rank
    ∙ ap (λ (k : ℕ). holder_place key (first_children page k)) count
