use Rattle.std.proofs.Common.{◌≡◌, ℕ, ◌+◌, ◌-◌, refl, ap, sym, subst, ◌∙◌, below_more, arith}
use Rattle.hm_node.specs.Base.{base_in, base_cmp}
use Rattle.hm_node.specs.Leaf.{element_in, IsElementPlace, IsUpTo}
use Rattle.hm_node.specs.Places.{place, IsZeroOutside}
use Rattle.hm_node.proofs.BrokenLemmas.{refuted}
use Rattle.hm_node.proofs.PlaceLemmas.{base_total, first_all, all_first, rising_fewer, rising_next}
use Rattle.hm_node.proofs.WalkLemmas.{none_rises, rises_more, next_order, each_next, same_ids}
use Rattle.hm_node.proofs.leaf.look_over.Goals as goal

pub returns-then-not-is_zero_outside-clause-none : goal.returns-then-not-is_zero_outside-clause-none
returns-then-not-is_zero_outside-clause-none c =
    λ all. refuted c.is_zero_outside.result c.if-not-is_zero_outside.true c.is_zero_outside.ensures.1
    (subst (IsZeroOutside c.args.page.now) (sym c.place.ensures) all.outside)

pub loop-i-init : goal.loop-i-init
loop-i-init c = record {
  last = λ some. absurd (omega arith);
  rising = none_rises base_cmp base_total (λ k. base_in c.args.page.now (place k));
  places = λ k low. absurd (omega arith);
  within = (λ is k low. absurd (omega arith), λ all. refl);
}

pub returns-then-not-is_next-clause-none : goal.returns-then-not-is_next-clause-none
returns-then-not-is_next-clause-none c =
    let i = c.loop-i.i in
    let bases = λ (k : ℕ). base_in c.args.page.now (place k) in
    let base = c.read_base-base.ensures ∙ ap (base_in c.args.page.now) c.place-at.ensures in
    let next = next_order i c.is_next.result c.loop-i.before c.read_base-base.result _ _ c.loop-i.invariant.last base c.is_next.ensures in
    λ all. refuted c.is_next.result c.if-not-is_next.true next.1 (λ some. rising_next base_cmp bases i c.args.count some (omega arith) all.rising)

pub returns-then-not-is_element_place-clause-none : goal.returns-then-not-is_element_place-clause-none
returns-then-not-is_element_place-clause-none c =
    λ all. refuted c.is_element_place.result c.if-not-is_element_place.true c.is_element_place.ensures.1
    (subst (IsElementPlace c.args.page.now) (sym c.place-at.ensures) (all.places c.loop-i.i (omega arith)))

pub loop-i-preserved : goal.loop-i-preserved
loop-i-preserved c =
    let page = c.args.page.now in
    let i = c.loop-i.i in
    let before = c.loop-i.invariant in
    let base = c.read_base-base.ensures ∙ ap (base_in page) c.place-at.ensures in
    let next = next_order i c.is_next.result c.loop-i.before c.read_base-base.result _ _ before.last base c.is_next.ensures in
    let here = subst (IsElementPlace page) c.place-at.ensures (c.is_element_place.ensures.0 c.if-not-is_element_place.false) in
    let ids = same_ids page (place i) c.args.mirror c.is_up_to-within.result c.read_base-base.result base c.is_up_to-within.ensures in
    let back : i + 1 - 1 ≡ i = omega arith in
    record {
      last = λ some. rw back base;
      rising = rises_more base_cmp base_total (λ k. base_in page (place k)) i before.rising (next.0 c.if-not-is_next.false);
      places = below_more (λ k. IsElementPlace page (place k)) i before.places here;
      within = each_next (λ k. IsUpTo c.args.mirror (element_in page (place k))) i c.loop-i.within c.is_up_to-within.result before.within ids;
    }

pub returns-clause-some : goal.returns-clause-some
returns-clause-some c =
    let page = c.args.page.now in
    let passed = c.loop-i.invariant in
    let elements = λ (k : ℕ). element_in page (place k) in (
      record {
        rising = rising_fewer base_cmp (λ k. base_in page (place k)) c.args.count c.loop-i.i (omega arith) passed.rising;
        places = λ k low. passed.places k (omega arith);
        outside = subst (IsZeroOutside page) c.place.ensures (c.is_zero_outside.ensures.0 c.if-not-is_zero_outside.false);
      },
      (
        λ is. first_all elements (IsUpTo c.args.mirror) c.args.count (λ k low. passed.within.0 is k (omega arith)),
        λ all. passed.within.1 (λ k low. all_first elements (IsUpTo c.args.mirror) c.args.count all k (omega arith)),
      ),
    )
