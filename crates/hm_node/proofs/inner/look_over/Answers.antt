use Rattle.std.proofs.Common.{◌≡◌, ℕ, ◌+◌, ◌≤◌, refl, ap, sym, subst, ◌∙◌, below_more, arith}
use Rattle.hm_fields.specs.Fields.{get}
use Rattle.hm_node.specs.Base.{base_in, base_cmp}
use Rattle.hm_node.specs.Inner.{child_in, IsBound, IsChildPlace}
use Rattle.hm_node.specs.Places.{place, IsZeroOutside}
use Rattle.hm_node.specs.declared.inner.Child.{Child}
use Rattle.hm_node.proofs.BrokenLemmas.{refuted}
use Rattle.hm_node.proofs.PlaceLemmas.{base_total, first_all, all_first, rising_fewer}
use Rattle.hm_node.proofs.WalkLemmas.{one_rises, rises_after, after_rises, same_order, each_next, same_mirror}
use Rattle.hm_node.proofs.inner.look_over.Goals as goal

pub returns-then-not-is_zero_outside-clause-none : goal.returns-then-not-is_zero_outside-clause-none
returns-then-not-is_zero_outside-clause-none c =
    λ all. refuted c.is_zero_outside.result c.if-not-is_zero_outside.true c.is_zero_outside.ensures.1
    (subst (λ (at : ℕ). IsZeroOutside c.args.page.now (at + 40)) (sym c.place.ensures) all.outside)

pub loop-i-init : goal.loop-i-init
loop-i-init c = record {
  next = c.read_base-left.ensures ∙ ap (base_in c.args.page.now) c.place-2.ensures;
  rising = one_rises base_cmp base_total (λ k. base_in c.args.page.now (place k));
  places = λ k low. absurd (omega arith);
  within = (λ is k low. absurd (omega arith), λ all. refl);
}

pub returns-then-not-is_before-clause-none : goal.returns-then-not-is_before-clause-none
returns-then-not-is_before-clause-none c =
    let page = c.args.page.now in
    let i = c.loop-i.i in
    let right = c.read_base-right.ensures ∙ ap (base_in page) c.place-in-loop-i.ensures in
    let test = same_order c.is_before.result c.loop-i.left c.read_base-right.result _ _ c.loop-i.invariant.next right c.is_before.ensures in
    λ all. refuted c.is_before.result c.if-not-is_before.true test.1
    (after_rises base_cmp base_total (λ k. base_in page (place k)) i c.args.count (omega arith) all.rising)

pub returns-then-not-is_child_place-clause-none : goal.returns-then-not-is_child_place-clause-none
returns-then-not-is_child_place-clause-none c =
    λ all. refuted c.is_child_place.result c.if-not-is_child_place.true c.is_child_place.ensures.1
    (subst (IsChildPlace c.args.page.now) (sym c.place-at.ensures) (all.places c.loop-i.i (omega arith)))

pub loop-i-preserved : goal.loop-i-preserved
loop-i-preserved c =
    let page = c.args.page.now in
    let i = c.loop-i.i in
    let before = c.loop-i.invariant in
    let right = c.read_base-right.ensures ∙ ap (base_in page) c.place-in-loop-i.ensures in
    let test = same_order c.is_before.result c.loop-i.left c.read_base-right.result _ _ before.next right c.is_before.ensures in
    let here = subst (IsChildPlace page) c.place-at.ensures (c.is_child_place.ensures.0 c.if-not-is_child_place.false) in
    let up = c.get_u64.ensures ∙ ap (λ at. get page (at + 48) 8) c.place-at.ensures in
    record {
      next = right;
      rising = rises_after base_cmp base_total (λ k. base_in page (place k)) i before.rising (test.0 c.if-not-is_before.false);
      places = below_more (λ k. IsChildPlace page (place k)) i before.places here;
      within = each_next (λ k. (child_in page (place k)).mirror ≤ c.args.mirror) i c.loop-i.within _ before.within
          (same_mirror page (place i) c.args.mirror c.get_u64.result up);
    }

pub returns-then-not-is_bound-clause-none : goal.returns-then-not-is_bound-clause-none
returns-then-not-is_bound-clause-none c =
    let page = c.args.page.now in
    let last : c.loop-i.i ≡ c.args.count = omega arith in
    let right = c.loop-i.invariant.next ∙ ap (λ (k : ℕ). base_in page (place k)) last in
    λ all. refuted c.is_bound.result c.if-not-is_bound.true c.is_bound.ensures.1 (subst IsBound (sym right) all.right)

pub returns-clause-some : goal.returns-clause-some
returns-clause-some c =
    let page = c.args.page.now in
    let passed = c.loop-i.invariant in
    let last : c.loop-i.i ≡ c.args.count = omega arith in
    let right = passed.next ∙ ap (λ (k : ℕ). base_in page (place k)) last in
    let children = λ (k : ℕ). child_in page (place k) in (
      record {
        rising = rising_fewer base_cmp (λ k. base_in page (place k)) (c.args.count + 1) (c.loop-i.i + 1) (omega arith) passed.rising;
        right = subst IsBound right (c.is_bound.ensures.0 c.if-not-is_bound.false);
        places = λ k low. passed.places k (omega arith);
        outside = subst (λ (at : ℕ). IsZeroOutside page (at + 40)) c.place.ensures (c.is_zero_outside.ensures.0 c.if-not-is_zero_outside.false);
      },
      (
        λ is. first_all children (λ (x : Child). x.mirror ≤ c.args.mirror) c.args.count (λ k low. passed.within.0 is k (omega arith)),
        λ all. passed.within.1 (λ k low. all_first children (λ (x : Child). x.mirror ≤ c.args.mirror) c.args.count all k (omega arith)),
      ),
    )
