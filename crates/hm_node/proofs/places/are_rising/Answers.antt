use Rattle.std.proofs.Common.{◌≡◌, ℕ, ◌+◌, ◌-◌, ap, refl, ◌∙◌, arith}
use Rattle.hm_node.specs.Base.{base_in, base_cmp}
use Rattle.hm_node.specs.Places.{place}
use Rattle.hm_node.proofs.BrokenLemmas.{refuted}
use Rattle.hm_node.proofs.PlaceLemmas.{base_total, rising_fewer, rising_next}
use Rattle.hm_node.proofs.WalkLemmas.{none_rises, rises_more, next_order}
use Rattle.hm_node.proofs.places.are_rising.Goals as goal

pub returns-then-not-is_next : goal.returns-then-not-is_next
returns-then-not-is_next c =
    let i = c.loop-i.i in
    let bases = λ (k : ℕ). base_in c.args.page.now (place k) in
    let base = c.read_base-base.ensures ∙ ap (base_in c.args.page.now) c.place-in-loop-i.ensures in
    let next = next_order i c.is_next.result c.loop-i.before c.read_base-base.result _ _ c.loop-i.invariant.last base c.is_next.ensures in (
      λ is. absurd cc,
      λ sorted. absurd (refuted c.is_next.result c.if-not-is_next.true next.1
          (λ some. rising_next base_cmp bases i c.args.count some (omega arith) sorted)),
    )

pub loop-i-init : goal.loop-i-init
loop-i-init c = record {
  last = λ some. absurd (omega arith);
  rising = none_rises base_cmp base_total (λ k. base_in c.args.page.now (place k));
}

pub loop-i-preserved : goal.loop-i-preserved
loop-i-preserved c =
    let i = c.loop-i.i in
    let bases = λ (k : ℕ). base_in c.args.page.now (place k) in
    let base = c.read_base-base.ensures ∙ ap (base_in c.args.page.now) c.place-in-loop-i.ensures in
    let next = next_order i c.is_next.result c.loop-i.before c.read_base-base.result _ _ c.loop-i.invariant.last base c.is_next.ensures in
    let back : i + 1 - 1 ≡ i = omega arith in
    record {
      last = λ some. rw back base;
      rising = rises_more base_cmp base_total bases i c.loop-i.invariant.rising (next.0 c.if-not-is_next.false);
    }

pub returns : goal.returns
returns c = (
  λ is. rising_fewer base_cmp (λ k. base_in c.args.page.now (place k)) c.args.count c.loop-i.i (omega arith) c.loop-i.invariant.rising,
  λ sorted. refl,
)
