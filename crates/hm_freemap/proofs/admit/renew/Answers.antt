use Rattle.std.proofs.Common.{◌≡◌, ◌∙◌, ◌^◌, ◌<◌, slice_index, refl, arith}
use Rattle.hm_freemap.specs.Renew.{lacks_at}
use Rattle.hm_freemap.proofs.CountLemmas.{bit, bit_one, bool_bit}
use Rattle.hm_freemap.proofs.StepLemmas.{first_more, told_step}
use Rattle.hm_freemap.proofs.admit.renew.Goals as goal

pub loop-k-preserved : goal.loop-k-preserved
loop-k-preserved g c =
    let lack = c.args.lacking.now in
    let k = c.loop-k.k in
    let next = c.loop-k.next in
    let invariant = c.loop-k.invariant in
    let same = c.in_ok-renew_one.ensures.same in
    let bits : c.from-next.result ≡ bit (lacks_at lack k) = c.from-next.ensures ∙ bool_bit (lacks_at lack k) in
    let more = first_more lack k (omega (arith, c.told-lacking)) in
    let small : slice_index c.args.fresh.now next < 2 ^ 32 = omega (arith, c.requires.fresh next (omega (arith, invariant.few)), c.ranges.bigblocks.fits) in
    record {
      next = omega (arith, invariant.next, more, bits);
      few = omega (arith, invariant.few, bits, bit_one (lacks_at lack k));
      below = c.in_ok-renew_one.ensures.below invariant.below;
      told = rw bits (told_step lack c.args.fresh.now k next c.args.append.now c.loop-k.append c.renew_one.new.append (lacks_at lack k)
          (slice_index c.args.fresh.now next)
          (g.P.Pages.pages c.args.pages.now) (g.P.Pages.pages c.loop-k.pages) (g.P.Pages.pages c.renew_one.new.pages)
          (omega arith) c.told-lacking invariant.next refl refl small invariant.told c.in_ok-renew_one.ensures.ok);
      committed = same.0 ∙ invariant.committed;
      frozen = same.1 ∙ invariant.frozen;
      layer2 = same.2 ∙ invariant.layer2;
      others = c.in_ok-renew_one.ensures.rest ∙ invariant.others;
      name = c.in_ok-renew_one.ensures.name ∙ invariant.name;
      frame = c.in_ok-renew_one.ensures.frame ∙ invariant.frame;
      faults = omega (arith, invariant.faults, c.in_ok-renew_one.ensures.cause.counted.never_falls);
    }
