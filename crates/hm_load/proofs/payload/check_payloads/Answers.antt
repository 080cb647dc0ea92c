use Rattle.std.proofs.Common.{◌≡◌, ◌<◌, ◌≤◌, List, Some, get_or, length, refl, slice_get, subst, ◌∙◌, arith}
use Rattle.std.proofs.lemmas.Option.{slice_get_read}
use Rattle.hm_key.specs.declared.element.Element.{Element}
use Rattle.hm_load.proofs.PayloadLemmas.{payloads_all, payloads_more}
use Rattle.hm_load.proofs.StoreLemmas.{told_both, told_so, told_was}
use Rattle.hm_load.proofs.payload.check_payloads.Goals as goal

pub loop-i-preserved : goal.loop-i-preserved
loop-i-preserved g c =
    let items = c.args.leaf.now.places.items in
    let e = c.index-deref-i.result in
    let low : c.loop-i.i < length items = omega (arith, c.loop-i-test.true, c.len-i-end.ensures.value) in
    let here : e ≡ get_or items c.loop-i.i e = subst (λ (xs : List Element). e ≡ get_or xs c.loop-i.i e) c.deref.ensures.0 c.index-deref-i.is in
    let at : slice_get items c.loop-i.i ≡ Some e = slice_get_read items (length items) c.loop-i.i e refl low here in
    record {
      told = c.is_payload.ensures.same ∙ c.loop-i.invariant.told;
      crashes = c.is_payload.ensures.crashes ∙ c.loop-i.invariant.crashes;
      counted = omega (arith, c.loop-i.invariant.counted, c.in_ok-is_payload.ensures.cause.counted.never_falls);
      payloads = told_both (g.D.Disk.told c.args.disk.now)
          (λ t before both. payloads_more t.bytes c.args.volume.now.bigblocks c.loop-i.i items e at before (both.0 c.if-not-branch.false))
          c.loop-i.invariant.payloads (told_was _ _ _ c.loop-i.invariant.told c.in_ok-is_payload.ensures.ok);
    }

pub returns-clause-ok : goal.returns-clause-ok
returns-clause-ok g c =
    let all : length c.args.leaf.now.places.items ≤ c.loop-i.i = omega (arith, c.len-i-end.ensures.value, c.loop-i-test.false) in
    told_so (g.D.Disk.told c.args.disk.now) (λ t payloads. payloads_all t.bytes c.args.volume.now.bigblocks c.loop-i.i c.args.leaf.now.places.items all
    payloads) c.loop-i.invariant.payloads
