use Rattle.std.proofs.Common.{Some, Option, subst, ◌∙◌, arith}
use Rattle.hm_key.specs.Job.{ComesFurther}
use Rattle.hm_key.specs.Sweep.{place_from}
use Rattle.hm_key.specs.declared.base.Base.{Base}
use Rattle.hm_prune.specs.Dead.{keeps_in}
use Rattle.hm_prune.proofs.PruneLemmas.{further_both, loses_both, prunes_both, spends_both}
use Rattle.hm_prune.proofs.prune.Prune.remove_some.Goals as goal

pub loop-preserved : goal.loop-preserved
loop-preserved g c =
    let invariant = c.loop.invariant in
    let last = c.in_ok-step-2.ensures in
    let came = subst (λ (o : Option Base). ComesFurther (place_from (Some c.args.from.now)) (place_from o)) c.in-Some.is invariant.further in
    record {
      prunes = prunes_both g.T.HasElements.elements g.T.HasElements.mark g.T.HasRoom.extents
          (keeps_in c.args.self.now.pfs.0 c.args.self.now.kept) c.args.store.now c.loop.store c.step-in-loop.new.store invariant.prunes last.ok;
      space = spends_both c.args.store.now c.loop.store c.step-in-loop.new.store invariant.space last.space;
      further = further_both c.args.from.now c.in-Some.at c.in_ok-step-2.step.next came last.further;
      few = omega (arith, last.one, c.if-step-ge-MOST_REMOVED.false);
      loses = loses_both c.loop.step.removed c.in_ok-step-2.step.removed _ (g.T.HasElements.elements c.args.store.now)
          (g.T.HasElements.elements c.loop.store) (g.T.HasElements.elements c.step-in-loop.new.store) invariant.loses last.few (omega arith);
      name = last.name ∙ invariant.name;
      frame = last.frame ∙ invariant.frame;
      faults = omega (arith, last.cause.counted.never_falls, invariant.faults);
    }
