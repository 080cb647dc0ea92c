use Rattle.std.proofs.Common.{Option, Some, sym, subst}
use Rattle.std.specs.Prelude.{IfSome}
use Rattle.hm_key.specs.Job.{ComesFurther}
use Rattle.hm_reblock.specs.Stages.{LeadsOn, place_at}
use Rattle.hm_reblock.specs.declared.stage.Left.{Left}
use Rattle.hm_reblock.specs.declared.stage.Stage.{Stage}
use Rattle.hm_reblock.specs.declared.stage.Stage.TheVariants.{Collect}
use Rattle.hm_reblock.proofs.StageLemmas.{further_collected}
use Rattle.hm_reblock.proofs.reblock.Reblock.try_collect.Goals as goal

pub returns-clause-further : goal.returns-clause-further
returns-clause-further g c =
    let known = c.collect.new.known.items in
    let next = c.in_ok-next.next in
    let left = c.in-Some.left in
    let walk = c.args.self.now.walk in
    let leads : IfSome (Some left) (λ l. LeadsOn known l.element (Collect next) l.stage) =
    subst (λ (o : Option Left). IfSome o (λ l. LeadsOn known l.element (Collect next) l.stage)) c.in-Some.is c.in_ok-left.ensures.leads in
    subst (λ (s : Stage). ComesFurther (place_at walk s) (place_at walk left.stage)) (sym c.requires.stage)
    (further_collected walk known left.element c.args.from.now next left.stage c.in_ok-next.ensures.further leads)
