use Rattle.std.proofs.Common.{Option, subst, sym}
use Rattle.std.specs.Prelude.{IfSome}
use Rattle.hm_reblock.specs.Stages.{LeadsOn, StandsOrComes, place_at, reblock_place}
use Rattle.hm_reblock.specs.declared.stage.Left.{Left}
use Rattle.hm_reblock.specs.declared.stage.Stage.{Stage}
use Rattle.hm_reblock.proofs.StageLemmas.{place_kept}
use Rattle.hm_reblock.proofs.reblock.Reblock.next_zone.Goals as goal

pub returns-clause-place : goal.returns-clause-place
returns-clause-place g c =
    let j = c.args.self.now in
    let k = c.go_on.new.self in
    let left = c.in-Some.left in
    let goes = c.in_ok-go_on.ensures.ok in
    let leads =
    subst (λ (o : Option Left). IfSome o (λ l. LeadsOn j.known.items l.element j.stage l.stage)) c.in-Some.is c.in_ok-left.ensures.leads in
    subst (λ (stage : Stage). StandsOrComes (reblock_place j) (place_at k.walk stage)) (sym goes.to)
    (place_kept j.walk k.walk j.known.items left.element j.stage left.stage leads (λ no. (goes.same no).0) goes.anew)
