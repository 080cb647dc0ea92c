use Rattle.std.proofs.Common.{List, Option, Some, None, subst, sym}
use Rattle.std.specs.Prelude.{IfSome}
use Rattle.hm_key.specs.declared.element.Element.{Element}
use Rattle.hm_reblock.specs.Choice.{IsStill, StandsStill}
use Rattle.hm_reblock.specs.Moving.{IsAway}
use Rattle.hm_reblock.proofs.AwayLemmas.{away_known, away_none}
use Rattle.hm_reblock.proofs.RelocateLemmas.{relocates_none}
use Rattle.hm_reblock.proofs.reblock.Reblock.move_known.Goals as goal

pub returns-in-None-clause-ok : goal.returns-in-None-clause-ok
returns-in-None-clause-ok g c =
    relocates_none g.T.HasElements.elements g.T.HasElements.mark g.T.HasRoom.extents c.args.known.now.payload c.args.to c.args.store.now c.still.new.store
    c.still.ensures.keeps c.requires.twins

pub returns-in-None-clause-away : goal.returns-in-None-clause-away
returns-in-None-clause-away g c =
    let known = c.args.known.now in
    let choice = c.args.self.now.choice in
    let elements = g.T.HasElements.elements in
    let extents = g.T.HasRoom.extents in
    let was = c.args.store.now in
    let stands : IfSome (elements was) (λ es. StandsStill choice es known None) =
    subst (λ (f : Option Element). IfSome (elements was) (λ es. StandsStill choice es known f)) c.in-None.is c.in_ok-element.ensures.ok in
    subst (λ (o : Option (List Element)). IfSome o (IsAway known.payload known)) (sym c.still.ensures.keeps.elements)
    (away_none choice known (elements was) (extents was) (g.met.T.Extents.together was) c.requires.balanced (g.met.T.Extents.live was) c.requires.lies stands)

pub returns-in-Some-clause-away : goal.returns-in-Some-clause-away
returns-in-Some-clause-away g c =
    let known = c.args.known.now in
    let choice = c.args.self.now.choice in
    let e = c.in-Some.element in
    let found : IfSome (Some e) (IsStill choice known) =
    subst (λ (o : Option Element). IfSome o (IsStill choice known)) c.in-Some.is c.in_ok-element.ensures.found in
    away_known c.move_sharer.result choice known e (g.T.HasElements.elements c.move_sharer.new.store) found c.move_sharer.ensures.away
