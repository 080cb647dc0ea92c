use Rattle.std.proofs.Common.{◌≡◌, List, Option, Some, refl, ap, sym, subst, ◌∙◌}
use Rattle.std.specs.Prelude.{IfSome, is_some}
use Rattle.hm_key.specs.Elements.{element_at, element_key}
use Rattle.hm_key.specs.declared.element.Element.{Element}
use Rattle.hm_key.specs.Balance.{IsHeld}
use Rattle.hm_key.proofs.SweepLemmas.{held_live}
use Rattle.hm_reblock.proofs.AwayLemmas.{apart_told, away_given}
use Rattle.hm_reblock.proofs.RelocateLemmas.{held_told, relocates_given, shared_told, twin_live}
use Rattle.hm_reblock.proofs.extent.move_sharer.Goals as goal

pub share-requires : goal.share-requires
share-requires g c =
    let e = c.args.element.now in
    let elements = g.T.HasElements.elements in
    let extents = g.T.HasRoom.extents in
    let was = c.args.store.now in
    record {
      live = twin_live e c.args.to (extents was) (g.met.T.Extents.live was)
          (held_live e (elements was) (extents was) (extents was) (g.met.T.Extents.together was) refl c.requires.balanced c.requires.there)
          c.requires.twins;
    }

pub readdress_element-requires-clause-held : goal.readdress_element-requires-clause-held
readdress_element-requires-clause-held g c =
    let e = c.args.element.now in
    let elements = g.T.HasElements.elements in
    let extents = g.T.HasRoom.extents in
    let was = c.args.store.now in
    let mid = c.share.new.self in
    let held : IfSome (extents was) (λ xs. IsHeld xs e) =
    held_live e (elements was) (extents was) (extents was) (g.met.T.Extents.together was) refl c.requires.balanced c.requires.there in
    let came = shared_told e c.args.to (extents was) (extents mid) c.in_ok-share.ensures.ok.extents held c.requires.twins in
    held_told e c.args.to (extents was) (extents mid) came.0 held came.1

pub returns-clause-ok : goal.returns-clause-ok
returns-clause-ok g c =
    let e = c.args.element.now in
    let elements = g.T.HasElements.elements in
    let extents = g.T.HasRoom.extents in
    let was = c.args.store.now in
    let mid = c.share.new.self in
    let held : IfSome (extents was) (λ xs. IsHeld xs e) =
    held_live e (elements was) (extents was) (extents was) (g.met.T.Extents.together was) refl c.requires.balanced c.requires.there in
    let shared = c.in_ok-share.ensures.ok in
    let came = shared_told e c.args.to (extents was) (extents mid) shared.extents held c.requires.twins in
    relocates_given elements g.T.HasElements.mark extents e c.args.to was mid c.readdress_element.new.store c.readdress_element.result
    shared.elements shared.mark came.1 came.0 c.requires.there (g.met.T.Extents.live was) (g.met.T.Extents.live mid) c.readdress_element.ensures.ok

pub returns-clause-away : goal.returns-clause-away
returns-clause-away g c =
    let e = c.args.element.now in
    let elements = g.T.HasElements.elements in
    let extents = g.T.HasRoom.extents in
    let was = c.args.store.now in
    let mid = c.share.new.self in
    let same = c.in_ok-share.ensures.ok.elements in
    let there : IfSome (elements mid) (λ es. element_at (element_key e) es ≡ Some e) =
    subst (λ (o : Option (List Element)). IfSome o (λ es. element_at (element_key e) es ≡ Some e)) (sym same) c.requires.there in
    away_given elements g.T.HasElements.mark extents c.readdress_element.result e c.args.to mid c.readdress_element.new.store
    c.readdress_element.ensures.ok there
    (apart_told e c.args.to (elements mid) (extents was) (g.met.T.Extents.together was ∙ ap is_some (sym same)) c.requires.twins)
