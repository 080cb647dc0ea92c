use Rattle.std.proofs.Common.{◌≡◌, List, Option, Some, refl, ap, sym, subst, ◌∙◌}
use Rattle.std.specs.Prelude.{IfSome, is_some}
use Rattle.hm_key.specs.Elements.{element_at, element_key}
use Rattle.hm_key.specs.declared.element.Element.{Element}
use Rattle.hm_key.proofs.SweepLemmas.{held_live}
use Rattle.hm_reblock.proofs.AwayLemmas.{apart_copied, away_moved}
use Rattle.hm_reblock.proofs.RelocateLemmas.{held_told, relocates}
use Rattle.hm_reblock.proofs.extent.move_first.Goals as goal

pub readdress_element-requires-clause-held : goal.readdress_element-requires-clause-held
readdress_element-requires-clause-held g c =
    let e = c.args.element.now in
    let elements = g.T.HasElements.elements in
    let extents = g.T.HasRoom.extents in
    let was = c.args.store.now in
    let copies = c.in_ok-to.ensures.ok in
    held_told e c.in_ok-to.to (extents was) (extents c.copy_extent.new.store) copies.told
    (held_live e (elements was) (extents was) (extents was) (g.met.T.Extents.together was) refl c.requires.balanced c.requires.there) copies.extents

pub returns-clause-ok : goal.returns-clause-ok
returns-clause-ok g c =
    let was = c.args.store.now in
    let mid = c.copy_extent.new.store in
    let copies = c.in_ok-to.ensures.ok in
    relocates g.T.HasElements.elements g.T.HasElements.mark g.T.HasRoom.extents c.args.element.now c.in_ok-to.to was mid c.readdress_element.new.store
    copies.elements copies.mark copies.extents copies.told c.requires.there (g.met.T.Extents.live was) (g.met.T.Extents.live mid)
    c.in_ok-readdress_element.ensures.ok

pub returns-clause-away : goal.returns-clause-away
returns-clause-away g c =
    let e = c.args.element.now in
    let elements = g.T.HasElements.elements in
    let extents = g.T.HasRoom.extents in
    let was = c.args.store.now in
    let mid = c.copy_extent.new.store in
    let copies = c.in_ok-to.ensures.ok in
    let there : IfSome (elements mid) (λ es. element_at (element_key e) es ≡ Some e) =
    subst (λ (o : Option (List Element)). IfSome o (λ es. element_at (element_key e) es ≡ Some e)) (sym copies.elements) c.requires.there in
    away_moved e c.in_ok-to.to (elements mid) (elements c.readdress_element.new.store) c.in_ok-readdress_element.ensures.ok.elements there
    (apart_copied e c.in_ok-to.to (elements mid) (extents was) (extents mid) (g.met.T.Extents.together was ∙ ap is_some (sym copies.elements)) copies.extents)
