-- A page of the freemap is put in place of the one that stands there.
use Rattle.std.proofs.Common.{◌≡◌, ◌∙◌, ap, sym, arith, eq-eqb, true, is_some}
use Rattle.hm_types.specs.Offset.{zone_of}
use Rattle.hm_types.specs.declared.zone.TheConstants.{FREEMAP_ZONE}
use Rattle.hm_pages.specs.Sets.{in_freemap}
use Rattle.hm_pages.specs.Store.{contents}
use Rattle.hm_stored.proofs.ChangeLemmas.{some_map}
use Rattle.hm_stored.proofs.SpotLemmas.{tried_spots}
use Rattle.hm_stored.proofs.pages.VolumePagesPages.change.Goals as goal

pub returns-clause-rest : goal.returns-clause-rest
returns-clause-rest c =
    let old = contents c.args.self.now.store in
    let there : is_some (old.current c.args.at) ≡ true =
    ap (λ o. is_some o) (sym c.look.ensures) ∙ (some_map (λ p. p.now) c.look.result ∙ c.if-is_none.ensures) in
    let layer : in_freemap c.args.at ≡ true =
    eq-eqb (zone_of c.args.at) FREEMAP_ZONE (grind (arith, c.zone.ensures.value, c.if-zone-ne-FREEMAP_ZONE.false)) in
    tried_spots c.args.at c.args.with.now old (contents c.change.new.self) c.change.result there layer c.change.ensures.changed c.change.ensures.unchanged
