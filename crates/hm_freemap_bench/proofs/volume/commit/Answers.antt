use Rattle.std.proofs.Common.{◌≡◌, ◌∙◌, ◌&&◌, ◌^◌, ◌<◌, ℕ, List, Option, Bool, true, is_some, ap, eq-eqb, nat_eq, arith}
use Rattle.hm_types.specs.Offset.{zone_of}
use Rattle.hm_types.specs.declared.zone.TheConstants.{FREEMAP_ZONE}
use Rattle.hm_fields.specs.Pages.{PageMap}
use Rattle.hm_pages.specs.Sets.{in_freemap}
use Rattle.hm_pages.specs.Store.{contents}
use Rattle.hm_freemap.specs.Places.{page_of}
use Rattle.hm_freemap.proofs.PlaceLemmas.{page_zone}
use Rattle.hm_freemap_bench.proofs.volume.commit.Goals as goal

both : (a b : Bool) → a ≡ true → b ≡ true → (a && b) ≡ true
both a b first second = ap (λ (x : Bool). x && b) first ∙ second

pub returns : goal.returns
returns c = record {
  there = λ block low.
      let at = page_of block in
      let committed : (contents c.commit.new.self).committed ≡ (contents c.args.pages.now).current =
      c.commit.ensures.committed ∙ c.in_ok-freeze.ensures.ok.frozen in
      both (in_freemap at) (is_some ((contents c.commit.new.self).committed at))
      (eq-eqb (zone_of at) FREEMAP_ZONE (page_zone block (omega arith)))
      (ap (λ (map : PageMap). is_some (map at)) committed ∙ c.requires.there block low);
}
