use Rattle.std.proofs.Common.{◌≡◌, ◌+◌, ◌*◌, ◌/◌, ◌<◌, ℕ, true, is_some, ap, subst, arith}
use Rattle.hm_types.specs.Layout.{first_layer2, start_of}
use Rattle.hm_types.specs.Offset.{raw_of}
use Rattle.hm_types.specs.declared.limits.TheConstants.{PAGE_BYTES}
use Rattle.hm_types.specs.declared.zone.TheConstants.{FREEMAP_ZONE}
use Rattle.hm_pages.specs.Store.{contents}
use Rattle.hm_freemap.specs.Places.{page_of}
use Rattle.hm_freemap_bench.proofs.volume.fill.Goals as goal

-- the page of a big-block is that of the first one that it tells of
page_of_first : (block : ℕ) → page_of (block / 256 * 256) ≡ page_of block
unfolding page_of
page_of_first block =
    let same : block / 256 * 256 / 256 ≡ block / 256 = omega arith in
    ap (λ (n : ℕ). raw_of FREEMAP_ZONE (start_of first_layer2 + n * PAGE_BYTES)) same

pub returns-clause-there : goal.returns-clause-there
returns-clause-there c block low =
    subst (λ (at : ℕ). is_some ((contents c.loop-number.pages).current at) ≡ true) (page_of_first block)
    (c.loop-number.invariant.there (block / 256) (omega arith))
