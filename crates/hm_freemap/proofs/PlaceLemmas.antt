-- Where entries stand: two of them share no byte.
use Rattle.std.proofs.Common.{◌≡◌, ◌≢◌, ℕ, ◌+◌, ◌%◌, ◌^◌, ◌<◌, ◌≤◌, inl, inr, ⊎_elim, arith}
use Rattle.std.proofs.lemmas.Bool.{cases_lt}
use Rattle.hm_types.specs.Offset.{zone_of}
use Rattle.hm_types.specs.declared.zone.TheConstants.{FREEMAP_ZONE}
use Rattle.hm_fields.specs.Fields.{Apart}
use Rattle.hm_freemap.specs.Places.{page_of, place_of}

-- a page of layer 2 is in the zone of the freemap
pub page_zone : (block : ℕ) → block < 2 ^ 32 → zone_of (page_of block) ≡ FREEMAP_ZONE
unfolding page_of
page_zone block below = omega arith

-- two entries in one page stand apart, and so do their fields
pub places_apart : (a b k size : ℕ) → a ≢ b → page_of a ≡ page_of b → k + size ≤ 16 → Apart (place_of a) 16 (place_of b + k) size
unfolding page_of place_of
places_apart a b k size other same within =
    ⊎_elim
    (λ low. inl (omega arith))
    (λ high. inr (omega (arith, high)))
    (cases_lt (a % 256) (b % 256))
