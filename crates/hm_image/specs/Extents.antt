-- The live extents of the payloads of some elements, read from the bytes of an image.
use Rattle.std.specs.Prelude.{ℕ, if◌then◌else◌, List, [], ◌∷◌, All, is_some, length, map}
use Rattle.hm_types.specs.References.{AreFew, IsPlaced, NoneOverlap}
use Rattle.hm_types.specs.Space.{rounded}
use Rattle.hm_header.specs.Range.{HasRoom}
use Rattle.hm_key.specs.Extents.{Extent, extent_at, shared_at, with_extent}
use Rattle.hm_key.specs.declared.element.Element.{Element}
use Rattle.hm_image.specs.Image.{bytes_at, to_payload}
use Rattle.hm_image.specs.Sound.{IsAmongPayloads}

-- the extent of an element's payload, with the reference of this element
abbrev pub extent_of : List ℕ → Element → Extent
extent_of image e = record {
  at = e.payload;
  len = rounded e.len;
  bytes = bytes_at image e.payload (rounded e.len);
  refs = 1;
}

-- one more element: it refers to the extent at its payload, and brings it where there is none
abbrev pub with_payload_of : List ℕ → Element → List Extent → List Extent
with_payload_of image e xs =
    if is_some (extent_at e.payload xs) then shared_at e.payload xs else with_extent (extent_of image e) xs

-- the extents of the payloads of some elements, in the order of their places, each with as many references as elements
-- refer to it
abbrev pub extents_of : List ℕ → List Element → List Extent
extents_of image [] = []
extents_of image (e ∷ es) = with_payload_of image e (extents_of image es)

-- payloads of elements that may stand where they do, in an image with so many big-blocks
pub record HavePlaces (image : List ℕ) (bigblocks : ℕ) (es : List Element) : Type 0 where
  pub room : HasRoom (length image) bigblocks
  pub zones : All IsAmongPayloads es
  pub placed : All (IsPlaced bigblocks) (map to_payload es)
  pub apart : NoneOverlap (map to_payload es)
  pub few : AreFew (map to_payload es)
