-- The extents of payloads while a call is open: those that the elements at its beginning refer to, and what the call
-- did with them since.
use Rattle.std.specs.Prelude.{ℕ, List, [], ◌∷◌, Option, Some, None}
use Rattle.hm_types.specs.Space.{rounded}
use Rattle.hm_key.specs.Extents.{Extent, extent_at, given_back_at, shared_at, with_extent}
use Rattle.hm_key.specs.declared.element.Element.{Element}
use Rattle.hm_image.specs.Image.{bytes_at}
use Rattle.hm_stored.specs.declared.change.Change.{Change}
use Rattle.hm_stored.specs.declared.change.Change.TheVariants.{Placed, Shared, GivenBack}

-- an extent of so many bytes at an offset, with one reference. Its bytes are on the disk, and stand in none of these
-- lists
abbrev pub one_of : ℕ → ℕ → Extent
one_of at len = record { at = at; len = rounded len; bytes = []; refs = 1 }

-- one more element refers to an extent: to one that others refer to, or to another one
abbrev pub referred_at : ℕ → ℕ → Option Extent → List Extent → List Extent
referred_at at len None xs = with_extent (one_of at len) xs
referred_at at len (Some x) xs = shared_at at xs

-- the extents of the payloads of elements, with as many references as elements refer to each
unfoldable pub places_of : List Element → List Extent
places_of [] = []
places_of (e ∷ es) = referred_at e.payload e.len (extent_at e.payload (places_of es)) (places_of es)

-- what one change makes of them
abbrev pub after_change : Change → List Extent → List Extent
after_change (Placed at len) xs = with_extent (one_of at len) xs
after_change (Shared at) xs = shared_at at xs
after_change (GivenBack at) xs = given_back_at at xs

-- what some make of them, the first one first
unfoldable pub after_changes : List Change → List Extent → List Extent
after_changes [] xs = xs
after_changes (c ∷ cs) xs = after_changes cs (after_change c xs)

-- an extent with its bytes on a disk
abbrev pub filled : List ℕ → Extent → Extent
filled bytes x = record x { bytes = bytes_at bytes x.at x.len }
