-- The live extents of a store, by their places, and what a call makes of them.
use Rattle.std.specs.Prelude.{◌≡◌, ℕ, ◌+◌, ◌-◌, ◌≤◌, if◌then◌else◌, nat_eq, nat_lt, List, [], ◌∷◌, length, take, Option, None, Some, All, ⊤}
use Rattle.hm_types.specs.Offset.{zone_of, volume_of, byte_of}
use Rattle.hm_types.specs.Space.{IsPayloadZone, rounded}

-- bytes of a file or of a record that are in use
pub record Extent : Type 0 where
  -- the offset of its first byte
  pub at : ℕ
  -- how many bytes it takes
  pub len : ℕ
  pub bytes : List ℕ
  -- how many elements may refer to it
  pub refs : ℕ

-- a live extent, with 1 to 64 references
pub record IsExtent (x : Extent) : Type 0 where
  pub volume : volume_of x.at ≡ 0
  pub zone : IsPayloadZone (zone_of x.at)
  pub some : 1 ≤ x.len
  pub whole : rounded x.len ≡ x.len
  pub bytes : length x.bytes ≡ x.len
  pub shared : (1 ≤ x.refs) × (x.refs ≤ 64)

-- the extents begin at byte `low` of the volume or later, and each ends before the next one begins
abbrev pub AreApart : ℕ → List Extent → Type 0
AreApart low [] = ⊤
AreApart low (x ∷ xs) = (low ≤ byte_of x.at) × AreApart (byte_of x.at + x.len) xs

-- the live extents of a store: disjoint, and in the order of their places
pub record AreExtents (xs : List Extent) : Type 0 where
  pub apart : AreApart 0 xs
  pub each : All IsExtent xs

-- the live extent at the offset, if there is one
abbrev pub extent_at : ℕ → List Extent → Option Extent
extent_at at [] = None
extent_at at (x ∷ xs) = if nat_eq x.at at then Some x else extent_at at xs

-- with a new extent, after all that stand before it in the volume
abbrev pub with_extent : Extent → List Extent → List Extent
with_extent new [] = new ∷ []
with_extent new (x ∷ xs) = if nat_lt (byte_of x.at) (byte_of new.at) then x ∷ with_extent new xs else new ∷ x ∷ xs

-- one more reference to the extent at the offset
abbrev pub shared_at : ℕ → List Extent → List Extent
shared_at at [] = []
shared_at at (x ∷ xs) = if nat_eq x.at at then record x { refs = x.refs + 1 } ∷ xs else x ∷ shared_at at xs

-- one reference less to the extent at the offset, which leaves the list with its last one
abbrev pub given_back_at : ℕ → List Extent → List Extent
given_back_at at [] = []
given_back_at at (x ∷ xs) =
    if nat_eq x.at at then (if nat_eq x.refs 1 then xs else record x { refs = x.refs - 1 } ∷ xs) else x ∷ given_back_at at xs

-- a place call put bytes into a new extent, which has one reference, at the offset
pub record PlacesAt (at : ℕ) (given : List ℕ) (old new : List Extent) : Type 0 where
  pub extent : Extent
  pub place : extent.at ≡ at
  pub size : extent.len ≡ rounded (length given)
  pub begin : take (length given) extent.bytes ≡ given
  pub one : extent.refs ≡ 1
  pub list : new ≡ with_extent extent old
