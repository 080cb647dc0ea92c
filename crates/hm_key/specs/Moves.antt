-- A reference more to an extent, to which an element can move.
use Rattle.std.specs.Prelude.{◌≡◌, ℕ, ◌+◌, nat_eq, false, List, take, Option, None, Some, IfSome}
use Rattle.hm_types.specs.Space.{rounded}
use Rattle.hm_key.specs.Extents.{Extent, extent_at}

-- how many elements may refer to an extent, if it is one
abbrev pub refs_of : Option Extent → ℕ
refs_of None = 0
refs_of (Some x) = x.refs

-- One reference more stands to an extent at an offset, which came or was there before. Its first bytes are these, and it
-- is as long as they need. All others stay.
pub record GainsReference (at len : ℕ) (bytes : List ℕ) (old new : List Extent) : Type 0 where
  pub extent : Extent
  pub there : extent_at at new ≡ Some extent
  pub size : extent.len ≡ rounded len
  pub begin : take len extent.bytes ≡ bytes
  pub more : extent.refs ≡ refs_of (extent_at at old) + 1
  pub same : IfSome (extent_at at old) (λ x. (extent.len ≡ x.len) × (extent.bytes ≡ x.bytes))
  pub others : (other : ℕ) → nat_eq other at ≡ false → extent_at other new ≡ extent_at other old
