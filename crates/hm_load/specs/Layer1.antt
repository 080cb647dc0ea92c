-- Layer 1 in the bytes of a volume, and in a piece of them.
use Rattle.std.specs.Prelude.{◌≡◌, ℕ, ◌+◌, ◌*◌, ◌/◌, ◌<◌, List, slice_range}
use Rattle.hm_types.specs.Layout.{start_of}
use Rattle.hm_types.specs.Offset.{raw_of}
use Rattle.hm_types.specs.declared.damage.TheConstants.{BAD_FREEMAP}
use Rattle.hm_types.specs.declared.limits.TheConstants.{PAGE_BYTES}
use Rattle.hm_types.specs.declared.zone.TheConstants.{FREEMAP_ZONE}
use Rattle.hm_fields.specs.Fields.{get}
use Rattle.hm_freemap.specs.Layer1.{layer1_bytes, layer1_of}
use Rattle.hm_image.specs.Sound.{layer1_entries}
use Rattle.hm_load.specs.Faults.{IsFirstBad}
use Rattle.hm_load.specs.declared.layer1.TheConstants.{ENTRIES_PER_PAGE}

-- bytes have this entry of layer 1 at a place
abbrev pub HasOffset : List ℕ → ℕ → ℕ → ℕ → Type 0
HasOffset bytes at bigblocks i = slice_range bytes at (at + 32) ≡ layer1_bytes (layer1_of bigblocks i)

-- bytes have three words of zeros from a place on
abbrev pub HasThreeZeros : List ℕ → ℕ → Type 0
HasThreeZeros bytes at = (get bytes at 8 ≡ 0) × (get bytes (at + 8) 8 ≡ 0) × (get bytes (at + 16) 8 ≡ 0)

-- a volume has this entry of layer 1
abbrev pub HasLayer1Entry : List ℕ → ℕ → ℕ → Type 0
HasLayer1Entry image bigblocks i = HasOffset image (start_of 1 + 32 * i) bigblocks i

-- a piece that begins with this entry has the one so far from it
abbrev pub IsInPiece : ℕ → ℕ → List ℕ → ℕ → Type 0
IsInPiece bigblocks first bytes k = HasOffset bytes (k * 32) bigblocks (first + k)

-- the offset of the page with an entry
abbrev pub layer1_page : ℕ → ℕ
layer1_page i = raw_of FREEMAP_ZONE (start_of 1 + i / ENTRIES_PER_PAGE * PAGE_BYTES)

-- the first damage of layer 1
pub record IsLayer1Damage (image : List ℕ) (bigblocks at kind : ℕ) : Type 0 where
  pub i : ℕ
  pub low : i < layer1_entries
  pub first : IsFirstBad (HasLayer1Entry image bigblocks) i
  pub place : at ≡ layer1_page i
  pub number : kind ≡ BAD_FREEMAP
