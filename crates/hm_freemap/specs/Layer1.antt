-- Layer 1: where the big-blocks of layer 2 are.
use Rattle.std.specs.Prelude.{◌≡◌, ◌⊎◌, ℕ, ◌+◌, ◌%◌, List, ◌++◌, if◌then◌else◌, nat_lt, replicate}
use Rattle.byteorder.specs.Endian.{little_bytes}
use Rattle.hm_types.specs.Layout.{first_layer2, layer2_blocks, start_of}
use Rattle.hm_types.specs.Offset.{zone_of, volume_of, byte_of, raw_of}
use Rattle.hm_types.specs.declared.limits.TheConstants.{BIGBLOCK_BYTES}
use Rattle.hm_types.specs.declared.zone.TheConstants.{FREEMAP_ZONE, UNAVAILABLE_ZONE}
use Rattle.hm_fields.specs.Fields.{get}

-- what stands in place of an offset where the volume has no big-block of layer 2
abbrev pub none_there : ℕ
none_there = raw_of UNAVAILABLE_ZONE 0

-- the 32 bytes of an entry: an offset and 24 zeros
unfoldable pub layer1_bytes : ℕ → List ℕ
layer1_bytes raw = little_bytes 8 raw ++ replicate 24 0

-- an offset in the freemap's zone at which a big-block begins
pub record IsBlockOffset (raw : ℕ) : Type 0 where
  pub zone : zone_of raw ≡ FREEMAP_ZONE
  pub volume : volume_of raw ≡ 0
  pub begin : byte_of raw % BIGBLOCK_BYTES ≡ 0

-- what may stand in an entry
abbrev pub IsLayer1 : ℕ → Type 0
IsLayer1 raw = IsBlockOffset raw ⊎ (raw ≡ none_there)

-- an offset in range stands in a page, from a place on, and zeros after it
pub record HoldsLayer1 (page : List ℕ) (at : ℕ) : Type 0 where
  pub offset : IsLayer1 (get page at 8)
  pub zero : (get page (at + 8) 8 ≡ 0) × (get page (at + 16) 8 ≡ 0) × (get page (at + 24) 8 ≡ 0)

-- entry `i` of a volume of so many big-blocks
abbrev pub layer1_of : ℕ → ℕ → ℕ
layer1_of bigblocks i = if nat_lt i (layer2_blocks bigblocks) then raw_of FREEMAP_ZONE (start_of (first_layer2 + i)) else none_there
