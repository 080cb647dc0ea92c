-- Where offsets of a fresh volume lie.
use Rattle.std.proofs.Common.{◌≡◌, ◌⊎◌, inl, inr, ℕ, ◌+◌, ◌^◌, ◌<◌, ◌≤◌, arith}
use Rattle.std.proofs.lemmas.Bool.{cases_lt}
use Rattle.hm_types.specs.Layout.{block_of, first_pool, layer2_blocks, start_of}
use Rattle.hm_types.specs.Offset.{byte_of, raw_of, volume_of, zone_of}
use Rattle.hm_types.specs.declared.limits.TheConstants.{BIGBLOCK_BYTES}
use Rattle.hm_header.specs.Range.{IsSize}

-- a volume has one big-block of layer 2, or two
pub layer2_is : (bigblocks : ℕ) → IsSize bigblocks → (layer2_blocks bigblocks ≡ 1) ⊎ (layer2_blocks bigblocks ≡ 2)
layer2_is bigblocks size =
    elim (cases_lt bigblocks 524289) [
      | inl lt ↦ inl (omega arith)
      | inr le ↦ inr (omega arith)
    ]

-- so the pool begins at big-block 11 or 12, with room for four big-blocks
pub pool_is : (bigblocks : ℕ) → IsSize bigblocks → (11 ≤ first_pool bigblocks) × (first_pool bigblocks ≤ 12) × (first_pool bigblocks + 4 ≤ bigblocks)
pool_is bigblocks size =
    elim (layer2_is bigblocks size) [
      | inl one ↦ omega arith
      | inr two ↦ omega arith
    ]

-- the parts of an offset
pub zone_is : (zone byte : ℕ) → byte < 2 ^ 52 → zone_of (raw_of zone byte) ≡ zone
zone_is zone byte few = omega arith

pub volume_is : (zone byte : ℕ) → byte < 2 ^ 52 → volume_of (raw_of zone byte) ≡ 0
volume_is zone byte few = omega arith

pub byte_is : (zone byte : ℕ) → byte < 2 ^ 52 → byte_of (raw_of zone byte) ≡ byte
byte_is zone byte few = omega arith

-- a byte of a big-block lies in it
pub block_is : (block byte : ℕ) → byte < BIGBLOCK_BYTES → block_of (start_of block + byte) ≡ block
block_is block byte few = omega arith
