-- Which big-blocks of a volume serve what. Big-block 0 has the header slots, big-block 1 is layer 1 of the
-- freemap, then come its layer 2, the UNDO big-blocks and the pool.
use Rattle.std.specs.Prelude.{ℕ, ◌+◌, ◌*◌, ◌/◌, ◌≤◌, ◌<◌}
use Rattle.hm_types.specs.declared.limits.TheConstants.{BIGBLOCK_BYTES, UNDO_BIGBLOCKS}

-- how many big-blocks of a volume one big-block of layer 2 tells of
abbrev pub blocks_per_layer2 : ℕ
blocks_per_layer2 = 524288

-- the first big-block of layer 2
abbrev pub first_layer2 : ℕ
first_layer2 = 2

-- the number of big-blocks of layer 2, on a volume of so many: the last may tell of fewer than it could
abbrev pub layer2_blocks : ℕ → ℕ
layer2_blocks bigblocks = (bigblocks + 524287) / blocks_per_layer2

-- the first UNDO big-block
abbrev pub first_undo : ℕ → ℕ
first_undo bigblocks = first_layer2 + layer2_blocks bigblocks

-- a big-block of layer 2
abbrev pub IsLayer2 : ℕ → ℕ → Type 0
IsLayer2 bigblocks block = (first_layer2 ≤ block) × (block < first_undo bigblocks)

-- the first big-block of the pool
abbrev pub first_pool : ℕ → ℕ
first_pool bigblocks = first_undo bigblocks + UNDO_BIGBLOCKS

-- a big-block of the pool
abbrev pub IsPool : ℕ → ℕ → Type 0
IsPool bigblocks block = (first_pool bigblocks ≤ block) × (block < bigblocks)

-- the big-block in which a byte lies
abbrev pub block_of : ℕ → ℕ
block_of byte = byte / BIGBLOCK_BYTES

-- the first byte of a big-block
abbrev pub start_of : ℕ → ℕ
start_of block = block * BIGBLOCK_BYTES
