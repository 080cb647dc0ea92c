-- What is written into a file.
use Rattle.std.specs.Prelude.{◌≡◌, ℕ, List, replicate, slice_index}
use Rattle.hm_types.specs.declared.limits.TheConstants.{BLOCK_BYTES}
use Rattle.hm_files.specs.declared.source.Source.{Source}
use Rattle.hm_files.specs.declared.source.Source.TheVariants.{Bytes, Filled}

-- the bytes that are written
abbrev pub bytes_of : Source → List ℕ
bytes_of (Bytes bytes) = bytes.now
bytes_of (Filled block len) = replicate len (slice_index block.now 0)

-- a block of one byte has no other
abbrev pub IsSource : Source → Type 0
IsSource (Bytes bytes) = Unit {0}
IsSource (Filled block len) = block.now ≡ replicate BLOCK_BYTES (slice_index block.now 0)
