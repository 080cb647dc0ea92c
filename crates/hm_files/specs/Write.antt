-- Bytes that are written into a file.
use Rattle.std.specs.Prelude.{◌⊎◌, ℕ, ◌+◌, ◌-◌, ◌*◌, ◌/◌, ◌<◌, ◌≤◌, List, ◌++◌, drop, length, max, min, replicate, slice_index, take}
use Rattle.hm_types.specs.Elements.{FullElement}
use Rattle.hm_types.specs.declared.limits.TheConstants.{BLOCK_BYTES}
use Rattle.hm_key.specs.Counts.{Counts, bytes_subject}
use Rattle.hm_records.specs.Follows.{StillFollow}
use Rattle.hm_records.specs.View.{AreFileBytes, IsFileByte}
use Rattle.hm_cursor.specs.Views.{WritesIn}
use Rattle.hm_cursor.specs.Write.{IsFreshFor}
use Rattle.hm_files.specs.Bytes.{block_start}
use Rattle.hm_files.specs.Put.{IsBytesOf, KeepOthers}

-- From `i` on a file of a size, which has another one then, has these bytes from an offset on, all in one block. The rest of
-- that block is as it was, and what lies in it between the size and the offset is zero. In other blocks bytes are as they were,
-- for each size.
pub record PutsPiece (pfs obj i size after at : ℕ) (piece : List ℕ) (es es' : List FullElement) : Type 0 where
  pub writes : WritesIn pfs i (IsBytesOf pfs obj i) es es'
  pub put : (t x : ℕ) → i ≤ t → at ≤ x → x < at + length piece → IsFileByte (Counts es' t) pfs obj after x (slice_index piece (x - at))
  pub kept : (t x byte : ℕ) → i ≤ t → x < size → block_start at ≤ x → x < block_start at + BLOCK_BYTES → (x < at) ⊎ (at + length piece ≤ x)
      → IsFileByte (Counts es t) pfs obj size x byte → IsFileByte (Counts es' t) pfs obj after x byte
  pub zero : (t x : ℕ) → i ≤ t → size ≤ x → block_start at ≤ x → x < at → IsFileByte (Counts es' t) pfs obj after x 0
  pub beside : (t any x byte : ℕ) → i ≤ t → (x < block_start at) ⊎ (block_start at + BLOCK_BYTES ≤ x) → IsFileByte (Counts es t) pfs obj any x byte
      → IsFileByte (Counts es' t) pfs obj any x byte
  pub fresh : (n : ℕ) → block_start at + BLOCK_BYTES < n → IsFreshFor (bytes_subject pfs obj n) i es → IsFreshFor (bytes_subject pfs obj n) i es'
  pub others : KeepOthers pfs obj es es'
  pub follows : StillFollow es es'

-- From `i` on bytes can be written into a file of a size from an offset on. Those before the offset's block are as they were,
-- whatever size it then has that is no less and reaches up to that block, and zero past its size. Of the blocks from there on
-- that it reaches into, all is as it was.
pub record ClearsWay (pfs obj i size offset : ℕ) (es es' : List FullElement) : Type 0 where
  pub writes : WritesIn pfs i (IsBytesOf pfs obj i) es es'
  pub kept : (t after x byte : ℕ) → i ≤ t → size ≤ after → x < size → x < block_start offset → IsFileByte (Counts es t) pfs obj size x byte
      → IsFileByte (Counts es' t) pfs obj after x byte
  pub zero : (t after x : ℕ) → i ≤ t → size ≤ x → x < block_start offset → IsFileByte (Counts es' t) pfs obj after x 0
  pub ahead : (t x byte : ℕ) → i ≤ t → x < size → block_start offset ≤ x → IsFileByte (Counts es t) pfs obj size x byte
      → IsFileByte (Counts es' t) pfs obj size x byte
  pub fresh : (n : ℕ) → block_start offset < n → IsFreshFor (bytes_subject pfs obj n) i es → IsFreshFor (bytes_subject pfs obj n) i es'
  pub others : KeepOthers pfs obj es es'
  pub follows : StillFollow es es'

-- how many blocks have bytes from an offset on and before another one above it
abbrev pub block_count : ℕ → ℕ → ℕ
block_count offset end = (end - 1) / BLOCK_BYTES + 1 - offset / BLOCK_BYTES

-- up to where bytes are written that begin at an offset, when all blocks before one are done
abbrev pub reach : ℕ → ℕ → ℕ → ℕ
reach offset end block = min end (max offset (block * BLOCK_BYTES))

-- From `i` on a file of a size, which has another one then, has these bytes from an offset on, as far as they lie before a
-- block. The rest of the blocks from the offset's up to that one is as it was, and what lies in the offset's block between the
-- size and the offset is zero. In all other blocks bytes are as they were, for each size.
pub record PutsBefore (pfs obj i size after offset : ℕ) (new : List ℕ) (block : ℕ) (es es' : List FullElement) : Type 0 where
  pub writes : WritesIn pfs i (IsBytesOf pfs obj i) es es'
  pub put : (t x : ℕ) → i ≤ t → offset ≤ x → x < reach offset (offset + length new) block
      → IsFileByte (Counts es' t) pfs obj after x (slice_index new (x - offset))
  pub kept : (t x byte : ℕ) → i ≤ t → x < size → block_start offset ≤ x → x < block * BLOCK_BYTES → (x < offset) ⊎ (offset + length new ≤ x)
      → IsFileByte (Counts es t) pfs obj size x byte → IsFileByte (Counts es' t) pfs obj after x byte
  pub zero : (t x : ℕ) → i ≤ t → offset / BLOCK_BYTES < block → size ≤ x → block_start offset ≤ x → x < offset → IsFileByte (Counts es' t) pfs obj after x 0
  pub beside : (t any x byte : ℕ) → i ≤ t → (x < block_start offset) ⊎ (block * BLOCK_BYTES ≤ x) → IsFileByte (Counts es t) pfs obj any x byte
      → IsFileByte (Counts es' t) pfs obj any x byte
  pub fresh : (n : ℕ) → block * BLOCK_BYTES < n → IsFreshFor (bytes_subject pfs obj n) i es → IsFreshFor (bytes_subject pfs obj n) i es'
  pub others : KeepOthers pfs obj es es'
  pub follows : StillFollow es es'

-- the bytes of a file with others from an offset on, and zeros where that lies past their end
abbrev pub written : ℕ → List ℕ → List ℕ → List ℕ
written offset new bytes = take offset (bytes ++ replicate (offset - length bytes) 0) ++ (new ++ drop (offset + length new) bytes)

-- From `i` on a file of a size has these bytes from an offset on, whatever it had before, and zeros between the size and the
-- offset: what its old size hid does not show.
pub record WritesBytes (pfs obj i size offset : ℕ) (new : List ℕ) (es es' : List FullElement) : Type 0 where
  pub writes : WritesIn pfs i (IsBytesOf pfs obj i) es es'
  pub holds : (t : ℕ) (content : List ℕ) → i ≤ t → AreFileBytes (Counts es t) pfs obj size content
      → AreFileBytes (Counts es' t) pfs obj (max size (offset + length new)) (written offset new content)
  pub others : KeepOthers pfs obj es es'
  pub follows : StillFollow es es'
