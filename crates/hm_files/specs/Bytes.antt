-- Bytes of a file, from an offset on.
use Rattle.std.specs.Prelude.{◌≡◌, ◌⊎◌, ℕ, ◌+◌, ◌-◌, ◌*◌, ◌/◌, ◌^◌, ◌<◌, ◌≤◌, List, length, take, drop, slice_index, min}
use Rattle.std.specs.List.{Contains}
use Rattle.hm_types.specs.declared.limits.TheConstants.{BLOCK_BYTES}
use Rattle.hm_key.specs.Counts.{Content, Counts}
use Rattle.hm_key.specs.declared.element.Element.{Element}
use Rattle.hm_records.specs.View.{AreFileBytes, IsFileByte}
use Rattle.hm_cursor.specs.Told.{Lists, fulls}

-- these are bytes of a file of a size, from an offset on
pub record AreBytesFrom (counts : Content) (pfs obj size offset : ℕ) (bytes : List ℕ) : Type 0 where
  pub each : (i : ℕ) → i < length bytes → IsFileByte counts pfs obj size (offset + i) (slice_index bytes i)

-- these are bytes from an offset on, of a payload that ends at `end`
pub record AreOf (end len : ℕ) (payload : List ℕ) (offset : ℕ) (bytes : List ℕ) : Type 0 where
  pub until : offset + length bytes ≤ end
  pub each : (i : ℕ) → i < length bytes → slice_index bytes i ≡ slice_index payload (offset + i + len - end)

-- A store is asked by keys of 8 bytes. What it shows of a file is found up to `end` where a block more still has such a
-- key, or where no element has a greater one.
abbrev pub IsReached : List Element → ℕ → Type 0
IsReached es end = (end + BLOCK_BYTES ≤ 2 ^ 64) ⊎ ((e : Element) → Contains es e → e.base.key < 2 ^ 64)

-- how many bytes of a file of a size stand from an offset on, of so many that are asked for
abbrev pub count_from : ℕ → ℕ → ℕ → ℕ
count_from size offset asked = min asked (size - offset)

-- what is read of a file of a size from an offset on, as of `t`
abbrev pub AreBytesRead : ℕ → ℕ → ℕ → ℕ → ℕ → List ℕ → Lists → Type 0
AreBytesRead t pfs obj size offset bytes lists =
    IsReached lists.0 (offset + length bytes) → AreBytesFrom (Counts (fulls lists) t) pfs obj size offset bytes

-- of whatever bytes the file has that the elements show, it is those from the offset on, at most so many as are asked for
abbrev pub AreShown : ℕ → ℕ → ℕ → ℕ → ℕ → ℕ → List ℕ → Lists → Type 0
AreShown t pfs obj size offset asked bytes lists =
    IsReached lists.0 (offset + length bytes) → (content : List ℕ) → AreFileBytes (Counts (fulls lists) t) pfs obj size content
    → bytes ≡ take asked (drop offset content)

-- where the block ends that has a byte
abbrev pub block_end : ℕ → ℕ
block_end x = x / BLOCK_BYTES * BLOCK_BYTES + BLOCK_BYTES

-- where the block begins that has a byte
abbrev pub block_start : ℕ → ℕ
block_start x = x / BLOCK_BYTES * BLOCK_BYTES
