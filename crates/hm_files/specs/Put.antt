-- Bytes that are put into a file, or cut off it.
use Rattle.std.specs.Prelude.{◌≡◌, ◌≢◌, ◌↔◌, ℕ, ◌+◌, ◌*◌, ◌^◌, ◌<◌, ◌≤◌, List, if◌then◌else◌, length, min, nat_lt}
use Rattle.hm_types.specs.Bytes.{resized}
use Rattle.hm_types.specs.Elements.{FullElement}
use Rattle.hm_types.specs.Space.{in_zone}
use Rattle.hm_types.specs.declared.limits.TheConstants.{BLOCK_BYTES}
use Rattle.hm_types.specs.declared.space.TheConstants.{INSERT_ROOM}
use Rattle.hm_types.specs.declared.zone.TheConstants.{LARGE_ZONE, SMALL_ZONE, TREE_ZONE}
use Rattle.hm_key.specs.Counts.{Counts, Subject, bytes_subject, subject_of}
use Rattle.hm_records.specs.Follows.{StillFollow}
use Rattle.hm_records.specs.Payload.{IsPayload}
use Rattle.hm_records.specs.View.{AreFileBytes, IsFileByte}
use Rattle.hm_cursor.specs.Views.{WritesIn}
use Rattle.hm_cursor.specs.Write.{IsFreshFor}
use Rattle.hm_files.specs.Bytes.{block_end}
use Rattle.hm_files.specs.Close.{IsApart}

-- the zone of so many bytes: whole blocks stand apart from shorter ones
abbrev pub zone_of : ℕ → ℕ
zone_of len = if nat_lt len BLOCK_BYTES then SMALL_ZONE else LARGE_ZONE

-- a new element has bytes of a file, was made by `i`, and keeps the grammar of payloads
pub record IsBytesOf (pfs obj i : ℕ) (x : FullElement) : Type 0 where
  pub about : subject_of x.key ≡ bytes_subject pfs obj x.key.key
  pub made : x.key.create ≡ i
  pub payload : IsPayload x

-- From `i` on these bytes count in a block, from where it begins, and no others that did not count before. For all other
-- subjects the same counts, as of any id. What followed before follows still, so that no two elements of one block were made by
-- one id.
pub record PutsBlock (pfs obj i begin : ℕ) (bytes : List ℕ) (es es' : List FullElement) : Type 0 where
  pub writes : WritesIn pfs i (IsBytesOf pfs obj i) es es'
  pub there : (t : ℕ) → i ≤ t → Counts es' t (bytes_subject pfs obj (begin + length bytes)) bytes
  pub less : (t n : ℕ) (other : List ℕ) → i ≤ t → n ≢ begin + length bytes → Counts es' t (bytes_subject pfs obj n) other
      → Counts es t (bytes_subject pfs obj n) other
  pub beside : (t : ℕ) (s : Subject) (other : List ℕ) → IsApart pfs obj (begin + 1) (begin + BLOCK_BYTES + 1) s → Counts es' t s other ↔ Counts es t s other
  pub fresh : (n : ℕ) → n ≢ begin + length bytes → IsFreshFor (bytes_subject pfs obj n) i es → IsFreshFor (bytes_subject pfs obj n) i es'
  pub follows : StillFollow es es'

-- for what is about no bytes of an object the same counts, as of any id
abbrev pub KeepOthers : ℕ → ℕ → List FullElement → List FullElement → Type 0
KeepOthers pfs obj es es' = (t : ℕ) (s : Subject) (bytes : List ℕ) → s ≢ bytes_subject pfs obj s.key → Counts es' t s bytes ↔ Counts es t s bytes

-- From `i` on a file's bytes before an offset are as they were, whatever size it then has from there on, and from the offset on
-- they are zero in each block that ends by `until`.
pub record CutsBytes (pfs obj i size keep until : ℕ) (es es' : List FullElement) : Type 0 where
  pub writes : WritesIn pfs i (IsBytesOf pfs obj i) es es'
  pub kept : (t after x byte : ℕ) → i ≤ t → keep ≤ after → x < keep → IsFileByte (Counts es t) pfs obj size x byte
      → IsFileByte (Counts es' t) pfs obj after x byte
  pub zero : (t after x : ℕ) → i ≤ t → keep ≤ x → block_end x ≤ until → IsFileByte (Counts es' t) pfs obj after x 0
  pub fresh : (n : ℕ) → n ≢ keep → IsFreshFor (bytes_subject pfs obj n) i es → IsFreshFor (bytes_subject pfs obj n) i es'
  pub others : KeepOthers pfs obj es es'
  pub follows : StillFollow es es'

-- From `i` on a file of a size has another one, whatever bytes it had. From the lesser of both on all bytes are zero, so that
-- what was cut off, or what the old size hid, does not show in a longer file either.
pub record ResizesBytes (pfs obj i size new_size : ℕ) (es es' : List FullElement) : Type 0 where
  pub writes : WritesIn pfs i (IsBytesOf pfs obj i) es es'
  pub resizes : (t : ℕ) (content : List ℕ) → i ≤ t → AreFileBytes (Counts es t) pfs obj size content
      → AreFileBytes (Counts es' t) pfs obj new_size (resized new_size content)
  pub zero : (t after x : ℕ) → i ≤ t → min size new_size ≤ x → x + BLOCK_BYTES < 2 ^ 64 → IsFileByte (Counts es' t) pfs obj after x 0
  pub others : KeepOthers pfs obj es es'
  pub follows : StillFollow es es'

-- room for so many elements, each with a block of bytes
pub record HasBlockRoom (room : ℕ → ℕ) (blocks : ℕ) : Type 0 where
  pub tree : blocks * INSERT_ROOM ≤ room TREE_ZONE
  pub large : blocks * BLOCK_BYTES ≤ room LARGE_ZONE
  pub small : blocks * BLOCK_BYTES ≤ room SMALL_ZONE

-- what they take of each zone at most
abbrev pub block_space : ℕ → ℕ → ℕ
block_space blocks zone =
    in_zone TREE_ZONE (blocks * INSERT_ROOM) zone + (in_zone LARGE_ZONE (blocks * BLOCK_BYTES) zone + in_zone SMALL_ZONE (blocks * BLOCK_BYTES) zone)
