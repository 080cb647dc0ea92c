-- The records of pseudo file systems, and the one spelling of each: 32 bytes, and 16 for each interval of
-- its retention. A number stands with its lowest byte first.
use Rattle.std.specs.Prelude.{◌≡◌, ◌≢◌, ℕ, ◌+◌, ◌*◌, ◌%◌, ◌^◌, ◌<◌, ◌≤◌, Bool, IsTrue, if◌then◌else◌, List, [], ◌∷◌, ◌++◌, length, replicate}
use Rattle.std.specs.List.{flat_map, AllByRecursion}
use Rattle.byteorder.specs.Endian.{little_bytes}
use Rattle.hm_types.specs.Intervals.{Keeps, open_end}
use Rattle.hm_types.specs.declared.limits.TheConstants.{MOST_INTERVALS}
use Rattle.hm_retain.specs.Retention.{IsRetention}
use Rattle.hm_records.specs.declared.pfs_record.PfsRecord.{PfsRecord}
use Rattle.hm_records.specs.declared.pfs_record.TheConstants.{HEAD_BYTES, INTERVAL_BYTES, MASTER, SLAVE}

-- The retention has an open end. An interval that holds the greatest id ends with it, and it is the last
-- one, since intervals rise.
abbrev pub IsOpen : List (ℕ × ℕ) → Type 0
IsOpen retention = Keeps retention open_end

-- the last interval has an open end
abbrev pub EndsOpen : List (ℕ × ℕ) → Type 0
EndsOpen [] = ⊥
EndsOpen (interval ∷ []) = interval.1 ≡ open_end
EndsOpen (interval ∷ next ∷ more) = EndsOpen (next ∷ more)

-- no interval has an open end
abbrev pub NoneEndsOpen : List (ℕ × ℕ) → Type 0
NoneEndsOpen list = AllByRecursion (λ interval. interval.1 ≢ open_end) list

-- each end of each interval fits 8 bytes
abbrev pub AreIds : List (ℕ × ℕ) → Type 0
AreIds list = AllByRecursion (λ interval. (interval.0 < 2 ^ 64) × (interval.1 < 2 ^ 64)) list

-- a size that a record may have, in bytes
pub record IsPfsSize (size : ℕ) : Type 0 where
  pub least : HEAD_BYTES ≤ size
  pub most : size ≤ HEAD_BYTES + INTERVAL_BYTES * MOST_INTERVALS
  pub whole : size % INTERVAL_BYTES ≡ 0

-- what a master, or else a slave, may have: a master has no sync end, and its last interval has an open end;
-- no interval of a slave has
pub record FitsRole (master : Bool) (sync_end : ℕ) (retention : List (ℕ × ℕ)) : Type 0 where
  pub no_sync_end : IsTrue master → sync_end ≡ 0
  pub master_is_open : IsTrue master → IsOpen retention
  pub slave_is_not : ¬ IsTrue master → ¬ IsOpen retention

-- a record whose fields are in range
pub record IsPfsRecord (r : PfsRecord) : Type 0 where
  pub shared : r.shared < 2 ^ 64
  pub sync_end : r.sync_end.0 < 2 ^ 64
  pub retention : IsRetention r.retention
  pub role : FitsRole r.master r.sync_end.0 r.retention

-- the number of a master's kind, or of a slave's
abbrev pub role_of : Bool → ℕ
role_of master = if master then MASTER else SLAVE

-- the first 32 bytes of a record, each field with its place
unfoldable pub head_bytes : PfsRecord → List ℕ
head_bytes r =
    (role_of r.master ∷ [])  -- 0
    ++ replicate 7 0  -- 1
    ++ little_bytes 8 r.shared  -- 8
    ++ little_bytes 8 r.sync_end.0  -- 16
    ++ little_bytes 4 (length r.retention)  -- 24
    ++ replicate 4 0  -- 28

-- the bytes of an interval: its first and its last id
unfoldable pub interval_bytes : ℕ × ℕ → List ℕ
interval_bytes interval = little_bytes 8 interval.0 ++ little_bytes 8 interval.1

-- the bytes of intervals, one after the other
abbrev pub intervals_bytes : List (ℕ × ℕ) → List ℕ
intervals_bytes list = flat_map interval_bytes list

-- the bytes of a record
unfoldable pub pfs_bytes : PfsRecord → List ℕ
pfs_bytes r = head_bytes r ++ intervals_bytes r.retention
