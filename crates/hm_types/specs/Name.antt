-- The names that a directory's entries may have.
use Rattle.std.specs.Prelude.{◌≡◌, ◌≢◌, ℕ, ◌+◌, ◌≤◌, ◌<◌, List, length, slice_index, codes, All}
use Rattle.hm_types.specs.declared.limits.TheConstants.{MOST_NAME_BYTES}

-- a byte that may stand in a name: no blank, no control byte, no slash and no delete
abbrev pub IsNameByte : ℕ → Type 0
IsNameByte b = (0x20 < b) × (b ≢ 0x2F) × (b ≢ 0x7F)

-- the sign `@`, two of which begin an id in a path
abbrev pub at_sign : ℕ
at_sign = 0x40

-- no `@@` stands in these bytes
abbrev pub LacksId : List ℕ → Type 0
LacksId bytes = (k : ℕ) → slice_index bytes k ≡ at_sign → slice_index bytes (k + 1) ≢ at_sign

-- a name of 1 to 255 bytes, without `@@`, and neither `.` nor `..`
pub record IsName (name : List ℕ) : Type 0 where
  pub size : (1 ≤ length name) × (length name ≤ MOST_NAME_BYTES)
  pub each : All IsNameByte name
  pub no_id : LacksId name
  pub no_dot : (name ≢ codes ".") × (name ≢ codes "..")
