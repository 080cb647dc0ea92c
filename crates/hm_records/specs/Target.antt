-- The target of a softlink, which is its own spelling.
use Rattle.std.specs.Prelude.{ℕ, ◌≤◌, List, length}
use Rattle.hm_types.specs.declared.limits.TheConstants.{MOST_TARGET_BYTES}

-- 1 to 1,023 bytes
abbrev pub IsTarget : List ℕ → Type 0
IsTarget target = (1 ≤ length target) × (length target ≤ MOST_TARGET_BYTES)

-- the bytes of a target
abbrev pub target_bytes : List ℕ → List ℕ
target_bytes target = target
