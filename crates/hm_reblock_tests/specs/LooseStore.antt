-- The room of a store over a tree.
use Rattle.std.specs.Prelude.{ℕ, if◌then◌else◌, nat_eq}
use Rattle.hm_types.specs.declared.zone.TheConstants.{LARGE_ZONE, META_ZONE, SMALL_ZONE}

-- so much in the zones 9, 10 and 11, and in each other zone what the tree has
abbrev pub loose_rooms : ℕ → ℕ → ℕ → (ℕ → ℕ) → ℕ → ℕ
loose_rooms meta large small tree zone =
    if nat_eq zone META_ZONE then meta else (if nat_eq zone LARGE_ZONE then large else (if nat_eq zone SMALL_ZONE then small else tree zone))
