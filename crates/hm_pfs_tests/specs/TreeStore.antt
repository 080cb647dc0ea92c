-- The room of a store over a tree.
use Rattle.std.specs.Prelude.{ℕ, ◌^◌, if◌then◌else◌, nat_eq}
use Rattle.hm_types.specs.declared.zone.TheConstants.{META_ZONE}

-- so much in zone 9, and in each other zone more than any call takes
abbrev pub rooms : ℕ → ℕ → ℕ
rooms payloads zone = if nat_eq zone META_ZONE then payloads else 2 ^ 20
