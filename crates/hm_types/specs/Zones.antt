-- A set of zones, as a contract sees it.
use Rattle.std.specs.Prelude.{ℕ}
use Rattle.hm_types.specs.declared.zones.Zones.{Zones}

-- the bits of a set: 1 for TREE, 2 for META, 4 for LARGE and 8 for SMALL
abbrev pub bits_of : Zones → ℕ
bits_of zones = zones.0
