-- The space of a volume: what an extent takes, the room of zones, and what a call needs of it.
use Rattle.std.specs.Prelude.{◌≡◌, ℕ, ◌+◌, ◌-◌, ◌*◌, ◌/◌, ◌<◌, ◌≤◌, Bool, ◌&&◌, if◌then◌else◌, false, nat_eq, nat_lt, ◌==◌, bit_and, IsTrue}
use Rattle.hm_types.specs.Zones.{bits_of}
use Rattle.hm_types.specs.declared.zones.Zones.{Zones}
use Rattle.hm_types.specs.declared.fault.SpaceFault.{SpaceFault}
use Rattle.hm_types.specs.declared.fault.SpaceFault.TheVariants.{NoSpace, Fault as of_store}
use Rattle.hm_types.specs.declared.space.TheConstants.{TREE_RESERVE, PAYLOAD_RESERVE}
use Rattle.hm_types.specs.declared.zone.TheConstants.{TREE_ZONE, META_ZONE, LARGE_ZONE, SMALL_ZONE}

-- how many bytes of space so many bytes take: extents are multiples of 16
abbrev pub rounded : ℕ → ℕ
rounded len = (len + 15) / 16 * 16

-- a zone that payloads stand in: 9, 10 or 11
abbrev pub IsPayloadZone : ℕ → Type 0
IsPayloadZone zone = (META_ZONE ≤ zone) × (zone ≤ SMALL_ZONE)

-- the set has the flag with this bit
abbrev pub has_flag : Zones → ℕ → Bool
has_flag zones bit = bit_and (bits_of zones) bit == bit

-- the set names the zone: 1 stands for zone 8, 2 for zone 9, 4 for zone 10, and 8 for zone 11
abbrev pub names_zone : Zones → ℕ → Bool
names_zone zones zone =
    if nat_eq zone TREE_ZONE then has_flag zones 1 else (if nat_eq zone META_ZONE then has_flag zones 2 else
    (if nat_eq zone LARGE_ZONE then has_flag zones 4 else (if nat_eq zone SMALL_ZONE then has_flag zones 8 else false)))

-- how many bytes of room a call finds in a zone that it names, after it was admitted
abbrev pub reserve_of : ℕ → ℕ
reserve_of zone = if nat_eq zone TREE_ZONE then TREE_RESERVE else PAYLOAD_RESERVE

-- 1 for a zone that is named and has less room than its reserve, else 0
abbrev pub need_of : Zones → (ℕ → ℕ) → ℕ → ℕ
need_of zones room zone = if names_zone zones zone && nat_lt (room zone) (reserve_of zone) then 1 else 0

-- the number of named zones that have less room than their reserve: each needs a new big-block
abbrev pub needed : Zones → (ℕ → ℕ) → ℕ
needed zones room = need_of zones room TREE_ZONE + need_of zones room META_ZONE + need_of zones room LARGE_ZONE + need_of zones room SMALL_ZONE

-- nothing, in each zone
abbrev pub nothing : ℕ → ℕ
nothing zone = 0

-- so many bytes in one zone, and nothing in the others
abbrev pub in_zone : ℕ → ℕ → ℕ → ℕ
in_zone one bytes zone = if nat_eq zone one then bytes else 0

-- the room of each zone fell by at most so many bytes, and no free big-block went away
pub record Spends {S : Type 0} (room_of : S → ℕ → ℕ) (free_of : S → ℕ) (most : ℕ → ℕ) (old new : S) : Type 0 where
  pub room : (zone : ℕ) → room_of old zone ≤ room_of new zone + most zone
  pub free : free_of old ≤ free_of new

-- The zones got what they needed, each a free big-block, while `held` of these were held back. A big-block that is
-- replaced while nothing in it is live is free at once, so that fewer may be gone than were needed.
pub record Admits {S : Type 0} (room_of : S → ℕ → ℕ) (free_of : S → ℕ) (zones : Zones) (held : ℕ) (old new : S) : Type 0 where
  pub enough : needed zones (room_of old) ≤ free_of old - held
  pub no_more : free_of new ≤ free_of old
  pub paid : free_of old ≤ free_of new + needed zones (room_of old)
  pub reserve : (zone : ℕ) → IsTrue (names_zone zones zone) → reserve_of zone ≤ room_of new zone

-- too few big-blocks are free for what the zones need: these are both numbers
pub record LacksSpace (zones : Zones) (held : ℕ) (room_of : ℕ → ℕ) (free_of : ℕ) (told_free told_needed : ℕ) : Type 0 where
  pub free : told_free ≡ free_of
  pub needed : told_needed ≡ needed zones room_of
  pub lacks : free_of - held < told_needed

-- a fact of both numbers, where space lacks
abbrev pub IfNoSpace : (ℕ → ℕ → Type 0) → SpaceFault → Type 0
IfNoSpace P (NoSpace free needed) = P free needed
IfNoSpace P (of_store fault) = Unit {0}
