-- The offsets of a volume. Bits 60 to 63 of a raw offset hold the zone, bits 52 to 59 the volume,
-- and bits 0 to 51 the byte, counted from the start of the volume.
use Rattle.std.specs.Prelude.{◌≡◌, ◌⊎◌, ℕ, ◌+◌, ◌*◌, ◌/◌, ◌%◌, ◌^◌, ◌≤◌}

-- the zone that a raw offset names
abbrev pub zone_of : ℕ → ℕ
zone_of raw = raw / 2 ^ 60

-- the volume that a raw offset names: HAMMER has up to 256 of them, and hammer has volume 0 alone
abbrev pub volume_of : ℕ → ℕ
volume_of raw = raw / 2 ^ 52 % 2 ^ 8

-- the byte that a raw offset names
abbrev pub byte_of : ℕ → ℕ
byte_of raw = raw % 2 ^ 52

-- the raw offset of a byte of volume 0, in a zone
abbrev pub raw_of : ℕ → ℕ → ℕ
raw_of zone byte = zone * 2 ^ 60 + byte

-- a zone that has a name: 1 to 4, 8 to 11, or 15
abbrev pub IsZone : ℕ → Type 0
IsZone zone = ((1 ≤ zone) × (zone ≤ 4)) ⊎ ((8 ≤ zone) × (zone ≤ 11)) ⊎ (zone ≡ 15)

-- a raw offset with a zone that has a name, in volume 0
abbrev pub IsOffset : ℕ → Type 0
IsOffset raw = IsZone (zone_of raw) × (volume_of raw ≡ 0)

-- the first byte of the volume, in the zone of the whole volume
abbrev pub volume_start : ℕ
volume_start = raw_of 1 0
