-- What becomes of the entry of a big-block as bytes of it become live or free.
use Rattle.std.specs.Prelude.{◌≡◌, ℕ, ◌+◌, ◌-◌, ◌^◌, ◌≤◌, min, ℤ, pos, ◌+ℤ◌, ◌-ℤ◌, ◌≤ℤ◌}
use Rattle.std.specs.Int.{w32, saturate_signed}
use Rattle.hm_types.specs.declared.limits.TheConstants.{BIGBLOCK_BYTES}
use Rattle.hm_freemap.specs.declared.entry.Entry.{Entry}

-- a number of bytes that fits 31 bits, or the greatest such number
abbrev pub fitted : ℕ → ℕ
fitted size = min size (2 ^ 31 - 1)

-- so many bytes fewer or more are free: what would not fit the field stays at its end
abbrev pub fewer : ℤ → ℕ → ℤ
fewer free size = saturate_signed w32 (free -ℤ pos (fitted size))

abbrev pub more : ℤ → ℕ → ℤ
more free size = saturate_signed w32 (free +ℤ pos (fitted size))

-- a big-block of the zone has so many bytes left
pub record HasRoomFor (zone size : ℕ) (e : Entry) : Type 0 where
  pub same : e.zone ≡ zone
  pub room : e.append_off + size ≤ BIGBLOCK_BYTES

-- an extent of so many bytes may be live in the big-block: no more bytes are free than it leaves
pub record MayHold (size : ℕ) (e : Entry) : Type 0 where
  pub leaves : (e.bytes_free +ℤ pos size) ≤ℤ pos BIGBLOCK_BYTES

-- an extent was appended
abbrev pub appended : ℕ → Entry → Entry
appended size e = record { zone = e.zone; append_off = e.append_off + size; bytes_free = fewer e.bytes_free size }

-- an extent has one reference more
abbrev pub shared : ℕ → Entry → Entry
shared size e = record { zone = e.zone; append_off = e.append_off; bytes_free = fewer e.bytes_free size }

-- an extent has one reference less
abbrev pub given : ℕ → Entry → Entry
given size e = record { zone = e.zone; append_off = e.append_off; bytes_free = more e.bytes_free size }
