-- An entry of layer 2: how it stands in a page, and which entries there are.
use Rattle.std.specs.Prelude.{◌≡◌, ◌⊎◌, ℕ, ◌+◌, ◌%◌, ◌<◌, ◌≤◌, List, ◌++◌, slice_range, pos}
use Rattle.std.specs.Int.{w32, cast_signed, cast_unsigned}
use Rattle.byteorder.specs.Endian.{little_bytes}
use Rattle.hm_types.specs.Layout.{IsPool, first_undo, first_pool}
use Rattle.hm_types.specs.References.{unit_of}
use Rattle.hm_types.specs.declared.limits.TheConstants.{BIGBLOCK_BYTES}
use Rattle.hm_types.specs.declared.zone.TheConstants.{VOLUME_ZONE, UNDO_ZONE, FREEMAP_ZONE, TREE_ZONE, SMALL_ZONE, UNAVAILABLE_ZONE}
use Rattle.hm_fields.specs.Fields.{get}
use Rattle.hm_freemap.specs.declared.entry.Entry.{Entry}
use Rattle.hm_freemap.specs.declared.entry.TheConstants.{UNUSED}

-- the 16 bytes of an entry
unfoldable pub entry_bytes : Entry → List ℕ
entry_bytes e =
    little_bytes 1 e.zone ++ (little_bytes 3 0 ++ (little_bytes 4 e.append_off
    ++ (little_bytes 4 (cast_unsigned w32 e.bytes_free) ++ little_bytes 4 0)))

-- the entry stands in a page, from a place on
abbrev pub SpellsEntry : List ℕ → ℕ → Entry → Type 0
SpellsEntry page at e = slice_range page at (at + 16) ≡ entry_bytes e

-- The entry in the 16 bytes from a place on, whether or not it keeps any rule. The zone and the zeros after it are
-- read as one number: it is the number of a zone only where they are zeros.
unfoldable pub entry_in : List ℕ → ℕ → Entry
entry_in page at = record {
  zone = get page at 4;
  append_off = get page (at + 4) 4;
  bytes_free = cast_signed w32 (get page (at + 8) 4);
}

-- the entry of a big-block of the pool that belongs to a zone
pub record IsOwned (e : Entry) : Type 0 where
  pub zone : (TREE_ZONE ≤ e.zone) × (e.zone ≤ SMALL_ZONE)
  pub append : e.append_off ≤ BIGBLOCK_BYTES
  pub unit : e.append_off % unit_of e.zone ≡ 0

-- the entry of one that was never begun
pub record IsUnused (e : Entry) : Type 0 where
  pub zone : e.zone ≡ UNUSED
  pub append : e.append_off ≡ 0
  pub free : e.bytes_free ≡ pos BIGBLOCK_BYTES

-- a zone that no space is handed out in: of header slots, the UNDO log, the freemap, or past the end of the volume
abbrev pub IsReservedZone : ℕ → Type 0
IsReservedZone zone = (zone ≡ VOLUME_ZONE) ⊎ (zone ≡ UNDO_ZONE) ⊎ (zone ≡ FREEMAP_ZONE) ⊎ (zone ≡ UNAVAILABLE_ZONE)

-- the entry of a big-block in such a zone
pub record IsReserved (e : Entry) : Type 0 where
  pub zone : IsReservedZone e.zone
  pub append : e.append_off ≡ 0
  pub free : e.bytes_free ≡ pos 0

-- an entry of a big-block of the pool
abbrev pub IsPoolEntry : Entry → Type 0
IsPoolEntry e = IsOwned e ⊎ IsUnused e

-- an entry in range
abbrev pub IsEntry : Entry → Type 0
IsEntry e = IsPoolEntry e ⊎ IsReserved e

-- an entry in range stands in a page, from a place on, and zeros after it
pub record HoldsEntry (page : List ℕ) (at : ℕ) : Type 0 where
  pub entry : IsEntry (entry_in page at)
  pub zero : get page (at + 12) 4 ≡ 0

-- an entry may be that of a big-block, on a volume of so many
pub record IsEntryOf (bigblocks block : ℕ) (e : Entry) : Type 0 where
  pub entry : IsEntry e
  pub headers : block ≡ 0 → e.zone ≡ VOLUME_ZONE
  pub freemap : 1 ≤ block → block < first_undo bigblocks → e.zone ≡ FREEMAP_ZONE
  pub undo : first_undo bigblocks ≤ block → block < first_pool bigblocks → e.zone ≡ UNDO_ZONE
  pub pool : IsPool bigblocks block → IsPoolEntry e
  pub past : bigblocks ≤ block → first_pool bigblocks ≤ block → e.zone ≡ UNAVAILABLE_ZONE
