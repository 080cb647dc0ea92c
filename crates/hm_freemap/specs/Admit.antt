-- What `admit` does: zones that lack room begin a new big-block each.
use Rattle.std.specs.Prelude.{◌≡◌, ◌≢◌, ℕ, ◌+◌, ◌-◌, ◌<◌, ◌≤◌, Bool, false, ◌&&◌, ◌⊎◌, nat_lt, List, [], ◌∷◌, slice_index, count_by, Option, Result}
use Rattle.std.specs.Prelude.{IfErr, IsTrue, pos}
use Rattle.std.specs.List.{range_with_len}
use Rattle.hm_types.specs.Faults.{HasSpaceCause}
use Rattle.hm_types.specs.Layout.{IsPool, first_pool}
use Rattle.hm_types.specs.Offset.{zone_of}
use Rattle.hm_types.specs.References.{References}
use Rattle.hm_types.specs.Space.{names_zone, reserve_of, Admits, LacksSpace}
use Rattle.hm_types.specs.declared.fault.SpaceFault.{SpaceFault}
use Rattle.hm_types.specs.declared.fault.SpaceFault.TheVariants.{NoSpace, Fault as of_store}
use Rattle.hm_types.specs.declared.limits.TheConstants.{BIGBLOCK_BYTES}
use Rattle.hm_types.specs.declared.zone.TheConstants.{TREE_ZONE, FREEMAP_ZONE}
use Rattle.hm_types.specs.declared.zones.Zones.{Zones}
use Rattle.hm_fields.specs.Pages.{PageMap}
use Rattle.hm_freemap.specs.Extents.{with_current}
use Rattle.hm_freemap.specs.Faults.{IsFreemapDamage}
use Rattle.hm_freemap.specs.Places.{page_of}
use Rattle.hm_freemap.specs.Space.{Space, free_at, room_at, space_of}
use Rattle.hm_freemap.specs.Stand.{Maps, WhereTold, StandBy, AreDistinct, AreOfPool, entry_of, entry_part, room_in, is_free_by, free_by}
use Rattle.hm_freemap.specs.declared.entry.Entry.{Entry}

-- a zone is named and has less room than its reserve
abbrev pub does_lack : Zones → (ℕ → ℕ) → ℕ → Bool
does_lack zones room zone = names_zone zones zone && nat_lt (room zone) (reserve_of zone)

-- the zones 8 to 11 that do
abbrev pub which_lack : Zones → (ℕ → ℕ) → List Bool
which_lack zones room = does_lack zones room 8 ∷ does_lack zones room 9 ∷ does_lack zones room 10 ∷ does_lack zones room 11 ∷ []

-- how many of the zones before the one with this place among the four do
abbrev pub lacking_before : Zones → (ℕ → ℕ) → ℕ → ℕ
lacking_before zones room k = count_by (does_lack zones room) (range_with_len TREE_ZONE k)

-- the entry of a big-block that a zone began
abbrev pub entry_begun : ℕ → Entry
entry_begun zone = record { zone = zone; append_off = 0; bytes_free = pos BIGBLOCK_BYTES }

-- how many big-blocks of the pool before one pass a test for free ones
abbrev pub free_before : ℕ → (ℕ → Bool) → ℕ → ℕ
free_before bigblocks test block = count_by test (range_with_len (first_pool bigblocks) (block - first_pool bigblocks))

-- the free big-block of the pool with so many free ones before it
pub record IsFreeAt (bigblocks : ℕ) (test : ℕ → Bool) (rank block : ℕ) : Type 0 where
  pub pool : IsPool bigblocks block
  pub free : IsTrue (test block)
  pub lower : free_before bigblocks test block ≡ rank

-- whether the zone with this place among the four lacks room
abbrev pub lacks_in : Zones → Space → ℕ → Bool
lacks_in zones space k = does_lack zones (room_at space) (TREE_ZONE + k)

-- Which big-blocks the four zones append to afterwards, where those that pass a test are free. In their order, each that
-- lacked room began the lowest free big-block that no zone before it began, and has all its bytes left. The others have
-- theirs still, and its room. The entry of each big-block that none began stays, with all its bytes, and so does each page
-- without an entry of one that was begun.
pub record BeginsLowest (bigblocks : ℕ) (zones : Zones) (test : ℕ → Bool) (old new : Space) : Type 0 where
  pub begun : (k : ℕ) → k < 4 → IsTrue (lacks_in zones old k)
      → IsFreeAt bigblocks test (lacking_before zones (room_at old) k) (slice_index new.append k)
  pub whole : (k : ℕ) → k < 4 → IsTrue (lacks_in zones old k) → room_at new (TREE_ZONE + k) ≡ BIGBLOCK_BYTES
  pub others : (k : ℕ) → k < 4 → lacks_in zones old k ≡ false → slice_index new.append k ≡ slice_index old.append k
  pub entries : (block : ℕ) → ((k : ℕ) → k < 4 → IsTrue (lacks_in zones old k) → slice_index new.append k ≢ block)
      → entry_of new.maps.current block ≡ entry_of old.maps.current block
  pub bytes : (block : ℕ) → ((k : ℕ) → k < 4 → IsTrue (lacks_in zones old k) → slice_index new.append k ≢ block)
      → entry_part new.maps.current block ≡ entry_part old.maps.current block
  pub elsewhere : (at : ℕ) → ((k : ℕ) → k < 4 → IsTrue (lacks_in zones old k) → page_of (slice_index new.append k) ≢ at)
      → new.maps.current at ≡ old.maps.current at
  pub room : (k : ℕ) → k < 4 → lacks_in zones old k ≡ false → room_at new (TREE_ZONE + k) ≡ room_at old (TREE_ZONE + k)

-- The zones have the room that they need: each that lacked it appends to a free big-block, in order the lowest, by the
-- maps. No room fell, and zones that appended to different big-blocks of the pool do so still. The freemap stands for the
-- same states, and only pages of the freemap changed.
pub record IsAdmitted (bigblocks : ℕ) (zones : Zones) (held : ℕ) (append append' : List ℕ) (maps : Maps) (now : PageMap) : Type 0 where
  pub pages : (at : ℕ) → zone_of at ≢ FREEMAP_ZONE → now at ≡ maps.current at
  pub admits : Admits room_at (free_at bigblocks) zones held (space_of append maps) (space_of append' (with_current now maps))
  pub lowest : BeginsLowest bigblocks zones (is_free_by append maps) (space_of append maps) (space_of append' (with_current now maps))
  pub room : (zone : ℕ) → room_in append maps.current zone ≤ room_in append' now zone
  pub distinct : AreDistinct append → AreDistinct append'
  pub pool : AreOfPool bigblocks append → AreOfPool bigblocks append'
  pub stand : (states : References) → StandBy bigblocks append maps states → StandBy bigblocks append' (with_current now maps) states

-- too few big-blocks are free, and nothing changed
pub record IsRefused (bigblocks : ℕ) (zones : Zones) (held : ℕ) (append : List ℕ) (maps : Maps) (now : PageMap) (free needed : ℕ) : Type 0 where
  pub same : now ≡ maps.current
  pub lacks : LacksSpace zones held (room_in append maps.current) (free_by bigblocks append maps) free needed

-- a big-block of the pool, or one that a zone appends to
abbrev pub IsLookedAt : ℕ → List ℕ → ℕ → Type 0
IsLookedAt bigblocks append block = IsPool bigblocks block ⊎ ((k : ℕ) × (k < 4) × (slice_index append k ≡ block))

-- a fault of a call that takes space tells damage of such a big-block
abbrev pub IsSpaceDamage : ℕ → List ℕ → Maps → SpaceFault → Type 0
IsSpaceDamage bigblocks append maps (NoSpace free needed) = Unit {0}
IsSpaceDamage bigblocks append maps (of_store fault) = IsFreemapDamage bigblocks append (IsLookedAt bigblocks append) maps fault

-- each fault of such a call has its cause
pub record HasAdmissionCause {T : Type 0} (bigblocks : ℕ) (append : List ℕ) (committed frozen current : Option PageMap) (old new : ℕ) (result : Result T SpaceFault) : Type 0 where
  pub counted : HasSpaceCause old new result
  pub damage : WhereTold committed frozen current (λ maps. IfErr result (IsSpaceDamage bigblocks append maps))
