-- The stages of a flush: which is due, how far it brings the flush, and what it does to the disk.
use Rattle.std.specs.Prelude.{◌≡◌, ℕ, ◌+◌, ◌-◌, ◌<◌, Bool, false, true, List, [], ◌∷◌, nat_lt, slice_index, if◌then◌else◌}
use Rattle.hm_types.specs.declared.limits.TheConstants.{PAGE_BYTES, UNDO_ENTRY_BYTES}
use Rattle.hm_types.specs.Offset.{byte_of}
use Rattle.hm_disk.specs.Crash.{Told, MayLeave}
use Rattle.hm_disk.specs.Disk.{Synced}
use Rattle.hm_disk.specs.Transfer.{UnsettlesAtMost}
use Rattle.hm_header.specs.Change.{IsCounting, StageDone}
use Rattle.hm_undo.specs.Log.{entry_at, entry_place}
use Rattle.hm_flush.specs.declared.change.Change.{Change}
use Rattle.hm_flush.specs.declared.change.Change.TheVariants.{Close, Write, Open}
use Rattle.hm_flush.specs.declared.flush.Flush.{Flush}
use Rattle.hm_flush.specs.declared.flush.Position.{Position}
use Rattle.hm_flush.specs.declared.flush.Position.TheVariants.{Idle, Undoing, Arming, Placing, Committing}
use Rattle.hm_flush.specs.declared.stage.Stage.{Stage}
use Rattle.hm_flush.specs.declared.stage.Stage.TheVariants.{Freeze, Undo, UndoSync, Arm, Place, PlaceSync, Commit}
use Rattle.hm_flush.specs.Change.{change_asks, change_brings, change_number, change_range}
use Rattle.hm_flush.specs.Device.{IsPageWritten, IsSaved}
use Rattle.hm_flush.specs.Flush.{due_change, next_generation, header_to_write}
use Rattle.hm_flush.specs.Group.{Group, next_live}

-- the stage that is due at each position: each live page is saved, and then each page placed
abbrev pub due_stage_at : Position → Flush → Group → Stage
due_stage_at Idle f g = Freeze
due_stage_at (Undoing from) f g =
    if nat_lt (next_live g.was_live from (f.pages - from)) f.pages then Undo (next_live g.was_live from (f.pages - from)) else UndoSync
due_stage_at (Arming change) f g = Arm (change_number change)
due_stage_at (Placing i) f g = if nat_lt i f.pages then Place i else PlaceSync
due_stage_at (Committing change) f g = Commit (change_number change)

abbrev pub due_stage : Flush → Group → Stage
due_stage f g = due_stage_at f.at f g

-- the number of a page, where a stage has one, is that of one of so many
abbrev pub IsNumbered : Stage → ℕ → Type 0
IsNumbered Freeze pages = Unit {0}
IsNumbered (Undo i) pages = i < pages
IsNumbered UndoSync pages = Unit {0}
IsNumbered (Arm number) pages = Unit {0}
IsNumbered (Place i) pages = i < pages
IsNumbered PlaceSync pages = Unit {0}
IsNumbered (Commit number) pages = Unit {0}

-- the flush after a stage of Arm: the last makes the armed header the one that counts
abbrev pub armed : Change → Flush → Flush
armed Close f = record f { at = Arming Write }
armed Write f = record f { at = Arming (Open false) }
armed (Open tried) f = record f { header = header_to_write f; slot = 1 - f.slot; at = Placing 0 }

-- the flush after a stage of Commit: the last ends it
abbrev pub committed : Change → Flush → Flush
committed Close f = record f { at = Committing Write }
committed Write f = record f { at = Committing (Open false) }
committed (Open tried) f = record f { header = header_to_write f; slot = 1 - f.slot; at = Idle }

-- the flush in flight after this stage succeeded
abbrev pub moved_flush : Stage → Flush → Flush
moved_flush Freeze f = f
moved_flush (Undo i) f = record f { at = Undoing (i + 1); written = f.written + 1 }
moved_flush UndoSync f = record f { at = Arming Close }
moved_flush (Arm number) f = armed (due_change f.at) f
moved_flush (Place i) f = record f { at = Placing (i + 1) }
moved_flush PlaceSync f = record f { at = Committing Close }
moved_flush (Commit number) f = committed (due_change f.at) f

-- the entry that is written next
abbrev pub undo_range : Flush → ℕ × ℕ
undo_range f = (entry_place f.header.bigblocks (entry_at f.header.undo_next f.written), UNDO_ENTRY_BYTES)

-- where a frozen page belongs
abbrev pub place_range : Group → ℕ → ℕ × ℕ
place_range g i = (byte_of (slice_index g.places i), PAGE_BYTES)

-- the range that a stage writes: its place, and how many bytes it has. None is a range of no bytes.
abbrev pub stage_range : Stage → Flush → Group → ℕ × ℕ
stage_range Freeze f g = (0, 0)
stage_range (Undo i) f g = undo_range f
stage_range UndoSync f g = (0, 0)
stage_range (Arm number) f g = change_range (due_change f.at) f.slot
stage_range (Place i) f g = place_range g i
stage_range PlaceSync f g = (0, 0)
stage_range (Commit number) f g = change_range (due_change f.at) f.slot

abbrev pub range_of : Flush → Group → ℕ × ℕ
range_of f g = stage_range (due_stage f g) f g

-- what a stage asks for, of each image that a crash may leave, and keeps within itself and where it fails
abbrev pub asks_at : Position → Flush → List ℕ → Type 0
asks_at Idle f bytes = Unit {0}
asks_at (Undoing from) f bytes = Unit {0}
asks_at (Arming change) f bytes = change_asks change f.header f.slot (header_to_write f) bytes
asks_at (Placing i) f bytes = IsCounting f.header f.slot bytes
asks_at (Committing change) f bytes = change_asks change f.header f.slot (header_to_write f) bytes

abbrev pub asks : Flush → List ℕ → Type 0
asks f bytes = asks_at f.at f bytes

-- what a stage of a header change does
abbrev pub IsChangeMade : Flush → Told → Told → Type 0
IsChangeMade f old new =
    StageDone (change_brings (due_change f.at) f.header f.slot (header_to_write f)) (change_range (due_change f.at) f.slot).0
    (change_range (due_change f.at) f.slot).1 old new

-- what a stage that succeeded does to the disk, exactly
abbrev pub IsStageMade : Stage → Flush → Group → Told → Told → Type 0
IsStageMade Freeze f g old new = new ≡ old
IsStageMade (Undo i) f g old new = IsSaved (undo_range f).0 (next_generation f.header) (slice_index g.places i) old new
IsStageMade UndoSync f g old new = Synced old new
IsStageMade (Arm number) f g old new = IsChangeMade f old new
IsStageMade (Place i) f g old new = IsPageWritten g i old new
IsStageMade PlaceSync f g old new = Synced old new
IsStageMade (Commit number) f g old new = IsChangeMade f old new

-- a stage ends with a sync
abbrev pub is_synced : Stage → Bool
is_synced Freeze = false
is_synced (Undo i) = false
is_synced UndoSync = true
is_synced (Arm number) = true
is_synced (Place i) = false
is_synced PlaceSync = true
is_synced (Commit number) = true

-- A stage succeeded: it did to the disk what it does, and each byte outside its own range is as before, and settled where
-- it was so. After one that ends with a sync nothing is unsettled.
pub record MakesStage (stage : Stage) (f : Flush) (g : Group) (old new : Told) : Type 0 where
  pub made : IsStageMade stage f g old new
  pub others : MayLeave old.bytes (stage_range stage f g ∷ []) new.bytes
  pub unsettled : UnsettlesAtMost (stage_range stage f g).0 (stage_range stage f g).1 old new
  pub settled : is_synced stage ≡ true → new.unsettled ≡ []

-- so did the one that was due
abbrev pub DueStageMade : Flush → Group → Told → Told → Type 0
DueStageMade f g old new = MakesStage (due_stage f g) f g old new
