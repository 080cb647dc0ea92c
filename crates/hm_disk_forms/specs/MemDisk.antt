-- A disk in memory: what its record of changes says that it holds, and what a call does to it.
use Rattle.std.specs.Prelude.{◌≡◌, ◌⊎◌, ℕ, ◌+◌, ◌/◌, ◌<◌, ◌≤◌, Bool, ◌&&◌, nat_le, if◌then◌else◌, IsTrue, List, [], ◌∷◌, ◌++◌, length, get_or, take, replicate, ◌↔◌, Result, Ok, Err, IsErr, OnOk, OnErr}
use Rattle.hm_types.specs.Calls.{Counts, IsNextListed, called, faulted, no_calls}
use Rattle.hm_disk.specs.Crash.{Told, MayLeave}
use Rattle.hm_disk.specs.Disk.{overwritten}
use Rattle.hm_disk_forms.specs.declared.change.Change.{Change}
use Rattle.hm_disk_forms.specs.declared.change.Change.TheVariants.{Write, Sync}

-- its size in bytes, all that changed it, from the first on, and its calls
pub record DiskState : Type 0 where
  pub size : ℕ
  pub changes : List Change
  pub calls : Counts

-- so many bytes, each of them 0
unfoldable pub zeros : ℕ → List ℕ
zeros size = replicate size 0

-- a disk of zeros that has had no call
abbrev pub blank_disk : ℕ → List ℕ → DiskState
blank_disk size fails = record { size = size; changes = []; calls = no_calls fails }

-- a write lies inside a disk of this size, and the bytes that it put lie in its range
abbrev pub fits : ℕ → ℕ → ℕ → List ℕ → Bool
fits size place count bytes = nat_le (place + count) size && nat_le (length bytes) count

-- a disk of this size may have recorded this change
abbrev pub FitsIn : ℕ → Change → Type 0
FitsIn size (Write place count bytes) = IsTrue (fits size place count bytes)
FitsIn size Sync = Unit {0}

-- what a disk tells after a write that put these bytes at the front of its range
abbrev pub written : ℕ → ℕ → List ℕ → Told → Told
written place count bytes told = record {
  bytes = overwritten told.bytes place bytes;
  unsettled = (place, count) ∷ told.unsettled;
  moment = told.moment;
}

-- what a disk tells after one more change, of which a sync alone begins a moment; a write that does
-- not fit would change nothing, and no disk in memory records one
abbrev pub changed : Change → Told → Told
changed (Write place count bytes) told =
    if fits (length told.bytes) place count bytes then written place count bytes told else told
changed Sync told = record { bytes = told.bytes; unsettled = []; moment = told.moment + 1 }

-- what a disk tells after some changes
abbrev pub replayed : List Change → Told → Told
replayed [] told = told
replayed (change ∷ changes) told = replayed changes (changed change told)

-- what a disk of this size tells after these changes, from zeros on
abbrev pub told_after : ℕ → List Change → Told
told_after size changes =
    replayed changes (record { bytes = zeros size; unsettled = []; moment = 0 })

-- what a disk tells
abbrev pub told_of : DiskState → Told
told_of d = told_after d.size d.changes

-- a crash since this moment may have left this image: after some first changes, at this moment or at
-- a later one, it was among those that a crash then may leave
abbrev pub left_after : ℕ → List Change → ℕ → List ℕ → Type 0
left_after size changes moment image =
    (k : ℕ) × (k ≤ length changes) × (moment ≤ (told_after size (take k changes)).moment)
    × MayLeave (told_after size (take k changes)).bytes
    (told_after size (take k changes)).unsettled image

-- what a crash since a moment may have left of a disk
abbrev pub may_be_left : DiskState → ℕ → List ℕ → Type 0
may_be_left d moment image = left_after d.size d.changes moment image

-- what a disk told after its first so many changes
abbrev pub told_then : ℕ → DiskState → Told
told_then count d = told_after d.size (take count d.changes)

-- a crash just after the first so many changes may have left this image
abbrev pub MayLeaveAfter : ℕ → DiskState → List ℕ → Type 0
MayLeaveAfter count d image = MayLeave (told_then count d).bytes (told_then count d).unsettled image

-- a change is a write
abbrev pub IsWrite : Change → Type 0
IsWrite (Write place count bytes) = Unit {0}
IsWrite Sync = ⊥

-- the changes from one on and before another are writes
abbrev pub AreWrites : List Change → ℕ → ℕ → Type 0
AreWrites changes first end = (i : ℕ) → first ≤ i → i < end → IsWrite (get_or changes i Sync)

-- what a crash may have left before a change, and what it may have left after it: wherever it may
-- leave the first, a change later it may leave the second
abbrev pub KeepsLeft : Change → List ℕ → List ℕ → Type 0
KeepsLeft change old new = (told : Told) → MayLeave told.bytes told.unsettled old
    → MayLeave (changed change told).bytes (changed change told).unsettled new

-- a change before others, of which a write alone has no sync after it
abbrev pub before_sync : Change → List Change → List Change
before_sync change [] = []
before_sync change (next ∷ changes) = change ∷ next ∷ changes

-- changes up to the last sync among them
unfoldable pub up_to_sync : List Change → List Change
up_to_sync [] = []
up_to_sync (Write place count bytes ∷ changes) = before_sync (Write place count bytes) (up_to_sync changes)
up_to_sync (Sync ∷ changes) = Sync ∷ up_to_sync changes

-- what of a disk is over: its size, and its changes up to the last sync
pub record MemPast : Type 0 where
  pub size : ℕ
  pub changes : List Change

abbrev pub past_of : DiskState → MemPast
past_of d = record { size = d.size; changes = up_to_sync d.changes }

-- what a crash since a moment may have left of a disk up to its last sync
abbrev pub left_before : MemPast → ℕ → List ℕ → Type 0
left_before past moment image = left_after past.size past.changes moment image

-- a disk with one more change
abbrev pub with_change : DiskState → Change → DiskState
with_change d change =
    record { size = d.size; changes = d.changes ++ change ∷ []; calls = d.calls }

-- a disk with other counts of its calls
abbrev pub with_calls : DiskState → Counts → DiskState
with_calls d calls = record { size = d.size; changes = d.changes; calls = calls }

-- the disk as after its first so many changes, whose calls are counted anew and do not fail
abbrev pub after_first : ℕ → DiskState → DiskState
after_first count d =
    record { size = d.size; changes = take count d.changes; calls = no_calls [] }

-- one call more was counted, and a fault where it failed
abbrev pub counted : {T E : Type 0} → Counts → Result T E → Counts
counted calls (Ok value) = called calls
counted calls (Err error) = faulted (called calls)

-- the whole change of a call that takes no memory: it fails exactly where it is listed, and is counted
pub record OnlyCounts {T E : Type 0} (old new : DiskState) (result : Result T E) : Type 0 where
  pub fails : IsErr result ↔ IsNextListed old.calls
  pub change : new ≡ with_calls old (counted old.calls result)

-- a write of these bytes is recorded; it put this front of them there
abbrev pub with_write : DiskState → ℕ → List ℕ → List ℕ → DiskState
with_write d place bytes front = with_change d (Write place (length bytes) front)

-- what a failed write leaves: nothing for want of memory, and the first half of the bytes where the
-- call is listed
abbrev pub MayKeepHalf : DiskState → DiskState → ℕ → List ℕ → Type 0
MayKeepHalf old new place bytes =
    (new ≡ with_calls old (faulted (called old.calls)))
    ⊎ (IsNextListed old.calls
    × (new ≡ with_calls (with_write old place bytes (take (length bytes / 2) bytes))
    (faulted (called old.calls))))

-- the whole change of a write: a listed call fails, and any other puts all the bytes, or fails for
-- want of memory
pub record WriteChange {E : Type 0} (old new : DiskState) (place : ℕ) (bytes : List ℕ)
    (result : Result (Unit {0}) E) : Type 0 where
  pub listed : IsNextListed old.calls → IsErr result
  pub ok : OnOk result (new ≡ with_calls (with_write old place bytes bytes) (called old.calls))
  pub err : OnErr result (MayKeepHalf old new place bytes)

-- the whole change of a sync: a listed call fails, and any other settles all, or fails for want of
-- memory; a failed one is only counted
pub record Syncs {E : Type 0} (old new : DiskState) (result : Result (Unit {0}) E) : Type 0 where
  pub listed : IsNextListed old.calls → IsErr result
  pub ok : OnOk result (new ≡ with_calls (with_change old Sync) (called old.calls))
  pub err : OnErr result (new ≡ with_calls old (faulted (called old.calls)))
