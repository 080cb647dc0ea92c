-- What a stage of a flush asks for, and what it makes of the flush and of the store of pages.
use Rattle.std.specs.Prelude.{◌≡◌, ℕ, ◌+◌, ◌*◌, ◌<◌, ◌≤◌, true, false, None, is_some, length, slice_index, Result, IfErr}
use Rattle.hm_types.specs.declared.fault.Fault.{Fault}
use Rattle.hm_types.specs.declared.fault.Fault.TheVariants.{Media, Damaged, NoMemory}
use Rattle.hm_types.specs.Faults.{HasFaultCause}
use Rattle.hm_disk.specs.Crash.{Told}
use Rattle.hm_header.specs.declared.header.Header.{Header}
use Rattle.hm_header.specs.Change.{AnyCrash, IsBodyWritten, IsCounting}
use Rattle.hm_header.specs.Range.{HasRoom, IsHeader}
use Rattle.hm_undo.specs.Entry.{IsUndoPageOf}
use Rattle.hm_pages.specs.Store.{Store}
use Rattle.hm_pages.specs.Calls.{IsCommitted, IsFrozen}
use Rattle.hm_flush.specs.declared.change.Change.{Change}
use Rattle.hm_flush.specs.declared.change.Change.TheVariants.{Close, Write, Open}
use Rattle.hm_flush.specs.declared.flush.Flush.{Flush}
use Rattle.hm_flush.specs.declared.flush.Position.{Position}
use Rattle.hm_flush.specs.declared.flush.Position.TheVariants.{Idle, Undoing, Arming, Placing, Committing}
use Rattle.hm_flush.specs.declared.stage.Stage.{Stage}
use Rattle.hm_flush.specs.Change.{change_asks}
use Rattle.hm_flush.specs.Flush.{IsFlush, IsGroupOf, begun_flush, left, header_to_write, tried}
use Rattle.hm_flush.specs.Group.{group_of, live_before}
use Rattle.hm_flush.specs.Stages.{due_stage, moved_flush}

-- Each page of the current and of the frozen group stands where an entry of the log may name it: in the pool, or in
-- layer 2.
pub record AreFlushPlaces (bigblocks : ℕ) (s : Store) : Type 0 where
  pub current : (at : ℕ) → s.group.changed at ≡ true → is_some (s.current at) ≡ true → IsUndoPageOf bigblocks at
  pub frozen : (i : ℕ) → i < length s.frozen_group → IsUndoPageOf bigblocks (slice_index s.frozen_group i)

-- The header counts as the next stage of its change needs it. Before the gate is opened for the first time the old one
-- counts alone.
abbrev pub StandsForChange : Change → Flush → Told → Type 0
StandsForChange Close f t = AnyCrash (change_asks Close f.header f.slot (header_to_write f)) t
StandsForChange Write f t = AnyCrash (change_asks Write f.header f.slot (header_to_write f)) t
StandsForChange (Open tried) f t = AnyCrash (change_asks (Open tried) f.header f.slot (header_to_write f)) t
    × (tried ≡ false → AnyCrash (IsBodyWritten f.header f.slot (header_to_write f)) t)

-- The header counts on the disk as the stage that is due needs it: before UndoSync as reads give it, and from then on
-- whatever a crash leaves.
abbrev pub HeaderStands : Position → Flush → Told → Type 0
HeaderStands Idle f t = IsCounting f.header f.slot t.bytes
HeaderStands (Undoing from) f t = IsCounting f.header f.slot t.bytes
HeaderStands (Arming change) f t = StandsForChange change f t
HeaderStands (Placing i) f t = AnyCrash (IsCounting f.header f.slot) t
HeaderStands (Committing change) f t = StandsForChange change f t

pub record FlushStands (f : Flush) (t : Told) : Type 0 where
  pub room : HasRoom (length t.bytes) f.header.bigblocks
  pub header : HeaderStands f.at f t

-- a header that may be committed after that of a flush
pub record IsTarget (f : Flush) (now : Header) : Type 0 where
  pub header : IsHeader now
  pub bigblocks : now.bigblocks ≡ f.header.bigblocks

-- What a stage asks of a flush and a store of pages, and leaves so: no call is open, a group is frozen exactly where the
-- flush is in flight, and then it is that flush's group, and the pages stand where they may.
pub record IsFlushReady (f : Flush) (s : Store) : Type 0 where
  pub closed : s.begin ≡ None
  pub group : IsGroupOf f s
  pub placed : AreFlushPlaces f.header.bigblocks s

-- the flush after a stage: Freeze begins one, and each other stage brings it on
abbrev pub IsMoved : Position → Header → Stage → Store → Flush → Flush → Type 0
IsMoved Idle now stage s old new =
    new ≡ begun_flush now (length s.frozen_group) (live_before (group_of s).was_live (length s.frozen_group)) old
IsMoved (Undoing from) now stage s old new = new ≡ moved_flush stage old
IsMoved (Arming change) now stage s old new = new ≡ moved_flush stage old
IsMoved (Placing i) now stage s old new = new ≡ moved_flush stage old
IsMoved (Committing change) now stage s old new = new ≡ moved_flush stage old

-- the store after a stage: Freeze freezes the group, the last stage commits it, and each other leaves all
abbrev pub PagesMove : Position → Header → Store → Store → Type 0
PagesMove Idle now old new = IsFrozen now.last old new
PagesMove (Undoing from) now old new = new ≡ old
PagesMove (Arming change) now old new = new ≡ old
PagesMove (Placing i) now old new = new ≡ old
PagesMove (Committing Close) now old new = new ≡ old
PagesMove (Committing Write) now old new = new ≡ old
PagesMove (Committing (Open tried)) now old new = IsCommitted old new

-- Freeze makes the number of stages that are left at most twice that of the pages, and 8. Each other stage lowers it by one.
abbrev pub LeftFalls : Position → Store → Flush → Flush → Type 0
LeftFalls Idle s old new = left new ≤ 2 * length s.frozen_group + 8
LeftFalls (Undoing from) s old new = left new + 1 ≡ left old
LeftFalls (Arming change) s old new = left new + 1 ≡ left old
LeftFalls (Placing i) s old new = left new + 1 ≡ left old
LeftFalls (Committing change) s old new = left new + 1 ≡ left old

-- the stage that was due succeeded, and brought flush and store on
pub record StageSucceeds (now : Header) (stage : Stage) (old new : Flush) (pages pages' : Store) : Type 0 where
  pub stage_is : stage ≡ due_stage old (group_of pages)
  pub flush : IsMoved old.at now stage pages' old new
  pub store : PagesMove old.at now pages pages'
  pub left : LeftFalls old.at pages' old new
  pub volume : new.header.bigblocks ≡ old.header.bigblocks
  pub ready : IsFlushReady new pages'

-- it failed: all is as before, but that it was tried
pub record StageFails (old new : Flush) (pages pages' : Store) : Type 0 where
  pub flush : new ≡ tried old
  pub store : pages' ≡ pages
  pub volume : new.header.bigblocks ≡ old.header.bigblocks
  pub ready : IsFlushReady new pages'

-- want of memory comes as a group is frozen, and no damage comes at all
abbrev pub IsFaultAt : Position → Fault → Type 0
IsFaultAt at (Media before after) = Unit {0}
IsFaultAt at (Damaged here kind) = ⊥
IsFaultAt at NoMemory = at ≡ Idle

-- a failure of the disk comes only where its count rose
pub record HasStageCause {T : Type 0} (at : Position) (old new : ℕ) (result : Result T Fault) : Type 0 where
  pub counted : HasFaultCause old new result
  pub faults : IfErr result (IsFaultAt at)
