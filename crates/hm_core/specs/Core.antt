-- What the calls of a core do.
use Rattle.std.specs.Prelude.{◌≡◌, ◌⊎◌, ℕ, ◌+◌, ◌<◌, ◌≤◌, List, [], ◌∷◌, ◌++◌, Some, IfSome, false, true, length}
use Rattle.hm_types.specs.declared.limits.TheConstants.{FULL_GROUP_PAGES, GREATEST_ID}
use Rattle.hm_disk.specs.Crash.{MayLeave, Told}
use Rattle.hm_disk.specs.Moments.{Each, LeftSince}
use Rattle.hm_flush.specs.Ends.{as_read}
use Rattle.hm_flush.specs.Flush.{tried}
use Rattle.hm_model.specs.After.{Event}
use Rattle.hm_model.specs.Caused.{opens}
use Rattle.hm_model.specs.Foreign.{Foreigners}
use Rattle.hm_model.specs.Reply.{told_boundary}
use Rattle.hm_model.specs.Volume.{Volume}
use Rattle.hm_model.specs.declared.command.Command.{Command}
use Rattle.hm_model.specs.declared.entry.Entry.{Entry}
use Rattle.hm_model.specs.declared.reply.Reply.{Reply}
use Rattle.hm_state.specs.Flushing.{HoldsFlush}
use Rattle.hm_state.specs.Live.{AreLiveSettled}
use Rattle.hm_state.specs.Volume.{HoldsVolume}
use Rattle.hm_core.specs.Caused.{IsCausedFrom}
use Rattle.hm_core.specs.History.{IsLegalOver, up_to, volume_of}
use Rattle.hm_core.specs.Counts.{AreLater}
use Rattle.hm_core.specs.Crash.{HasHeaderOf, IsBetween, IsLeftBoundary, LeavesPrefixes, RecoversToPrefix}
use Rattle.hm_core.specs.Answer.{KeepsAs}
use Rattle.hm_core.specs.Inside.{AreUpTo}
use Rattle.hm_core.specs.Open.{IsOpenedBy}
use Rattle.hm_core.specs.Served.{IsSync}
use Rattle.hm_core.specs.State.{CoreDevices, CoreState, OpenJob, job_with}
use Rattle.hm_core.specs.declared.step.Step.{Step}
use Rattle.hm_core.specs.declared.step.Step.TheVariants.{Answered, MustFlush, Opened, Spent}

-- What a flush holds of the volume on which a run began, on a disk that tells this: the committed volume is the one after the
-- events up to the boundary, and while a flush is in flight the frozen one that after those up to its target.
abbrev pub HoldsUpTo : CoreState → Volume → Foreigners → List Event → Told → Type 0
HoldsUpTo core opening foreigners events t =
    HoldsFlush core.flush core.heap t (volume_of opening foreigners (up_to core.flush.header.last.0 events))
    (volume_of opening foreigners (up_to core.flush.target.last.0 events))

-- A core stands for the volume on which its run began, by these events: its history is that of them, and is legal over it,
-- and its space holds the volume after them. Its disk has the committed and the frozen one, as reads give it.
pub record StandsOver (core : CoreState) (opening : Volume) (foreigners : Foreigners) (events : List Event) : Type 0 where
  pub legal : IsLegalOver core.mounted.free core.mounted.counts core.counts core.history core.heap core.root core.last core.running
      opening foreigners events
  pub read : IfSome core.heap.disk (λ t. HoldsUpTo core opening foreigners events (as_read t))

-- So it has them as a crash may leave them: each image recovers to the one or, once the last stage of a flush was tried, to the other.
abbrev pub IsGuarded : CoreState → Volume → Foreigners → List Event → Type 0
IsGuarded core opening foreigners events = IfSome core.heap.disk (HoldsUpTo core opening foreigners events)

-- A core stands for it by these events and more, and the events up to each id that was drawn before stay. Where it was guarded it is
-- so still, and what a crash since a moment may have left was so before, or it recovers to the volume after a prefix of the events,
-- no shorter than the one that was committed.
pub record GoesOnBy (past since : LeftSince) (old new : CoreState) (opening : Volume) (foreigners : Foreigners) (events : List Event)
    : Type 0 where
  pub more : List Event
  pub stay : (id : ℕ) → id ≤ old.last → up_to id (events ++ more) ≡ up_to id events
  pub stands : StandsOver new opening foreigners (events ++ more)
  pub guarded : IsGuarded old opening foreigners events → IsGuarded new opening foreigners (events ++ more)
  pub crashed : IsGuarded old opening foreigners events
      → LeavesPrefixes past since (IsBetween old.boundary new.last) opening foreigners (events ++ more)

-- For each volume on which the run may have begun, it stands for it still, by the events of before and more: what it had
-- answered by then was right over the same trees.
abbrev pub GoesOnOverEach : LeftSince → LeftSince → CoreState → CoreState → Type 0
GoesOnOverEach past since old new = (opening : Volume) (foreigners : Foreigners) (events : List Event) → StandsOver old opening foreigners events
    → GoesOnBy past since old new opening foreigners events

-- each reply of its history has its cause, from the last id and the counts of faults as it was mounted on: so it is of every core
abbrev pub IsCausedRun : CoreState → Type 0
IsCausedRun core = ∥ IsCausedFrom core.mounted.first core.mounted.counts core.counts core.last core.history ∥₁

-- What is so of every core. Each reply has its cause, none told a boundary past the committed one, and each boundary that a crash
-- within a stage may leave is drawn. The header that counts on its disk is the committed one, or the one that may have taken its place,
-- whether the disk stands for a volume or not. Where the core stands for a volume, its disk recovers to the volume after a prefix of the
-- events, up to a boundary that a crash may leave; and where it is guarded, so does each image that a crash now may leave, and no unsettled
-- range meets what such an image needs.
pub record IsSoundCore (core : CoreState) : Type 0 where
  pub caused : IsCausedRun core
  pub told : AreUpTo core.boundary core.history
  pub between : (boundary : ℕ) → IsLeftBoundary (tried core.flush) boundary → IsBetween core.boundary core.last boundary
  pub header : IfSome core.heap.disk (λ t. HasHeaderOf core.flush t.bytes)
  pub read : (opening : Volume) (foreigners : Foreigners) (events : List Event) → StandsOver core opening foreigners events
      → IfSome core.heap.disk (λ t. RecoversToPrefix (IsLeftBoundary core.flush) opening foreigners events t.bytes)
  pub now : (opening : Volume) (foreigners : Foreigners) (events : List Event) → IsGuarded core opening foreigners events
      → IfSome core.heap.disk (λ t. Each (MayLeave t.bytes t.unsettled)
      (RecoversToPrefix (IsLeftBoundary core.flush) opening foreigners events))
  pub settled : (opening : Volume) (foreigners : Foreigners) (events : List Event) → IsGuarded core opening foreigners events
      → IfSome core.heap.disk (AreLiveSettled core.flush.at core.heap)

-- A core follows one of an earlier moment, where what a crash since a moment may have left is this before and that now: what there was
-- at mounting stays, the history goes on, no id, no boundary and no count of faults falls, and it goes on from each volume for which
-- the earlier one stood.
pub record Follows (past since : LeftSince) (old new : CoreState) : Type 0 where
  pub mounted : new.mounted ≡ old.mounted
  pub history : (more : List Entry) × (new.history ≡ old.history ++ more)
  pub last : old.last ≤ new.last
  pub boundary : old.boundary ≤ new.boundary
  pub never_falls : AreLater old.counts new.counts
  pub sound : IsSoundCore new
  pub goes_on : GoesOnOverEach past since old new

-- Each image that a crash within a step may have left recovers to the committed volume or to the frozen one, and to none between.
abbrev pub LeavesHeld : LeftSince → LeftSince → CoreState → Type 0
LeavesHeld past since old = (opening : Volume) (foreigners : Foreigners) (events : List Event) → StandsOver old opening foreigners events
    → IsGuarded old opening foreigners events → LeavesPrefixes past since (IsLeftBoundary (tried old.flush)) opening foreigners events

-- a boundary that a reply tells is on the disk, and is no earlier than this id
abbrev pub TellsBoundary : ℕ → ℕ → Reply → Type 0
TellsBoundary since boundary reply = IfSome (told_boundary reply) (λ told. (since ≤ told.0) × (told.0 ≤ boundary))

-- An id was left. The history gained the entry of this call, by the next id, and its reply has its cause. A boundary that it
-- tells is no earlier than the last id as the call began, and is committed, and this entry is not. At most one place of the room
-- is taken, beside one for the ending of each call that was opened.
pub record Enters (old new : CoreState) (lane line since : ℕ) (command : Command) : Type 0 where
  pub left : old.last < GREATEST_ID
  pub entry : Entry
  pub history : new.history ≡ old.history ++ entry ∷ []
  pub of_line : (entry.lane ≡ lane) × (entry.line ≡ line) × (entry.call ≡ command)
  pub told : TellsBoundary since new.boundary entry.reply
  pub id : (entry.id.0 ≡ old.last + 1) × (new.last ≡ old.last + 1)
  pub before : new.boundary < new.last
  pub spare : old.spare + length old.running ≤ new.spare + length new.running + 1

-- Nothing was entered: the history, the ids and the calls that are open are as before. A flush may have gone on.
pub record Waits (old new : CoreState) : Type 0 where
  pub history : new.history ≡ old.history
  pub last : new.last ≡ old.last
  pub running : new.running ≡ old.running
  pub spare : new.spare ≡ old.spare

-- A call waits for a flush: the current group has as many pages as fill it, or it is a sync, and the boundary is before this id.
abbrev pub NeedsFlush : CoreState → ℕ → Command → Type 0
NeedsFlush core since command = (FULL_GROUP_PAGES ≤ core.heap.pages.group.pages) ⊎ (IsSync command × (core.boundary < since))

-- A call was answered and entered, and is at its end: it opened nothing, and the calls that are open are as before.
pub record EndsAtOnce (old new : CoreState) (lane line since : ℕ) (command : Command) : Type 0 where
  pub enters : Enters old new lane line since command
  pub closed : opens enters.entry ≡ false
  pub running : new.running ≡ old.running

-- Where a core stood for a volume, a prune keeps exactly the ids that the volume which its space holds now keeps of its PFS.
abbrev pub KeepsAsVolume : CoreState → CoreState → OpenJob → Type 0
KeepsAsVolume old new p = (opening : Volume) (foreigners : Foreigners) (events : List Event) → StandsOver old opening foreigners events
    → (volume : Volume) → HoldsVolume new.heap new.root new.last volume → KeepsAs volume p.work

-- The opening of a call of housekeeping was accepted and entered, with this id, and the call is open beside the others, with the lane and the
-- line of its opening, and does what its command says. A prune keeps what the volume keeps of its PFS by then, no id more and no id fewer.
pub record OpensJob (old new : CoreState) (lane line since : ℕ) (command : Command) (opening : ℕ) : Type 0 where
  pub enters : Enters old new lane line since command
  pub accepted : opens enters.entry ≡ true
  pub job : OpenJob
  pub own : (job.opening ≡ opening) × (job.lane ≡ lane) × (job.line ≡ line)
  pub does : IsOpenedBy command job.work
  pub named : enters.entry.id.0 ≡ opening
  pub running : new.running ≡ old.running ++ job ∷ []
  pub found : job_with opening new.running ≡ Some job
  pub keeps : KeepsAsVolume old new job

-- A call was answered and entered, or an opening of housekeeping was, and the flush is as before; or it waits for a flush, and is handed back;
-- or no id was left. In both of these all is as before.
abbrev pub Steps : CoreState → CoreState → ℕ → ℕ → ℕ → Command → Step → Type 0
Steps old new lane line since command (Answered place) =
    (place ≡ length old.history) × EndsAtOnce old new lane line since command × (new.flush ≡ old.flush) × ¬ NeedsFlush old since command
Steps old new lane line since command (Opened place ticket) =
    (place ≡ length old.history) × OpensJob old new lane line since command ticket.opening.0 × (new.flush ≡ old.flush)
    × ¬ NeedsFlush old since command
Steps old new lane line since command (MustFlush back) =
    (back ≡ command) × (new ≡ old) × (old.last < GREATEST_ID) × NeedsFlush old since command
Steps old new lane line since command Spent = (old.last ≡ GREATEST_ID) × (new ≡ old)

module _ {D I O : Type 0} where
  -- the streams of a core are as before
  pub record KeepsStreams (old new : CoreDevices D I O) : Type 0 where
    pub input : new.input ≡ old.input
    pub output : new.output ≡ old.output

  -- a step leaves the streams of a core, and where nothing was answered the disk too
  abbrev pub LeavesDevices : CoreDevices D I O → CoreDevices D I O → Step → Type 0
  LeavesDevices old new (Answered place) = KeepsStreams old new
  LeavesDevices old new (Opened place ticket) = KeepsStreams old new
  LeavesDevices old new (MustFlush back) = new ≡ old
  LeavesDevices old new Spent = new ≡ old
