-- What a call over a store makes of its space, from one moment without an open call to another.
use Rattle.std.specs.Prelude.{◌≡◌, ℕ, ◌+◌, ◌≤◌, IfSome, IsTrue, List, [], ◌∷◌, ◌++◌, Option, None, Some}
use Rattle.hm_flush.specs.declared.flush.Flush.{Flush}
use Rattle.hm_flush.specs.Calls.{FlushStands}
use Rattle.hm_flush.specs.Ends.{as_read}
use Rattle.hm_model.specs.After.{Event}
use Rattle.hm_model.specs.Caused.{Counts}
use Rattle.hm_model.specs.Foreign.{Foreigners}
use Rattle.hm_model.specs.Needs.{floor}
use Rattle.hm_model.specs.Reply.{told_boundary}
use Rattle.hm_model.specs.Volume.{Volume}
use Rattle.hm_model.specs.declared.command.Command.{Command}
use Rattle.hm_model.specs.declared.entry.Entry.{Entry}
use Rattle.hm_model.specs.declared.reply.Reply.{Reply}
use Rattle.hm_model.specs.declared.reply.Reply.TheVariants.{Done}
use Rattle.hm_calls.specs.Stop.{TellsRefusal}
use Rattle.hm_calls.specs.declared.answered.Answered.{Answered}
use Rattle.hm_calls.specs.declared.answered.Answered.TheVariants.{Opened, Replied}
use Rattle.hm_pages.specs.Calls.{IsSameFlush}
use Rattle.hm_step.specs.Next.{UsedBelow}
use Rattle.hm_stored.specs.Heap.{Heap, free_of, room_of}
use Rattle.hm_stored.specs.Turn.{IsClosed}
use Rattle.hm_state.specs.Flushing.{HoldsFlush}
use Rattle.hm_state.specs.Live.{NoByte}
use Rattle.hm_state.specs.Volume.{HoldsVolume}
use Rattle.hm_core.specs.Caused.{IsCausedWith}
use Rattle.hm_core.specs.Counts.{with_disk}
use Rattle.hm_core.specs.History.{IsLegalBeyond, IsLegalOver, volume_of}
use Rattle.hm_core.specs.Inside.{AreUpTo}
use Rattle.hm_core.specs.Ledger.{IsPaid}
use Rattle.hm_core.specs.Live.{KeepsLiveOver}
use Rattle.hm_core.specs.Open.{IsOpenedBy, opens_job, retention_in}
use Rattle.hm_core.specs.Replied.{IsReplied}
use Rattle.hm_core.specs.Running.{open_work}
use Rattle.hm_core.specs.Served.{IsSync}
use Rattle.hm_core.specs.State.{OpenJob, OpenWork, pruning, reblocking}
use Rattle.hm_core.specs.declared.outcome.Outcome.{Outcome}
use Rattle.hm_core.specs.declared.outcome.Outcome.TheVariants as came

-- the entry of a call with this reply, by the id after the last one
pub record IsEntryOf (last : ℕ) (command : Command) (reply : Reply) (entry : Entry) : Type 0 where
  pub call_is : entry.call ≡ command
  pub reply_is : entry.reply ≡ reply
  pub own : entry.id.0 ≡ last + 1

-- the reply of a call, and the work that it opened, if it opened any
abbrev pub reply_of_outcome : Outcome → Reply
reply_of_outcome (came.Replied reply) = reply
reply_of_outcome (came.Opened work) = Done

abbrev pub work_of : Outcome → Option OpenWork
work_of (came.Replied reply) = None
work_of (came.Opened work) = Some (open_work work)

-- the work of a prune that a store opened
abbrev pub led_work : Answered → Option OpenWork
led_work (Replied reply) = None
led_work (Opened led) = Some (pruning led.pfs.0 led.kept)

-- the call of housekeeping that an entry has opened, by its work
abbrev pub job_of : Entry → OpenWork → OpenJob
job_of entry work = record { opening = entry.id.0; lane = entry.lane; line = entry.line; work = work }

-- those that are open after an entry
abbrev pub running_after : Entry → Option OpenWork → List OpenJob → List OpenJob
running_after entry None running = running
running_after entry (Some work) running = running ++ job_of entry work ∷ []

-- what is opened is work of the command, with the reply `ok`; and where it would open work and does not, its reply is a refusal
abbrev pub FitsOpening : Command → Reply → Option OpenWork → Type 0
FitsOpening command reply None = IsTrue (opens_job command) → TellsRefusal reply
FitsOpening command reply (Some work) = IsOpenedBy command work × (reply ≡ Done)

-- a prune keeps exactly the ids that a volume keeps of its PFS
abbrev pub KeepsAs : Volume → OpenWork → Type 0
KeepsAs volume (pruning pfs kept) = kept ≡ retention_in pfs volume
KeepsAs volume reblocking = Unit {0}

-- What a call leaves of a space and its disk: how many big-blocks it has, what is committed and what is frozen, and the header that
-- counts, as a flush asks for it; and, where this is known, all that a flush holds, as reads give it and as a crash may leave it.
pub record KeepsFlush (Known : Type 0) (h h' : Heap) : Type 0 where
  pub bigblocks : h'.bigblocks ≡ h.bigblocks
  pub pages : IsSameFlush h.pages h'.pages
  pub stands : (f : Flush) → IfSome h.disk (FlushStands f) → IfSome h'.disk (FlushStands f)
  pub read : Known → (f : Flush) (committed frozen : Volume) → IfSome h.disk (λ t. HoldsFlush f h (as_read t) committed frozen)
      → IfSome h'.disk (λ t. HoldsFlush f h' (as_read t) committed frozen)
  pub guarded : Known → (f : Flush) (committed frozen : Volume) → IfSome h.disk (λ t. HoldsFlush f h t committed frozen)
      → IfSome h'.disk (λ t. HoldsFlush f h' t committed frozen)

-- A call was answered so, where all numbers of pseudo file systems below one are used, this boundary is committed, and over which the
-- count of the disk's faults went from one to another. Only a sync tells a boundary, and that is this one; what it tells of space and of
-- the device is exact; no call is open, the big-blocks that were begun are paid for, what a flush holds is still there, no byte that was
-- live is written, and each history that was legal goes on legally with the entry of the call, and keeps the events of those before it:
-- an opening that was accepted is open, and a prune keeps no other ids than the volume that the space holds then. Whatever the space
-- holds, the reply has its cause, and only what the command opens is opened.
pub record AnswersOver (numbers boundary faults faults' last : ℕ) (command : Command) (h h' : Heap) (root root' : ℕ) (reply : Reply)
    (opened : Option OpenWork) : Type 0 where
  pub form : FitsOpening command reply opened
  pub closed : IsClosed h'
  pub counted : faults ≤ faults'
  pub told : IfSome (told_boundary reply) (λ id. IsSync command × (id.0 ≡ boundary))
  pub replied : IsReplied numbers faults faults' last command h root reply
  pub flush : KeepsFlush ((volume : Volume) × HoldsVolume h root last volume) h h'
  pub live : KeepsLiveOver NoByte root last h h'
  pub paid : (first calls : ℕ) → IsPaid first (free_of h) calls (room_of h) → IsPaid first (free_of h') (calls + 1) (room_of h')
  pub caused : (first : ℕ) (start counts : Counts) (history : List Entry) (running : List OpenJob) (entry : Entry)
      → IsEntryOf last command reply entry → AreUpTo boundary history → boundary ≤ last
      → IsCausedWith first start (with_disk counts faults) last running history
      → IsCausedWith first start (with_disk counts faults') (last + 1) (running_after entry opened running) (history ++ entry ∷ [])
  pub legal : (free : ℕ) (start counts : Counts) (history : List Entry) (running : List OpenJob) (opening : Volume) (foreigners : Foreigners)
      (events : List Event) (entry : Entry)
      → floor free history ≤ free_of h → IsEntryOf last command reply entry → AreUpTo boundary history → boundary ≤ last
      → UsedBelow numbers (volume_of opening foreigners events)
      → IsLegalOver free start (with_disk counts faults) history h root last running opening foreigners events
      → IsLegalBeyond free start (with_disk counts faults') (history ++ entry ∷ []) h' root' (last + 1) (running_after entry opened running)
      opening foreigners events
  pub leads : (free : ℕ) (start counts : Counts) (history : List Entry) (running : List OpenJob) (opening : Volume) (foreigners : Foreigners)
      (events : List Event) → floor free history ≤ free_of h → UsedBelow numbers (volume_of opening foreigners events)
      → IsLegalOver free start (with_disk counts faults) history h root last running opening foreigners events
      → (volume : Volume) → HoldsVolume h' root' (last + 1) volume → IfSome opened (KeepsAs volume)
