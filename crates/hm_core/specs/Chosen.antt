-- The big-blocks that a reblock begins with, and how they leave its choice.
use Rattle.std.specs.Prelude.{◌≡◌, ◌≢◌, ℕ, List, [], Option, None, Some, IsSome, slice_get}
use Rattle.hm_key.specs.declared.job.Progress.{Progress}
use Rattle.hm_key.specs.declared.job.Progress.TheVariants.{Done}
use Rattle.hm_model.specs.declared.command.Command.{Command}
use Rattle.hm_model.specs.declared.command.Command.TheVariants.{Reblock}
use Rattle.hm_model.specs.declared.entry.Entry.{Entry}
use Rattle.hm_model.specs.declared.reply.Reply.{Reply}
use Rattle.hm_model.specs.declared.reply.Reply.TheVariants.{Finished}
use Rattle.hm_relocate.specs.Chosen.{Chooses}
use Rattle.hm_relocate.specs.Leaving.{LeavesChoice}
use Rattle.hm_stored.specs.Heap.{Heap, maps_of}
use Rattle.hm_core.specs.State.{CoreState, OpenJob, job_with}
use Rattle.hm_core.specs.declared.step.Step.{Step}
use Rattle.hm_core.specs.declared.step.Step.TheVariants.{Answered, MustFlush, Opened, Spent}
use Rattle.hm_core.specs.declared.ticket.UnitEnd.{UnitEnd}
use Rattle.hm_core.specs.declared.ticket.UnitEnd.TheVariants as unit

-- A reblock begins with what its command chooses over a space: the big-blocks of the pool to which no zone appends, and in which some bytes
-- are live, but fewer than its fill in a hundred.
abbrev pub BeginsBy : Command → Heap → List ℕ → Type 0
BeginsBy command h choice = (fill : ℕ) → command ≡ Reblock fill → Chooses fill h.bigblocks h.append (maps_of h) choice

-- so it does where a call opened one
abbrev pub BeginsIfOpened : Command → Heap → (ℕ → List ℕ) → Step → Type 0
BeginsIfOpened command h choice_of (Opened place ticket) = BeginsBy command h (choice_of ticket.opening.0)
BeginsIfOpened command h choice_of (Answered place) = Unit {0}
BeginsIfOpened command h choice_of (MustFlush back) = Unit {0}
BeginsIfOpened command h choice_of Spent = Unit {0}

-- What a unit leaves of the choice of its work: a big-block left it only where a zone appended to it as the unit began, or appends to it now,
-- or nothing is live in it now; and at its end none is left.
abbrev pub LeavesAt : List ℕ → List ℕ → Heap → Heap → Progress → Type 0
LeavesAt was now h h' progress = LeavesChoice h h' was now × (progress ≡ Done → now ≡ [])

-- the same by the reply of the ending that is due, if one is
abbrev pub LeavesBy : List ℕ → List ℕ → Heap → Heap → Option Reply → Type 0
LeavesBy was now h h' None = LeavesChoice h h' was now
LeavesBy was now h h' (Some reply) = reply ≡ Finished → LeavesChoice h h' was []

-- and by what a unit of an open call came to
abbrev pub LeavesByUnit : List ℕ → List ℕ → CoreState → CoreState → UnitEnd → Type 0
LeavesByUnit was now old new (unit.More ticket) = LeavesChoice old.heap new.heap was now
LeavesByUnit was now old new (unit.Ended place) =
    (entry : Entry) → slice_get new.history place ≡ Some entry → entry.reply ≡ Finished → LeavesChoice old.heap new.heap was []
LeavesByUnit was now old new unit.Spent = Unit {0}

-- the choice of each of these calls is as it was
abbrev pub KeepChoices : (ℕ → List ℕ) → (ℕ → List ℕ) → List OpenJob → Type 0
KeepChoices was is running = (id : ℕ) → IsSome (job_with id running) → is id ≡ was id

-- so is that of each but the one that was opened with this id
abbrev pub KeepOtherChoices : ℕ → (ℕ → List ℕ) → (ℕ → List ℕ) → List OpenJob → Type 0
KeepOtherChoices opening was is running = (id : ℕ) → id ≢ opening → IsSome (job_with id running) → is id ≡ was id
