-- What a unit of an open call of housekeeping makes of a core, and its ending.
use Rattle.std.specs.Prelude.{◌≡◌, ◌⊎◌, ℕ, ◌≤◌, IfErr, IfNone, IfSome, IsSome, List, Ok, Option, Result, Some, length, slice_get}
use Rattle.hm_types.specs.Faults.{IsCaused, IsUndamaged}
use Rattle.hm_types.specs.declared.fault.Fault.{Fault}
use Rattle.hm_types.specs.declared.fault.SpaceFault.{SpaceFault}
use Rattle.hm_types.specs.declared.fault.SpaceFault.TheVariants.{Fault as of_store, NoSpace}
use Rattle.hm_types.specs.declared.limits.TheConstants.{FULL_GROUP_PAGES, GREATEST_ID}
use Rattle.hm_key.specs.declared.job.Progress.{Progress}
use Rattle.hm_key.specs.declared.job.Progress.TheVariants.{Done}
use Rattle.hm_model.specs.Volume.{Volume}
use Rattle.hm_model.specs.declared.command.Command.TheVariants.{End}
use Rattle.hm_model.specs.declared.entry.Entry.{Entry}
use Rattle.hm_model.specs.declared.reply.Reply.{Reply}
use Rattle.hm_model.specs.declared.reply.Reply.TheVariants.{Finished, NoSpace as no_space}
use Rattle.hm_relocate.specs.Unit.{Way}
use Rattle.hm_state.specs.Volume.{HoldsVolume}
use Rattle.hm_core.specs.Chosen.{LeavesByUnit}
use Rattle.hm_core.specs.Core.{Enters, Waits}
use Rattle.hm_core.specs.Live.{CallKeepsLive, StageKeepsLive}
use Rattle.hm_core.specs.Staged.{MakesStage}
use Rattle.hm_core.specs.State.{CoreState, OpenJob, OpenWork, job_with, jobs_beside}
use Rattle.hm_core.specs.Told.{reply_to_stop}
use Rattle.hm_core.specs.Unit.{EndsOver, IfMoreWorksOn, LacksFor, LacksForChoice, WorksOn}
use Rattle.hm_core.specs.declared.ticket.UnitEnd.{UnitEnd}
use Rattle.hm_core.specs.declared.ticket.UnitEnd.TheVariants.{Ended, More, Spent}

-- the call that was opened by this id is open
abbrev pub IsOpenJob : ℕ → CoreState → Type 0
IsOpenJob opening core = IsSome (job_with opening core.running)

-- where the group of changed pages is full, a stage is made in place of a unit
abbrev pub IsFull : CoreState → Type 0
IsFull core = FULL_GROUP_PAGES ≤ core.heap.pages.group.pages

-- a unit of a job, or a stage in its place, failed with this fault: the device failed in it, memory was refused, or what the disk holds is
-- damaged, which it never is where the space held a volume
pub record FailsWith (old new : CoreState) (fault : Fault) : Type 0 where
  pub caused : IsCaused old.counts.disk new.counts.disk fault
  pub undamaged : (volume : Volume) → HoldsVolume old.heap old.root old.last volume → IsUndamaged fault

-- at its end a prune left no element that is dead for what it keeps
abbrev pub EndsWork : OpenWork → CoreState → CoreState → Type 0
EndsWork work old new = EndsOver work old.last old.heap new.heap old.root new.root

-- why a unit of such work stopped: it failed or, of a reblock, a zone needed a new big-block, and none was free
abbrev pub StopsWork : OpenWork → CoreState → CoreState → SpaceFault → Type 0
StopsWork work old new (of_store fault) = FailsWith old new fault
StopsWork work old new (NoSpace free needed) = LacksFor work old.heap free needed

-- a fact of the open call with this id
abbrev pub OnJob : ℕ → CoreState → (OpenJob → Type 0) → Type 0
OnJob opening core P = (p : OpenJob) → job_with opening core.running ≡ Some p → P p

-- A unit of the call that was opened by this id was done, or it stopped. Nothing was entered, and the flush is as before.
pub record DoesUnit (opening : ℕ) (old new : CoreState) (result : Result Progress SpaceFault) : Type 0 where
  pub waits : Waits old new
  pub flush : new.flush ≡ old.flush
  pub done : result ≡ Ok Done → OnJob opening old (λ p. EndsWork p.work old new)
  pub fails : IfErr result (λ fault. OnJob opening old (λ p. StopsWork p.work old new fault))

-- A unit was done, or where the group is full a stage was made.
abbrev pub GoesOnByUnit : CoreState → CoreState → Type 0
GoesOnByUnit old new = (IsFull old × MakesStage old new) ⊎ ((¬ IsFull old) × Waits old new × (new.flush ≡ old.flush))

-- the ending that is due tells that the work came to its end, or why it stopped
abbrev pub TellsEnd : OpenWork → CoreState → CoreState → Reply → Type 0
TellsEnd work old new reply = (reply ≡ Finished) ⊎ ((fault : SpaceFault) × (reply ≡ reply_to_stop fault) × StopsWork work old new fault)

-- so it is of the call with this id
pub record EndsWith (opening : ℕ) (old new : CoreState) (reply : Reply) : Type 0 where
  pub tells : OnJob opening old (λ p. TellsEnd p.work old new reply)
  pub finished : reply ≡ Finished → OnJob opening old (λ p. EndsWork p.work old new)

-- A unit was done, or a stage made in its place, and there is more to do; or the ending with this reply is due. Nothing was entered.
pub record DoesWork (opening : ℕ) (old new : CoreState) (result : Option Reply) : Type 0 where
  pub waits : Waits old new
  pub more : IfNone result (GoesOnByUnit old new)
  pub ends : IfSome result (EndsWith opening old new)

-- the call is open no more, and each other one is; at least as many entries as before have room
pub record ClosesJob (opening : ℕ) (old new : CoreState) : Type 0 where
  pub running : new.running ≡ jobs_beside opening old.running
  pub room : old.spare ≤ new.spare

-- The ending of the call was entered, by the next id, with the lane and the line of its opening. Where it tells that a prune came to its
-- end, nothing that is dead for what it keeps is left.
pub record EndsJob (opening : ℕ) (old new : CoreState) : Type 0 where
  pub job : OpenJob
  pub found : job_with opening old.running ≡ Some job
  pub enters : Enters old new job.lane job.line old.last (End (record { 0 = opening }))
  pub closes : ClosesJob opening old new
  pub tells : TellsEnd job.work old new enters.entry.reply
  pub finished : enters.entry.reply ≡ Finished → EndsWork job.work old new

-- No id was left for the ending: it is not entered.
pub record SpendsJob (opening : ℕ) (old new : CoreState) : Type 0 where
  pub left : old.last ≡ GREATEST_ID
  pub history : new.history ≡ old.history
  pub last : new.last ≡ old.last
  pub closes : ClosesJob opening old new

-- What a unit of the call that was opened by this id came to.
abbrev pub Units : ℕ → CoreState → CoreState → UnitEnd → Type 0
Units opening old new (More ticket) = (ticket.opening.0 ≡ opening) × Waits old new × GoesOnByUnit old new
Units opening old new (Ended place) = (place ≡ length old.history) × EndsJob opening old new
Units opening old new Spent = SpendsJob opening old new

-- A unit writes over no byte that is live as it begins, and a stage in its place over none but those of the page that it places.
abbrev pub UnitKeepsLive : CoreState → CoreState → Type 0
UnitKeepsLive old new = (IsFull old × StageKeepsLive old new) ⊎ ((¬ IsFull old) × CallKeepsLive old new)

-- An open call got on by a unit, if that said that there is more to do.
abbrev pub GetsOnIfMore : ℕ → Way → Way → List ℕ → List ℕ → CoreState → CoreState → Progress → Type 0
GetsOnIfMore opening from to was now old new progress =
    OnJob opening old (λ p. IfMoreWorksOn p.work from to was now old.last old.heap new.heap old.root new.root progress)

-- A stage was made in place of a unit, or the call got on.
abbrev pub HasWorked : ℕ → Way → Way → List ℕ → List ℕ → CoreState → CoreState → Type 0
HasWorked opening from to was now old new =
    IsFull old ⊎ OnJob opening old (λ p. WorksOn p.work from to was now old.last old.heap new.heap old.root new.root)

-- so it was where there is more to do
abbrev pub IfMoreWorked : ℕ → Way → Way → List ℕ → List ℕ → CoreState → CoreState → UnitEnd → Type 0
IfMoreWorked opening from to was now old new (More ticket) = HasWorked opening from to was now old new
IfMoreWorked opening from to was now old new (Ended place) = Unit {0}
IfMoreWorked opening from to was now old new Spent = Unit {0}

-- where a reply tells that space was lacking, it was so for what was to be moved out of this choice
abbrev pub LacksBy : List ℕ → CoreState → Reply → Type 0
LacksBy choice old reply = (free needed : ℕ) → reply ≡ no_space free needed → LacksForChoice choice old.last old.heap old.root free needed

-- the same of the reply of the ending that was entered, if one was
abbrev pub LacksByUnit : List ℕ → CoreState → CoreState → UnitEnd → Type 0
LacksByUnit choice old new (More ticket) = Unit {0}
LacksByUnit choice old new (Ended place) = (entry : Entry) → slice_get new.history place ≡ Some entry → LacksBy choice old entry.reply
LacksByUnit choice old new Spent = Unit {0}

-- What a unit of an open call made of its work, by how far that had come and comes now, and by its choice before and after.
pub record WorksByUnit (opening : ℕ) (from to : Way) (was now : List ℕ) (old new : CoreState) (end : UnitEnd) : Type 0 where
  pub more : IfMoreWorked opening from to was now old new end
  pub choice : LeavesByUnit was now old new end
  pub space : LacksByUnit was old new end
