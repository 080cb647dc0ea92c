-- What a stage of a flush makes of a core.
use Rattle.std.specs.Prelude.{◌≡◌, ◌⊎◌, ℕ, Bool, true, false, [], IfSome, Result, Ok, Err, length}
use Rattle.hm_types.specs.declared.fault.Fault.{Fault}
use Rattle.hm_types.specs.declared.limits.TheConstants.{GREATEST_ID}
use Rattle.hm_header.specs.declared.header.Header.{Header}
use Rattle.hm_flush.specs.declared.flush.Position.TheVariants.{Idle}
use Rattle.hm_flush.specs.declared.stage.Stage.{Stage}
use Rattle.hm_flush.specs.Calls.{StageFails, StageSucceeds}
use Rattle.hm_model.specs.declared.command.Command.{Command}
use Rattle.hm_core.specs.declared.staged.Staged.{Staged}
use Rattle.hm_core.specs.declared.staged.Staged.TheVariants.{More, Refused, Spent}
use Rattle.hm_core.specs.Core.{EndsAtOnce, Waits}
use Rattle.hm_core.specs.State.{CoreState}
use Rattle.hm_core.specs.Told.{TellsFailure}

-- The header of the state of now: what a flush that begins is to commit. Every other field is that of the header that counts.
abbrev pub header_now : CoreState → Header
header_now core = record core.flush.header {
  last = record { 0 = core.last };
  root = core.root;
  append = core.heap.append;
}

-- The stage that was due was made.
pub record MakesStage (old new : CoreState) : Type 0 where
  pub stage : Stage
  pub made : StageSucceeds (header_now old) stage old.flush new.flush old.heap.pages new.heap.pages
  pub waits : Waits old new

-- It failed, and is due again.
pub record FailsStage (old new : CoreState) : Type 0 where
  pub failed : StageFails old.flush new.flush old.heap.pages new.heap.pages
  pub waits : Waits old new

-- where the tree begins, its pages, and where zones append are as before
pub record KeepsTree (old new : CoreState) : Type 0 where
  pub root : new.root ≡ old.root
  pub pages : new.heap.pages.current ≡ old.heap.pages.current
  pub append : new.heap.append ≡ old.heap.append

-- what a stage made of a core, by its result
abbrev pub IsStaged : CoreState → CoreState → Result Stage Fault → Type 0
IsStaged old new (Ok stage) = MakesStage old new
IsStaged old new (Err fault) = FailsStage old new

-- where no flush is in flight, nothing is unsettled: so it is once the last stage of one was made
abbrev pub Settles : CoreState → Type 0
Settles core = core.flush.at ≡ Idle → IfSome core.heap.disk (λ t. t.unsettled ≡ [])

-- It failed, and the call for which it was made was answered so: the disk failed within it, or memory was refused as a group was to
-- be frozen.
pub record Refuses (old new : CoreState) (lane line : ℕ) (command : Command) : Type 0 where
  pub failed : StageFails old.flush new.flush old.heap.pages new.heap.pages
  pub ends : EndsAtOnce old new lane line old.last command
  pub cause : TellsFailure old.counts.disk new.counts.disk ends.enters.entry.reply

-- A stage was made for a call, which is handed back; or it failed, and the call was refused and entered, or no id was left for that.
abbrev pub Stages : CoreState → CoreState → ℕ → ℕ → Command → Staged → Type 0
Stages old new lane line command (More back) = (back ≡ command) × MakesStage old new
Stages old new lane line command (Refused place) = (place ≡ length old.history) × Refuses old new lane line command
Stages old new lane line command Spent = (old.last ≡ GREATEST_ID) × FailsStage old new

-- the boundary is the last id, and no flush is in flight
pub record IsFlushed (core : CoreState) : Type 0 where
  pub idle : core.flush.at ≡ Idle
  pub last : core.boundary ≡ core.last

-- the last stage of a flush was made, and nothing is unsettled
pub record EndsFlush (old new : CoreState) : Type 0 where
  pub makes : MakesStage old new
  pub settled : IfSome new.heap.disk (λ t. t.unsettled ≡ [])

-- A stage of the last flush, unless all is committed by then. It tells whether all is.
abbrev pub EndsBy : CoreState → CoreState → Result Bool Fault → Type 0
EndsBy old new (Ok true) = IsFlushed new × ((new ≡ old) ⊎ EndsFlush old new)
EndsBy old new (Ok false) = (¬ IsFlushed old) × (¬ IsFlushed new) × MakesStage old new
EndsBy old new (Err fault) = (¬ IsFlushed old) × FailsStage old new
