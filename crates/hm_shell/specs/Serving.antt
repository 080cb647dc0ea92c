-- The lines of a script, served from the front on an open volume, and what comes of it.
use Rattle.std.specs.Prelude.{◌≡◌, ◌≢◌, ◌⊎◌, ℕ, ◌+◌, ◌*◌, ◌<◌, ◌≤◌, List, [], ◌++◌, Option, None, Some, Contains, IfSome, length, take}
use Rattle.hm_types.specs.Faults.{Rose}
use Rattle.hm_types.specs.declared.limits.TheConstants.{GREATEST_ID}
use Rattle.hm_disk.specs.Crash.{Told}
use Rattle.hm_disk.specs.Moments.{LeftSince}
use Rattle.hm_pipe.specs.Pipe.{Gains}
use Rattle.hm_model.specs.declared.command.Command.{Command}
use Rattle.hm_model.specs.declared.command.Command.TheVariants.{End}
use Rattle.hm_model.specs.declared.entry.Entry.{Entry}
use Rattle.hm_model.specs.declared.line.Line.{Line}
use Rattle.hm_model.specs.Out.{printed_line}
use Rattle.hm_model.specs.Reply.{told_boundary}
use Rattle.hm_core.specs.Core.{EndsAtOnce, Enters, Follows, IsCausedRun, OpensJob, Waits}
use Rattle.hm_core.specs.Counts.{with_disk}
use Rattle.hm_core.specs.Finished.{IsCommittedOn}
use Rattle.hm_core.specs.Jobs.{ClosesJob}
use Rattle.hm_core.specs.Staged.{IsFlushed}
use Rattle.hm_core.specs.State.{CoreState, OpenJob, job_with}
use Rattle.hm_shell.specs.declared.serve.Called.{Called}
use Rattle.hm_shell.specs.declared.serve.Called.TheVariants.{Closed, Opened, Spent}
use Rattle.hm_shell.specs.declared.stop.RunStop.{RunStop}
use Rattle.hm_shell.specs.Alone.{AnswersEach, AreEntriesOf, out_text, words_of}
use Rattle.hm_shell.specs.Printing.{StoppedPrinting}
use Rattle.hm_shell.specs.Running.{IsOutCause, IsWriteCause}
use Rattle.hm_shell.specs.Seen.{Seen}

-- Where a history has an entry, not all of it is committed; and where it has none, all of the core but its room is as it was.
pub record IsUncommitted (begun core : CoreState) : Type 0 where
  pub behind : core.history ≢ [] → core.boundary < core.last
  pub idle : core.history ≡ [] → core ≡ record begun { spare = core.spare }

-- the header that counts is of as many big-blocks as before
abbrev pub KeepsSize : CoreState → CoreState → Type 0
KeepsSize old new = new.flush.header.bigblocks ≡ old.flush.header.bigblocks

-- The core's history answers the lines, by ids up to its last one, and the sink gained what the lines print.
pub record Served (lines : List Line) (past since : LeftSince) (begun core : CoreState) (old new : Option (List ℕ)) : Type 0 where
  pub from : Follows past since begun core
  pub size : KeepsSize begun core
  pub answers : AnswersEach core.last lines core.history
  pub up_to : (e : Entry) → Contains core.history e → e.id.0 ≤ core.last
  pub gained : Gains old (out_text lines core.history) new

-- the lines before the rest were served, and there is room for the rest
pub record Serving (lines before rest : List Line) (past since : LeftSince) (begun core : CoreState) (old new : Option (List ℕ))
    : Type 0 where
  pub split : lines ≡ before ++ rest
  pub served : Served before past since begun core old new
  pub behind : IsUncommitted begun core
  pub room : 2 * length rest ≤ core.spare

-- The lines before the rest were served; all of them but at most the last were printed whole, and a front of what the last
-- one prints: nothing, unless the sink's count of faults rose.
pub record ServedInPart (lines : List Line) (past since : LeftSince) (begun core : CoreState) (old new : Seen (List ℕ)) : Type 0 where
  pub before : List Line
  pub last : List Line
  pub rest : List Line
  pub split : lines ≡ before ++ (last ++ rest)
  pub one : length last ≤ 1
  pub from : Follows past since begun core
  pub size : KeepsSize begun core
  pub answers : AnswersEach core.last (before ++ last) core.history
  pub printed : ℕ
  pub gained : Gains old.told (out_text before core.history ++ take printed (out_text last core.history)) new.told
  pub cut : (printed ≡ 0) ⊎ Rose old.faults new.faults

-- nothing was made of a core, or stages of a flush were, for a call for which an id is left
abbrev pub Waited : CoreState → CoreState → Type 0
Waited old new = (new ≡ old) ⊎ (Waits old new × (old.last < GREATEST_ID))

-- A call was answered, after the stages for which it waited: its entry stands at this place of the history, and it is at its end, or it opened
-- a call of housekeeping. Or no id was left.
abbrev pub CallsLine : CoreState → CoreState → ℕ → ℕ → Command → Called → Type 0
CallsLine old new lane number command (Closed place) =
    (place ≡ length old.history) × EndsAtOnce old new lane number old.last command
CallsLine old new lane number command (Opened place ticket) =
    (place ≡ length old.history) × OpensJob old new lane number old.last command ticket.opening.0
CallsLine old new lane number command Spent = (old.last ≡ GREATEST_ID) × (new ≡ old)

-- An open call came to its end: its ending was entered, with the lane and the line of its opening.
pub record EntersEnding (opening : ℕ) (old new : CoreState) : Type 0 where
  pub job : OpenJob
  pub found : job_with opening old.running ≡ Some job
  pub enters : Enters old new job.lane job.line old.last (End (record { 0 = opening }))
  pub closes : ClosesJob opening old new

-- its ending stands at this place of the history, or no id was left for it
abbrev pub EndsOrLacks : ℕ → CoreState → CoreState → Option ℕ → Type 0
EndsOrLacks opening old new (Some place) = (place ≡ length old.history) × EntersEnding opening old new
EndsOrLacks opening old new None = (old.last ≡ GREATEST_ID) × (new ≡ old)

-- A line was run, and these entries were added: those of the line, by the ids after the last one. A boundary that one tells is at least that,
-- and not all of them are committed; and where there are none, all is as before. At most two places of the room are taken.
pub record RunsLine (old new : CoreState) (line : Line) (more : List Entry) : Type 0 where
  pub history : new.history ≡ old.history ++ more
  pub entries : AreEntriesOf (new.last ≡ GREATEST_ID) line more
  pub spent : old.last ≡ GREATEST_ID → more ≡ []
  pub drawn : (e : Entry) → Contains more e → (old.last < e.id.0) × (e.id.0 ≤ new.last)
  pub told : (e : Entry) → Contains more e → IfSome (told_boundary e.reply) (λ boundary. old.last ≤ boundary.0)
  pub behind : more ≢ [] → new.boundary < new.last
  pub idle : more ≡ [] → new ≡ old
  pub later : old.last ≤ new.last
  pub room : old.spare ≤ new.spare + 2

-- a line was run and printed
pub record ServesLine (old new : CoreState) (line : Line) (held holds : Option (List ℕ)) : Type 0 where
  pub more : List Entry
  pub runs : RunsLine old new line more
  pub gained : Gains held (printed_line (words_of more)) holds

-- a line was run, and could not be printed
pub record StoppedServing (old new : CoreState) (line : Line) (old_out new_out : Seen (List ℕ)) (stop : RunStop) : Type 0 where
  pub more : List Entry
  pub runs : RunsLine old new line more
  pub printing : StoppedPrinting (printed_line (words_of more)) old_out new_out stop

-- The stages of the last flush were made: all is committed, and the disk stands for the volume. Where a stage was made, since not
-- all was committed before, nothing is unsettled.
pub record Commits (old new : CoreState) : Type 0 where
  pub flushed : IsFlushed new
  pub committed : IfSome new.heap.disk (IsCommittedOn new)
  pub made : (new ≡ old) ⊎ ((¬ IsFlushed old) × IfSome new.heap.disk (λ t. t.unsettled ≡ []))

-- A core by its end: the disk has its volume. Where its history has an entry, nothing is unsettled, and else the disk is as it was.
pub record IsCommittedAtEnd (begun core : CoreState) : Type 0 where
  pub committed : IfSome core.heap.disk (IsCommittedOn core)
  pub settled : core.history ≢ [] → IfSome core.heap.disk (λ t. t.unsettled ≡ [])
  pub unwritten : core.history ≡ [] → core.heap.disk ≡ begun.heap.disk

-- the disk of a core, as it was handed back
pub record IsDiskOf (core : CoreState) (disk : Seen Told) : Type 0 where
  pub told : disk.told ≡ core.heap.disk
  pub faults : disk.faults ≡ core.counts.disk

-- all lines were served on an open volume, and all is committed
pub record UsesAll (lines : List Line) (past since : LeftSince) (begun : CoreState) (disk : Seen Told) (old new : Option (List ℕ))
    : Type 0 where
  pub core : CoreState
  pub served : Served lines past since begun core old new
  pub ended : IsCommittedAtEnd begun core
  pub disk_is : IsDiskOf core disk

-- a line was not served to its end, and the volume was left as it was then
pub record LeavesAtLine (lines : List Line) (past since : LeftSince) (begun : CoreState) (disk : Seen Told) (old new : Seen (List ℕ))
    (stop : RunStop) : Type 0 where
  pub core : CoreState
  pub served : ServedInPart lines past since begun core old new
  pub cause : IsOutCause old.faults new.faults stop
  pub disk_is : IsDiskOf core disk

-- All lines were served, and a stage of the last flush failed, over which the count of faults went from one to another, and no reply
-- had told more of them than the one.
pub record FailsWriting (lines : List Line) (past since : LeftSince) (begun : CoreState) (disk : Seen Told) (old new : Option (List ℕ))
    (stop : RunStop) : Type 0 where
  pub core : CoreState
  pub served : Served lines past since begun core old new
  pub before : ℕ
  pub later : begun.counts.disk ≤ before
  pub caused : IsCausedRun (record core { counts = with_disk core.counts before })
  pub cause : IsWriteCause before disk.faults stop
  pub disk_is : IsDiskOf core disk

-- the use of an open volume stopped
abbrev pub StopsUsing : List Line → LeftSince → LeftSince → CoreState → Seen Told → Seen (List ℕ) → Seen (List ℕ) → RunStop → Type 0
StopsUsing lines past since begun disk old new stop =
    LeavesAtLine lines past since begun disk old new stop ⊎ FailsWriting lines past since begun disk old.told new.told stop
