-- What reading the words and the script, and looking through its lines, came to.
use Rattle.std.specs.Prelude.{◌≡◌, ℕ, ◌≤◌, List, Option, All, IfSome, length}
use Rattle.hm_types.specs.declared.limits.TheConstants.{MOST_SCRIPT_LINES}
use Rattle.hm_header.specs.Range.{IsSize}
use Rattle.hm_model.specs.declared.line.Line.{Line}
use Rattle.hm_shell.specs.declared.job.Job.{Job}
use Rattle.hm_shell.specs.declared.stop.RunStop.{RunStop}
use Rattle.hm_shell.specs.declared.stop.RunStop.TheVariants.{Usage, NotVolume, BadField, DiskFault, Damaged, ScriptFault, OutFault, NoMemory, BadLine, TooLong}
use Rattle.hm_shell.specs.Lines.{NumbersRise, HasLines, IsFirstRefused, IsGoodScript, IsServedLine}
use Rattle.hm_shell.specs.Reading.{StoppedReading, WasRead}
use Rattle.hm_shell.specs.Seen.{Seen}
use Rattle.hm_shell.specs.Words.{HasPlan, IsPlan, IsUsageFault}

-- The words name a volume, and the source gave a script, all of whose lines are served; these are they.
pub record IsPrepared (words : List (List ℕ)) (newfs : Option ℕ) (lines : List Line) (old new : Seen (List ℕ))
    : Type 0 where
  pub volume : List ℕ
  pub plan : IsPlan words volume newfs
  pub script : List ℕ
  pub read : WasRead old new script
  pub good : IsGoodScript script
  pub lines_are : HasLines script lines

-- A job that may be run: each of its lines runs by itself and is served, their numbers rise, and they are not too many.
pub record MayRun (job : Job) : Type 0 where
  pub size : IfSome job.newfs IsSize
  pub each : All IsServedLine job.lines.items
  pub rising : NumbersRise job.lines.items
  pub few : length job.lines.items ≤ MOST_SCRIPT_LINES

-- the job is what the words and the script ask for, and may be run
pub record WasPrepared (words : List (List ℕ)) (old new : Seen (List ℕ)) (job : Job) : Type 0 where
  pub prepared : IsPrepared words job.newfs job.lines.items old new
  pub due : MayRun job

-- Why nothing was made ready: the words break the rule, and nothing was taken from the source; the reading stopped; a line
-- is not served, and this is the first; or memory ran out.
abbrev pub StoppedPreparing : List (List ℕ) → Seen (List ℕ) → Seen (List ℕ) → RunStop → Type 0
StoppedPreparing words old new Usage = IsUsageFault words × (new ≡ old)
StoppedPreparing words old new (BadLine number why) =
    HasPlan words × (script : List ℕ) × WasRead old new script × IsFirstRefused script number
StoppedPreparing words old new (ScriptFault before after) =
    HasPlan words × StoppedReading old new (ScriptFault before after)
StoppedPreparing words old new TooLong = HasPlan words × StoppedReading old new TooLong
StoppedPreparing words old new NoMemory = HasPlan words × StoppedReading old new NoMemory
StoppedPreparing words old new NotVolume = ⊥
StoppedPreparing words old new (BadField place) = ⊥
StoppedPreparing words old new (DiskFault before after) = ⊥
StoppedPreparing words old new (Damaged at kind) = ⊥
StoppedPreparing words old new OutFault = ⊥
