-- The whole run, from the words to the disk.
use Rattle.std.specs.Prelude.{◌≡◌, ◌⊎◌, ℕ, List, [], Option}
use Rattle.hm_disk.specs.Moments.{LeftSince}
use Rattle.hm_model.specs.declared.line.Line.{Line}
use Rattle.hm_shell.specs.declared.stop.RunStop.{RunStop}
use Rattle.hm_shell.specs.Devices.{Sight}
use Rattle.hm_shell.specs.Preparing.{IsPrepared, StoppedPreparing}
use Rattle.hm_shell.specs.Printing.{Prints}
use Rattle.hm_shell.specs.Running.{RunsAll, StoppedRunning}
use Rattle.hm_shell.specs.Seen.{Seen}
use Rattle.hm_shell.specs.Stop.{last_line, status_of}

-- A run that was completed: the words name a volume, the source gave a script to its end, and all of its lines were run. `since` says
-- what a crash since a moment may have left of the disk by now.
pub record Completes (words : List (List ℕ)) (since : LeftSince) (old new : Sight) : Type 0 where
  pub newfs : Option ℕ
  pub lines : List Line
  pub prepared : IsPrepared words newfs lines old.script new.script
  pub runs : RunsAll newfs lines since old.disk new.disk old.out.told new.out.told

-- a run that stopped after the words and the script were found good
pub record StopsLater (words : List (List ℕ)) (past since : LeftSince) (old new : Sight) (stop : RunStop) : Type 0 where
  pub newfs : Option ℕ
  pub lines : List Line
  pub prepared : IsPrepared words newfs lines old.script new.script
  pub stopped : StoppedRunning newfs lines past since old.disk new.disk old.out new.out stop

-- why a run stopped, and what the devices were when it did; before the words and the script were found
-- good, nothing was done with the disk and the sink
abbrev pub Stops : List (List ℕ) → LeftSince → LeftSince → Sight → Sight → RunStop → Type 0
Stops words past since old new stop =
    (StoppedPreparing words old.script new.script stop × (new.disk ≡ old.disk) × (new.out ≡ old.out))
    ⊎ StopsLater words past since old new stop

-- A run that stopped, and then printed its last line: all of it, or a front of it where the sink's count of
-- faults rose.
pub record Ends (words : List (List ℕ)) (past since : LeftSince) (old new : Sight) (stop : RunStop) : Type 0 where
  pub out : Seen (List ℕ)
  pub stops : Stops words past since old (record new { out = out }) stop
  pub line : Prints [] (last_line stop) out new.out

-- a run stopped with this status
abbrev pub StopsWith : List (List ℕ) → ℕ → LeftSince → LeftSince → Sight → Sight → Type 0
StopsWith words status past since old new = (stop : RunStop) × (status ≡ status_of stop) × Ends words past since old new stop
