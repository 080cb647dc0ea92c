-- What reading a script from its source came to.
use Rattle.std.specs.Prelude.{◌≡◌, ℕ, ◌≤◌, List, ◌==◌, length}
use Rattle.std.specs.List.{count_by}
use Rattle.hm_types.specs.declared.limits.TheConstants.{MOST_SCRIPT_BYTES, MOST_SCRIPT_LINES}
use Rattle.hm_types.specs.Faults.{Rose}
use Rattle.hm_pipe.specs.Pipe.{Gives, IsAtEnd}
use Rattle.hm_model.specs.Lines.{line_feed, texts_of}
use Rattle.hm_model.specs.Script.{IsTooLong}
use Rattle.hm_shell.specs.declared.stop.RunStop.{RunStop}
use Rattle.hm_shell.specs.declared.stop.RunStop.TheVariants.{Usage, NotVolume, BadField, DiskFault, Damaged, ScriptFault, OutFault, NoMemory, BadLine, TooLong}
use Rattle.hm_shell.specs.Seen.{Seen}

-- how many line feeds a text has
abbrev pub feeds : List ℕ → ℕ
feeds text = count_by (λ b. b == line_feed) text

-- the source gave this script, which is not too long, and is at its end
pub record WasRead (old new : Seen (List ℕ)) (script : List ℕ) : Type 0 where
  pub gave : Gives old.told script new.told
  pub ended : IsAtEnd new.told
  pub bytes : length script ≤ MOST_SCRIPT_BYTES
  pub lines : length (texts_of script) ≤ MOST_SCRIPT_LINES

-- Why the reading stopped: at a fault, with both counts; where more was taken than a script may have; or
-- for want of memory.
abbrev pub StoppedReading : Seen (List ℕ) → Seen (List ℕ) → RunStop → Type 0
StoppedReading old new (ScriptFault before after) =
    (before ≡ old.faults) × (after ≡ new.faults) × Rose before after
    × (taken : List ℕ) × Gives old.told taken new.told
    × (length taken ≤ MOST_SCRIPT_BYTES) × (length (texts_of taken) ≤ MOST_SCRIPT_LINES)
StoppedReading old new TooLong = (taken : List ℕ) × Gives old.told taken new.told × IsTooLong taken
StoppedReading old new NoMemory = (taken : List ℕ) × Gives old.told taken new.told
StoppedReading old new Usage = ⊥
StoppedReading old new NotVolume = ⊥
StoppedReading old new (BadField place) = ⊥
StoppedReading old new (DiskFault before after) = ⊥
StoppedReading old new (Damaged at kind) = ⊥
StoppedReading old new OutFault = ⊥
StoppedReading old new (BadLine number why) = ⊥
