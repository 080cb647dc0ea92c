-- Which lines of a script are run: those of a call that is served, without a lane, beside those that answer nothing.
use Rattle.std.specs.Prelude.{◌≡◌, ◌⊎◌, ℕ, ◌+◌, ◌<◌, List, ◌∷◌, ◌++◌, All, Contains, IsTrue, length}
use Rattle.hm_model.specs.declared.command.Command.{Command}
use Rattle.hm_model.specs.declared.line.Line.{Line}
use Rattle.hm_model.specs.Lines.{texts_of}
use Rattle.hm_model.specs.Script.{Gives, IsScriptOf, IsTooLong, is_remark}
use Rattle.hm_core.specs.Served.{IsAsked, IsServed}
use Rattle.hm_shell.specs.declared.stop.RunStop.{RunStop}
use Rattle.hm_shell.specs.declared.stop.RunStop.TheVariants.{Usage, NotVolume, BadField, DiskFault, Damaged, ScriptFault, OutFault, NoMemory, BadLine, TooLong}
use Rattle.hm_shell.specs.Alone.{IsAlone, alone}

-- a text that answers nothing, or that gives a command that is served, and no lane
abbrev pub IsServedText : List ℕ → Type 0
IsServedText text = IsTrue (is_remark text) ⊎ ((command : Command) × Gives text 0 command × IsServed command)

-- all lines of the script are such
abbrev pub IsGoodScript : List ℕ → Type 0
IsGoodScript bytes = All IsServedText (texts_of bytes)

-- the first line of the script that is none has this number
pub record IsFirstRefused (bytes : List ℕ) (number : ℕ) : Type 0 where
  pub before : List (List ℕ)
  pub bad : List ℕ
  pub rest : List (List ℕ)
  pub texts : texts_of bytes ≡ before ++ bad ∷ rest
  pub good : All IsServedText before
  pub outside : IsServedText bad → ⊥
  pub place : number ≡ length before + 1

-- the script has these lines, each a block by itself
abbrev pub HasLines : List ℕ → List Line → Type 0
HasLines script lines = IsScriptOf script (alone lines)

-- a line that runs by itself, and of a call that is served
pub record IsServedLine (line : Line) : Type 0 where
  pub by_itself : IsAlone line
  pub asked : IsAsked line.command

-- each line has a greater number than those before it
abbrev pub NumbersRise : List Line → Type 0
NumbersRise lines =
    (before rest : List Line) (line earlier : Line) → lines ≡ before ++ line ∷ rest → Contains before earlier →
    earlier.number < line.number

-- all lines of a script are served, and these are they
pub record AreServedLines (script : List ℕ) (lines : List Line) : Type 0 where
  pub good : IsGoodScript script
  pub lines_are : HasLines script lines
  pub each : All IsServedLine lines
  pub rising : NumbersRise lines

-- why there are no such lines
abbrev pub IsLinesStop : List ℕ → RunStop → Type 0
IsLinesStop script (BadLine number why) = IsFirstRefused script number
IsLinesStop script TooLong = IsTooLong script
IsLinesStop script NoMemory = Unit {0}
IsLinesStop script Usage = ⊥
IsLinesStop script NotVolume = ⊥
IsLinesStop script (BadField place) = ⊥
IsLinesStop script (DiskFault before after) = ⊥
IsLinesStop script (Damaged at kind) = ⊥
IsLinesStop script (ScriptFault before after) = ⊥
IsLinesStop script OutFault = ⊥

-- a line without a lane, of a call that is served
pub record IsServable (line : Line) : Type 0 where
  pub lane : line.lane ≡ 0
  pub served : IsServed line.command

-- of lines this one is the first that is not, by its number
pub record IsFirstUnserved (lines : List Line) (number : ℕ) : Type 0 where
  pub before : List Line
  pub line : Line
  pub rest : List Line
  pub split : lines ≡ before ++ line ∷ rest
  pub good : All IsServable before
  pub outside : IsServable line → ⊥
  pub number_is : number ≡ line.number
