-- What reading a script answers.
use Rattle.std.specs.Prelude.{◌≡◌, ℕ, List, [], ◌∷◌, ◌++◌, Option, length}
use Rattle.hm_model.specs.declared.line.Line.{Line}
use Rattle.hm_model.specs.Script.{Gives, Reads, ReadEach, IsBad, IsTooLong, IsFirstBadLine}
use Rattle.hm_script.specs.declared.fault.ScriptFault.{ScriptFault}
use Rattle.hm_script.specs.declared.fault.ScriptFault.TheVariants.{BadLine, TooLong, NoMemory}
use Rattle.hm_model.specs.Lines.{texts_of}
use Rattle.hm_script.specs.Gathering.{Gathered, gather}

-- the text with this number gives this line
pub record IsLineOf (number : ℕ) (text : List ℕ) (line : Line) : Type 0 where
  pub number_is : line.number ≡ number
  pub gives : Gives text line.lane line.command

-- the text with this number was added to the blocks
pub record Adds (number : ℕ) (text : List ℕ) (before after : Gathered) : Type 0 where
  pub line : Option Line
  pub reads : Reads number text line
  pub gathered : after ≡ gather before line

-- why the text with this number was not added
abbrev pub IsTextFault : ℕ → List ℕ → ScriptFault → Type 0
IsTextFault number text (BadLine bad) = (bad ≡ number) × IsBad text
IsTextFault number text TooLong = ⊥
IsTextFault number text NoMemory = Unit {0}

-- why the lines of a script were not read
abbrev pub IsLineFault : List ℕ → ScriptFault → Type 0
IsLineFault bytes (BadLine number) = IsFirstBadLine bytes number
IsLineFault bytes TooLong = ⊥
IsLineFault bytes NoMemory = Unit {0}

-- Why bytes gave no script. A script that is too long is that and nothing else.
abbrev pub IsScriptFault : List ℕ → ScriptFault → Type 0
IsScriptFault bytes TooLong = IsTooLong bytes
IsScriptFault bytes (BadLine number) = (IsTooLong bytes → ⊥) × IsFirstBadLine bytes number
IsScriptFault bytes NoMemory = IsTooLong bytes → ⊥

-- what was gathered from these lines, one by one
abbrev pub gathered_from : Gathered → List (Option Line) → Gathered
gathered_from gathered [] = gathered
gathered_from gathered (line ∷ lines) = gathered_from (gather gathered line) lines

-- the script was read up to the rest, so many lines, which gave these blocks
pub record IsReadSoFar (bytes rest : List ℕ) (number : ℕ) (blocks : Gathered) : Type 0 where
  pub texts : List (List ℕ)
  pub lines : List (Option Line)
  pub split : texts_of bytes ≡ texts ++ texts_of rest
  pub read : ReadEach 1 texts lines
  pub count : number ≡ length texts
  pub gathered : blocks ≡ gathered_from ([], []) lines
