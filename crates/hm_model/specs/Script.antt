-- Scripts: their lines, and the blocks that the lines make.
use Rattle.std.specs.Prelude.{◌≡◌, ◌⊎◌, ℕ, ◌+◌, ◌<◌, List, [], ◌∷◌, ◌++◌, Option, Some, None, Bool, true, false, ◌==◌, ◌&&◌, if◌then◌else◌, All, IsTrue, length}
use Rattle.hm_types.specs.declared.limits.TheConstants.{MOST_SCRIPT_BYTES, MOST_SCRIPT_LINES}
use Rattle.hm_model.specs.declared.command.Command.{Command}
use Rattle.hm_model.specs.declared.line.Line.{Line}
use Rattle.hm_model.specs.Words.{AreWords, IsLaneWord}
use Rattle.hm_model.specs.Forms.{IsForm, IsInRange}
use Rattle.hm_model.specs.Lines.{texts_of}

-- a text that answers nothing: an empty line, or one that begins with `#`
abbrev pub is_remark : List ℕ → Bool
is_remark [] = true
is_remark (b ∷ bs) = b == 0x23

-- the text has this lane, or none for 0, and these words beside it
abbrev pub IsLaned : List ℕ → ℕ → List (List ℕ) → Type 0
IsLaned text lane words =
    ((lane ≡ 0) × AreWords text words)
    ⊎ ((word : List ℕ) × IsLaneWord word lane × AreWords text (word ∷ words))

-- the text is a line that gives this command in this lane
pub record Gives (text : List ℕ) (lane : ℕ) (command : Command) : Type 0 where
  pub words : List (List ℕ)
  pub laned : IsLaned text lane words
  pub form : IsForm words command
  pub in_range : IsInRange command

-- the text gives a command, or answers nothing
abbrev pub IsGood : List ℕ → Type 0
IsGood text = IsTrue (is_remark text) ⊎ ((lane : ℕ) × (command : Command) × Gives text lane command)

-- the text is outside the grammar
abbrev pub IsBad : List ℕ → Type 0
IsBad text = IsGood text → ⊥

-- the text with this number is this line, or answers nothing
abbrev pub Reads : ℕ → List ℕ → Option Line → Type 0
Reads number text None = IsTrue (is_remark text)
Reads number text (Some line) =
    (is_remark text ≡ false) × (line.number ≡ number) × Gives text line.lane line.command

-- these texts, numbered from here on, are these lines
abbrev pub ReadEach : ℕ → List (List ℕ) → List (Option Line) → Type 0
ReadEach number [] [] = Unit {0}
ReadEach number (text ∷ texts) (line ∷ lines) =
    Reads number text line × ReadEach (number + 1) texts lines
ReadEach number [] (line ∷ lines) = ⊥
ReadEach number (text ∷ texts) [] = ⊥

-- whether the line has a lane
abbrev pub has_lane : Line → Bool
has_lane line = if line.lane == 0 then false else true

-- whether the block of this line goes on with what follows it: both have lanes
abbrev pub goes_on : Line → List (Option Line) → Bool
goes_on line [] = false
goes_on line (None ∷ lines) = false
goes_on line (Some next ∷ lines) = has_lane line && has_lane next

-- the blocks with one more line at the front, in the first block or in one of its own
abbrev pub with_line : Bool → Line → List (List Line) → List (List Line)
with_line true line (block ∷ blocks) = (line ∷ block) ∷ blocks
with_line true line [] = (line ∷ []) ∷ []
with_line false line blocks = (line ∷ []) ∷ blocks

-- The blocks of these lines. Consecutive lines that have lanes make a block, in which the lanes run at
-- once; every other line is a block by itself; and a line that answers nothing ends one.
abbrev pub blocks_of : List (Option Line) → List (List Line)
blocks_of [] = []
blocks_of (None ∷ lines) = blocks_of lines
blocks_of (Some line ∷ lines) = with_line (goes_on line lines) line (blocks_of lines)

-- the script is these blocks
pub record IsScriptOf (bytes : List ℕ) (blocks : List (List Line)) : Type 0 where
  pub lines : List (Option Line)
  pub read : ReadEach 1 (texts_of bytes) lines
  pub blocks_are : blocks ≡ blocks_of lines

-- the script has too many bytes or lines
abbrev pub IsTooLong : List ℕ → Type 0
IsTooLong bytes =
    (MOST_SCRIPT_BYTES < length bytes) ⊎ (MOST_SCRIPT_LINES < length (texts_of bytes))

-- the first line of the script that is outside the grammar has this number
pub record IsFirstBadLine (bytes : List ℕ) (number : ℕ) : Type 0 where
  pub before : List (List ℕ)
  pub bad : List ℕ
  pub rest : List (List ℕ)
  pub texts : texts_of bytes ≡ before ++ bad ∷ rest
  pub good : All IsGood before
  pub outside : IsBad bad
  pub place : number ≡ length before + 1
