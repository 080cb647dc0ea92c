-- Lines that run one after another, each by itself.
use Rattle.std.specs.Prelude.{◌≡◌, ◌≢◌, ◌⊎◌, ℕ, ◌<◌, ◌≤◌, List, [], ◌∷◌, true, false, All, Contains, IfSome, filter, map}
use Rattle.std.specs.List.{flat_map}
use Rattle.hm_types.specs.declared.limits.TheConstants.{GREATEST_ID}
use Rattle.hm_model.specs.declared.command.Command.{Command}
use Rattle.hm_model.specs.declared.command.Command.TheVariants.{End, Progress}
use Rattle.hm_model.specs.declared.entry.Entry.{Entry}
use Rattle.hm_model.specs.declared.line.Line.{Line}
use Rattle.hm_model.specs.declared.reply.Reply.{Reply}
use Rattle.hm_model.specs.Caused.{is_ending, opens}
use Rattle.hm_model.specs.Out.{IsOf, answers, endings_of, line_words, openings_of, printed_line}
use Rattle.hm_model.specs.Reply.{told_boundary}

-- a command that a line may have as its call
pub record BeginsCall (command : Command) : Type 0 where
  pub calls : command ≢ Progress
  pub begins : is_ending command ≡ false

-- a line that runs by itself
pub record IsAlone (line : Line) : Type 0 where
  pub lane : line.lane ≡ 0
  pub call : BeginsCall line.command

-- each line is a block of its own
abbrev pub alone : List Line → List (List Line)
alone lines = map (λ (line : Line). line ∷ []) lines

-- an entry stands in the history with the lane and the number of a line
pub record IsIn (line : Line) (e : Entry) : Type 0 where
  pub lane : e.lane ≡ line.lane
  pub number : e.line ≡ line.number

-- the ending of what the opening of a line opened
pub record IsEndingOf (line : Line) (opening e : Entry) : Type 0 where
  pub own : IsIn line e
  pub command : e.call ≡ End opening.id

-- These are the entries of a line: the one of its call, which opened nothing; or an opening and its ending. Where an entry may lack, it is
-- an opening without an ending, or there is none.
abbrev pub AreEntriesOf : Type 0 → Line → List Entry → Type 0
AreEntriesOf MayLack line [] = MayLack
AreEntriesOf MayLack line (e ∷ []) = IsOf line e × ((opens e ≡ false) ⊎ MayLack)
AreEntriesOf MayLack line (e ∷ f ∷ []) = IsOf line e × (opens e ≡ true) × IsEndingOf line e f
AreEntriesOf MayLack line (e ∷ f ∷ g ∷ es) = ⊥

-- a boundary that a reply tells is at least the ids of the entries of lines before this number
abbrev pub TellsAfter : List Entry → ℕ → Reply → Type 0
TellsAfter history number reply =
    IfSome (told_boundary reply) (λ boundary. (e : Entry) → Contains history e → e.line < number → e.id.0 ≤ boundary.0)

-- no id was left for an entry of a line, and no later line has one
pub record FoundNone (history : List Entry) (end : ℕ) (line : Line) : Type 0 where
  pub greatest : end ≡ GREATEST_ID
  pub none_later : (e : Entry) → Contains history e → line.number < e.line → ⊥

-- A line was answered: the history has its entries, of which one lacks only where no id was left; and a boundary that one of them tells is
-- at least the ids of earlier lines.
pub record HasAnswer (history : List Entry) (end : ℕ) (line : Line) : Type 0 where
  pub entries : AreEntriesOf (FoundNone history end line) line (filter (answers line.number) history)
  pub told : All (λ (e : Entry). TellsAfter history line.number e.reply) (filter (answers line.number) history)

-- A history whose last id is this one answers the lines: each was answered; every entry belongs to a line; and the ids of a line lie before
-- those of the lines after it.
pub record AnswersEach (end : ℕ) (lines : List Line) (history : List Entry) : Type 0 where
  pub each : All (HasAnswer history end) lines
  pub owned : (e : Entry) → Contains history e → (line : Line) × Contains lines line × IsIn line e
  pub in_order : (a b : Entry) → Contains history a → Contains history b → a.line < b.line → a.id.0 < b.id.0

-- These are the entries that a line more adds to a history, whose last id is the one before them and the other after them: those of the
-- line, with ids above all others, and no boundary below them; and none where no id was left.
pub record AddsEntries (history : List Entry) (end next : ℕ) (line : Line) (more : List Entry) : Type 0 where
  pub entries : AreEntriesOf (next ≡ GREATEST_ID) line more
  pub spent : end ≡ GREATEST_ID → more ≡ []
  pub told : All (λ (e : Entry). TellsAfter history line.number e.reply) more
  pub above : (a b : Entry) → Contains history a → Contains more b → a.id.0 < b.id.0

-- what a line with these entries prints
abbrev pub words_of : List Entry → List ℕ
words_of [] = line_words [] []
words_of (e ∷ es) = line_words (e ∷ []) es

-- what a line prints in a run with this history
abbrev pub line_text : List Entry → Line → List ℕ
line_text history line = printed_line (line_words (openings_of history line) (endings_of history line))

-- what the lines print, in their order
abbrev pub out_text : List Line → List Entry → List ℕ
out_text lines history = flat_map (line_text history) lines
