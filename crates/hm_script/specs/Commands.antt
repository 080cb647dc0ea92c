-- The command that words give.
use Rattle.std.specs.Prelude.{ℕ, List, Option}
use Rattle.std.specs.Option.{MatchOption}
use Rattle.hm_model.specs.declared.command.Command.{Command}
use Rattle.hm_model.specs.Forms.{IsForm, IsInRange}

-- the words are this command's, with values in their ranges
pub record IsCommandOf (words : List (List ℕ)) (command : Command) : Type 0 where
  pub form : IsForm words command
  pub in_range : IsInRange command

-- the words are no command's
abbrev pub IsNoCommand : List (List ℕ) → Type 0
IsNoCommand words = (command : Command) → IsCommandOf words command → ⊥

-- the words give this command, or there is none that they give
abbrev pub FindsCommand : List (List ℕ) → Option Command → Type 0
FindsCommand words found = MatchOption found (IsNoCommand words) (IsCommandOf words)
