-- The words of a line, as they are kept.
use Rattle.std.specs.Prelude.{ℕ, ◌≤◌, List, length, take}
use Rattle.std.specs.Prelude.{map}
use Rattle.std.specs.Borrow.{Bor}
use Rattle.hm_script.specs.declared.words.TheConstants.{MOST_WORDS}
use Rattle.hm_model.specs.Words.{AreWords}

-- the texts that references point to
abbrev pub texts : List (Bor (List ℕ)) → List (List ℕ)
texts words = map (λ word. word.now) words

-- the text has these words
abbrev pub IsText : List ℕ → List (Bor (List ℕ)) → ℕ → Type 0
IsText text words count = AreWords text (texts (take count words))

-- the text has no words, or too many for a line of the grammar
abbrev pub IsNoText : List ℕ → Type 0
IsNoText text = (words : List (List ℕ)) → AreWords text words → length words ≤ MOST_WORDS → ⊥
