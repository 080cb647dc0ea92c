-- The texts of a script's lines.
use Rattle.std.specs.Prelude.{ℕ, List, [], ◌∷◌, ◌==◌, if◌then◌else◌}

-- a line feed
abbrev pub line_feed : ℕ
line_feed = 0x0A

-- the first text begins with one more byte
abbrev pub with_first : ℕ → List (List ℕ) → List (List ℕ)
with_first b [] = (b ∷ []) ∷ []
with_first b (text ∷ texts) = (b ∷ text) ∷ texts

-- the texts of a script's lines, each of which ends at a line feed, that the last may lack
abbrev pub texts_of : List ℕ → List (List ℕ)
texts_of [] = []
texts_of (b ∷ bs) = if b == line_feed then [] ∷ texts_of bs else with_first b (texts_of bs)
