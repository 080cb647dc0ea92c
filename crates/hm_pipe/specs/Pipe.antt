-- What a source gives and a sink gains, where they tell it. What is untold stays untold, and then a
-- clause about it says nothing.
use Rattle.std.specs.Prelude.{◌≡◌, ℕ, List, [], ◌++◌, Option, IfSome, option_map}

-- a source with this left gave these bytes, in order, and has that left
abbrev pub Gives : Option (List ℕ) → List ℕ → Option (List ℕ) → Type 0
Gives before bytes after = before ≡ option_map (λ left. bytes ++ left) after

-- a source with this left is at its end
abbrev pub IsAtEnd : Option (List ℕ) → Type 0
IsAtEnd left = IfSome left (λ bytes. bytes ≡ [])

-- a sink that held this gained these bytes, after all that it held, and holds that
abbrev pub Gains : Option (List ℕ) → List ℕ → Option (List ℕ) → Type 0
Gains before bytes after = after ≡ option_map (λ held. held ++ bytes) before
