-- The lane that a line's first word may give.
use Rattle.std.specs.Prelude.{◌≡◌, ◌⊎◌, ℕ, List, [], ◌∷◌}
use Rattle.hm_model.specs.Words.{IsLaneWord}

-- the word gives no lane
abbrev pub IsNoLaneWord : List ℕ → Type 0
IsNoLaneWord word = (lane : ℕ) → IsLaneWord word lane → ⊥

-- the words begin with this lane, or give none, and these are the words beside it
abbrev pub CutsLane : List (List ℕ) → ℕ → List (List ℕ) → Type 0
CutsLane [] lane rest = (lane ≡ 0) × (rest ≡ [])
CutsLane (word ∷ words) lane rest =
    (IsLaneWord word lane × (rest ≡ words))
    ⊎ (IsNoLaneWord word × (lane ≡ 0) × (rest ≡ word ∷ words))
