-- What the intervals of a rising list may hold.
use Rattle.std.proofs.Common.{ℕ, zero, suc, ◌+◌, ◌<◌, ◌≤◌, ◌^◌, List, [], ◌∷◌, inl, inr, arith}
use Rattle.std.specs.Prelude.{◌⊎◌}
use Rattle.hm_types.specs.Intervals.{Keeps}
use Rattle.hm_retain.specs.Intervals.{RiseFrom}
use Rattle.hm_retain.specs.Growth.{BeginBy}

-- of two numbers one is less, or it is not
pub less_or_not : (a b : ℕ) → (a < b) ⊎ (b ≤ a)
less_or_not a zero = inr (omega arith)
less_or_not zero (suc b) = inl (omega arith)
less_or_not (suc a) (suc b) = elim (less_or_not a b) [ inl less ↦ inl (omega arith) | inr not ↦ inr (omega arith) ]

-- what rises from an id on rises from each lower one on
pub RiseFrom-lower : (low least : ℕ) (list : List (ℕ × ℕ)) → low ≤ least → RiseFrom least list → RiseFrom low list
RiseFrom-lower low least [] le rise = tt
RiseFrom-lower low least (x ∷ xs) le rise = (record { above = omega arith; ordered = rise.0.ordered; bounded = rise.0.bounded }, rise.1)

-- a list that rises from an id on keeps no lower one
pub kept_from : (least : ℕ) (list : List (ℕ × ℕ)) (id : ℕ) → RiseFrom least list → Keeps list id → least ≤ id
kept_from least [] id rise kept = absurd kept
kept_from least (x ∷ xs) id rise (inl held) = omega arith
kept_from least (x ∷ xs) id rise (inr kept) = let above : x.1 + 2 ≤ id = kept_from (x.1 + 2) xs id rise.1 kept in omega arith

-- an id that a list keeps is below 2^64
pub kept_below : (least : ℕ) (list : List (ℕ × ℕ)) (id : ℕ) → RiseFrom least list → Keeps list id → id < 2 ^ 64
kept_below least [] id rise kept = absurd kept
kept_below least (x ∷ xs) id rise (inl held) = omega arith
kept_below least (x ∷ xs) id rise (inr kept) = kept_below (x.1 + 2) xs id rise.1 kept

-- intervals that begin by an id begin by each greater one
pub BeginBy-higher : (first more : ℕ) (list : List (ℕ × ℕ)) → first ≤ more → BeginBy first list → BeginBy more list
BeginBy-higher first more [] le begin = tt
BeginBy-higher first more (x ∷ xs) le begin = (omega arith, BeginBy-higher first more xs le begin.1)
