-- Lists that go on by one element.
use Rattle.std.proofs.Common.{◌≡◌, List, [], ◌∷◌, ◌++◌, refl, ap, inl, inr}
use Rattle.std.specs.Prelude.{◌⊎◌}

-- no element stands in the empty list
pub nothing_in_none : {X : Type 0} (before : List X) (x : X) (rest : List X) → [] ≡ before ++ x ∷ rest → ⊥
nothing_in_none [] x rest e = absurd (cc)
nothing_in_none (b ∷ bs) x rest e = absurd (cc)

-- an element of a list that goes on by one is the new one, or stood in it before
pub last_or_before : {X : Type 0} (xs : List X) (x : X) (before : List X) (y : X) (rest : List X) → xs ++ x ∷ [] ≡ before ++ y ∷ rest →
    ((xs ≡ before) × (x ≡ y)) ⊎ ((more : List X) × (xs ≡ before ++ y ∷ more))
last_or_before [] x [] y rest e = inl (refl, cc)
last_or_before [] x (b ∷ bs) y rest e = let tail : [] ≡ bs ++ y ∷ rest = cc in absurd (nothing_in_none bs y rest tail)
last_or_before (z ∷ zs) x [] y rest e = inr (zs, ap (λ h. h ∷ zs) (cc))
last_or_before (z ∷ zs) x (b ∷ bs) y rest e =
    let tail : zs ++ x ∷ [] ≡ bs ++ y ∷ rest = cc in
    let head : z ≡ b = cc in
    elim (last_or_before zs x bs y rest tail) [
      | inl both ↦ inl (cc, both.1)
      | inr more ↦ inr (more.0, cc)
    ]
