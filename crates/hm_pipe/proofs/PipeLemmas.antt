-- What several calls of one source or sink come to.
use Rattle.std.proofs.Common.{◌≡◌, ℕ, ◌+◌, ◌≤◌, List, [], ◌∷◌, ◌++◌, Option, Some, None, length, take, refl, sym, ◌∙◌, ap, arith, append_assoc, min}
use Rattle.std.specs.Prelude.{option_map}
use Rattle.hm_types.specs.Faults.{Rose}
use Rattle.hm_pipe.specs.Pipe.{Gives, Gains}

append-none : (xs : List ℕ) → xs ++ [] ≡ xs
append-none [] = refl
append-none (x ∷ xs) = ap (λ ys. x ∷ ys) (append-none xs)

-- nothing was gained
pub Gains-none : (held : Option (List ℕ)) → Gains held [] held
Gains-none None = refl
Gains-none (Some bytes) = ap (λ xs. Some xs) (sym (append-none bytes))

-- one gain after another
pub Gains-append : (first second third : Option (List ℕ)) (x y : List ℕ) → Gains first x second → Gains second y third → Gains first (x ++ y) third
Gains-append None second third x y gained then_gained = then_gained ∙ ap (option_map (λ held. held ++ y)) gained
Gains-append (Some bytes) second third x y gained then_gained =
    then_gained ∙ (ap (option_map (λ held. held ++ y)) gained ∙ ap (λ xs. Some xs) (append_assoc bytes x y))

-- nothing was given
pub Gives-none : (left : Option (List ℕ)) → Gives left [] left
Gives-none None = refl
Gives-none (Some bytes) = refl

-- one piece given after another
pub Gives-append : (first second third : Option (List ℕ)) (x y : List ℕ) → Gives first x second → Gives second y third → Gives first (x ++ y) third
Gives-append first second None x y gave then_gave = gave ∙ ap (option_map (λ left. x ++ left)) then_gave
Gives-append first second (Some bytes) x y gave then_gave =
    gave ∙ (ap (option_map (λ left. x ++ left)) then_gave ∙ ap (λ xs. Some xs) (sym (append_assoc x y bytes)))

-- a count that rose from a later value rose from an earlier one, and one that rose stays so
pub Rose-wider : (a b c d : ℕ) → a ≤ b → Rose b c → c ≤ d → Rose a d
Rose-wider a b c d earlier rose later = omega (arith, rose)
