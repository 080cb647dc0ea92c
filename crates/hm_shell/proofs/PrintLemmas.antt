-- Pieces that are put one after another.
use Rattle.std.proofs.Common.{◌≡◌, ℕ, zero, suc, ◌+◌, ◌<◌, List, [], ◌∷◌, ◌++◌, length, get_or, take, drop, refl, sym, ◌∙◌, ap, arith, add-one, append_assoc}
use Rattle.std.specs.Prelude.{Option, Result, Ok, Err, OnErr}
use Rattle.std.proofs.lemmas.Grind.{common_steps}
use Rattle.std.specs.Borrow.{Bor}
use Rattle.hm_pipe.specs.Pipe.{Gains}
use Rattle.hm_pipe.proofs.PipeLemmas.{Gains-append}
use Rattle.hm_shell.specs.Printing.{joined}

append-none : {X : Type 0} (xs : List X) → xs ++ [] ≡ xs
append-none [] = refl
append-none (x ∷ xs) = ap (λ ys. x ∷ ys) (append-none xs)

-- the pieces so far, the next one, and the rest
pub joined-split : (pieces : List (Bor (List ℕ))) (i : ℕ) (d : Bor (List ℕ)) → i < length pieces → joined pieces ≡ joined (take i pieces) ++
    ((get_or pieces i d).now ++ joined (drop (suc i) pieces))
joined-split [] i d within = absurd (omega arith)
joined-split (p ∷ ps) zero d within = refl
joined-split (p ∷ ps) (suc i) d within =
    ap (λ xs. p.now ++ xs) (joined-split ps i d (omega arith)) ∙ sym (append_assoc p.now (joined (take i ps)) _)

-- the pieces so far and one more
pub joined-more : (pieces : List (Bor (List ℕ))) (i : ℕ) (d : Bor (List ℕ)) → i < length pieces → joined (take (i + 1) pieces) ≡ joined (take i pieces) ++
    (get_or pieces i d).now
joined-more pieces i d within = rw add-one (more pieces i within)
  where
    more : (pieces : List (Bor (List ℕ))) (i : ℕ) → i < length pieces → joined (take (suc i) pieces) ≡ joined (take i pieces) ++ (get_or pieces i d).now
    more [] i within = absurd (omega arith)
    more (p ∷ ps) zero within = append-none p.now
    more (p ∷ ps) (suc i) within =
        ap (λ xs. p.now ++ xs) (more ps i (omega arith)) ∙ sym (append_assoc p.now (joined (take i ps)) _)

-- a front of a list in the middle of a longer one ends a front of that
pub front_within : (a p r : List ℕ) (k : ℕ) → (n : ℕ) × (a ++ take k p ≡ take n (a ++ (p ++ r)))
front_within [] [] r k = (0, grind (arith, common_steps))
front_within [] (x ∷ xs) r zero = (0, refl)
front_within [] (x ∷ xs) r (suc k) =
    let more = front_within [] xs r k in (suc more.0, ap (λ ys. x ∷ ys) more.1)
front_within (x ∷ a) p r k =
    let more = front_within a p r k in (suc more.0, ap (λ ys. x ∷ ys) more.1)

-- so much was gained of a whole, and then a front of its next part: a front of the whole
pub Gains-front : (first second third : Option (List ℕ)) (whole a p r : List ℕ) (k : ℕ) → whole ≡ a ++ (p ++ r) → Gains first a second → Gains second
    (take k p) third → (n : ℕ) × Gains first (take n whole) third
Gains-front first second third whole a p r k parts gained then_gained =
    let front = front_within a p r k in
    (front.0, rw (parts, ← front.1) (Gains-append first second third a (take k p) gained then_gained))

-- what holds anyway holds of an error
pub on_err : {T E : Type 0} {P : Type 0} (r : Result T E) → P → OnErr r P
on_err (Ok x) p = tt
on_err (Err e) p = p

-- one more piece was gained
pub Gains-piece : (first second third : Option (List ℕ)) (pieces : List (Bor (List ℕ))) (i : ℕ) (d : Bor (List ℕ)) → i < length pieces → Gains first
    (joined (take i pieces)) second → Gains second (get_or pieces i d).now third → Gains first (joined (take (i + 1) pieces)) third
Gains-piece first second third pieces i d within gained then_gained =
    rw (joined-more pieces i d within) (Gains-append first second third (joined (take i pieces)) (get_or pieces i d).now gained then_gained)

-- the next piece was gained in part
pub Gains-part : (first second third : Option (List ℕ)) (pieces : List (Bor (List ℕ))) (i : ℕ) (d : Bor (List ℕ)) (k : ℕ) → i < length pieces → Gains first
    (joined (take i pieces)) second → Gains second (take k (get_or pieces i d).now) third → (n : ℕ) × Gains first (take n (joined pieces)) third
Gains-part first second third pieces i d k within gained then_gained =
    Gains-front first second third (joined pieces) (joined (take i pieces)) (get_or pieces i d).now (joined (drop (suc i) pieces)) k
    (joined-split pieces i d within) gained then_gained
