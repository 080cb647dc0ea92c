-- Which pages of a group were live: how many, and the next one.
use Rattle.std.proofs.Common.{◌≡◌, ℕ, zero, suc, ◌+◌, ◌-◌, ◌<◌, ◌≤◌, Bool, true, false, refl, sym, ◌∙◌, ap, subst, arith, if◌then◌else◌, add-one, ⊎_elim}
use Rattle.std.proofs.lemmas.Bool.{cases_lt}
use Rattle.hm_flush.specs.Group.{live_before, next_live}

-- one page less to look at
pub next_live-live : (w : ℕ → Bool) (from n : ℕ) → 0 < n → w from ≡ true → next_live w from n ≡ from
next_live-live w from zero some live = absurd (omega arith)
next_live-live w from (suc n) some live = ap (λ (b : Bool). if b then from else next_live w (suc from) n) live

pub next_live-dead : (w : ℕ → Bool) (from n : ℕ) → 0 < n → w from ≡ false → next_live w from n ≡ next_live w (from + 1) (n - 1)
next_live-dead w from zero some dead = absurd (omega arith)
next_live-dead w from (suc n) some dead = grind (arith, dead)

-- the next live page is one from here on, or none
pub next_live-from : (w : ℕ → Bool) (from n : ℕ) → from ≤ next_live w from n
next_live-from w from zero = omega arith
next_live-from w from (suc n) = step (w from) (next_live-from w (suc from) n)
  where
    step : (b : Bool) → suc from ≤ next_live w (suc from) n → from ≤ (if b then from else next_live w (suc from) n)
    step true later = omega arith
    step false later = omega arith

pub next_live-to : (w : ℕ → Bool) (from n : ℕ) → next_live w from n ≤ from + n
next_live-to w from zero = omega arith
next_live-to w from (suc n) = step (w from) (next_live-to w (suc from) n)
  where
    step : (b : Bool) → next_live w (suc from) n ≤ suc from + n → (if b then from else next_live w (suc from) n) ≤ from + suc n
    step true later = omega arith
    step false later = omega arith

pub next_live-is : (w : ℕ → Bool) (from n : ℕ) → next_live w from n < from + n → w (next_live w from n) ≡ true
next_live-is w from zero below = absurd (omega arith)
next_live-is w from (suc n) below = step (w from) refl (next_live-is w (suc from) n) below
  where
    step : (b : Bool) → w from ≡ b → (next_live w (suc from) n < suc from + n → w (next_live w (suc from) n) ≡ true)
        → (if b then from else next_live w (suc from) n) < from + suc n → w (if b then from else next_live w (suc from) n) ≡ true
    step true is later below = is
    step false is later below = later (omega arith)

-- those before it are counted already
pub next_live-counted : (w : ℕ → Bool) (from n : ℕ) → live_before w (next_live w from n) ≡ live_before w from
next_live-counted w from zero = refl
next_live-counted w from (suc n) = step (w from) refl (next_live-counted w (suc from) n)
  where
    step : (b : Bool) → w from ≡ b → live_before w (next_live w (suc from) n) ≡ live_before w (suc from)
        → live_before w (if b then from else next_live w (suc from) n) ≡ live_before w from
    step true is later = refl
    step false is later = later ∙ (ap (λ (b : Bool). live_before w from + (if b then 1 else 0)) is ∙ plain)
      where
        plain : live_before w from + 0 ≡ live_before w from
        plain = omega arith

-- one more
pub live_before-more : (w : ℕ → Bool) (i : ℕ) → w i ≡ true → live_before w (i + 1) ≡ live_before w i + 1
live_before-more w i live = rw add-one (ap (λ (b : Bool). live_before w i + (if b then 1 else 0)) live)

-- more pages have no fewer
pub live_before-grows : (w : ℕ → Bool) (i n : ℕ) → i ≤ n → live_before w i ≤ live_before w n
live_before-grows w i zero below = let is : i ≡ 0 = omega arith in subst (λ (k : ℕ). live_before w k ≤ 0) (sym is) (omega arith)
live_before-grows w i (suc n) below = ⊎_elim (λ less. omega (arith, live_before-grows w i n (omega (arith, less)))) same (cases_lt i (suc n))
  where
    same : suc n ≤ i → live_before w i ≤ live_before w (suc n)
    same past = let is : i ≡ suc n = omega arith in subst (λ (k : ℕ). live_before w k ≤ live_before w (suc n)) (sym is) (omega arith)

-- those from one on before it were not live
pub next_live-skips : (w : ℕ → Bool) (from n i : ℕ) → from ≤ i → i < next_live w from n → w i ≡ false
next_live-skips w from zero i past below = absurd (omega (arith, past, below))
next_live-skips w from (suc n) i past below = step (w from) refl below (λ later. next_live-skips w (suc from) n i (omega (arith, later)))
  where
    step : (b : Bool) → w from ≡ b → i < (if b then from else next_live w (suc from) n)
        → (from < i → i < next_live w (suc from) n → w i ≡ false) → w i ≡ false
    step true is below more = absurd (omega (arith, past, below))
    step false is below more =
        ⊎_elim (λ less. more less below) (λ same. let here : from ≡ i = omega (arith, same, past) in ap (λ (k : ℕ). w k) (sym here) ∙ is) (cases_lt from i)
