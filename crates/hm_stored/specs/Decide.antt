-- Decisions: of a fact and of its refutation the one that holds, put together from the decisions of its parts. They are
-- never run: what counts is that there is one for each fact of a kind, so that a Boolean can stand for the fact.
use Rattle.std.specs.Prelude.{◌≡◌, ◌⊎◌, ℕ, zero, suc, ◌<◌, Bool, true, false, IsTrue, List, [], ◌∷◌, length, slice_index_or, All}
use Rattle.std.specs.Bool.{Decides}
use Rattle.std.specs.List.{AllByRecursion, Contains}
use Rattle.std.specs.List.Sorted.{IsStrictlySortedBy}
use Rattle.std.specs.declared.cmp.Ordering.{Ordering}
use Rattle.std.specs.declared.cmp.Ordering.TheVariants.{Less, Equal, Greater}
use Rattle.std.proofs.Common.{refl, subst, sym, inl, inr, ⊎_elim, arith}
use Rattle.std.proofs.lemmas.Bool.{cases_eq}
use Rattle.std.proofs.lemmas.List.Elements.{All-from_recursion, Contains-append_right, recursion_from_All}
use mathlib.Core.Bool.{Bool-discrete}
use native.Mathlib.Decide.{map_dec}

-- whether a fact holds, by a decision of it
unfoldable pub holds : {P : Type 0} → Dec P → Bool
holds (yes p) = true
holds (no not) = false

pub from_holds : {P : Type 0} (d : Dec P) → IsTrue (holds d) → P
unfolding holds
from_holds (yes p) h = p
from_holds (no not) h = cc

pub to_holds : {P : Type 0} (d : Dec P) → P → IsTrue (holds d)
unfolding holds
to_holds (yes p) h = refl
to_holds (no not) h = absurd (not h)

-- of both of two facts, of one of them, and of the contrary of a fact
pub dec_and : {P Q : Type 0} → Dec P → Dec Q → Dec (P × Q)
dec_and (yes p) (yes q) = yes (p, q)
dec_and (yes p) (no not) = no (λ h. not h.1)
dec_and (no not) e = no (λ h. not h.0)

pub dec_or : {P Q : Type 0} → Dec P → Dec Q → Dec (P ⊎ Q)
dec_or (yes p) e = yes (inl p)
dec_or (no not) (yes q) = yes (inr q)
dec_or (no not) (no nor) = no (⊎_elim not nor)

pub dec_not : {P : Type 0} → Dec P → Dec (¬ P)
dec_not (yes p) = no (λ not. not p)
dec_not (no not) = yes not

-- of a fact that cannot hold without another one: where that one holds, by a decision that may use it
pub dec_given : {P Q : Type 0} → (Q → P) → Dec P → (P → Dec Q) → Dec Q
dec_given part (yes p) d = d p
dec_given part (no not) d = no (λ q. not (part q))

-- of a fact where another one holds
pub dec_if : {P Q : Type 0} → Dec P → Dec Q → Dec (P → Q)
dec_if (yes p) d = map_dec (λ q _. q) (λ h. h p) d
dec_if (no not) d = yes (λ p. absurd (not p))

-- of a test, of what a test decides, and of one thing before another
pub dec_true : (b : Bool) → Dec (IsTrue b)
dec_true b = Bool-discrete b true

pub dec_by_test : {P : Type 0} {b : Bool} → Decides b P → Dec P
dec_by_test {P} {b} d = map_dec d.0 d.1 (dec_true b)

pub dec_less : (o : Ordering) → Dec (o ≡ Less)
dec_less Less = yes refl
dec_less Equal = no (λ e. cc)
dec_less Greater = no (λ e. cc)

-- of a fact of each element of a list
module _ {X : Type 0} {P : X → Type 0} (each : (x : X) → Dec (P x)) where
  pub dec_each : (xs : List X) → Dec (AllByRecursion P xs)
  dec_each [] = yes tt
  dec_each (x ∷ xs) = dec_and (each x) (dec_each xs)

  pub dec_all : (xs : List X) → Dec (All P xs)
  dec_all xs = map_dec (All-from_recursion P xs) (recursion_from_All P xs) (dec_each xs)

  -- of an element with it
  any_more : (x : X) (xs : List X) → P x ⊎ ((y : X) × Contains xs y × P y) → (y : X) × Contains (x ∷ xs) y × P y
  any_more x xs (inl p) = (x, (0, omega arith, refl), p)
  any_more x xs (inr h) = (h.0, Contains-append_right (x ∷ []) xs h.0 h.1, h.2)

  any_less : (x : X) (xs : List X) (y : X) (k : ℕ) → k < length (x ∷ xs) → slice_index_or (x ∷ xs) k y ≡ y → P y
      → P x ⊎ ((y : X) × Contains xs y × P y)
  any_less x xs y zero lt at p = inl (subst P (sym at) p)
  any_less x xs y (suc k) lt at p = inr (y, (k, omega arith, at), p)

  pub dec_any : (xs : List X) → Dec ((x : X) × Contains xs x × P x)
  dec_any [] = no (λ h. let lt = h.1.1 in absurd (omega arith))
  dec_any (x ∷ xs) =
      map_dec (any_more x xs) (λ h. any_less x xs h.0 h.1.0 h.1.1 h.1.2 h.2) (dec_or (each x) (dec_any xs))

-- of the order of a list
pub dec_sorted : {K : Type 0} (cmp : K → K → Ordering) (ks : List K) → Dec (IsStrictlySortedBy cmp ks)
unfolding IsStrictlySortedBy
dec_sorted cmp [] = yes tt
dec_sorted cmp (k ∷ ks) = dec_and (dec_each (λ j. dec_less (cmp k j)) ks) (dec_sorted cmp ks)

-- of a fact of each number below one
below_more : (P : ℕ → Type 0) (n : ℕ) → P n × ((k : ℕ) → k < n → P k) → (k : ℕ) → k < suc n → P k
below_more P n h k lt = ⊎_elim (λ e. subst P (sym e) h.0) (λ apart. h.1 k (omega arith)) (cases_eq k n)

pub dec_below : {P : ℕ → Type 0} → ((k : ℕ) → Dec (P k)) → (n : ℕ) → Dec ((k : ℕ) → k < n → P k)
dec_below each zero = yes (λ k lt. absurd (omega arith))
dec_below {P} each (suc n) =
    map_dec (below_more P n) (λ h. (h n (omega arith), λ k lt. h k (omega arith))) (dec_and (each n) (dec_below each n))
