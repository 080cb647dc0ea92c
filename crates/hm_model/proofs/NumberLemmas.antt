-- The least number that no PFS has.
use Rattle.std.proofs.Common.{◌≡◌, ◌≢◌, ℕ, zero, suc, ◌+◌, ◌<◌, ◌≤◌, true, false, List, [], ◌∷◌, length, map, filter, refl, ap, inl, inr, arith, eqb}
use Rattle.std.specs.Prelude.{◌⊎◌, Bool, ◌||◌, Option, Some, None, find, if◌then◌else◌}
use Rattle.std.specs.List.{list_any}
use Rattle.std.specs.Option.{option_map_or}
use Rattle.std.proofs.lemmas.Bool.Decides.{nat_tests}
use Rattle.hm_retain.proofs.SetLemmas.{less_or_not}
use Rattle.hm_model.specs.Due.{least_unused, numbers_to}
use Rattle.hm_model.specs.Volume.{PseudoFileSystem}

-- whether a number is used, and whether it is free
abbrev pub is_used : List ℕ → ℕ → Bool
is_used used n = list_any (λ m. eqb m n) used

abbrev pub is_unused : List ℕ → ℕ → Bool
is_unused used n = if is_used used n then false else true

-- the first number in a row that passes a test, or none does
least_from : (test : ℕ → Bool) (first : ℕ) (xs : List ℕ) → ((k : ℕ) → k < first → test k ≡ false) →
    ((n : ℕ) × (find test (numbers_to first xs) ≡ Some n) × (test n ≡ true) × ((k : ℕ) → k < n → test k ≡ false))
    ⊎ ((k : ℕ) → k ≤ first + length xs → test k ≡ false)
least_from test first [] before = by (test first) refl
  where
    by : (here : Bool) → test first ≡ here → ((n : ℕ) × (find test (first ∷ []) ≡ Some n) × (test n ≡ true) × ((k : ℕ) → k < n → test k ≡ false))
        ⊎ ((k : ℕ) → k ≤ first + 0 → test k ≡ false)
    by true is = inl (first, rw is refl, is, before)
    by false is = inr (λ k most. elim (less_or_not k first) [
      | inl less ↦ before k less
      | inr from ↦ let same : k ≡ first = omega (arith, most, from) in rw same is
    ])
least_from test first (x ∷ xs) before = by (test first) refl (least_from test (first + 1) xs)
  where
    by : (here : Bool) → test first ≡ here →
        (((k : ℕ) → k < first + 1 → test k ≡ false) →
        ((n : ℕ) × (find test (numbers_to (first + 1) xs) ≡ Some n) × (test n ≡ true) × ((k : ℕ) → k < n → test k ≡ false))
        ⊎ ((k : ℕ) → k ≤ first + 1 + length xs → test k ≡ false)) →
        ((n : ℕ) × (find test (numbers_to first (x ∷ xs)) ≡ Some n) × (test n ≡ true) × ((k : ℕ) → k < n → test k ≡ false))
        ⊎ ((k : ℕ) → k ≤ first + length (x ∷ xs) → test k ≡ false)
    by true is rest = inl (first, rw is refl, is, before)
    by false is rest = elim (rest (λ k less. elim (less_or_not k first) [
      | inl below ↦ before k below
      | inr from ↦ let same : k ≡ first = omega (arith, less, from) in rw same is
    ])) [
      | inl found ↦ inl (found.0, rw is found.1, found.2, found.3)
      | inr none ↦ inr (λ k most. none k (omega (arith, most)))
    ]

-- a used number is taken out
abbrev pub rest_of : ℕ → List ℕ → List ℕ
rest_of n used = filter (λ m. if eqb m n then false else true) used

rest_le : (n : ℕ) (used : List ℕ) → length (rest_of n used) ≤ length used
rest_le n [] = omega arith
rest_le n (x ∷ xs) = by (eqb x n) (rest_le n xs)
  where
    by : (here : Bool) → length (rest_of n xs) ≤ length xs → length (if (if here then false else true) then x ∷ rest_of n xs else rest_of n xs) ≤ length
        (x ∷ xs)
    by true le = omega (arith, le)
    by false le = omega (arith, le)

rest_less : (n : ℕ) (used : List ℕ) → is_used used n ≡ true → length (rest_of n used) < length used
rest_less n [] is = absurd (cc)
rest_less n (x ∷ xs) is = by (eqb x n) refl (rest_less n xs)
  where
    by : (here : Bool) → eqb x n ≡ here → (is_used xs n ≡ true → length (rest_of n xs) < length xs) → length (rest_of n (x ∷ xs)) < length (x ∷ xs)
    by true same rest = rw same (let le : length (rest_of n xs) ≤ length xs = rest_le n xs in omega (arith, le))
    by false same rest = rw same (let less : length (rest_of n xs) < length xs = rest (rw same at is) in omega (arith, less))

rest_used : (n k : ℕ) (used : List ℕ) → k ≢ n → is_used used k ≡ true → is_used (rest_of n used) k ≡ true
rest_used n k [] other is = absurd (cc)
rest_used n k (x ∷ xs) other is = elim (less_or_not k x) [
  | inl less ↦ let no : eqb x k ≡ false = grind (arith, nat_tests, less) in later (eqb x n) (rest_used n k xs other (rw no at is))
  | inr from ↦ elim (less_or_not x k) [
    | inl above ↦ let no : eqb x k ≡ false = grind (arith, nat_tests, above) in later (eqb x n) (rest_used n k xs other (rw no at is))
    | inr by ↦
        let here : eqb x k ≡ true = grind (arith, nat_tests, from, by) in
        let not : eqb x n ≡ false = grind (arith, nat_tests, from, by, other) in
        rw (not, here) refl
  ]
]
  where
    or_true : (b : Bool) → (b || true) ≡ true
    or_true true = refl
    or_true false = refl

    later : (test : Bool) → is_used (rest_of n xs) k ≡ true → is_used (if (if test then false else true) then x ∷ rest_of n xs else rest_of n xs) k ≡ true
    later true used = used
    later false used = rw used (or_true (eqb x k))

-- as many used numbers as there are numbers below n
pub no_more_than : (n : ℕ) (used : List ℕ) → ((k : ℕ) → k < n → is_used used k ≡ true) → n ≤ length used
no_more_than zero used all = omega arith
no_more_than (suc n) used all =
    let le : n ≤ length (rest_of n used) = no_more_than n (rest_of n used) (λ k less. rest_used n k used (omega arith) (all k (omega arith))) in
    let less : length (rest_of n used) < length used = rest_less n used (all n (omega arith)) in
    omega (arith, le, less)

-- a number that is not free is used
used_is : (used : List ℕ) (n : ℕ) → is_unused used n ≡ false → is_used used n ≡ true
used_is used n not = by (is_used used n) refl
  where
    by : (test : Bool) → is_used used n ≡ test → is_used used n ≡ true
    by true is = is
    by false is = absurd (let free : is_unused used n ≡ true = rw is refl in cc)

unused_is : (used : List ℕ) (n : ℕ) → is_unused used n ≡ true → is_used used n ≡ false
unused_is used n not = by (is_used used n) refl
  where
    by : (test : Bool) → is_used used n ≡ test → is_used used n ≡ false
    by true is = absurd (let taken : is_unused used n ≡ false = rw is refl in cc)
    by false is = is

-- the least unused number is unused, and each lower one is used
pub least_unused-is : (used : List ℕ) → (is_used used (least_unused used) ≡ false) × ((k : ℕ) → k < least_unused used → is_used used k ≡ true)
least_unused-is used = elim (least_from (is_unused used) 0 used (λ k less. absurd (omega (arith, less)))) [
  | inl found ↦
      let is : least_unused used ≡ found.0 = ap (λ (o : Option ℕ). option_map_or (λ n. n) o 0) found.1 in
      rw is (unused_is used found.0 found.2, λ k less. used_is used k (found.3 k less))
  | inr none ↦
      let le : suc (length used) ≤ length used = no_more_than (suc (length used)) used (λ k less. used_is used k (none k (omega (arith, less)))) in
      absurd (omega (arith, le))
]

-- the numbers of some PFS
abbrev pub numbers_in : List PseudoFileSystem → List ℕ
numbers_in systems = map (λ (s : PseudoFileSystem). s.number) systems

-- no PFS has an unused number
pub unused_none : (systems : List PseudoFileSystem) (n : ℕ) → is_used (numbers_in systems) n ≡ false →
    find (λ (s : PseudoFileSystem). eqb s.number n) systems ≡ None
unused_none [] n none = refl
unused_none (s ∷ ss) n none = by (eqb s.number n) refl (unused_none ss n)
  where
    by : (test : Bool) → eqb s.number n ≡ test → (is_used (numbers_in ss) n ≡ false → find (λ (u : PseudoFileSystem). eqb u.number n) ss ≡ None) →
        find (λ (u : PseudoFileSystem). eqb u.number n) (s ∷ ss) ≡ None
    by true is rest = absurd (let taken : is_used (numbers_in (s ∷ ss)) n ≡ true = rw is refl in cc)
    by false is rest = rw is (rest (rw is at none))

-- a PFS has each used number
pub used_some : (systems : List PseudoFileSystem) (n : ℕ) → is_used (numbers_in systems) n ≡ true → (s : PseudoFileSystem)
    × (find (λ (u : PseudoFileSystem). eqb u.number n) systems ≡ Some s)
used_some [] n is = absurd (cc)
used_some (s ∷ ss) n used = by (eqb s.number n) refl (used_some ss n)
  where
    by : (test : Bool) → eqb s.number n ≡ test →
        (is_used (numbers_in ss) n ≡ true → (t : PseudoFileSystem) × (find (λ (u : PseudoFileSystem). eqb u.number n) ss ≡ Some t)) → (t : PseudoFileSystem)
        × (find (λ (u : PseudoFileSystem). eqb u.number n) (s ∷ ss) ≡ Some t)
    by true is rest = (s, rw is refl)
    by false other rest = let found = rest (rw other at used) in (found.0, rw other found.1)
