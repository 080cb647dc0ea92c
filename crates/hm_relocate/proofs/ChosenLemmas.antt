-- The big-blocks that a reblock chooses, one after another.
use Rattle.std.proofs.Common.{◌≡◌, ℕ, ◌+◌, ◌-◌, ◌<◌, ◌≤◌, Bool, true, false, true≢false, ◌||◌, ◌⊎◌, List}
use Rattle.std.proofs.Common.{[], ◌∷◌, ◌++◌, length, get_or, refl, sym, ap, subst, ◌∙◌, arith, append-nil, inl, inr}
use Rattle.std.specs.Prelude.{◌==◌}
use Rattle.std.specs.List.{Contains, filter, range_with_len}
use Rattle.std.specs.List.Sorted.{IsNonDecreasing}
use Rattle.std.proofs.lemmas.Bool.{eq-eqb, eqb-true}
use Rattle.std.proofs.lemmas.List.Elements.{Contains-get_or, Contains-push_cases, filter-append}
use Rattle.std.proofs.lemmas.List.Sorted.{IsNonDecreasingBy-push}
use Rattle.hm_types.specs.References.{is_append}
use Rattle.hm_freemap.proofs.ScanLemmas.{range-one}
use Rattle.hm_records.proofs.MemberLemmas.{has_cases, has_head, has_none, has_tail}
use Rattle.hm_relocate.specs.Leaving.{AppendsToNone}

-- a big-block is one of those that zones append to, or it is none
append_has : (append : List ℕ) (block : ℕ) → is_append append block ≡ true → Contains append block
append_has [] block is = absurd (true≢false (sym is))
append_has (b ∷ bs) block is = by_test (b == block) refl is (append_has bs block) where
  by_test : (t : Bool) → (b == block) ≡ t → (t || is_append bs block) ≡ true → (is_append bs block ≡ true → Contains bs block) → Contains (b ∷ bs) block
  by_test true same is rest = subst (Contains (b ∷ bs)) (eqb-true b block same) (has_head b bs)
  by_test false same is rest = has_tail b block bs (rest is)

pub has_append : (append : List ℕ) (block : ℕ) → Contains append block → is_append append block ≡ true
has_append [] block has = absurd (has_none block has)
has_append (b ∷ bs) block has = by_place (has_cases b block bs has) (has_append bs block) where
  rest : (t : Bool) → is_append bs block ≡ true → (t || is_append bs block) ≡ true
  rest true is = refl
  rest false is = is

  by_place : (block ≡ b) ⊎ Contains bs block → (Contains bs block → is_append bs block ≡ true) → is_append (b ∷ bs) block ≡ true
  by_place (inl same) more = ap (λ (t : Bool). t || is_append bs block) (eq-eqb b block (sym same))
  by_place (inr has) more = rest (b == block) (more has)

pub none_append : (append : List ℕ) (block : ℕ) → (Contains append block → ⊥) → is_append append block ≡ false
none_append append block none = by_test (is_append append block) refl where
  by_test : (t : Bool) → is_append append block ≡ t → t ≡ false
  by_test true is = absurd (none (append_has append block is))
  by_test false is = refl

-- nothing is chosen before the first big-block
pub chosen_first : (test : ℕ → Bool) (first : ℕ) → [] ≡ filter test (range_with_len first (first - first))
chosen_first test first = let none : first - first ≡ 0 = omega arith in rw none refl

-- one more is chosen, or it is not
pub chosen_more : (test : ℕ → Bool) (first block : ℕ) (list : List ℕ) → first ≤ block → list ≡ filter test (range_with_len first (block - first))
    → test block ≡ true → list ++ block ∷ [] ≡ filter test (range_with_len first (block + 1 - first))
chosen_more test first block list low is passes =
    rw (range-one first block low, filter-append test (range_with_len first (block - first)) (block ∷ []), passes)
    (ap (λ (l : List ℕ). l ++ block ∷ []) is)

pub chosen_less : (test : ℕ → Bool) (first block : ℕ) (list : List ℕ) → first ≤ block → list ≡ filter test (range_with_len first (block - first))
    → test block ≡ false → list ≡ filter test (range_with_len first (block + 1 - first))
chosen_less test first block list low is fails =
    rw (range-one first block low, filter-append test (range_with_len first (block - first)) (block ∷ []), fails)
    (is ∙ sym (append-nil (filter test (range_with_len first (block - first)))))

-- numbers rise where a greater one is put behind them
pub rises_more : (list : List ℕ) (block : ℕ) → IsNonDecreasing list → ((b : ℕ) → Contains list b → b < block) → IsNonDecreasing (list ++ block ∷ [])
rises_more list block rising below =
    IsNonDecreasingBy-push (λ (x : ℕ). x) list block rising
    (λ d some. (let last = below (get_or list (length list - 1) d) (Contains-get_or list (length list - 1) d (omega (arith, some))) in omega (arith, last)))

pub below_more : (list : List ℕ) (block : ℕ) → ((b : ℕ) → Contains list b → b < block) → (b : ℕ) → Contains (list ++ block ∷ []) b → b < block + 1
below_more list block below b has = elim (Contains-push_cases list block b has) [
  | inl before ↦ (let is = below b before in omega (arith, is))
  | inr same ↦ omega (arith, same)
]

pub apart_more : (append list : List ℕ) (block : ℕ) → AppendsToNone append list → (Contains append block → ⊥) → AppendsToNone append (list ++ block ∷ [])
apart_more append list block apart other b has = elim (Contains-push_cases list block b has) [
  | inl before ↦ apart b before
  | inr same ↦ subst (λ (x : ℕ). Contains append x → ⊥) same other
]
