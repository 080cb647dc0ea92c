-- What a walk over the places of a page looks at.
use Rattle.std.proofs.Common.{◌≡◌, Bool, true, false, ◌&&◌, ℕ, ◌+◌, ◌-◌, ◌<◌, ◌≤◌, List, refl, ◌∙◌, IsTrue, ◌↔◌, inl, inr, below_more, arith}
use Rattle.std.specs.Cmp.{IsTotalOrder}
use Rattle.std.specs.List.Sorted.{IsStrictlySortedBy}
use Rattle.std.specs.declared.cmp.Ordering.{Ordering}
use Rattle.std.specs.declared.cmp.Ordering.TheVariants.{Less}
use Rattle.std.proofs.lemmas.Bool.{cases_lt, leb-true, le-leb}
use Rattle.std.proofs.Math.Dec.{leb}
use Rattle.hm_fields.specs.Fields.{get}
use Rattle.hm_key.specs.declared.base.Base.{Base}
use Rattle.hm_node.specs.Base.{base_in, base_cmp}
use Rattle.hm_node.specs.Leaf.{element_in, IsUpTo}
use Rattle.hm_node.specs.Inner.{child_in}
use Rattle.hm_node.specs.Places.{first}
use Rattle.hm_node.proofs.FieldLemmas.{child_mirror}
use Rattle.hm_node.proofs.PlaceLemmas.{rising_more, rising_next}

-- two tests pass exactly where what each of them says holds
pub both_pass : {P Q R : Type 0} (a b : Bool) → IsTrue a ↔ P → IsTrue b ↔ Q → (P → Q → R) → (R → P × Q) → IsTrue (a && b) ↔ R
both_pass true b first second join part = (λ is. join (first.0 refl) (second.0 is), λ r. second.1 (part r).1)
both_pass false b first second join part = (λ is. absurd cc, λ r. absurd (false_is (first.1 (part r).0))) where
  false_is : IsTrue false → ⊥
  false_is is = cc

-- what is said of each place before one, and of that one
pub each_next : (P : ℕ → Type 0) (i : ℕ) (a b : Bool) → IsTrue a ↔ ((k : ℕ) → k < i → P k) → IsTrue b ↔ P i
    → IsTrue (a && b) ↔ ((k : ℕ) → k < i + 1 → P k)
each_next P i a b before here =
    both_pass a b before here (λ each this. below_more P i each this) (λ each. (λ k low. each k (omega arith), each i (omega arith)))

-- tests of two bases are tests of what these are
pub same_order : (b : Bool) (x y x' y' : Base) → x ≡ x' → y ≡ y' → IsTrue b ↔ (base_cmp x y ≡ Less) → IsTrue b ↔ (base_cmp x' y' ≡ Less)
same_order b x y x' y' first second test = rw (← first, ← second) test

pub next_order : (i : ℕ) (b : Bool) (x y x' y' : Base) → (0 < i → x ≡ x') → y ≡ y' → IsTrue b ↔ (0 < i → base_cmp x y ≡ Less)
    → IsTrue b ↔ (0 < i → base_cmp x' y' ≡ Less)
next_order i b x y x' y' first second test = (
  λ is some. rw (← first some, ← second) (test.0 is some),
  λ less. test.1 (λ some. rw (first some, second) (less some)),
)

-- the ids of a base are those of its element
pub same_ids : (page : List ℕ) (at mirror : ℕ) (b : Bool) (base : Base) → base ≡ base_in page at
    → IsTrue b ↔ ((base.create ≤ mirror) × (base.delete ≤ mirror)) → IsTrue b ↔ IsUpTo mirror (element_in page at)
unfolding element_in
same_ids page at mirror b base read test = (
  λ is. let low = rw read at test.0 is in record { create = low.0; delete = low.1 },
  λ up. test.1 (rw read (up.create, up.delete)),
)

-- the same for a child and its `mirror`
pub same_mirror : (page : List ℕ) (at mirror up : ℕ) → up ≡ get page (at + 48) 8 → IsTrue (leb up mirror) ↔ ((child_in page at).mirror ≤ mirror)
same_mirror page at mirror up read =
    let is : up ≡ (child_in page at).mirror = read ∙ child_mirror page at in
    (λ low. rw (← is) (leb-true up mirror low), λ low. le-leb up mirror (rw is low))

-- values in order
module _ {A : Type 0} (cmp : A → A → Ordering) (total : IsTotalOrder cmp) (f : ℕ → A) where
  pub none_rises : IsStrictlySortedBy cmp (first f 0)
  unfolding IsStrictlySortedBy first
  none_rises = tt

  pub one_rises : IsStrictlySortedBy cmp (first f 1)
  unfolding IsStrictlySortedBy first
  one_rises = (tt, tt)

  -- one more value, which comes after the one before it, where there is one
  pub rises_more : (i : ℕ) → IsStrictlySortedBy cmp (first f i) → (0 < i → cmp (f (i - 1)) (f i) ≡ Less) → IsStrictlySortedBy cmp (first f (i + 1))
  rises_more i sorted next =
      elim (cases_lt 0 i) [
        | inl some ↦ rising_more cmp total f i some sorted (next some)
        | inr none ↦ let is : i + 1 ≡ 1 = omega arith in rw is one_rises
      ]

  -- the same, where a value is looked at with the next one
  pub rises_after : (i : ℕ) → IsStrictlySortedBy cmp (first f (i + 1)) → cmp (f i) (f (i + 1)) ≡ Less → IsStrictlySortedBy cmp (first f (i + 1 + 1))
  rises_after i sorted less = let back : i + 1 - 1 ≡ i = omega arith in rises_more (i + 1) sorted (λ some. rw back less)

  pub after_rises : (i n : ℕ) → i < n → IsStrictlySortedBy cmp (first f (n + 1)) → cmp (f i) (f (i + 1)) ≡ Less
  after_rises i n low sorted = let back : i + 1 - 1 ≡ i = omega arith in rw back at (rising_next cmp f (i + 1) (n + 1) (omega arith) (omega arith) sorted)
