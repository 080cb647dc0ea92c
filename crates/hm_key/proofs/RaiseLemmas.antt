-- Marks between two keys, and marks that change at one key alone.
use Rattle.std.proofs.Common.{◌≡◌, ◌≢◌, ℕ, ◌≤◌, max, refl, ap, sym, subst, ◌∙◌, arith, inl, inr, true≢false}
use Rattle.std.specs.Ordering.{is_lt, is_gt}
use Rattle.std.specs.Prelude.{◌⊎◌}
use Rattle.std.specs.declared.cmp.Ordering.{Ordering}
use Rattle.std.specs.declared.cmp.Ordering.TheVariants.{Less, Equal, Greater}
use Rattle.hm_types.specs.Elements.{Key, key_cmp}
use Rattle.hm_key.specs.Key.{IsFrom}
use Rattle.hm_key.specs.Marks.{AllTook, IsBetween, Marks, MarksJoin, MarksStay, NoneFall}
use Rattle.hm_key.proofs.KeyLemmas.{key_same, key_before, key_not_before, key_from_before}

-- of two keys one is from the other on
either_from : (a b : Key) → IsFrom a b ⊎ IsFrom b a
either_from a b = by_order (key_cmp a b) refl where
  by_order : (o : Ordering) → key_cmp a b ≡ o → IsFrom a b ⊎ IsFrom b a
  by_order Less is = inl (key_from_before a b is)
  by_order Equal is = inl (subst (λ (k : Key). IsFrom a k) (key_same a b is) (key_not_before a))
  by_order Greater is = inr (key_from_before b a (key_before b a is))

-- the first of two keys is between them
pub between_first : (a b : Key) → IsBetween a b a
between_first a b = elim (either_from a b) [
  | inl from ↦ inl (key_not_before a, from)
  | inr from ↦ inr (from, key_not_before a)
]

-- two keys that are each from the other on are one
from_both : (a b : Key) → IsFrom a b → IsFrom b a → a ≡ b
from_both a b after before = by_order (key_cmp a b) refl where
  by_order : (o : Ordering) → key_cmp a b ≡ o → a ≡ b
  by_order Less is = absurd (before is)
  by_order Equal is = key_same a b is
  by_order Greater is = absurd (after (key_before b a is))

-- between a key and itself is that key alone
pub between_one : (a key : Key) → IsBetween a a key → a ≡ key
between_one a key (inl within) = from_both a key within.0 within.1
between_one a key (inr within) = from_both a key within.0 within.1

-- what the keys between took is no less than what they had, where it is not below any of that
took_no_less : (Had : ℕ → Type 0) (mark : ℕ) (at : Key) (old new : Key → ℕ) → ((had : ℕ) → Had had → had ≤ mark) → (key : Key)
    → (new key ≡ old key) ⊎ AllTook Had mark key at old new → old key ≤ new key
took_no_less Had mark at old new most key (inl same) = omega (arith, same)
took_no_less Had mark at old new most key (inr took) =
    let here = took key (between_first key at) in
    omega (arith, most (old key) here.0, here.1)

-- where an id is written, no mark falls
pub marks_never_fall : (at : Key) (id : ℕ) (old new : Key → ℕ) → Marks at id old new → NoneFall old new
marks_never_fall at id old new marks key =
    took_no_less (λ mark. mark ≡ old at) (max (old at) id) at old new (λ had is. omega (arith, is)) key (marks.each key)

-- where keys come together, no mark falls
pub join_never_falls : (at : Key) (old new : Key → ℕ) → MarksJoin at old new → NoneFall old new
join_never_falls at old new marks key =
    took_no_less (λ mark. (mark ≡ old at) ⊎ (mark ≡ old marks.other)) (max (old at) (old marks.other)) at old new most key (marks.each key) where
      most : (had : ℕ) → (had ≡ old at) ⊎ (had ≡ old marks.other) → had ≤ max (old at) (old marks.other)
      most had (inl is) = omega (arith, is)
      most had (inr is) = omega (arith, is)

-- marks that stay let none fall
pub stay_never_falls : (old new : Key → ℕ) → MarksStay old new → NoneFall old new
stay_never_falls old new stay key = omega (arith, stay key)

-- a removal that lets each mark stay
pub stay_join : (at : Key) (old new : Key → ℕ) → MarksStay old new → MarksJoin at old new
stay_join at old new stay = record { other = at; each = λ key. inl (stay key) }

less_not_equal : Less ≢ Equal
less_not_equal is = true≢false (ap is_lt is)

greater_not_equal : Greater ≢ Equal
greater_not_equal is = true≢false (ap is_gt is)

-- the mark of one key alone became the greater of itself and an id
pub marks_alone : (at : Key) (id : ℕ) (old new : Key → ℕ) → new at ≡ max (old at) id → ((key : Key) → key_cmp key at ≢ Equal → new key ≡ old key)
    → Marks at id old new
marks_alone at id old new here others = record { reach = omega (arith, here); each = each } where
  each : (key : Key) → (new key ≡ old key) ⊎ AllTook (λ mark. mark ≡ old at) (max (old at) id) key at old new
  each key = by_order (key_cmp key at) refl where
    one : key ≡ at → AllTook (λ mark. mark ≡ old at) (max (old at) id) key at old new
    one is other within =
        let same : at ≡ other = between_one at other (subst (λ (k : Key). IsBetween k at other) is within) in
        (ap old (sym same), ap new (sym same) ∙ here)

    by_order : (o : Ordering) → key_cmp key at ≡ o → (new key ≡ old key) ⊎ AllTook (λ mark. mark ≡ old at) (max (old at) id) key at old new
    by_order Less is = inl (others key (λ same. absurd (less_not_equal (sym is ∙ same))))
    by_order Equal is = inr (one (key_same key at is))
    by_order Greater is = inl (others key (λ same. absurd (greater_not_equal (sym is ∙ same))))

    less_not_equal : Less ≢ Equal
    less_not_equal is = grind (arith, is)

    greater_not_equal : Greater ≢ Equal
    greater_not_equal is = grind (arith, is)
