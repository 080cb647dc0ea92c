-- How many members lists have of which no two are equal.
use Rattle.std.proofs.Common.{◌≡◌, ◌+◌, ◌≤◌, Bool, List, [], ◌∷◌, length, sym, subst, ◌∙◌, inl, inr, arith}
use Rattle.std.specs.Prelude.{◌⊎◌, IsTrue, map}
use Rattle.std.specs.List.{Contains}
use Rattle.std.proofs.lemmas.List.Elements.{All-contains}
use Rattle.hm_records.specs.View.{AreInOrder}
use Rattle.hm_records.proofs.MemberLemmas.{has_cases, has_head, has_none, has_tail, map_has}
use Rattle.hm_dirs.specs.Entries.{AreDistinct}

module _ {X : Type 0} where
  -- a list without one of its members
  record Without (x : X) (ys : List X) : Type 0 where
    rest : List X
    sized : length ys ≡ length rest + 1
    each : (y : X) → Contains ys y → (y ≡ x) ⊎ Contains rest y

  without : (x : X) (ys : List X) → Contains ys x → Without x ys
  without x [] has = absurd (has_none x has)
  without x (y ∷ ys) has = elim (has_cases y x ys has) [
    | inl first ↦ record {
      rest = ys;
      sized = omega arith;
      each = λ z there. elim (has_cases y z ys there) [
        | inl same ↦ inl (same ∙ sym first)
        | inr later ↦ inr later
      ];
    }
    | inr later ↦
        let less = without x ys later in
        record {
          rest = y ∷ less.rest;
          sized = omega (arith, less.sized);
          each = λ z there. elim (has_cases y z ys there) [
            | inl same ↦ inr (subst (λ (w : X). Contains (y ∷ less.rest) w) (sym same) (has_head y less.rest))
            | inr after ↦ elim (less.each z after) [
              | inl is ↦ inl is
              | inr left ↦ inr (has_tail y z less.rest left)
            ]
          ];
        }
  ]

  -- a list of which no two are equal, with all its members in another one, is no longer than that one
  pub distinct_fewer : (xs ys : List X) → AreDistinct xs → ((x : X) → Contains xs x → Contains ys x) → length xs ≤ length ys
  distinct_fewer [] ys distinct each = omega arith
  distinct_fewer (x ∷ xs) ys distinct each =
      let less = without x ys (each x (has_head x xs)) in
      let few = distinct_fewer xs less.rest distinct.1 (λ y has. elim (less.each y (each y (has_tail x y xs has))) [
        | inl is ↦ absurd (distinct.0 (subst (λ (w : X). Contains xs w) is has))
        | inr there ↦ there
      ]) in
      omega (arith, few, less.sized)

  -- no two of a list in order are equal
  pub distinct_order : (before : X → X → Bool) (xs : List X) → ((x : X) → IsTrue (before x x) → ⊥) → AreInOrder before xs → AreDistinct xs
  distinct_order before [] strict order = tt
  distinct_order before (x ∷ xs) strict order = (
    λ has. strict x (All-contains (λ y. IsTrue (before x y)) xs x order.0 has),
    distinct_order before xs strict order.1,
  )

-- nor are any two of what they are mapped to, where one to one
pub distinct_map : {X Y : Type 0} (f : X → Y) (xs : List X) → ((x y : X) → Contains xs x → Contains xs y → f x ≡ f y → x ≡ y) → AreDistinct xs
    → AreDistinct (map f xs)
distinct_map f [] one distinct = tt
distinct_map {X} f (x ∷ xs) one distinct = (
  λ has. let (y, there, same) = map_has f xs (f x) has in
      distinct.0 (subst (λ (w : X). Contains xs w) (one y x (has_tail x y xs there) (has_head x xs) same) there),
  distinct_map f xs (λ y z has has'. one y z (has_tail x y xs has) (has_tail x z xs has')) distinct.1,
)
