-- Which elements a list has after an edit, and in which order.
use Rattle.std.proofs.Common.{◌≡◌, zero, suc, Bool, true, false, cond, List, [], ◌∷◌, refl, sym, ap, subst, ◌∙◌, inl, inr, arith}
use Rattle.std.proofs.lemmas.Bool.{false≢true}
use Rattle.std.specs.Prelude.{◌⊎◌, IsTrue, filter, map, if◌then◌else◌}
use Rattle.std.specs.List.{Contains, All}
use Rattle.std.proofs.lemmas.List.Elements.{All-cons, All-nil, All-contains, Contains-append_right, Contains-append_cases}
use Rattle.hm_types.specs.Tree.{insert_by}
use Rattle.hm_records.specs.View.{AreInOrder}

module _ {X : Type 0} where
  pub has_none : (z : X) → Contains [] z → ⊥
  has_none z (k, below, is) = absurd (omega arith)

  one_has : (x z : X) → Contains (x ∷ []) z → z ≡ x
  one_has x z (zero, below, is) = sym is
  one_has x z (suc k, below, is) = absurd (omega arith)

  pub has_head : (x : X) (xs : List X) → Contains (x ∷ xs) x
  has_head x xs = (0, omega arith, refl)

  pub has_tail : (x z : X) (xs : List X) → Contains xs z → Contains (x ∷ xs) z
  has_tail x z xs has = Contains-append_right (x ∷ []) xs z has

  pub has_cases : (x z : X) (xs : List X) → Contains (x ∷ xs) z → (z ≡ x) ⊎ Contains xs z
  has_cases x z xs has = elim (Contains-append_cases (x ∷ []) xs z has) [
    | inl first ↦ inl (one_has x z first)
    | inr rest ↦ inr rest
  ]

  pub All-from_has : (P : X → Type 0) (xs : List X) → ((x : X) → Contains xs x → P x) → All P xs
  All-from_has P [] each = All-nil P
  All-from_has P (x ∷ xs) each =
      All-cons P x xs (each x (has_head x xs)) (All-from_has P xs (λ y has. each y (has_tail x y xs has)))

  -- what a filter keeps
  pub filter_has : (p : X → Bool) (xs : List X) (z : X) → Contains (filter p xs) z → Contains xs z × (p z ≡ true)
  filter_has p [] z has = absurd (has_none z has)
  filter_has p (x ∷ xs) z has = by_test (p x) refl has (filter_has p xs z) where
    by_test : (b : Bool) → p x ≡ b → Contains (cond b (x ∷ filter p xs) (filter p xs)) z
        → (Contains (filter p xs) z → Contains xs z × (p z ≡ true)) → Contains (x ∷ xs) z × (p z ≡ true)
    by_test true is here rest = elim (has_cases x z (filter p xs) here) [
      | inl first ↦ (subst (λ (y : X). Contains (x ∷ xs) y) (sym first) (has_head x xs), ap p first ∙ is)
      | inr later ↦ (has_tail x z xs (rest later).0, (rest later).1)
    ]
    by_test false is here rest = (has_tail x z xs (rest here).0, (rest here).1)

  pub has_filter : (p : X → Bool) (xs : List X) (z : X) → Contains xs z → p z ≡ true → Contains (filter p xs) z
  has_filter p [] z has passes = absurd (has_none z has)
  has_filter p (x ∷ xs) z has passes = by_test (p x) refl (has_filter p xs z) where
    by_test : (b : Bool) → p x ≡ b → (Contains xs z → p z ≡ true → Contains (filter p xs) z) → Contains (cond b (x ∷ filter p xs) (filter p xs)) z
    by_test true is rest = elim (has_cases x z xs has) [
      | inl first ↦ subst (λ (y : X). Contains (x ∷ filter p xs) y) (sym first) (has_head x (filter p xs))
      | inr later ↦ has_tail x z (filter p xs) (rest later passes)
    ]
    by_test false is rest = elim (has_cases x z xs has) [
      | inl first ↦ absurd (false≢true (sym is ∙ ap p (sym first) ∙ passes))
      | inr later ↦ rest later passes
    ]

  pub filter_all : (p : X → Bool) (xs : List X) → ((x : X) → Contains xs x → p x ≡ true) → filter p xs ≡ xs
  filter_all p [] each = refl
  filter_all p (x ∷ xs) each =
      let first : p x ≡ true = each x (has_head x xs) in
      let rest : filter p xs ≡ xs = filter_all p xs (λ y has. each y (has_tail x y xs has)) in
      rw (first, rest) refl

  -- an insertion adds its element
  pub insert_has : (before : X → X → Bool) (x : X) (ys : List X) (z : X) → Contains (insert_by before x ys) z → (z ≡ x) ⊎ Contains ys z
  insert_has before x [] z has = inl (one_has x z has)
  insert_has before x (y ∷ ys) z has = by_test (before x y) has (insert_has before x ys z) where
    by_test : (b : Bool) → Contains (if b then x ∷ y ∷ ys else y ∷ insert_by before x ys) z
        → (Contains (insert_by before x ys) z → (z ≡ x) ⊎ Contains ys z) → (z ≡ x) ⊎ Contains (y ∷ ys) z
    by_test true here rest = has_cases x z (y ∷ ys) here
    by_test false here rest = elim (has_cases y z (insert_by before x ys) here) [
      | inl first ↦ inr (subst (λ (w : X). Contains (y ∷ ys) w) (sym first) (has_head y ys))
      | inr later ↦ elim (rest later) [
        | inl new ↦ inl new
        | inr old ↦ inr (has_tail y z ys old)
      ]
    ]

  pub has_insert : (before : X → X → Bool) (x : X) (ys : List X) (z : X) → (z ≡ x) ⊎ Contains ys z → Contains (insert_by before x ys) z
  has_insert before x [] z (inl new) = subst (λ (w : X). Contains (x ∷ []) w) (sym new) (has_head x [])
  has_insert before x [] z (inr old) = absurd (has_none z old)
  has_insert before x (y ∷ ys) z has = by_test (before x y) (has_insert before x ys z) where
    by_test : (b : Bool) → ((z ≡ x) ⊎ Contains ys z → Contains (insert_by before x ys) z)
        → Contains (if b then x ∷ y ∷ ys else y ∷ insert_by before x ys) z
    by_test true rest = elim has [
      | inl new ↦ subst (λ (w : X). Contains (x ∷ y ∷ ys) w) (sym new) (has_head x (y ∷ ys))
      | inr old ↦ has_tail x z (y ∷ ys) old
    ]
    by_test false rest = elim has [
      | inl new ↦ has_tail y z (insert_by before x ys) (rest (inl new))
      | inr old ↦ elim (has_cases y z ys old) [
        | inl first ↦ subst (λ (w : X). Contains (y ∷ insert_by before x ys) w) (sym first) (has_head y (insert_by before x ys))
        | inr later ↦ has_tail y z (insert_by before x ys) (rest (inr later))
      ]
    ]

-- what a map makes
pub map_has : {X Y : Type 0} (f : X → Y) (xs : List X) (z : Y) → Contains (map f xs) z → (x : X) × Contains xs x × (f x ≡ z)
map_has f [] z has = absurd (has_none z has)
map_has f (x ∷ xs) z has = elim (has_cases (f x) z (map f xs) has) [
  | inl first ↦ (x, has_head x xs, sym first)
  | inr later ↦ let rest = map_has f xs z later in (rest.0, has_tail x rest.0 xs rest.1, rest.2)
]

pub has_map : {X Y : Type 0} (f : X → Y) (xs : List X) (x : X) → Contains xs x → Contains (map f xs) (f x)
has_map f [] x has = absurd (has_none x has)
has_map {X} {Y} f (y ∷ xs) x has = elim (has_cases y x xs has) [
  | inl first ↦ subst (λ (w : X). Contains (f y ∷ map f xs) (f w)) (sym first) (has_head (f y) (map f xs))
  | inr later ↦ has_tail (f y) (f x) (map f xs) (has_map f xs x later)
]

-- ---- order

module _ {X : Type 0} (before : X → X → Bool) where
  pub order_filter : (p : X → Bool) (xs : List X) → AreInOrder before xs → AreInOrder before (filter p xs)
  order_filter p [] order = tt
  order_filter p (x ∷ xs) order = by_test (p x) (order_filter p xs order.1) where
    by_test : (b : Bool) → AreInOrder before (filter p xs) → AreInOrder before (cond b (x ∷ filter p xs) (filter p xs))
    by_test true rest = (
      All-from_has (λ y. IsTrue (before x y)) (filter p xs) (λ y has. All-contains (λ y. IsTrue (before x y)) xs y order.0 (filter_has p xs y has).0),
      rest,
    )
    by_test false rest = rest

  pub order_insert : (trans : (x y z : X) → IsTrue (before x y) → IsTrue (before y z) → IsTrue (before x z))
      → (x : X) (ys : List X) → AreInOrder before ys → ((y : X) → Contains ys y → before x y ≡ false → IsTrue (before y x))
      → AreInOrder before (insert_by before x ys)
  order_insert trans x [] order apart = (All-nil (λ y. IsTrue (before x y)), tt)
  order_insert trans x (y ∷ ys) order apart =
      by_test (before x y) refl (order_insert trans x ys order.1 (λ z has. apart z (has_tail y z ys has))) where
        by_test : (b : Bool) → before x y ≡ b → AreInOrder before (insert_by before x ys)
            → AreInOrder before (if b then x ∷ y ∷ ys else y ∷ insert_by before x ys)
        by_test true is rest = (
          All-cons (λ z. IsTrue (before x z)) y ys is
              (All-from_has (λ z. IsTrue (before x z)) ys
              (λ z has. trans x y z is (All-contains (λ z. IsTrue (before y z)) ys z order.0 has))),
          order,
        )
        by_test false is rest = (
          All-from_has (λ z. IsTrue (before y z)) (insert_by before x ys) (λ z has. elim (insert_has before x ys z has) [
            | inl new ↦ subst (λ (w : X). IsTrue (before y w)) (sym new) (apart y (has_head y ys) is)
            | inr old ↦ All-contains (λ z. IsTrue (before y z)) ys z order.0 old
          ]),
          rest,
        )

  pub order_map : (f : X → X) (xs : List X) → ((x y : X) → Contains xs x → Contains xs y → before (f x) (f y) ≡ before x y)
      → AreInOrder before xs → AreInOrder before (map f xs)
  order_map f [] same order = tt
  order_map f (x ∷ xs) same order = (
    All-from_has (λ y. IsTrue (before (f x) y)) (map f xs) (λ z has. at_one z (map_has f xs z has)),
    order_map f xs (λ y z here there. same y z (has_tail x y xs here) (has_tail x z xs there)) order.1,
  ) where
    at_one : (z : X) → (y : X) × Contains xs y × (f y ≡ z) → IsTrue (before (f x) z)
    at_one z (y, there, is) =
        let one : IsTrue (before x y) = All-contains (λ y. IsTrue (before x y)) xs y order.0 there in
        subst (λ (w : X). IsTrue (before (f x) w)) is (rw (same x y (has_head x xs) (has_tail x y xs there)) one)

  -- lists in an order with the same elements are one
  pub order_one : (strict : (x y : X) → IsTrue (before x y) → IsTrue (before y x) → ⊥)
      → (xs ys : List X) → AreInOrder before xs → AreInOrder before ys
      → ((z : X) → Contains xs z → Contains ys z) → ((z : X) → Contains ys z → Contains xs z) → xs ≡ ys
  order_one strict [] [] order order' to from = refl
  order_one strict [] (y ∷ ys) order order' to from = absurd (has_none y (from y (has_head y ys)))
  order_one strict (x ∷ xs) [] order order' to from = absurd (has_none x (to x (has_head x xs)))
  order_one strict (x ∷ xs) (y ∷ ys) order order' to from =
      let rest : xs ≡ ys = order_one strict xs ys order.1 order'.1 to' from' in
      rw (first, rest) refl where
        after_x : (z : X) → Contains xs z → IsTrue (before x z)
        after_x z has = All-contains (λ y. IsTrue (before x y)) xs z order.0 has

        after_y : (z : X) → Contains ys z → IsTrue (before y z)
        after_y z has = All-contains (λ z. IsTrue (before y z)) ys z order'.0 has

        first : x ≡ y
        first = elim (has_cases y x ys (to x (has_head x xs))) [
          | inl one ↦ one
          | inr later ↦ elim (has_cases x y xs (from y (has_head y ys))) [
            | inl one ↦ sym one
            | inr later' ↦ absurd (strict x y (after_x y later') (after_y x later))
          ]
        ]

        to' : (z : X) → Contains xs z → Contains ys z
        to' z has = elim (has_cases y z ys (to z (has_tail x z xs has))) [
          | inl one ↦ let mine : IsTrue (before x x) = subst (λ (w : X). IsTrue (before x w)) (one ∙ sym first) (after_x z has) in absurd (strict x x mine mine)
          | inr later ↦ later
        ]

        from' : (z : X) → Contains ys z → Contains xs z
        from' z has = elim (has_cases x z xs (from z (has_tail y z ys has))) [
          | inl one ↦ let mine : IsTrue (before y y) = subst (λ (w : X). IsTrue (before y w)) (one ∙ first) (after_y z has) in absurd (strict y y mine mine)
          | inr later ↦ later
        ]
