-- Names in the order of their bytes: a list that rises, and another one with its elements that does not fall.
use Rattle.std.proofs.Common.{◌≡◌, ℕ, ◌<◌, ◌≤◌, Bool, true, false, List, [], ◌∷◌, length, get_or, map, suc, Bor, refl, sym, ap, subst, ◌∙◌, true≢false, arith}
use Rattle.std.specs.Prelude.{IsTrue}
use Rattle.std.specs.List.{Contains, IsDistinct}
use Rattle.std.specs.List.Sorted.{IsPermutation, IsSortedBy}
use Rattle.std.specs.Cmp.{IsStrictWeakOrder}
use Rattle.std.specs.Cmp.Lexicographic.{slice_cmp}
use Rattle.std.specs.Fn.{Called, ComparesAs, Mut}
use Rattle.std.specs.Ordering.{is_eq, is_lt, nat_cmp, ordering_reverse, ordering_then}
use Rattle.std.specs.declared.cmp.Ordering.{Ordering}
use Rattle.std.specs.declared.cmp.Ordering.TheVariants.{Less, Equal, Greater}
use Rattle.std.proofs.lemmas.Bool.{false≢true}
use Rattle.std.proofs.lemmas.Cmp.{nat_list_cmp_total, ranked}
use Rattle.std.proofs.lemmas.Fn.{always_returns_same}
use Rattle.std.proofs.lemmas.List.Elements.{All-contains, All-from_recursion, recursion_from_All}
use Rattle.std.proofs.lemmas.List.MinMax.{ranks_by}
use Rattle.std.proofs.lemmas.List.Sorted.{Contains-permutation, IsPermutation-sym, sorted_far}
use Rattle.std.proofs.lemmas.Map.Keys.{IsDistinct-IsPermutation}
use Rattle.hm_types.specs.Tree.{is_triple_before}
use Rattle.hm_types.specs.declared.object.Triple.{Triple}
use Rattle.hm_records.specs.View.{AreInOrder}
use Rattle.hm_records.proofs.MemberLemmas.{All-from_has, has_tail, map_has, order_one}

-- ---- one name and another one

-- what a listing has: the number of a kind, and a name
abbrev pub Item : Type 0
Item = ℕ × List ℕ

-- how the names of two stand
abbrev pub name_cmp : Item → Item → Ordering
name_cmp x y = slice_cmp nat_cmp x.1 y.1

abbrev pub is_name_before : Item → Item → Bool
is_name_before x y = is_lt (name_cmp x y)

abbrev pub is_same_name : Item → Item → Bool
is_same_name x y = is_eq (name_cmp x y)

turned : (x y : Item) → name_cmp x y ≡ ordering_reverse (name_cmp y x)
turned x y = nat_list_cmp_total.antisymm x.1 y.1

name_flips : (x y : Item) → is_same_name x y ≡ is_same_name y x
name_flips x y = by_order (name_cmp y x) refl where
  by_order : (r : Ordering) → name_cmp y x ≡ r → is_same_name x y ≡ is_same_name y x
  by_order Less is = ap is_eq (turned x y ∙ ap ordering_reverse is) ∙ sym (ap is_eq is)
  by_order Equal is = ap is_eq (turned x y ∙ ap ordering_reverse is) ∙ sym (ap is_eq is)
  by_order Greater is = ap is_eq (turned x y ∙ ap ordering_reverse is) ∙ sym (ap is_eq is)

before_apart : (x y : Item) → IsTrue (is_name_before x y) → is_same_name x y ≡ false
before_apart x y before = by_order (name_cmp x y) refl where
  by_order : (r : Ordering) → name_cmp x y ≡ r → is_same_name x y ≡ false
  by_order Less is = ap is_eq is
  by_order Equal is = absurd (false≢true (sym (ap is_lt is) ∙ before))
  by_order Greater is = ap is_eq is

before_strict : (x y : Item) → IsTrue (is_name_before x y) → IsTrue (is_name_before y x) → ⊥
before_strict x y first second = by_order (name_cmp y x) refl where
  by_order : (r : Ordering) → name_cmp y x ≡ r → ⊥
  by_order Less is = false≢true (sym (ap is_lt (turned x y ∙ ap ordering_reverse is)) ∙ first)
  by_order Equal is = false≢true (sym (ap is_lt is) ∙ second)
  by_order Greater is = false≢true (sym (ap is_lt is) ∙ second)

before_unless : (x y : Item) → is_name_before y x ≡ false → is_same_name x y ≡ false → IsTrue (is_name_before x y)
before_unless x y not apart = by_order (name_cmp x y) refl where
  by_order : (r : Ordering) → name_cmp x y ≡ r → IsTrue (is_name_before x y)
  by_order Less is = ap is_lt is
  by_order Equal is = absurd (true≢false (sym (ap is_eq is) ∙ apart))
  by_order Greater is = absurd (true≢false (sym (ap is_lt (turned y x ∙ ap ordering_reverse is)) ∙ not))

-- ---- lists of names

distinct_from_order : (xs : List Item) → AreInOrder is_name_before xs → IsDistinct is_same_name xs
unfolding IsDistinct
distinct_from_order [] rise = tt
distinct_from_order (x ∷ xs) rise = (
  recursion_from_All (λ (y : Item). is_same_name x y ≡ false) xs
      (All-from_has (λ (y : Item). is_same_name x y ≡ false) xs
      (λ y has. before_apart x y (All-contains (λ (y : Item). IsTrue (is_name_before x y)) xs y rise.0 has))),
  distinct_from_order xs rise.1,
)

-- none that stands later is before an earlier one
abbrev NoneFalls : List Item → Type 0
NoneFalls xs = (i j : ℕ) (d : Item) → i ≤ j → j < length xs → is_name_before (get_or xs j d) (get_or xs i d) ≡ false

order_from_distinct : (xs : List Item) → NoneFalls xs → IsDistinct is_same_name xs → AreInOrder is_name_before xs
unfolding IsDistinct
order_from_distinct [] none apart = tt
order_from_distinct (x ∷ xs) none apart = (
  All-from_has (λ (y : Item). IsTrue (is_name_before x y)) xs (λ y has.
      let no : is_name_before (get_or xs has.0 y) x ≡ false = none 0 (suc has.0) y (omega arith) (omega (arith, has.1)) in
      before_unless x y (subst (λ (z : Item). is_name_before z x ≡ false) has.2 no)
      (All-contains (λ (y : Item). is_same_name x y ≡ false) xs y
      (All-from_recursion (λ (y : Item). is_same_name x y ≡ false) xs apart.0) has)),
  order_from_distinct xs (λ i j d le below. none (suc i) (suc j) d (omega (arith, le)) (omega (arith, below))) apart.1,
)

-- a sort of names no two of which are one makes them rise
pub sorted_names : (xs was ys : List Item) → AreInOrder is_name_before xs → IsPermutation xs was → IsPermutation was ys → IsSortedBy is_name_before ys
    → ys ≡ xs
sorted_names xs was ys rise mixed sorted up =
    let apart = IsDistinct-IsPermutation is_same_name name_flips was ys sorted
    (IsDistinct-IsPermutation is_same_name name_flips xs was mixed (distinct_from_order xs rise)) in
    order_one is_name_before before_strict ys xs
    (order_from_distinct ys (sorted_far is_name_before (ranks_by nat_list_cmp_total (λ (x : Item). x.1)) ys up) apart) rise
    (λ z has. Contains-permutation was xs z (IsPermutation-sym xs was mixed) (Contains-permutation ys was z (IsPermutation-sym was ys sorted) has))
    (λ z has. Contains-permutation was ys z sorted (Contains-permutation xs was z mixed has))

-- ---- triples of one directory

names_rise : (t u : Triple) → t.directory.0 ≡ u.directory.0 → IsTrue (is_triple_before t u) → IsTrue (is_lt (slice_cmp nat_cmp t.name u.name))
names_rise t u same before = by_order (nat_cmp t.directory.0 u.directory.0) refl before where
  by_order : (r : Ordering) → r ≡ nat_cmp t.directory.0 u.directory.0 → is_lt (ordering_then r (slice_cmp nat_cmp t.name u.name)) ≡ true
      → IsTrue (is_lt (slice_cmp nat_cmp t.name u.name))
  by_order Less is rises = absurd (omega (arith, same, ranked t.directory.0 u.directory.0 Less is))
  by_order Equal is rises = rises
  by_order Greater is rises = absurd (omega (arith, same, ranked t.directory.0 u.directory.0 Greater is))

pub triples_rise : (directory : ℕ) (kind_of : Triple → ℕ) (ts : List Triple) → ((t : Triple) → Contains ts t → t.directory.0 ≡ directory)
    → AreInOrder is_triple_before ts → AreInOrder is_name_before (map (λ (t : Triple). (kind_of t, t.name)) ts)
triples_rise directory kind_of [] of_one rise = tt
triples_rise directory kind_of (t ∷ ts) of_one rise = (
  All-from_has (λ (y : Item). IsTrue (is_name_before (kind_of t, t.name) y)) (map (λ (t : Triple). (kind_of t, t.name)) ts) (λ y has.
      let u = map_has (λ (t : Triple). (kind_of t, t.name)) ts y has in
      subst (λ (z : Item). IsTrue (is_name_before (kind_of t, t.name) z)) u.2
      (names_rise t u.0 (of_one t (0, omega arith, refl) ∙ sym (of_one u.0 (has_tail t u.0 ts u.1)))
      (All-contains (λ (y : Triple). IsTrue (is_triple_before t y)) ts u.0 rise.0 u.1))),
  triples_rise directory kind_of ts (λ u has. of_one u (has_tail t u ts has)) rise.1,
)

-- ---- a sort

-- what a sort by a closure that compares names leaves
pub names_sorted : {F : Type 0} {g : Mut F (Bor Item × (Bor Item × Unit {0})) Ordering} {f : F} (xs : List Item)
    → ((lt : Item → Item → Bool) → IsStrictWeakOrder lt → ComparesAs g lt f → IsSortedBy lt xs)
    → ((a : Bor Item × (Bor Item × Unit {0})) (r : Ordering) (f' : F) → Called g f a r f' → (r ≡ name_cmp a.0.now a.1.0.now) × (f' ≡ f))
    → IsSortedBy is_name_before xs
names_sorted {g = g} {f = f} xs sorted compares =
    sorted is_name_before (ranks_by nat_list_cmp_total (λ (x : Item). x.1))
    (always_returns_same g (λ a r. is_lt r ≡ is_name_before a.0.now a.1.0.now) f (λ a r f' k. let c = compares a r f' k in (ap is_lt c.0, c.1)))
