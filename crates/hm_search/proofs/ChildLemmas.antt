-- The children of an inner node, and the places that it has for them.
use Rattle.std.proofs.Common.{◌≡◌, Bool, true, false, not, true≢false, ℕ, zero, suc, ◌+◌, ◌-◌, ◌<◌, ◌≤◌, inl, inr, List, [], ◌∷◌, ◌++◌, length, map, drop, refl}
use Rattle.std.proofs.Common.{sym, ap, ◌∙◌, arith, if◌then◌else◌}
use Rattle.std.specs.Prelude.{slice_index_or, slice_get, Some, None}
use Rattle.std.specs.List.{AllByRecursion}
use Rattle.std.specs.List.Sorted.{IsStrictlySortedBy, IsPartitionedBy}
use Rattle.std.specs.Ordering.{is_lt}
use Rattle.std.specs.declared.cmp.Ordering.TheVariants.{Less}
use Rattle.std.proofs.lemmas.Bool.{cases_lt}
use Rattle.std.proofs.lemmas.Option.{slice_get_read, slice_get_past}
use Rattle.hm_types.specs.Elements.{Key}
use Rattle.hm_key.specs.Key.{key_of, IsBefore, IsFrom}
use Rattle.hm_key.specs.declared.base.Base.{Base}
use Rattle.hm_key.proofs.KeyLemmas.{key_total, key_from_before, key_not_before}
use Rattle.hm_node.specs.Base.{base_cmp}
use Rattle.hm_node.specs.declared.inner.Child.{Child}
use Rattle.hm_node.specs.declared.inner.Inner.{Inner}
use Rattle.hm_search.specs.Tree.{starts_after, next_left, child_place, places_of, children_of, holder, at_holder}
use Rattle.hm_search.specs.Search.{begun, holder_place}
use Rattle.hm_search.specs.declared.subtree.Subtree.{Subtree}
use Rattle.hm_search.proofs.ListLemmas.{each_so, begins_by}
use Rattle.hm_search.proofs.OrderLemmas.{before_is, from_not}

-- the boundaries of some children, up to the right one
abbrev pub bounds : Base → List Child → List Base
bounds right cs = map (λ (c : Child). c.left) cs ++ right ∷ []

-- a fact of each boundary
pub next_of_each : (P : Base → Type 0) (right : Base) (cs : List Child) → AllByRecursion P (bounds right cs) → P (next_left right cs)
next_of_each P right [] each = each.0
next_of_each P right (c ∷ cs) each = each.0

pub last_of_each : (P : Base → Type 0) (right : Base) (cs : List Child) → AllByRecursion P (bounds right cs) → P right
last_of_each P right [] each = each.0
last_of_each P right (c ∷ cs) each = last_of_each P right cs each.1

-- no boundary is after the right one
pub next_by_right : (right : Base) (cs : List Child) → IsStrictlySortedBy base_cmp (bounds right cs) → IsFrom (key_of (next_left right cs)) (key_of right)
unfolding IsStrictlySortedBy
next_by_right right [] sorted = key_not_before (key_of right)
next_by_right right (c ∷ cs) sorted = key_from_before (key_of c.left) (key_of right) (last_of_each (λ b. base_cmp c.left b ≡ Less) right cs sorted.0)

-- no boundary is before the first one
pub from_next : (right : Base) (cs : List Child) → IsStrictlySortedBy base_cmp (bounds right cs)
    → AllByRecursion (λ b. IsFrom (key_of (next_left right cs)) (key_of b)) (bounds right cs)
unfolding IsStrictlySortedBy
from_next right [] sorted = (key_not_before (key_of right), tt)
from_next right (c ∷ cs) sorted = (
  key_not_before (key_of c.left),
  each_so (λ b. base_cmp c.left b ≡ Less) (λ b. IsFrom (key_of c.left) (key_of b)) (bounds right cs)
      (λ b less. key_from_before (key_of c.left) (key_of b) less) sorted.0,
)

-- a child ends after it begins
pub begins_before : (right : Base) (c : Child) (cs : List Child) → IsStrictlySortedBy base_cmp (bounds right (c ∷ cs))
    → IsBefore (key_of c.left) (key_of (next_left right cs))
unfolding IsStrictlySortedBy
begins_before right c cs sorted = next_of_each (λ b. base_cmp c.left b ≡ Less) right cs sorted.0

-- the boundaries after the first are in order too
pub later_sorted : (right : Base) (c : Child) (cs : List Child) → IsStrictlySortedBy base_cmp (bounds right (c ∷ cs))
    → IsStrictlySortedBy base_cmp (bounds right cs)
unfolding IsStrictlySortedBy
later_sorted right c cs sorted = sorted.1

-- a child begins before each later one
pub left_pair : (right : Base) (cs : List Child) (i j : ℕ) (d : Child) → IsStrictlySortedBy base_cmp (bounds right cs) → i < j → j < length cs
    → IsBefore (key_of (slice_index_or cs i d).left) (key_of (slice_index_or cs j d).left)
unfolding IsStrictlySortedBy
left_pair right [] i j d sorted low high = absurd (omega arith)
left_pair right (c ∷ cs) i zero d sorted low high = absurd (omega arith)
left_pair right (c ∷ cs) zero (suc j) d sorted low high = at cs j (omega arith) sorted.0 where
  at : (ds : List Child) (j : ℕ) → j < length ds → AllByRecursion (λ b. base_cmp c.left b ≡ Less) (bounds right ds)
      → IsBefore (key_of c.left) (key_of (slice_index_or ds j d).left)
  at [] j high each = absurd (omega arith)
  at (e ∷ ds) zero high each = each.0
  at (e ∷ ds) (suc j) high each = at ds j (omega arith) each.1
left_pair right (c ∷ cs) (suc i) (suc j) d sorted low high = left_pair right cs i j d sorted.1 (omega arith) (omega arith)

pub begun_parted : (key : Key) (right : Base) (cs : List Child) → IsStrictlySortedBy base_cmp (bounds right cs) → IsPartitionedBy (begins_by key) cs
begun_parted key right cs sorted i j d le high is =
    elim (cases_lt i j) [
      | inl below ↦ by_test (starts_after key (slice_index_or cs i d)) refl (left_pair right cs i j d sorted below high)
      | inr same ↦ let one : i ≡ j = omega arith in rw one is
    ] where
      by_test : (b : Bool) → starts_after key (slice_index_or cs i d) ≡ b → IsBefore (key_of (slice_index_or cs i d).left) (key_of (slice_index_or cs j d).left)
          → not b ≡ true
      by_test false starts below = refl
      by_test true starts below =
          let later : starts_after key (slice_index_or cs j d) ≡ true =
          ap is_lt (key_total.trans key (key_of (slice_index_or cs i d).left) (key_of (slice_index_or cs j d).left)
          (before_is key (key_of (slice_index_or cs i d).left) starts) below) in
          absurd (true≢false (sym is ∙ ap not later))

-- the place of the child that holds a key, from how many begin by it
pub holder_from_begun : (key : Key) (right : Base) (cs : List Child) → IsStrictlySortedBy base_cmp (bounds right cs) → begun key cs - 1 ≡ holder_place key cs
holder_from_begun key right [] sorted = omega arith
holder_from_begun key right (c ∷ cs) sorted = by_test (starts_after key c) refl cs sorted where
  by_test : (b : Bool) → starts_after key c ≡ b → (ds : List Child) → IsStrictlySortedBy base_cmp (bounds right (c ∷ ds))
      → (if b then 0 else suc (begun key ds)) - 1 ≡ begun key ds
  by_test false starts ds sorted = omega arith
  by_test true starts [] sorted = omega arith
  by_test true starts (d ∷ ds) sorted =
      let later : starts_after key d ≡ true = ap is_lt
      (key_total.trans key (key_of c.left) (key_of d.left) (before_is key (key_of c.left) starts) (begins_before right c (d ∷ ds) sorted)) in
      rw later (omega arith)

-- such a child is there
pub begun_most : (key : Key) (cs : List Child) → begun key cs ≤ length cs
begun_most key [] = omega arith
begun_most key (c ∷ cs) = by_test (starts_after key c) (begun_most key cs) where
  by_test : (b : Bool) → begun key cs ≤ length cs → (if b then 0 else suc (begun key cs)) ≤ suc (length cs)
  by_test true most = omega arith
  by_test false most = omega arith

pub holder_place_within : (key : Key) (cs : List Child) → 1 ≤ length cs → holder_place key cs < length cs
holder_place_within key [] some = absurd (omega arith)
holder_place_within key (c ∷ cs) some = omega (arith, begun_most key cs)

-- a place of a list of places, and its child
pub record IsChildAt (level : ℕ) (right : Base) (cs : List Child) (i : ℕ) (s : Subtree) : Type 0 where
  pub child : Child
  pub is : slice_get cs i ≡ Some child
  pub place : s ≡ child_place level (next_left right (drop (suc i) cs)) child

pub place_is : (level : ℕ) (right : Base) (cs : List Child) (i : ℕ) (s : Subtree) → slice_get (places_of level right cs) i ≡ Some s
    → IsChildAt level right cs i s
place_is level right [] i s is = absurd cc
place_is level right (c ∷ cs) zero s is = let same : child_place level (next_left right cs) c ≡ s = cc in record { child = c; is = refl; place = sym same }
place_is level right (c ∷ cs) (suc i) s is = let more = place_is level right cs i s is in record { child = more.child; is = more.is; place = more.place }

pub place_there : (level : ℕ) (right : Base) (cs : List Child) (i : ℕ) (c : Child) → slice_get cs i ≡ Some c
    → slice_get (places_of level right cs) i ≡ Some (child_place level (next_left right (drop (suc i) cs)) c)
place_there level right [] i c is = absurd cc
place_there level right (d ∷ cs) zero c is = let same : d ≡ c = cc in ap (λ (x : Child). Some (child_place level (next_left right cs) x)) same
place_there level right (d ∷ cs) (suc i) c is = place_there level right cs i c is

-- the right boundary of a child, from the child after it
pub next_there : (right : Base) (cs : List Child) (n : ℕ) (c : Child) → slice_get cs n ≡ Some c → next_left right (drop n cs) ≡ c.left
next_there right [] n c is = absurd cc
next_there right (d ∷ cs) zero c is = let same : d ≡ c = cc in ap (λ (x : Child). x.left) same
next_there right (d ∷ cs) (suc n) c is = next_there right cs n c is

pub next_none : (right : Base) (cs : List Child) (n : ℕ) → slice_get cs n ≡ None → next_left right (drop n cs) ≡ right
next_none right [] zero is = refl
next_none right [] (suc n) is = refl
next_none right (d ∷ cs) zero is = absurd cc
next_none right (d ∷ cs) (suc n) is = next_none right cs n is

-- the child that holds a key is the one in its place
pub holder_is : (key : Key) (c : Child) (cs : List Child) (d : Child) → slice_get (c ∷ cs) (begun key cs) ≡ Some d → holder key c cs ≡ d
holder_is key c [] d is = cc
holder_is key c (e ∷ cs) d is = by_test (starts_after key e) is (holder_is key e cs d) where
  by_test : (b : Bool) → slice_get (c ∷ e ∷ cs) (if b then 0 else suc (begun key cs)) ≡ Some d
      → (slice_get (e ∷ cs) (begun key cs) ≡ Some d → holder key e cs ≡ d) → (if b then c else holder key e cs) ≡ d
  by_test true is more = cc
  by_test false is more = more is

pub at_holder_is : (f : Child → ℕ) (key : Key) (cs : List Child) (c : Child) → slice_get cs (holder_place key cs) ≡ Some c → at_holder f key cs ≡ f c
at_holder_is f key [] c is = absurd cc
at_holder_is f key (d ∷ cs) c is = ap f (holder_is key d cs c is)

-- the first child holds what is before its right boundary
pub holder_first : (key : Key) (right : Base) (c : Child) (cs : List Child) → IsBefore key (key_of (next_left right cs)) → holder key c cs ≡ c
holder_first key right c [] before = refl
holder_first key right c (d ∷ ds) before = let starts : starts_after key d ≡ true = ap is_lt before in rw starts refl

-- later ones hold what is not
pub holder_later : (key : Key) (c d : Child) (ds : List Child) → IsFrom (key_of d.left) key → holder key c (d ∷ ds) ≡ holder key d ds
holder_later key c d ds from = let starts : starts_after key d ≡ false = from_not key (key_of d.left) from in rw starts refl

-- what holds at each child holds at the one that holds a key
pub at_holder_each : (f : Child → ℕ) (most : ℕ) (key : Key) (cs : List Child) → AllByRecursion (λ c. f c ≤ most) cs → at_holder f key cs ≤ most
at_holder_each f most key [] each = omega arith
at_holder_each f most key (c ∷ cs) each = go c cs each.0 each.1 where
  go : (c : Child) (cs : List Child) → f c ≤ most → AllByRecursion (λ c. f c ≤ most) cs → f (holder key c cs) ≤ most
  go c [] here later = here
  go c (d ∷ ds) here later = by_test (starts_after key d) (go d ds later.0 later.1) where
    by_test : (b : Bool) → f (holder key d ds) ≤ most → f (if b then c else holder key d ds) ≤ most
    by_test true more = here
    by_test false more = more

-- the same, as the slice of the children is read
pub next_read : (inner : Inner) (xs : List Child) (n : ℕ) (c : Child) → xs ≡ inner.places.items → n < length xs → c ≡ slice_index_or xs n c
    → c.left ≡ next_left inner.right (drop n inner.places.items)
next_read inner xs n c same low read = rw (← same) (sym (next_there inner.right xs n c (slice_get_read xs (length xs) n c refl low read)))

pub next_past : (inner : Inner) (xs : List Child) (n : ℕ) → xs ≡ inner.places.items → length xs ≤ n
    → inner.right ≡ next_left inner.right (drop n inner.places.items)
next_past inner xs n same high = rw (← same) (sym (next_none inner.right xs n (slice_get_past xs n high)))

pub child_there : (inner : Inner) (xs : List Child) (i : ℕ) (c : Child) (right : Base) → xs ≡ inner.places.items → i < length inner.places.items
    → c ≡ slice_index_or xs i c
    → right ≡ next_left inner.right (drop (i + 1) inner.places.items) → slice_get (children_of inner) i ≡ Some (child_place inner.level right c)
child_there inner xs i c right same low read next =
    let here : slice_get inner.places.items i ≡ Some c = slice_get_read inner.places.items (length inner.places.items) i c refl low (read ∙ rw same refl) in
    let after : i + 1 ≡ suc i = omega arith in
    place_there inner.level inner.right inner.places.items i c here ∙ rw (next, after) refl
