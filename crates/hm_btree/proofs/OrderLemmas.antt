-- The boundaries of children that stand in order.
use Rattle.std.proofs.Common.{◌≡◌, List, [], ◌∷◌, ◌++◌, map, refl, sym, subst}
use Rattle.std.specs.List.{AllByRecursion}
use Rattle.std.specs.List.Sorted.{IsStrictlySortedBy}
use Rattle.std.specs.declared.cmp.Ordering.TheVariants.{Less}
use Rattle.hm_types.specs.Elements.{Key}
use Rattle.hm_key.specs.Key.{key_of, IsBefore}
use Rattle.hm_key.specs.declared.base.Base.{Base}
use Rattle.hm_key.proofs.KeyLemmas.{key_total}
use Rattle.hm_node.specs.Base.{base_cmp}
use Rattle.hm_node.specs.declared.inner.Child.{Child}
use Rattle.hm_search.specs.Place.{BeginsAt}
use Rattle.hm_search.specs.Tree.{next_left}
use Rattle.hm_search.proofs.ChildLemmas.{begins_before, later_sorted}
use Rattle.hm_btree.specs.Below.{bounds_of, AreRising}

pub before_before : (a b c : Key) → IsBefore a b → IsBefore b c → IsBefore a c
before_before a b c first second = key_total.trans a b c first second

-- a fact of two lists together
pub each_front : {A : Type 0} (P : A → Type 0) (xs ys : List A) → AllByRecursion P (xs ++ ys) → AllByRecursion P xs
each_front P [] ys each = tt
each_front P (x ∷ xs) ys each = (each.0, each_front P xs ys each.1)

pub each_back : {A : Type 0} (P : A → Type 0) (xs ys : List A) → AllByRecursion P (xs ++ ys) → AllByRecursion P ys
each_back P [] ys each = each
each_back P (x ∷ xs) ys each = each_back P xs ys each.1

-- a child begins before all that comes after it
pub rising_first : (right : Base) (c : Child) (cs : List Child) → AreRising right (c ∷ cs) → AllByRecursion
    (λ y. base_cmp c.left y ≡ Less) (bounds_of right cs)
unfolding IsStrictlySortedBy
rising_first right c cs rising = rising.0

pub rising_cons : (right : Base) (c : Child) (cs : List Child) → AllByRecursion (λ y. base_cmp c.left y ≡ Less)
    (bounds_of right cs) → AreRising right cs → AreRising right (c ∷ cs)
unfolding IsStrictlySortedBy
rising_cons right c cs first rest = (first, rest)

-- what is before the first of some boundaries is before all of them
pub before_all : (a : Base) (right : Base) (cs : List Child) → AreRising right cs → IsBefore (key_of a)
    (key_of (next_left right cs)) → AllByRecursion (λ y. base_cmp a y ≡ Less) (bounds_of right cs)
before_all a right [] rising before = (before, tt)
before_all a right (c ∷ cs) rising before = (
  before,
  before_all a right cs (later_sorted right c cs rising) (before_before (key_of a) (key_of c.left)
      (key_of (next_left right cs)) before (begins_before right c cs rising)),
)

-- the first boundary of children and others after them
pub next_append : (right : Base) (cs ds : List Child) → next_left right (cs ++ ds) ≡ next_left (next_left right ds) cs
next_append right [] ds = refl
next_append right (c ∷ cs) ds = refl

-- children in order, and others after them
pub rising_append : (right : Base) (cs ds : List Child) → AreRising (next_left right ds) cs → AreRising right ds → AreRising right (cs ++ ds)
rising_append right [] ds first second = second
rising_append right (c ∷ cs) ds first second =
    let more = rising_append right cs ds (later_sorted (next_left right ds) c cs first) second in
    rising_cons right c (cs ++ ds) (before_all c.left right (cs ++ ds) more
    (subst (λ (b : Base). IsBefore (key_of c.left) (key_of b)) (sym (next_append right cs ds)) (begins_before (next_left right ds) c cs first))) more

pub rising_back : (right : Base) (cs ds : List Child) → AreRising right (cs ++ ds) → AreRising right ds
rising_back right [] ds rising = rising
rising_back right (c ∷ cs) ds rising = rising_back right cs ds (later_sorted right c (cs ++ ds) rising)

pub rising_front : (right : Base) (cs ds : List Child) → AreRising right (cs ++ ds) → AreRising (next_left right ds) cs
unfolding IsStrictlySortedBy
rising_front right [] ds rising = (tt, tt)
rising_front right (c ∷ cs) ds rising =
    let more = rising_front right cs ds (later_sorted right c (cs ++ ds) rising) in
    rising_cons (next_left right ds) c cs (before_all c.left (next_left right ds) cs more
    (subst (λ (b : Base). IsBefore (key_of c.left) (key_of b)) (next_append right cs ds) (begins_before right c (cs ++ ds) rising))) more

-- children end after the first of them begins
pub ends_after : (right : Base) (c : Child) (cs : List Child) → AreRising right (c ∷ cs) → IsBefore (key_of c.left) (key_of right)
ends_after right c cs rising = (each_back (λ y. base_cmp c.left y ≡ Less) (map (λ (d : Child). d.left) cs) (right ∷ []) (rising_first right c cs rising)).0

-- children begin where the first of them does
pub begins_left : (left right : Base) (cs : List Child) → BeginsAt left cs → key_of (next_left right cs) ≡ key_of left
begins_left left right [] begins = absurd begins
begins_left left right (c ∷ cs) begins = begins
