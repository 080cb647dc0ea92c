-- Which pages a sound tree reaches: each at a lower level, and those below different children are different.
use Rattle.std.proofs.Common.{◌≡◌, ◌≢◌, Bool, true, false, true≢false, ◌||◌, ℕ, zero, suc, ◌≤◌, ◌⊎◌, inl, inr, List, [], ◌∷◌, length, refl, sym, ap, subst}
use Rattle.std.proofs.Common.{arith, nat_eq, eqb-true}
use Rattle.std.specs.Prelude.{Option, Some, None}
use Rattle.std.specs.List.{AllByRecursion, list_any}
use Rattle.std.specs.List.Sorted.{IsStrictlySortedBy}
use Rattle.hm_types.specs.Elements.{Key}
use Rattle.hm_fields.specs.Pages.{PageMap}
use Rattle.hm_key.specs.Key.{key_of, least_key, IsBefore, IsFrom}
use Rattle.hm_key.specs.Elements.{element_key}
use Rattle.hm_key.specs.declared.base.Base.{Base}
use Rattle.hm_key.specs.declared.element.Element.{Element}
use Rattle.hm_key.proofs.KeyLemmas.{key_not_before, key_before_from}
use Rattle.hm_node.specs.Base.{base_cmp}
use Rattle.hm_node.specs.Node.{level_of}
use Rattle.hm_node.specs.declared.inner.Child.{Child}
use Rattle.hm_node.specs.declared.node.Node.{Node}
use Rattle.hm_node.specs.declared.node.Node.TheVariants.{Leaf, Inner as inner_node}
use Rattle.hm_search.specs.Place.{IsInside, BeginsAt, FitsCount}
use Rattle.hm_search.specs.Tree.{node_at, reaches, Reaches, next_left, child_place, places_of, IsTree, IsStoredTree}
pub use Rattle.hm_search.specs.Reach.{is_under}
use Rattle.hm_search.specs.declared.subtree.Parent.{Parent}
use Rattle.hm_search.specs.declared.subtree.Subtree.{Subtree}
use Rattle.hm_search.proofs.ChildLemmas.{bounds, next_by_right, from_next, later_sorted, begins_before}
use Rattle.hm_search.proofs.ContentLemmas.{wider, from_left, elements_inside}
use Rattle.hm_search.proofs.ListLemmas.{each_both}

-- an `or` that holds
pub either : (a b : Bool) → (a || b) ≡ true → (a ≡ true) ⊎ (b ≡ true)
either true b is = inl refl
either false b is = inr is

pub or_left : (a b : Bool) → a ≡ true → (a || b) ≡ true
or_left a b is = rw is refl

pub or_right : (a b : Bool) → b ≡ true → (a || b) ≡ true
or_right true b is = refl
or_right false b is = is

-- a test that cannot hold fails
pub fails : (b : Bool) → (b ≡ true → ⊥) → b ≡ false
fails true not = absurd (not refl)
fails false not = refl

module _ (map : PageMap) (height : ℕ) where
  -- the child under which an offset is, among some that all keep a fact
  pub record IsUnderOne (P : Subtree → Type 0) (x : ℕ) : Type 0 where
    pub place : Subtree
    pub fact : P place
    pub under : (place.at ≡ x) ⊎ Reaches map height (node_at map place.at) x

  pub one_under : (P : Subtree → Type 0) (x level : ℕ) (right : Base) (cs : List Child) → AllByRecursion P (places_of level right cs)
      → list_any (is_under map height x) cs ≡ true → IsUnderOne P x
  one_under P x level right [] each is = absurd (true≢false (sym is))
  one_under P x level right (c ∷ cs) each is =
      elim (either (is_under map height x c) (list_any (is_under map height x) cs) is) [
        | inl here ↦ record {
          place = child_place level (next_left right cs) c;
          fact = each.0;
          under = by_side
              (either (nat_eq c.child x) (reaches map height (node_at map c.child) x) here);
        }
        | inr later ↦ one_under P x level right cs each.1 later
      ] where
        by_side : (nat_eq c.child x ≡ true) ⊎ (reaches map height (node_at map c.child) x ≡ true) → (c.child ≡ x) ⊎ Reaches map height (node_at map c.child) x
        by_side (inl is) = inl (eqb-true c.child x is)
        by_side (inr is) = inr is

-- a node that is reached is at a lower level
pub reached_level : (map : PageMap) (height : ℕ) (s : Subtree) (node : Node) (x : ℕ) → IsTree map height s node → Reaches map height node x
    → level_of (node_at map x) ≤ height
reached_level map zero s (Leaf leaf) x tree is = absurd (true≢false (sym is))
reached_level map zero s (inner_node inner) x tree is = absurd (true≢false (sym is))
reached_level map (suc height) s (Leaf leaf) x tree is = absurd tree.below
reached_level map (suc height) s (inner_node inner) x tree is =
    let one = one_under map height (IsStoredTree map height) x inner.level inner.right inner.places.items tree.below is in
    elim one.under [
      | inl here ↦ let level = one.fact.tree.level in let same : level_of (node_at map one.place.at) ≡ level_of (node_at map x) = ap
          (λ (a : ℕ). level_of (node_at map a)) here in omega arith
      | inr below ↦ let lower = reached_level map height one.place (node_at map one.place.at) x one.fact.tree below in omega arith
    ]

-- so no node of a sound tree is below itself
pub not_below_itself : (map : PageMap) (height : ℕ) (s : Subtree) (node : Node) (at : ℕ) → IsTree map height s node → node_at map at ≡ node
    → reaches map height node at ≡ false
not_below_itself map height s node at tree same = fails (reaches map height node at) (λ is.
    let lower = reached_level map height s node at tree is in
    let level = tree.level in
    let here : level_of (node_at map at) ≡ level_of node = ap level_of same in
    omega arith)

-- a key by which a node stands: that of its first element or boundary
abbrev pub first_key_of : List Element → Key
first_key_of [] = least_key
first_key_of (e ∷ es) = element_key e

abbrev pub first_left_of : List Child → Key
first_left_of [] = least_key
first_left_of (c ∷ cs) = key_of c.left

abbrev pub first_key : Node → Key
first_key (Leaf leaf) = first_key_of leaf.places.items
first_key (inner_node inner) = first_left_of inner.places.items

-- that of a node below the root lies inside its boundaries
pub first_key_inside : (map : PageMap) (height : ℕ) (s : Subtree) (node : Node) → s.parent ≢ None → IsTree map height s node
    → IsInside s.left s.right (first_key node)
first_key_inside map zero s (Leaf leaf) below tree =
    in_leaf leaf.places.items (some s.parent below tree.fits.count) (elements_inside map zero s (Leaf leaf) tree) where
      some : (p : Option Parent) → p ≢ None → FitsCount p (Leaf leaf) → 1 ≤ length leaf.places.items
      some None below count = absurd (below refl)
      some (Some p) below count = count

      in_leaf : (es : List Element) → 1 ≤ length es → AllByRecursion (λ e. IsInside s.left s.right (element_key e)) es
          → IsInside s.left s.right (first_key_of es)
      in_leaf [] some inside = absurd (omega arith)
      in_leaf (e ∷ es) some inside = inside.0
first_key_inside map (suc height) s (Leaf leaf) below tree = absurd tree.below
first_key_inside map height s (inner_node inner) below tree = in_inner inner.places.items tree.fits.bounds.0 tree.sound.order where
  in_inner : (cs : List Child) → BeginsAt s.left cs → IsStrictlySortedBy base_cmp (bounds inner.right cs) → IsInside s.left s.right (first_left_of cs)
  in_inner [] begins sorted = absurd begins
  in_inner (c ∷ cs) begins sorted = record {
    from = subst (λ (k : Key). IsFrom (key_of s.left) k) (sym begins) (key_not_before (key_of s.left));
    before =
        subst (λ (k : Key). IsBefore (key_of c.left) k) tree.fits.bounds.1
        (key_before_from (key_of c.left) (key_of (next_left inner.right cs)) (key_of inner.right) (begins_before inner.right c cs sorted)
        (next_by_right inner.right cs (later_sorted inner.right c cs sorted)));
  }

-- a place that its parent has inside wider boundaries
pub record IsWithin (left right : Base) (s : Subtree) : Type 0 where
  pub from : IsFrom (key_of left) (key_of s.left)
  pub to : IsFrom (key_of s.right) (key_of right)
  pub below : s.parent ≢ None

pub places_within : (level : ℕ) (left right : Base) (cs : List Child) → IsStrictlySortedBy base_cmp (bounds right cs)
    → AllByRecursion (λ b. IsFrom (key_of left) (key_of b)) (bounds right cs)
    → AllByRecursion (IsWithin left right) (places_of level right cs)
places_within level left right [] sorted low = tt
places_within level left right (c ∷ cs) sorted low = (
  record { from = low.0; to = next_by_right right cs (later_sorted right c cs sorted); below = λ none. absurd cc },
  places_within level left right cs (later_sorted right c cs sorted) low.1,
)

-- the first key of a node under one of some children lies inside the boundaries of these
module _ (map : PageMap) (height : ℕ)
    (inside : (s : Subtree) (x : ℕ) → IsStoredTree map height s → Reaches map height (node_at map s.at) x → IsInside s.left s.right
    (first_key (node_at map x))) where
  pub under_inside : (x level : ℕ) (left right : Base) (cs : List Child) → IsStrictlySortedBy base_cmp (bounds right cs)
      → AllByRecursion (λ b. IsFrom (key_of left) (key_of b)) (bounds right cs)
      → AllByRecursion (IsStoredTree map height) (places_of level right cs) → list_any (is_under map height x) cs ≡ true
      → IsInside left right (first_key (node_at map x))
  under_inside x level left right cs sorted low stored is =
      let one = one_under map height (λ s. IsStoredTree map height s × IsWithin left right s) x level right cs
      (each_both (IsStoredTree map height) (IsWithin left right) (places_of level right cs) stored (places_within level left right cs sorted low)) is in
      wider one.place.left one.place.right left right (first_key (node_at map x)) one.fact.1.from one.fact.1.to
      (elim one.under [
        | inl here ↦ subst (λ (a : ℕ). IsInside one.place.left one.place.right (first_key (node_at map a))) here
            (first_key_inside map height one.place (node_at map one.place.at) one.fact.1.below one.fact.0.tree)
        | inr below ↦ inside one.place x one.fact.0 below
      ])

-- the first key of a node that is reached lies inside the boundaries of the node from which it is
pub reached_inside : (map : PageMap) (height : ℕ) (s : Subtree) (node : Node) (x : ℕ) → IsTree map height s node → Reaches map height node x
    → IsInside s.left s.right (first_key (node_at map x))
reached_inside map zero s (Leaf leaf) x tree is = absurd (true≢false (sym is))
reached_inside map zero s (inner_node inner) x tree is = absurd (true≢false (sym is))
reached_inside map (suc height) s (Leaf leaf) x tree is = absurd tree.below
reached_inside map (suc height) s (inner_node inner) x tree is =
    let inside = under_inside map height (λ c y stored below. reached_inside map height c (node_at map c.at) y stored.tree below) x inner.level s.left
    inner.right inner.places.items tree.sound.order
    (from_left s.left inner.right inner.places.items tree.fits.bounds.0 tree.sound.order) tree.below is in
    record { from = inside.from; before = subst (λ (k : Key). IsBefore (first_key (node_at map x)) k) tree.fits.bounds.1 inside.before }

-- An offset under a child is under none of the children after it.
pub apart_children : (map : PageMap) (height x level : ℕ) (right : Base) (c : Child) (cs : List Child) → IsStrictlySortedBy base_cmp (bounds right (c ∷ cs))
    → AllByRecursion (IsStoredTree map height) (places_of level right (c ∷ cs)) → is_under map height x c ≡ true → list_any (is_under map height x) cs ≡ false
unfolding IsStrictlySortedBy
apart_children map height x level right c cs sorted stored here = fails (list_any (is_under map height x) cs) (λ later.
    let inside = λ (s : Subtree) (y : ℕ) (tree : IsStoredTree map height s) (below : Reaches map height (node_at map s.at) y). reached_inside map height s
    (node_at map s.at) y tree.tree below in
    let first = under_inside map height inside x level c.left (next_left right cs) (c ∷ []) (one_sorted (next_left right cs) (begins_before right c cs sorted))
    (from_next (next_left right cs) (c ∷ []) (one_sorted (next_left right cs) (begins_before right c cs sorted)))
    (alone (next_left right cs) stored.0) (or_left (is_under map height x c) false here) in
    let second = under_inside map height inside x level (next_left right cs) right cs (later_sorted right c cs sorted)
    (from_next right cs (later_sorted right c cs sorted)) stored.1 later in
    second.from first.before) where
      one_sorted : (r : Base) → IsBefore (key_of c.left) (key_of r) → IsStrictlySortedBy base_cmp (bounds r (c ∷ []))
      one_sorted r less = ((less, tt), (tt, tt))

      alone : (r : Base) → IsStoredTree map height (child_place level r c) → AllByRecursion (IsStoredTree map height) (places_of level r (c ∷ []))
      alone r stored = (stored, tt)
