-- The elements of a sound tree: inside its boundaries, in order, and each one that may stand in a leaf.
use Rattle.std.proofs.Common.{◌≡◌, ◌≢◌, ℕ, zero, suc, ◌≤◌, List, [], ◌∷◌, length, refl, subst, arith, Some, None, length-append}
use Rattle.std.specs.Prelude.{Option}
use Rattle.std.specs.List.{AllByRecursion, flat_map}
use Rattle.std.specs.List.Sorted.{IsStrictlySortedBy}
use Rattle.std.proofs.lemmas.List.Elements.{All-from_recursion, recursion_from_All}
use Rattle.hm_types.specs.Elements.{Key}
use Rattle.hm_fields.specs.Pages.{PageMap}
use Rattle.hm_key.specs.Key.{key_of, IsBefore, IsFrom}
use Rattle.hm_key.specs.Element.{IsElement}
use Rattle.hm_key.specs.Elements.{element_key, element_cmp, IsContent}
use Rattle.hm_key.specs.declared.base.Base.{Base}
use Rattle.hm_key.specs.declared.element.Element.{Element}
use Rattle.hm_node.specs.Base.{base_cmp}
use Rattle.hm_node.specs.Leaf.{IsPlaced}
use Rattle.hm_node.specs.Inner.{HasInnerLevel}
use Rattle.hm_node.specs.declared.inner.Child.{Child}
use Rattle.hm_node.specs.declared.node.Node.{Node}
use Rattle.hm_node.specs.declared.node.Node.TheVariants.{Leaf, Inner as inner_node}
use Rattle.hm_search.specs.Place.{IsInside, BeginsAt, FitsCount}
use Rattle.hm_search.specs.Tree.{node_at, elements_in, next_left, child_place, places_of, children_of, IsTree, IsStoredTree}
use Rattle.hm_search.specs.declared.subtree.Parent.{Parent}
use Rattle.hm_search.specs.declared.subtree.Subtree.{Subtree}
use Rattle.hm_search.proofs.ChildLemmas.{bounds, next_by_right, from_next, later_sorted}
use Rattle.hm_search.proofs.ListLemmas.{each_so, each_append, sorted_append, around}
use Rattle.hm_search.proofs.OrderLemmas.{from_trans}
use Rattle.hm_key.proofs.KeyLemmas.{key_before_from}

-- the elements lie inside two boundaries
abbrev pub AreInside : Base → Base → List Element → Type 0
AreInside left right es = AllByRecursion (λ e. IsInside left right (element_key e)) es

-- what is inside boundaries is inside wider ones
pub wider : (l r left right : Base) (key : Key) → IsFrom (key_of left) (key_of l) → IsFrom (key_of r) (key_of right) → IsInside l r key
    → IsInside left right key
wider l r left right key low high inside = record {
  from = from_trans (key_of left) (key_of l) key low inside.from;
  before = key_before_from key (key_of r) (key_of right) inside.before high;
}

-- Children whose elements are those that a function gives at their offsets.
module _ (els : ℕ → List Element) (level : ℕ) (right : Base) where
  abbrev pub all_of : List Child → List Element
  all_of cs = flat_map (λ (c : Child). els c.child) cs

  pub each_of_children : (P : Element → Type 0) (cs : List Child) → AllByRecursion (λ s. AllByRecursion P (els s.at)) (places_of level right cs)
      → AllByRecursion P (all_of cs)
  each_of_children P [] each = tt
  each_of_children P (c ∷ cs) each = each_append P (els c.child) (all_of cs) each.0 (each_of_children P cs each.1)

  pub inside_children : (left : Base) (cs : List Child) → IsStrictlySortedBy base_cmp (bounds right cs)
      → AllByRecursion (λ b. IsFrom (key_of left) (key_of b)) (bounds right cs)
      → AllByRecursion (λ s. AreInside s.left s.right (els s.at)) (places_of level right cs) → AreInside left right (all_of cs)
  inside_children left [] sorted low each = tt
  inside_children left (c ∷ cs) sorted low each =
      each_append (λ e. IsInside left right (element_key e)) (els c.child) (all_of cs)
      (each_so (λ e. IsInside c.left (next_left right cs) (element_key e)) (λ e. IsInside left right (element_key e)) (els c.child)
      (λ e inside. wider c.left (next_left right cs) left right (element_key e) low.0 (next_by_right right cs (later_sorted right c cs sorted)) inside) each.0)
      (inside_children left cs (later_sorted right c cs sorted) low.1 each.1)

  -- the elements of all but the first child are from its right boundary on
  pub from_next_on : (cs : List Child) → IsStrictlySortedBy base_cmp (bounds right cs)
      → AllByRecursion (λ s. AreInside s.left s.right (els s.at)) (places_of level right cs)
      → AreInside (next_left right cs) right (all_of cs)
  from_next_on cs sorted each = inside_children (next_left right cs) cs sorted (from_next right cs sorted) each

  pub rising_children : (cs : List Child) → IsStrictlySortedBy base_cmp (bounds right cs)
      → AllByRecursion (λ s. AreInside s.left s.right (els s.at)) (places_of level right cs)
      → AllByRecursion (λ s. IsStrictlySortedBy element_cmp (els s.at)) (places_of level right cs) → IsStrictlySortedBy element_cmp (all_of cs)
  unfolding IsStrictlySortedBy
  rising_children [] sorted inside rising = tt
  rising_children (c ∷ cs) sorted inside rising =
      sorted_append element_cmp (els c.child) (all_of cs) rising.0 (rising_children cs (later_sorted right c cs sorted) inside.1 rising.1)
      (around (key_of (next_left right cs)) (els c.child) (all_of cs)
      (each_so (λ e. IsInside c.left (next_left right cs) (element_key e)) (λ e. IsBefore (element_key e) (key_of (next_left right cs))) (els c.child)
      (λ e is. is.before) inside.0)
      (each_so (λ e. IsInside (next_left right cs) right (element_key e)) (λ e. IsFrom (key_of (next_left right cs)) (element_key e)) (all_of cs)
      (λ e is. is.from) (from_next_on cs (later_sorted right c cs sorted) inside.1)))

-- all boundaries of an inner node are from its left one on
pub from_left : (left right : Base) (cs : List Child) → BeginsAt left cs → IsStrictlySortedBy base_cmp (bounds right cs)
    → AllByRecursion (λ b. IsFrom (key_of left) (key_of b)) (bounds right cs)
from_left left right [] begins sorted = absurd begins
from_left left right (c ∷ cs) begins sorted =
    subst (λ (k : Key). AllByRecursion (λ b. IsFrom k (key_of b)) (bounds right (c ∷ cs))) begins (from_next right (c ∷ cs) sorted)

-- boundaries with the same keys
pub inside_same : (left r right : Base) (es : List Element) → key_of r ≡ key_of right → AreInside left r es → AreInside left right es
inside_same left r right es same each = each_so (λ e. IsInside left r (element_key e)) (λ e. IsInside left right (element_key e)) es
    (λ e is. record { from = is.from; before = subst (λ (k : Key). IsBefore (element_key e) k) same is.before }) each

module _ (map : PageMap) where
  -- each element of a sound tree lies inside its boundaries
  pub elements_inside : (height : ℕ) (s : Subtree) (node : Node) → IsTree map height s node → AreInside s.left s.right (elements_in map height node)
  elements_inside zero s (Leaf leaf) tree = recursion_from_All (λ e. IsInside s.left s.right (element_key e)) leaf.places.items tree.fits.bounds
  elements_inside zero s (inner_node inner) tree = tt
  elements_inside (suc height) s (Leaf leaf) tree = absurd tree.below
  elements_inside (suc height) s (inner_node inner) tree =
      inside_same s.left inner.right s.right (elements_in map (suc height) (inner_node inner)) tree.fits.bounds.1
      (inside_children (λ at. elements_in map height (node_at map at)) inner.level inner.right s.left inner.places.items tree.sound.order
      (from_left s.left inner.right inner.places.items tree.fits.bounds.0 tree.sound.order)
      (each_so (IsStoredTree map height) (λ c. AreInside c.left c.right (elements_in map height (node_at map c.at))) (children_of inner)
      (λ c stored. elements_inside height c (node_at map c.at) stored.tree) tree.below))

  elements_rise : (height : ℕ) (s : Subtree) (node : Node) → IsTree map height s node → IsStrictlySortedBy element_cmp (elements_in map height node)
  unfolding IsStrictlySortedBy
  elements_rise zero s (Leaf leaf) tree = tree.sound.order
  elements_rise zero s (inner_node inner) tree = tt
  elements_rise (suc height) s (Leaf leaf) tree = absurd tree.below
  elements_rise (suc height) s (inner_node inner) tree =
      rising_children (λ at. elements_in map height (node_at map at)) inner.level inner.right inner.places.items tree.sound.order
      (each_so (IsStoredTree map height) (λ c. AreInside c.left c.right (elements_in map height (node_at map c.at))) (children_of inner)
      (λ c stored. elements_inside height c (node_at map c.at) stored.tree) tree.below)
      (each_so (IsStoredTree map height) (λ c. IsStrictlySortedBy element_cmp (elements_in map height (node_at map c.at))) (children_of inner)
      (λ c stored. elements_rise height c (node_at map c.at) stored.tree) tree.below)

  elements_placed : (height : ℕ) (s : Subtree) (node : Node) → IsTree map height s node → AllByRecursion IsElement (elements_in map height node)
  elements_placed zero s (Leaf leaf) tree =
      each_so IsPlaced IsElement leaf.places.items (λ e is. is.element) (recursion_from_All IsPlaced leaf.places.items tree.sound.fields)
  elements_placed zero s (inner_node inner) tree = tt
  elements_placed (suc height) s (Leaf leaf) tree = absurd tree.below
  elements_placed (suc height) s (inner_node inner) tree =
      each_of_children (λ at. elements_in map height (node_at map at)) inner.level inner.right IsElement inner.places.items
      (each_so (IsStoredTree map height) (λ c. AllByRecursion IsElement (elements_in map height (node_at map c.at))) (children_of inner)
      (λ c stored. elements_placed height c (node_at map c.at) stored.tree) tree.below)

  -- the elements of a sound tree are what a store may tell
  pub tree_content : (height : ℕ) (s : Subtree) (node : Node) → IsTree map height s node → IsContent (elements_in map height node)
  tree_content height s node tree = record {
    rising = elements_rise height s node tree;
    each = All-from_recursion IsElement (elements_in map height node) (elements_placed height s node tree);
  }

  -- below the root there is an element
  pub elements_some : (height : ℕ) (s : Subtree) (node : Node) → s.parent ≢ None → IsTree map height s node → 1 ≤ length (elements_in map height node)
  elements_some zero s (Leaf leaf) below tree = leaf_some s.parent leaf.places.items below tree.fits.count where
    leaf_some : (p : Option Parent) (es : List Element) → p ≢ None → FitsCount p (Leaf leaf) → 1 ≤ length leaf.places.items
    leaf_some None es below count = absurd (below refl)
    leaf_some (Some p) es below count = count
  elements_some zero s (inner_node inner) below tree = absurd (no_leaf tree.level tree.sound.level) where
    no_leaf : inner.level ≡ 1 → HasInnerLevel inner → ⊥
    no_leaf is level = omega arith
  elements_some (suc height) s (Leaf leaf) below tree = absurd tree.below
  elements_some (suc height) s (inner_node inner) below tree =
      first_some (λ c below stored. elements_some height c (node_at map c.at) below stored.tree) inner.places.items tree.fits.bounds.0 tree.below where
        first_some : ((c : Subtree) → c.parent ≢ None → IsStoredTree map height c → 1 ≤ length (elements_in map height (node_at map c.at)))
            → (cs : List Child) → BeginsAt s.left cs → AllByRecursion (IsStoredTree map height) (places_of inner.level inner.right cs)
            → 1 ≤ length (flat_map (λ (c : Child). elements_in map height (node_at map c.child)) cs)
        first_some some [] begins each = absurd begins
        first_some some (c ∷ cs) begins each =
            let here = some (child_place inner.level (next_left inner.right cs) c) (λ none. absurd cc) each.0 in
            omega (
              arith,
              length-append (elements_in map height (node_at map c.child))
                  (flat_map (λ (c : Child). elements_in map height (node_at map c.child)) cs),
            )
