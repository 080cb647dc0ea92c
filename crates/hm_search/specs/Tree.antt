-- The tree in a map of pages, from a node on. A leaf has height 0, and an inner node one more than its
-- children. Nodes are spoken of as values, so that one whose page is not written yet can be spoken of too.
use Rattle.std.specs.Prelude.{◌≡◌, ℕ, zero, suc, ◌-◌, ◌||◌, Bool, false, nat_eq, if◌then◌else◌, List, [], ◌∷◌, IsSome, IsTrue, None, Some}
use Rattle.std.specs.List.{flat_map, list_any, AllByRecursion}
use Rattle.std.specs.Ordering.{is_lt}
use Rattle.hm_types.specs.Elements.{Key, key_cmp}
use Rattle.hm_fields.specs.Pages.{PageMap, page_in}
use Rattle.hm_key.specs.Key.{key_of, least_key, greatest_key}
use Rattle.hm_key.specs.declared.base.Base.{Base}
use Rattle.hm_key.specs.declared.base.TheConstants.{BOUNDARY}
use Rattle.hm_key.specs.declared.element.Element.{Element}
use Rattle.hm_node.specs.Node.{node_in, level_of, IsNode, Spells}
use Rattle.hm_node.specs.declared.inner.Child.{Child}
use Rattle.hm_node.specs.declared.inner.Inner.{Inner}
use Rattle.hm_node.specs.declared.node.Node.{Node}
use Rattle.hm_node.specs.declared.node.Node.TheVariants.{Leaf, Inner as inner_node}
use Rattle.hm_search.specs.Place.{Fits}
use Rattle.hm_search.specs.declared.subtree.Subtree.{Subtree}

-- the node in the page at an offset
abbrev pub node_at : PageMap → ℕ → Node
node_at map at = node_in (page_in (map at))

-- the elements of a node and of all below it, in the order of the leaves
abbrev pub elements_in : PageMap → ℕ → Node → List Element
elements_in map height (Leaf leaf) = leaf.places.items
elements_in map zero (inner_node inner) = []
elements_in map (suc height) (inner_node inner) =
    flat_map (λ (c : Child). elements_in map height (node_at map c.child)) inner.places.items

-- whether a child begins after the key
abbrev pub starts_after : Key → Child → Bool
starts_after key c = is_lt (key_cmp key (key_of c.left))

-- of a child and those after it, the last that does not begin after the key: the one whose boundaries hold it
abbrev pub holder : Key → Child → List Child → Child
holder key c [] = c
holder key c (d ∷ ds) = if starts_after key d then c else holder key d ds

-- what a function of children gives for the one that holds the key
abbrev pub at_holder : (Child → ℕ) → Key → List Child → ℕ
at_holder f key [] = 0
at_holder f key (c ∷ cs) = f (holder key c cs)

-- the mark of a key below a node: the `mirror` of the leaf whose boundaries hold it
abbrev pub mark_in : PageMap → ℕ → Node → Key → ℕ
mark_in map height (Leaf leaf) key = leaf.mirror
mark_in map zero (inner_node inner) key = 0
mark_in map (suc height) (inner_node inner) key =
    at_holder (λ c. mark_in map height (node_at map c.child) key) key inner.places.items

-- the offset of the leaf whose boundaries hold the key, below a node at this offset
abbrev pub leaf_offset_in : PageMap → ℕ → ℕ → Node → Key → ℕ
leaf_offset_in map height at (Leaf leaf) key = at
leaf_offset_in map zero at (inner_node inner) key = at
leaf_offset_in map (suc height) at (inner_node inner) key =
    at_holder (λ c. leaf_offset_in map height c.child (node_at map c.child) key) key inner.places.items

-- whether an offset is that of a node below this one
abbrev pub reaches : PageMap → ℕ → Node → ℕ → Bool
reaches map height (Leaf leaf) x = false
reaches map zero (inner_node inner) x = false
reaches map (suc height) (inner_node inner) x =
    list_any (λ (c : Child). nat_eq c.child x || reaches map height (node_at map c.child) x)
    inner.places.items

abbrev pub Reaches : PageMap → ℕ → Node → ℕ → Type 0
Reaches map height node x = IsTrue (reaches map height node x)

-- the left boundary of the first of some children, and the right one of their node where there is none
abbrev pub next_left : Base → List Child → Base
next_left right [] = right
next_left right (c ∷ cs) = c.left

-- what an inner node of this level says of a child, with the right boundary that it has for it
abbrev pub child_place : ℕ → Base → Child → Subtree
child_place level right c = record {
  at = c.child;
  left = c.left;
  right = right;
  parent = Some (record { level = level; mirror = c.mirror });
}

-- the places of some children of an inner node of this level, up to its right boundary
abbrev pub places_of : ℕ → Base → List Child → List Subtree
places_of level right [] = []
places_of level right (c ∷ cs) = child_place level (next_left right cs) c ∷ places_of level right cs

-- the places of all its children
abbrev pub children_of : Inner → List Subtree
children_of inner = places_of inner.level inner.right inner.places.items

-- A node at this height that keeps its own rules and those of its place, with what else is asked below it.
pub record IsTreeWith (Below : Node → Type 0) (height : ℕ) (subtree : Subtree) (node : Node) : Type 0 where
  pub sound : IsNode node
  pub level : level_of node ≡ suc height
  pub fits : Fits subtree node
  pub below : Below node

-- the same of the node in the page that stands there, which has to spell it
pub record IsStoredWith (Below : Node → Type 0) (map : PageMap) (height : ℕ) (subtree : Subtree)
    : Type 0 where
  pub there : IsSome (map subtree.at)
  pub spelled : Spells (page_in (map subtree.at)) (node_at map subtree.at)
  pub tree : IsTreeWith Below height subtree (node_at map subtree.at)

-- each child of a node stands in its page, is sound where it stands, and so is all below it
abbrev pub HasChildren : PageMap → ℕ → Node → Type 0
HasChildren map zero node = Unit {0}
HasChildren map (suc height) (Leaf leaf) = ⊥
HasChildren map (suc height) (inner_node inner) =
    AllByRecursion (IsStoredWith (HasChildren map height) map height) (children_of inner)

-- a node at this height with all below it, sound where it stands; its own page may be another
abbrev pub IsTree : PageMap → ℕ → Subtree → Node → Type 0
IsTree map height subtree node = IsTreeWith (HasChildren map height) height subtree node

-- a tree from the node in the page at a place on
abbrev pub IsStoredTree : PageMap → ℕ → Subtree → Type 0
IsStoredTree map height subtree = IsStoredWith (HasChildren map height) map height subtree

-- a boundary at a key
abbrev pub boundary_at : Key → Base
boundary_at key = record {
  obj = record { 0 = key.obj };
  key = key.key;
  create = key.create;
  delete = 0;
  rec_type = key.rec_type;
  obj_type = 0;
  btype = BOUNDARY;
  localization = key.localization;
}

-- the place of a root at this offset: between the least and the greatest boundary, without a parent
abbrev pub root_place : ℕ → Subtree
root_place root = record {
  at = root;
  left = boundary_at least_key;
  right = boundary_at greatest_key;
  parent = None;
}

-- the height of a node, by its level: 8 at most in a sound tree
abbrev pub height_of : Node → ℕ
height_of node = level_of node - 1

-- the pages from the root on are a sound tree
abbrev pub IsSoundTree : PageMap → ℕ → Type 0
IsSoundTree map root = IsStoredTree map (height_of (node_at map root)) (root_place root)

-- no page stands beside the tree
abbrev pub IsWhole : PageMap → ℕ → Type 0
IsWhole map root =
    (at : ℕ) → IsSome (map at)
    → IsTrue (nat_eq at root || reaches map (height_of (node_at map root)) (node_at map root) at)

-- the elements and the marks of the tree from a root on
abbrev pub elements_of : PageMap → ℕ → List Element
elements_of map root = elements_in map (height_of (node_at map root)) (node_at map root)

abbrev pub mark_of : PageMap → ℕ → Key → ℕ
mark_of map root = mark_in map (height_of (node_at map root)) (node_at map root)
