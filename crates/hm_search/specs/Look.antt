-- What a search for a key sees in a node, and how many bases of a page stand before a key.
use Rattle.std.specs.Prelude.{◌≡◌, List, ℕ, ◌+◌, ◌-◌, ◌<◌, ◌≤◌, Bool, true, false, not, Option, Some, IfSome, slice_get}
use Rattle.std.specs.Ordering.{is_lt}
use Rattle.hm_types.specs.Elements.{Key, key_cmp}
use Rattle.hm_fields.specs.Pages.{PageMap}
use Rattle.hm_key.specs.Key.{key_of}
use Rattle.hm_key.specs.Elements.{first_from}
use Rattle.hm_key.specs.Places.{leading}
use Rattle.hm_key.specs.Stores.{IsFound}
use Rattle.hm_key.specs.declared.base.Base.{Base}
use Rattle.hm_key.specs.declared.element.Element.{Element}
use Rattle.hm_node.specs.Inner.{HasInnerOrder}
use Rattle.hm_node.specs.Leaf.{HasLeafOrder}
use Rattle.hm_node.specs.Node.{node_in, HasFields, HasLevel}
use Rattle.hm_node.specs.Shape.{HoldsNode}
use Rattle.hm_node.specs.declared.inner.Inner.{Inner}
use Rattle.hm_node.specs.declared.leaf.Leaf.{Leaf}
use Rattle.hm_node.specs.declared.node.Node.{Node}
use Rattle.hm_node.specs.declared.node.Node.TheVariants.{Leaf as leaf_node, Inner as inner_node}
use Rattle.hm_search.specs.Descent.{PassesHere}
use Rattle.hm_search.specs.Place.{IsInside, MeetsBy}
use Rattle.hm_search.specs.Search.{holder_place}
use Rattle.hm_search.specs.Tree.{children_of, next_left}
use Rattle.hm_search.specs.declared.look.Seen.{Seen}
use Rattle.hm_search.specs.declared.look.Seen.TheVariants.{Leaf as leaf_seen, Inner as inner_seen}
use Rattle.hm_search.specs.declared.look.SeenInner.{SeenInner}
use Rattle.hm_search.specs.declared.look.SeenLeaf.{SeenLeaf}
use Rattle.hm_search.specs.declared.place_rule.PlaceRule.{PlaceRule}
use Rattle.hm_search.specs.declared.subtree.Subtree.{Subtree}

-- of a leaf in order: how many elements stand before the key, and the first one from it on
pub record IsSeenLeaf (key : Key) (leaf : Leaf) (seen : SeenLeaf) : Type 0 where
  pub place : seen.place ≡ leading key leaf.places.items
  pub first : seen.first ≡ first_from key leaf.places.items

-- of an inner node in order: what is below the child that holds the key, and below the next child
pub record IsSeenInner (key : Key) (inner : Inner) (seen : SeenInner) : Type 0 where
  pub child : slice_get (children_of inner) (holder_place key inner.places.items) ≡ Some seen.child
  pub next : slice_get (children_of inner) (holder_place key inner.places.items + 1) ≡ seen.next

-- the `mirror` of the node
abbrev pub seen_mirror : Seen → ℕ
seen_mirror (leaf_seen seen) = seen.mirror
seen_mirror (inner_seen seen) = seen.mirror

-- whether a base stands before a key, or also whether it stands not after it
abbrev pub is_by : Bool → Key → Base → Bool
is_by false key base = is_lt (key_cmp (key_of base) key)
is_by true key base = not (is_lt (key_cmp key (key_of base)))

-- a test that no later one of so many passes where an earlier one fails it
abbrev pub Falls : (ℕ → Bool) → ℕ → Type 0
Falls passes count = (i j : ℕ) → i ≤ j → j < count → passes j ≡ true → passes i ≡ true

-- so many of them pass it, and the others do not
pub record IsRank (passes : ℕ → Bool) (count rank : ℕ) : Type 0 where
  pub bound : rank ≤ count
  pub before : (k : ℕ) → k < rank → passes k ≡ true
  pub after : (k : ℕ) → rank ≤ k → k < count → passes k ≡ false

-- a place at which a test turns: it passes before it, and fails from it on, as far as the two beside it tell
pub record IsTurn (passes : ℕ → Bool) (count turn : ℕ) : Type 0 where
  pub bound : turn ≤ count
  pub before : 1 ≤ turn → passes (turn - 1) ≡ true
  pub after : turn < count → passes turn ≡ false

-- What is seen of a leaf whose order is not known: its `mirror`; the element that is found is one at the key or after it. Where the
-- leaf is in order, it is the first.
pub record ShowsLeaf (key : Key) (leaf : Leaf) (seen : SeenLeaf) : Type 0 where
  pub mirror : seen.mirror ≡ leaf.mirror
  pub found : IfSome seen.first (IsFound key)
  pub ordered : HasLeafOrder leaf → IsSeenLeaf key leaf seen

-- An element that a leaf shows for a key is one from the key on. Where the leaf is in order, it is the first, and another
-- stands before the key.
pub record ShowsFrom (key : Key) (leaf : Leaf) (e : Element) : Type 0 where
  pub found : IsFound key e
  pub first : HasLeafOrder leaf → first_from key leaf.places.items ≡ Some e
  pub before : HasLeafOrder leaf → 1 ≤ leading key leaf.places.items

abbrev pub ShowsWithin : Key → Node → Element → Type 0
ShowsWithin key (leaf_node leaf) e = ShowsFrom key leaf e
ShowsWithin key (inner_node inner) e = ⊥

-- The same of an inner node: its `mirror`; a child whose boundaries hold the key where those of the node do, and another one. Where the
-- node is in order, they are those that hold the key and come next.
pub record ShowsInner (key : Key) (inner : Inner) (seen : SeenInner) : Type 0 where
  pub mirror : seen.mirror ≡ inner.mirror
  pub child : (i : ℕ) × (slice_get (children_of inner) i ≡ Some seen.child)
  pub next : IfSome seen.next (λ next. (i : ℕ) × (slice_get (children_of inner) i ≡ Some next))
  pub inside : IsInside (next_left inner.right inner.places.items) inner.right key → IsInside seen.child.left seen.child.right key
  pub ordered : HasInnerOrder inner → IsSeenInner key inner seen

abbrev pub Shows : Key → Node → Seen → Type 0
Shows key (leaf_node leaf) (leaf_seen seen) = ShowsLeaf key leaf seen
Shows key (inner_node inner) (inner_seen seen) = ShowsInner key inner seen
Shows key (leaf_node leaf) (inner_seen seen) = ⊥
Shows key (inner_node inner) (leaf_seen seen) = ⊥

-- it is seen in a node that may stand there, and stands so in its page where the pages are told
pub record Glances {L : Type 0} (Shows : Key → Node → L → Type 0) (s : Subtree) (told : Option PageMap) (key : Key) (seen : L) : Type 0 where
  pub node : Node
  pub level : HasLevel node
  pub fields : HasFields node
  pub meets : (rule : PlaceRule) → MeetsBy s node rule
  pub there : IfSome told (λ map. PassesHere map s node)
  pub view : Shows key node seen

-- A node that was visited at a place: its page holds it, no rule of the place is found broken, and where the pages are told,
-- it stands so there.
pub record Visits (s : Subtree) (told : Option PageMap) (page : List ℕ) : Type 0 where
  pub holds : HoldsNode page
  pub meets : (rule : PlaceRule) → MeetsBy s (node_in page) rule
  pub there : IfSome told (λ map. PassesHere map s (node_in page))
