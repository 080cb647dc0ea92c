-- What a search for the last element up to a key sees in a node.
use Rattle.std.specs.Prelude.{◌≡◌, ℕ, zero, suc, List, Option, Some, None, IfSome, slice_get}
use Rattle.hm_types.specs.Elements.{Key}
use Rattle.hm_key.specs.Elements.{last_to}
use Rattle.hm_key.specs.Stores.{IsFoundTo}
use Rattle.hm_key.specs.declared.element.Element.{Element}
use Rattle.hm_node.specs.Inner.{HasInnerOrder}
use Rattle.hm_node.specs.Leaf.{HasLeafOrder}
use Rattle.hm_node.specs.declared.inner.Inner.{Inner}
use Rattle.hm_node.specs.declared.leaf.Leaf.{Leaf}
use Rattle.hm_node.specs.declared.node.Node.{Node}
use Rattle.hm_node.specs.declared.node.Node.TheVariants.{Leaf as leaf_node, Inner as inner_node}
use Rattle.hm_search.specs.Search.{holder_place}
use Rattle.hm_search.specs.Tree.{children_of}
use Rattle.hm_search.specs.declared.look_to.SeenInnerTo.{SeenInnerTo}
use Rattle.hm_search.specs.declared.look_to.SeenTo.{SeenTo}
use Rattle.hm_search.specs.declared.look_to.SeenTo.TheVariants.{Leaf as leaf_seen, Inner as inner_seen}

-- what stands right before a place of a list, if anything does
abbrev pub before_place : {A : Type 0} → List A → ℕ → Option A
before_place xs zero = None
before_place xs (suc i) = slice_get xs i

-- of an inner node in order: what is below the child that holds the key, and below the child before it
pub record IsSeenInnerTo (key : Key) (inner : Inner) (seen : SeenInnerTo) : Type 0 where
  pub child : slice_get (children_of inner) (holder_place key inner.places.items) ≡ Some seen.child
  pub before : before_place (children_of inner) (holder_place key inner.places.items) ≡ seen.before

-- What is seen of a leaf whose order is not known: the element that is found is one at the key or before it. Where the leaf
-- is in order, it is the last.
pub record ShowsLeafTo (key : Key) (leaf : Leaf) (seen : Option Element) : Type 0 where
  pub found : IfSome seen (IsFoundTo key)
  pub ordered : HasLeafOrder leaf → seen ≡ last_to key leaf.places.items

-- The same of an inner node: a child, and another one. Where the node is in order, they are those that hold the key and
-- come before.
pub record ShowsInnerTo (key : Key) (inner : Inner) (seen : SeenInnerTo) : Type 0 where
  pub child : (i : ℕ) × (slice_get (children_of inner) i ≡ Some seen.child)
  pub before : IfSome seen.before (λ before. (i : ℕ) × (slice_get (children_of inner) i ≡ Some before))
  pub ordered : HasInnerOrder inner → IsSeenInnerTo key inner seen

abbrev pub ShowsTo : Key → Node → SeenTo → Type 0
ShowsTo key (leaf_node leaf) (leaf_seen found) = ShowsLeafTo key leaf found
ShowsTo key (inner_node inner) (inner_seen seen) = ShowsInnerTo key inner seen
ShowsTo key (leaf_node leaf) (inner_seen seen) = ⊥
ShowsTo key (inner_node inner) (leaf_seen found) = ⊥
