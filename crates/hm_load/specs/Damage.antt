-- Which damage of a volume comes first, in the order in which it is read: layer 1, layer 2, and then the tree from left to
-- right, the payloads of each leaf after it. Below a node that breaks a rule nothing is told.
use Rattle.std.specs.Prelude.{◌≡◌, ℕ, ◌<◌, List, Some, slice_get}
use Rattle.std.specs.List.{AllByRecursion}
use Rattle.hm_types.specs.Offset.{byte_of}
use Rattle.hm_types.specs.declared.limits.TheConstants.{PAGE_BYTES}
use Rattle.hm_fields.specs.Pages.{PageMap}
use Rattle.hm_header.specs.declared.header.Header.{Header}
use Rattle.hm_image.specs.Sound.{HasLayer1}
use Rattle.hm_key.specs.declared.element.Element.{Element}
use Rattle.hm_node.specs.declared.inner.Inner.{Inner}
use Rattle.hm_node.specs.declared.leaf.Leaf.{Leaf}
use Rattle.hm_node.specs.declared.node.Node.TheVariants.{Leaf as leaf_node, Inner as inner_node}
use Rattle.hm_search.specs.Place.{IsLowestBroken, SpellsHere}
use Rattle.hm_search.specs.Tree.{children_of, elements_in, height_of, node_at, root_place}
use Rattle.hm_search.specs.declared.subtree.Subtree.{Subtree}
use Rattle.hm_load.specs.Freemap.{HoldsEntries, IsLayer2Damage, layer2_bytes, layer2_pages}
use Rattle.hm_load.specs.Layer1.{IsLayer1Damage}
use Rattle.hm_load.specs.Payload.{HasPayload, IsFirstBadPayload}
use Rattle.hm_load.specs.Reading.{volume_bytes}
use Rattle.hm_load.specs.Tree.{HasTreeAt}

-- the pages of a volume, whose bytes outside of it are zeros
abbrev pub volume_page : List ℕ → ℕ → ℕ → List ℕ
volume_page image bigblocks at = volume_bytes image bigblocks (byte_of at) PAGE_BYTES

abbrev pub volume_pages : List ℕ → ℕ → PageMap
volume_pages image bigblocks at = Some (volume_page image bigblocks at)

-- the elements from a place on
abbrev pub elements_at : PageMap → Subtree → List Element
elements_at map s = elements_in map (height_of (node_at map s.at)) (node_at map s.at)

-- no damage is below a place
pub record IsWholeBelow (image : List ℕ) (bigblocks : ℕ) (s : Subtree) : Type 0 where
  pub tree : HasTreeAt (volume_pages image bigblocks) s
  pub payloads : AllByRecursion (HasPayload image bigblocks) (elements_at (volume_pages image bigblocks) s)

-- the node at a place breaks a rule, and this is the lowest
pub record IsNodeDamage (image : List ℕ) (bigblocks : ℕ) (s : Subtree) (at kind : ℕ) : Type 0 where
  pub place : at ≡ s.at
  pub lowest : IsLowestBroken s (volume_page image bigblocks s.at) kind

-- the first damage below a place
pub data IsTreeDamage (image : List ℕ) (bigblocks at kind : ℕ) : Subtree → Type 0 where
  of_node : (s : Subtree) → IsNodeDamage image bigblocks s at kind → IsTreeDamage image bigblocks at kind s
  of_payload : (s : Subtree) (leaf : Leaf) → SpellsHere s (volume_page image bigblocks s.at) (leaf_node leaf)
      → IsFirstBadPayload image bigblocks leaf.places.items at kind → IsTreeDamage image bigblocks at kind s
  of_child : (s : Subtree) (inner : Inner) (i : ℕ) (child : Subtree) → SpellsHere s (volume_page image bigblocks s.at) (inner_node inner)
      → slice_get (children_of inner) i ≡ Some child
      → ((j : ℕ) (c : Subtree) → j < i → slice_get (children_of inner) j ≡ Some c → IsWholeBelow image bigblocks c)
      → IsTreeDamage image bigblocks at kind child → IsTreeDamage image bigblocks at kind s

-- layer 2 has no damage
abbrev pub HasWholeLayer2 : List ℕ → Header → Type 0
HasWholeLayer2 image header = (n : ℕ) → n < layer2_pages header.bigblocks → HoldsEntries header n (layer2_bytes image n)

-- a volume has none
pub record IsWhole (image : List ℕ) (header : Header) : Type 0 where
  pub layer1 : HasLayer1 image header.bigblocks
  pub layer2 : HasWholeLayer2 image header
  pub tree : IsWholeBelow image header.bigblocks (root_place header.root)

-- the first damage of a volume
pub data IsDamage (image : List ℕ) (header : Header) (at kind : ℕ) : Type 0 where
  of_layer1 : IsLayer1Damage image header.bigblocks at kind → IsDamage image header at kind
  of_layer2 : HasLayer1 image header.bigblocks → IsLayer2Damage image header at kind → IsDamage image header at kind
  of_tree : HasLayer1 image header.bigblocks → HasWholeLayer2 image header → IsTreeDamage image header.bigblocks at kind (root_place header.root)
      → IsDamage image header at kind
