-- What loading a part of the tree adds to a map of pages.
use Rattle.std.specs.Prelude.{◌≡◌, ◌⊎◌, ℕ, ◌<◌, List, IsSome, None, Some, slice_get}
use Rattle.hm_fields.specs.Pages.{PageMap}
use Rattle.hm_pages.specs.Maps.{set_at}
use Rattle.hm_btree.specs.Space.{IsSpot}
use Rattle.hm_node.specs.Node.{IsNode, Spells}
use Rattle.hm_node.specs.declared.inner.Inner.{Inner}
use Rattle.hm_node.specs.declared.node.Node.{Node}
use Rattle.hm_search.specs.Place.{Fits}
use Rattle.hm_search.specs.Tree.{IsStoredTree, Reaches, children_of, height_of, node_at}
use Rattle.hm_search.specs.declared.subtree.Subtree.{Subtree}

-- an offset is that of the node at a place, or of one below it
abbrev pub IsUnder : PageMap → Subtree → ℕ → Type 0
IsUnder map s at = (at ≡ s.at) ⊎ Reaches map (height_of (node_at map s.at)) (node_at map s.at) at

-- the tree from a place on is in a map
abbrev pub HasTreeAt : PageMap → Subtree → Type 0
HasTreeAt map s = IsStoredTree map (height_of (node_at map s.at)) s

-- pages came into a map: those that were there stay, and each other one is such a page, where a node may stand
pub record Adds (IsNew : ℕ → Type 0) (old new : PageMap) : Type 0 where
  pub kept : (at : ℕ) (bytes : List ℕ) → old at ≡ Some bytes → new at ≡ Some bytes
  pub added : (at : ℕ) → IsSome (new at) → IsSome (old at) ⊎ IsNew at
  pub spots : (at : ℕ) → IsSome (new at) → IsSome (old at) ⊎ IsSpot at

-- the page of the node at a place came into a map
pub record AddsNode (s : Subtree) (node : Node) (old new : PageMap) : Type 0 where
  pub page : List ℕ
  pub free : old s.at ≡ None
  pub put : new ≡ set_at s.at (Some page) old
  pub spot : IsSpot s.at
  pub spelled : Spells page node
  pub sound : IsNode node
  pub fits : Fits s node

-- all pages of the tree from a place on came into a map
pub record AddsTree (s : Subtree) (old new : PageMap) : Type 0 where
  pub tree : HasTreeAt new s
  pub pages : Adds (IsUnder new s) old new

-- an offset is under one of the first children of a node, so many of them
pub record IsUnderFirst (map : PageMap) (inner : Inner) (count at : ℕ) : Type 0 where
  pub i : ℕ
  pub low : i < count
  pub child : Subtree
  pub is : slice_get (children_of inner) i ≡ Some child
  pub under : IsUnder map child at

-- the trees of the first children of a node came into a map
pub record AddsChildren (inner : Inner) (count : ℕ) (old new : PageMap) : Type 0 where
  pub trees : (i : ℕ) (child : Subtree) → i < count → slice_get (children_of inner) i ≡ Some child → HasTreeAt new child
  pub pages : Adds (IsUnderFirst new inner count) old new
