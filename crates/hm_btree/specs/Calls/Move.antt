-- What the calls do that let a node stand elsewhere.
use Rattle.std.specs.Prelude.{◌≡◌, ◌≢◌, ℕ, Bool, true, false, nat_eq, if◌then◌else◌, List, Option, None, IsSome, IfSome, is_some}
use Rattle.hm_types.specs.Elements.{Key}
use Rattle.hm_fields.specs.Pages.{PageMap}
use Rattle.hm_key.specs.Extents.{Extent}
use Rattle.hm_key.specs.Marks.{MarksStay}
use Rattle.hm_node.specs.Edits.{IsInnerPage}
use Rattle.hm_node.specs.Inner.{inner_in}
use Rattle.hm_node.specs.Node.{node_in}
use Rattle.hm_node.specs.Shape.{HoldsNode}
use Rattle.hm_search.specs.Tree.{IsTree}
use Rattle.hm_search.specs.declared.subtree.Subtree.{Subtree}
use Rattle.hm_btree.specs.Below.{Works}
use Rattle.hm_btree.specs.Calls.Space.{HasKept}
use Rattle.hm_btree.specs.Edits.{with_child, ChildChange}
use Rattle.hm_btree.specs.Marking.{Leaves}
use Rattle.hm_btree.specs.Space.{IsSpot}
use Rattle.hm_btree.specs.Tree.{ChangesTree, IsTreeSpace, told_elements, told_mark}
use Rattle.hm_btree.specs.declared.move_node.Moved.{Moved}

-- One offset is exchanged for another, which had no page: there is a page at the one now and none at the other. Each
-- other offset has a page where it had one.
pub record Exchanges (at to : ℕ) (old new : PageMap) : Type 0 where
  pub free : old to ≡ None
  pub spot : IsSpot to
  pub there : IsSome (new to)
  pub gone : new at ≡ None
  pub others : (x : ℕ) → x ≢ at → x ≢ to → is_some (new x) ≡ is_some (old x)

-- the child at a place of the inner node in a page stands elsewhere
pub record SetsChild (i to : ℕ) (old new : List ℕ) : Type 0 where
  pub held : IsInnerPage new
  pub level : (inner_in new).level ≡ (inner_in old).level
  pub mirror : (inner_in new).mirror ≡ (inner_in old).mirror
  pub items : ChildChange (with_child to) (inner_in old).places.items i (inner_in new).places.items
  pub right : (inner_in new).right ≡ (inner_in old).right

-- A node below the one in a page stands elsewhere, with the same elements and marks. The page holds a node, the space tells
-- what it told, and it is said whether the page changed.
pub record MovesBelow {S : Type 0} (pages_of : S → Option PageMap) (extents_of : S → Option (List Extent)) (key : Key) (at : ℕ)
    (old new : S) (before after : List ℕ) (moved : Moved) : Type 0 where
  pub works : Works (λ es. es) key Leaves (λ _. Unit {0}) (pages_of old) (pages_of new) (node_in before) (node_in after)
  pub pages : IfSome (pages_of old) (λ was. (place : Subtree) (height : ℕ) → IsTree was height place (node_in before)
      → IfSome (pages_of new) (Exchanges at moved.to was))
  pub holds : HoldsNode after
  pub kept : HasKept pages_of extents_of old new
  pub same : moved.changed ≡ false → after ≡ before

-- A node of the tree from a root on stands elsewhere. The tree has the same elements and marks from its root then on, and
-- the space tells what it told.
pub record MovesIn {S : Type 0} (pages_of : S → Option PageMap) (extents_of : S → Option (List Extent)) (at root root' : ℕ)
    (old new : S) (to : ℕ) : Type 0 where
  pub key : Key
  pub tree : ChangesTree (λ es. es) key Leaves (λ _. Unit {0}) (pages_of old) (pages_of new) root root'
  pub pages : IfSome (pages_of old) (λ was. IsTreeSpace was root → IfSome (pages_of new) (Exchanges at to was))
  pub kept : HasKept pages_of extents_of old new
  pub top : root' ≡ (if nat_eq at root then to else root)

-- A node of a tree stands elsewhere: one offset was exchanged, the elements and the marks are those that the tree told, and
-- the root is the one that it had, or the moved node.
pub record MovesNode {S : Type 0} (pages_of : S → Option PageMap) (extents_of : S → Option (List Extent)) (intact : Bool) (at : ℕ)
    (old new : S) (root root' to : ℕ) : Type 0 where
  pub elements : told_elements true (pages_of new) root' ≡ told_elements intact (pages_of old) root
  pub marks : IfSome (told_elements intact (pages_of old) root) (λ _. MarksStay (told_mark (pages_of old) root) (told_mark (pages_of new) root'))
  pub pages : IfSome (pages_of old) (λ was. IfSome (pages_of new) (Exchanges at to was))
  pub kept : HasKept pages_of extents_of old new
  pub top : root' ≡ (if nat_eq at root then to else root)
