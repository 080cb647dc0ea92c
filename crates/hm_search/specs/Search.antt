-- What a search finds in a tree.
use Rattle.std.specs.Prelude.{◌≡◌, ℕ, List, suc, [], ◌∷◌, Option, IfSome, if◌then◌else◌}
use Rattle.hm_types.specs.Elements.{Key}
use Rattle.hm_fields.specs.Pages.{PageMap}
use Rattle.hm_key.specs.Key.{key_of, IsFrom}
use Rattle.hm_key.specs.Places.{leading}
use Rattle.hm_key.specs.Marks.{IsQuiet}
use Rattle.hm_key.specs.declared.base.Base.{Base}
use Rattle.hm_node.specs.Inner.{IsBound, IsNodeOffset}
use Rattle.hm_node.specs.declared.inner.Child.{Child}
use Rattle.hm_search.specs.Place.{IsInside}
use Rattle.hm_search.specs.Tree.{node_at, elements_in, leaf_offset_in, starts_after}
use Rattle.hm_search.specs.declared.search.Found.{Found}
use Rattle.hm_search.specs.declared.subtree.Subtree.{Subtree}

-- how many of some children in order do not begin after the key, up to the first that does
abbrev pub begun : Key → List Child → ℕ
begun key [] = 0
begun key (c ∷ cs) = if starts_after key c then 0 else suc (begun key cs)

-- the place of the child that holds the key: the first one holds what is before the second
abbrev pub holder_place : Key → List Child → ℕ
holder_place key [] = 0
holder_place key (c ∷ cs) = begun key cs

-- the place of a key in the tree below a place: the leaf whose boundaries hold it, and how many of that
-- leaf's elements stand before it
pub record IsPlaceOf (map : PageMap) (height : ℕ) (subtree : Subtree) (key : Key) (found : Found)
    : Type 0 where
  pub leaf : found.leaf ≡ leaf_offset_in map height subtree.at (node_at map subtree.at) key
  pub place : found.place ≡ leading key (elements_in map 0 (node_at map found.leaf))

-- a place at which a search for an end begins: a node may stand there, and its boundaries hold the key
pub record IsAsked (key : Key) (subtree : Subtree) : Type 0 where
  pub spot : IsNodeOffset subtree.at
  pub bound : IsBound subtree.right
  pub inside : IsInside subtree.left subtree.right key

-- how far the marks from a key on are at most an id: to an end that is not after a right boundary
pub record IsQuietBy (mark : Key → ℕ) (key : Key) (since : ℕ) (right : Base) (end : Option Base) : Type 0 where
  pub quiet : IsQuiet mark key since end
  pub within : IfSome end (λ e. IsFrom (key_of e) (key_of right))
