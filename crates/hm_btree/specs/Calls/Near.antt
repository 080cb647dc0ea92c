-- What a removal does that looks at one leaf alone.
use Rattle.std.specs.Prelude.{◌≡◌, ℕ, ◌<◌, Bool, true, false, List, Option}
use Rattle.hm_types.specs.Elements.{Key}
use Rattle.hm_types.specs.declared.limits.TheConstants.{LEAST_PLACES}
use Rattle.hm_fields.specs.Pages.{PageMap}
use Rattle.hm_key.specs.Extents.{Extent}
use Rattle.hm_node.specs.Edits.{IsLeafPage}
use Rattle.hm_node.specs.Head.{head_in}
use Rattle.hm_btree.specs.Calls.Remove.{RemovesFrom}

-- a page holds a leaf with more than the fewest places
pub record IsLargeLeaf (page : List ℕ) : Type 0 where
  pub leaf : IsLeafPage page
  pub many : LEAST_PLACES < (head_in page).count

-- Where it is said so, the element at a key was removed from the tree that the pages are, from whichever root on, and the
-- space tells what it told. Else the space is as it was.
pub record RemovesNear {S : Type 0} (pages_of : S → Option PageMap) (extents_of : S → Option (List Extent)) (key : Key)
    (old new : S) (done : Bool) : Type 0 where
  pub removes : done ≡ true → (root : ℕ) → RemovesFrom pages_of extents_of key old new root root
  pub same : done ≡ false → new ≡ old
