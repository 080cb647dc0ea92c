-- What the calls answer that look for a node in some big-blocks.
use Rattle.std.specs.Prelude.{ℕ, List, Option, None, Some, IsSome}
use Rattle.std.specs.List.{Contains}
use Rattle.hm_types.specs.Elements.{Key}
use Rattle.hm_types.specs.Layout.{block_of}
use Rattle.hm_types.specs.Offset.{byte_of}
use Rattle.hm_fields.specs.Pages.{PageMap}
use Rattle.hm_key.specs.Key.{key_of, IsBefore}
use Rattle.hm_search.specs.Descent.{Goes}
use Rattle.hm_search.specs.Tree.{root_place}
use Rattle.hm_search.specs.declared.subtree.Subtree.{Subtree}

-- the page at an offset lies in one of these big-blocks
abbrev pub LiesIn : List ℕ → ℕ → Type 0
LiesIn chosen at = Contains chosen (block_of (byte_of at))

-- the place of a node to which a search may come from a place on, that ends after a key and lies in one of these big-blocks
pub record IsChosenFrom (chosen : List ℕ) (from : Key) (map : PageMap) (top place : Subtree) : Type 0 where
  pub steps : ℕ
  pub goes : Goes map steps top place
  pub after : IsBefore from (key_of place.right)
  pub lies : LiesIn chosen place.at

-- the place of one of these nodes is found, and each of them ends after it begins; or there is none
abbrev pub FindsBelow : List ℕ → Key → PageMap → Subtree → Option Subtree → Type 0
FindsBelow chosen from map top None = (place : Subtree) → IsChosenFrom chosen from map top place → ⊥
FindsBelow chosen from map top (Some found) =
    IsChosenFrom chosen from map top found
    × ((place : Subtree) → IsChosenFrom chosen from map top place → IsBefore (key_of found.left) (key_of place.right))

-- the same of the nodes of the tree from a root on
abbrev pub FindsFrom : List ℕ → Key → PageMap → ℕ → Option Subtree → Type 0
FindsFrom chosen from map root found = FindsBelow chosen from map (root_place root) found

-- a page that lies in one of these big-blocks is found, or there is none
abbrev pub FindsNode : List ℕ → PageMap → Option ℕ → Type 0
FindsNode chosen map None = (at : ℕ) → IsSome (map at) → LiesIn chosen at → ⊥
FindsNode chosen map (Some at) = IsSome (map at) × LiesIn chosen at
