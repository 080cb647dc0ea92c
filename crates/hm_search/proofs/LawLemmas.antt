-- The laws of sound trees, in the words of the functions that state them.
use Rattle.std.proofs.Common.{◌≡◌, ℕ, ◌≤◌, suc, arith}
use Rattle.std.specs.Prelude.{All}
use Rattle.std.proofs.lemmas.List.Elements.{All-from_recursion}
use Rattle.hm_fields.specs.Pages.{PageMap}
use Rattle.hm_key.specs.Elements.{element_key}
use Rattle.hm_key.specs.Marks.{IsMarked}
use Rattle.hm_node.specs.Node.{level_of, IsNode}
use Rattle.hm_node.specs.declared.node.Node.{Node}
use Rattle.hm_node.specs.declared.node.Node.TheVariants.{Leaf, Inner as inner_node}
use Rattle.hm_search.specs.Place.{IsInside}
use Rattle.hm_search.specs.Tree.{elements_in, mark_in, IsTree}
use Rattle.hm_search.specs.declared.subtree.Subtree.{Subtree}
use Rattle.hm_search.proofs.ContentLemmas.{elements_inside}
use Rattle.hm_search.proofs.MarkLemmas.{elements_marked}

pub all_inside : (map : PageMap) (height : ℕ) (s : Subtree) (node : Node) → IsTree map height s node
    → All (λ e. IsInside s.left s.right (element_key e)) (elements_in map height node)
all_inside map height s node tree =
    All-from_recursion (λ e. IsInside s.left s.right (element_key e)) (elements_in map height node) (elements_inside map height s node tree)

pub all_marked : (map : PageMap) (height : ℕ) (s : Subtree) (node : Node) → IsTree map height s node
    → All (IsMarked (mark_in map height node)) (elements_in map height node)
all_marked map height s node tree =
    All-from_recursion (IsMarked (mark_in map height node)) (elements_in map height node) (elements_marked map height s node tree)

-- a tree has nine levels at most
pub height_most : (map : PageMap) (height : ℕ) (s : Subtree) (node : Node) → IsTree map height s node → height ≤ 8
height_most map height s node tree = by_node node tree.sound tree.level where
  by_node : (n : Node) → IsNode n → level_of n ≡ suc height → height ≤ 8
  by_node (Leaf leaf) sound level = omega arith
  by_node (inner_node inner) sound level = omega (arith, sound.level.1)
