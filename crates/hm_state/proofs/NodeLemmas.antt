-- Each node to which a sound tree refers is a page of its map.
use Rattle.std.proofs.Common.{◌≡◌, ℕ, zero, suc, List, [], ◌∷◌, IsSome, refl, sym, subst}
use Rattle.std.specs.List.{All, AllByRecursion, flat_map}
use Rattle.std.proofs.lemmas.List.Concat.{flat_map-cons}
use Rattle.std.proofs.lemmas.List.Elements.{All-from_recursion}
use Rattle.hm_types.specs.References.{Reference}
use Rattle.hm_types.specs.declared.limits.TheConstants.{PAGE_BYTES}
use Rattle.hm_fields.specs.Pages.{PageMap}
use Rattle.hm_key.specs.declared.base.Base.{Base}
use Rattle.hm_node.specs.declared.inner.Child.{Child}
use Rattle.hm_node.specs.declared.node.Node.{Node}
use Rattle.hm_node.specs.declared.node.Node.TheVariants.{Leaf, Inner as inner_node}
use Rattle.hm_search.specs.Tree.{IsSoundTree, IsStoredTree, IsTree, child_place, height_of, next_left, node_at, places_of, root_place}
use Rattle.hm_search.specs.declared.subtree.Subtree.{Subtree}
use Rattle.hm_search.proofs.ListLemmas.{each_append}
use Rattle.hm_image.specs.Image.{nodes_below, to_node}
use Rattle.hm_image.proofs.ReferenceLemmas.{with_below}

module _ (pages : PageMap) where
  -- a reference to a page that is there
  pub record IsToPage (r : Reference) : Type 0 where
    pub there : IsSome (pages r.at)
    pub len : r.len ≡ PAGE_BYTES

  nodes_under : (height : ℕ) → ((s : Subtree) → IsStoredTree pages height s → AllByRecursion IsToPage (nodes_below pages height (node_at pages s.at)))
      → (level : ℕ) (right : Base) (cs : List Child) → AllByRecursion (IsStoredTree pages height) (places_of level right cs)
      → AllByRecursion IsToPage (flat_map (with_below pages height) cs)
  nodes_under height deeper level right [] stored = tt
  nodes_under height deeper level right (c ∷ cs) stored =
      subst (AllByRecursion IsToPage) (sym (flat_map-cons (with_below pages height) c cs))
      (each_append IsToPage (with_below pages height c) (flat_map (with_below pages height) cs)
      (record { there = stored.0.there; len = refl }, deeper (child_place level (next_left right cs) c) stored.0)
      (nodes_under height deeper level right cs stored.1))

  nodes_there : (height : ℕ) (s : Subtree) (node : Node) → IsTree pages height s node → AllByRecursion IsToPage (nodes_below pages height node)
  nodes_there zero s (Leaf leaf) tree = tt
  nodes_there zero s (inner_node inner) tree = tt
  nodes_there (suc height) s (Leaf leaf) tree = tt
  nodes_there (suc height) s (inner_node inner) tree =
      nodes_under height (λ c stored. nodes_there height c (node_at pages c.at) stored.tree) inner.level inner.right inner.places.items tree.below

  pub nodes_are_pages : (root : ℕ) → IsSoundTree pages root
      → All IsToPage (to_node root ∷ nodes_below pages (height_of (node_at pages root)) (node_at pages root))
  nodes_are_pages root sound =
      let node = node_at pages root in
      All-from_recursion IsToPage (to_node root ∷ nodes_below pages (height_of node) node)
      (record { there = sound.there; len = refl }, nodes_there (height_of node) (root_place root) node sound.tree)
