-- The pages of a sound tree are nodes.
use Rattle.std.proofs.Common.{◌≡◌, true≢false, ℕ, zero, suc, ◌^◌, ◌<◌, Option, Some, None, refl, sym, ap, subst, arith, eqb-true, inl, inr, is_some}
use Rattle.std.proofs.Common.{List, nat_eq}
use Rattle.std.specs.Prelude.{IfSome, IsSome}
use Rattle.hm_fields.specs.Pages.{PageMap, page_in}
use Rattle.hm_node.specs.Inner.{IsNodeOffset}
use Rattle.hm_node.specs.Shape.{HoldsNode}
use Rattle.hm_node.specs.declared.node.Node.{Node}
use Rattle.hm_node.specs.declared.node.Node.TheVariants.{Leaf, Inner as inner_node}
use Rattle.hm_search.specs.Tree.{IsStoredTree, IsTree, Reaches, height_of, node_at, reaches, root_place}
use Rattle.hm_search.specs.declared.subtree.Subtree.{Subtree}
use Rattle.hm_search.proofs.HeldLemmas.{sound_held}
use Rattle.hm_search.proofs.ReachLemmas.{either, one_under}
use Rattle.hm_btree.specs.Tree.{IsTreeSpace}
use Rattle.hm_stored.specs.Basis.{nodes}
use Rattle.hm_stored.specs.Held.{AreNodes}

stored_held : (map : PageMap) (height : ℕ) (s : Subtree) → IsStoredTree map height s → HoldsNode (page_in (map s.at))
stored_held map height s stored = sound_held (page_in (map s.at)) stored.tree.sound stored.spelled

-- each page that is reached holds a node
reached_held : (map : PageMap) (height : ℕ) (s : Subtree) (node : Node) (x : ℕ) → IsTree map height s node → Reaches map height node x
    → HoldsNode (page_in (map x))
reached_held map zero s (Leaf leaf) x tree is = absurd (true≢false (sym is))
reached_held map zero s (inner_node inner) x tree is = absurd (true≢false (sym is))
reached_held map (suc height) s (Leaf leaf) x tree is = absurd tree.below
reached_held map (suc height) s (inner_node inner) x tree is =
    let one = one_under map height (IsStoredTree map height) x inner.level inner.right inner.places.items tree.below is in
    elim one.under [
      | inl here ↦ subst (λ (a : ℕ). HoldsNode (page_in (map a))) here (stored_held map height one.place one.fact)
      | inr below ↦ reached_held map height one.place (node_at map one.place.at) x one.fact.tree below
    ]

pub tree_nodes : (pages : PageMap) (root : ℕ) → IsTreeSpace (nodes pages) root → AreNodes pages
tree_nodes pages root tree at = by_page (nodes pages at) refl where
  height : ℕ
  height = height_of (node_at (nodes pages) root)

  held : IsSome (nodes pages at) → HoldsNode (page_in (nodes pages at))
  held there =
      elim (either (nat_eq at root) (reaches (nodes pages) height (node_at (nodes pages) root) at) (tree.whole at there)) [
        | inl here ↦ subst (λ (a : ℕ). HoldsNode (page_in (nodes pages a))) (sym (eqb-true at root here))
            (stored_held (nodes pages) height (root_place root) tree.sound)
        | inr below ↦ reached_held (nodes pages) height (root_place root) (node_at (nodes pages) root) at tree.sound.tree below
      ]

  low : IsSome (nodes pages at) → at < 2 ^ 64
  low there = omega (arith, (tree.spots at there).node.zone)

  by_page : (o : Option (List ℕ)) → nodes pages at ≡ o → IfSome o (λ bytes. (at < 2 ^ 64) × (IsNodeOffset at → HoldsNode bytes))
  by_page None is = tt
  by_page (Some bytes) is =
      let there = ap (λ (o : Option (List ℕ)). is_some o) is in
      (low there, λ offset. subst (λ (o : Option (List ℕ)). HoldsNode (page_in o)) is (held there))
