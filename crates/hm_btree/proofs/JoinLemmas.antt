-- Two neighbouring nodes that were joined are one node or two, in the place of both.
use Rattle.std.proofs.Common.{◌≡◌, ℕ, zero, suc, ◌≤◌, ◌⊎◌, inl, inr, List, [], ◌∷◌, ◌++◌, length, refl, sym, subst, arith, Some, None}
use Rattle.std.proofs.Common.{Bool, ap, length-drop, length-append}
use Rattle.hm_types.specs.Elements.{Key}
use Rattle.hm_fields.specs.Pages.{PageMap}
use Rattle.hm_key.specs.declared.base.Base.{Base}
use Rattle.hm_key.specs.declared.element.Element.{Element}
use Rattle.hm_node.specs.Node.{count_of}
use Rattle.hm_node.specs.declared.inner.Child.{Child}
use Rattle.hm_node.specs.declared.inner.Inner.{Inner}
use Rattle.hm_node.specs.declared.leaf.Leaf.{Leaf}
use Rattle.hm_node.specs.declared.node.Node.{Node}
use Rattle.hm_node.specs.declared.node.Node.TheVariants.{Leaf as leaf_node, Inner as inner_node}
use Rattle.hm_search.specs.Place.{least_count}
use Rattle.hm_btree.specs.Marking.{TakesOut}
use Rattle.hm_btree.specs.Edits.{leaf_of, inner_of, left_of}
use Rattle.hm_btree.specs.Grow.{FirstAt}
use Rattle.hm_btree.specs.Shrink.{Beside, IsSmallAt, Joined, Joins, JoinsLeaves, JoinsInners, LeavesHave, Shared}
use Rattle.hm_btree.specs.declared.upper.Upper.{Upper}
use Rattle.hm_btree.proofs.CutLemmas.{cut_of, gains_of, low_of, high_of, low_part, high_part}
use Rattle.hm_btree.proofs.InnerJoinLemmas.{joined_inners, shared_inners}
use Rattle.hm_btree.proofs.LeafJoinLemmas.{joined_leaves, shared_leaves}

module _ (key : Key) (old mid : PageMap) (olds : ℕ → Bool) (want : List Element) (were : Key → ℕ) (left right at : Base) where
  -- no inner node stands where leaves do
  inners_joined : (height : ℕ) (a b after : Inner) → Beside key TakesOut height old mid olds want were left right (inner_node a)
      (inner_node b) at → JoinsInners a b after None
      → (16 ≤ length a.places.items) ⊎ (16 ≤ length b.places.items) → Joined key TakesOut height old mid olds want were left right (inner_node after)
  inners_joined zero a b after beside joins some = absurd (omega (arith, beside.lower_tree.level, beside.lower_tree.sound.level.0))
  inners_joined (suc height) a b after beside joins some =
      subst (λ (n : Inner). Joined key TakesOut (suc height) old mid olds want were left right (inner_node n)) (sym joins.0)
      (joined_inners key TakesOut height old mid olds want were left right a b at beside joins.1 some)

  module _ (a b after : Inner) (more : Upper) where
    abbrev lower_of : List Child → Node
    lower_of cs = inner_node (inner_of a.level (low_of (gains_of a.places.items b.places.items) a.mirror b.mirror)
        (low_part a.places.items b.places.items) (left_of cs a.right))

    abbrev upper_of : List Child → Node
    upper_of cs = inner_node (inner_of b.level (high_of (gains_of a.places.items b.places.items) a.mirror b.mirror) cs b.right)

    inners_shared : (height : ℕ) → Beside key TakesOut height old mid olds want were left right (inner_node a) (inner_node b) at
        → JoinsInners a b after (Some more)
        → Shared key TakesOut height old mid olds want were left right (inner_node after) more.node more.left
    inners_shared zero beside joins = absurd (omega (arith, beside.lower_tree.level, beside.lower_tree.sound.level.0))
    inners_shared (suc height) beside joins =
        let cs : List Child = high_part a.places.items b.places.items in
        subst (λ (n : Inner). Shared key TakesOut (suc height) old mid olds want were left right (inner_node n) more.node more.left) (sym joins.0)
        (subst (λ (n : Node). Shared key TakesOut (suc height) old mid olds want were left right (lower_of cs) n more.left) (sym joins.1)
        (subst (λ (l : Base). Shared key TakesOut (suc height) old mid olds want were left right (lower_of cs) (upper_of cs) l) (sym joins.2)
        (by_list cs refl))) where
          by_list : (cs : List Child) → high_part a.places.items b.places.items ≡ cs → Shared key TakesOut (suc height) old mid
              olds want were left right (lower_of cs) (upper_of cs) (left_of cs a.right)
          by_list [] cut = absurd (omega (
            arith,
            joins.3,
            ap length cut,
            length-drop (cut_of a.places.items b.places.items)
                (a.places.items ++ b.places.items),
            length-append a.places.items b.places.items,
          ))
          by_list (c ∷ hi) cut = shared_inners key TakesOut height old mid olds want were left right a b at beside c hi cut joins.3

module _ (key : Key) (height : ℕ) (old mid : PageMap) (olds : ℕ → Bool) (want : List Element) (were : Key → ℕ) (left right : Base) where
  -- neighbours of which one has enough places are one node that has them too
  pub joined : (lower upper after : Node) (at : Base) → Beside key TakesOut height old mid olds want were left right lower upper
      at → Joins lower upper after None
      → (least_count lower ≤ count_of lower) ⊎ (least_count upper ≤ count_of upper) → IsSmallAt key at lower upper
      → LeavesHave were at lower upper → Joined key TakesOut height old mid olds want were left right after
  joined (leaf_node a) (leaf_node b) (leaf_node after) at beside joins some small stay =
      subst (λ (n : Leaf). Joined key TakesOut height old mid olds want were left right (leaf_node n)) (sym joins.0)
      (joined_leaves key height old mid olds want were left right a b at beside stay joins.1 some
      (elim small [ inl first ↦ inl first.0 | inr second ↦ inr second.0 ]))
  joined (leaf_node a) (leaf_node b) (inner_node after) at beside joins some small stay = absurd joins
  joined (leaf_node a) (inner_node b) after at beside joins some small stay = absurd joins
  joined (inner_node a) (leaf_node b) after at beside joins some small stay = absurd joins
  joined (inner_node a) (inner_node b) (leaf_node after) at beside joins some small stay = absurd joins
  joined (inner_node a) (inner_node b) (inner_node after) at beside joins some small stay = inners_joined key old mid olds want
      were left right at height a b after beside joins some

  leaves_shared : (a b after : Leaf) (at : Base) (more : Upper) → Beside key TakesOut height old mid olds want were left right
      (leaf_node a) (leaf_node b) at → JoinsLeaves a b after (Some more)
      → IsSmallAt key at (leaf_node a) (leaf_node b) → LeavesHave were at (leaf_node a) (leaf_node b) → Shared key TakesOut height
      old mid olds want were left right (leaf_node after) more.node more.left
  leaves_shared a b after at more beside joins small stay =
      subst (λ (n : Leaf). Shared key TakesOut height old mid olds want were left right (leaf_node n) more.node more.left) (sym joins.0)
      (by_list (high_part a.places.items b.places.items) refl joins.1 joins.2) where
        by_list : (es : List Element) → high_part a.places.items b.places.items ≡ es → more.node ≡ leaf_node
            (leaf_of (high_of (gains_of a.places.items b.places.items) a.mirror b.mirror) es) → FirstAt es more.left
            → Shared key TakesOut height old mid olds want were left right
            (leaf_node (leaf_of (low_of (gains_of a.places.items b.places.items) a.mirror b.mirror)
            (low_part a.places.items b.places.items))) more.node more.left
        by_list [] cut node first = absurd first
        by_list (e ∷ hi) cut node first =
            subst (λ (n : Node). Shared key TakesOut height old mid olds want were left right
            (leaf_node (leaf_of (low_of (gains_of a.places.items b.places.items) a.mirror b.mirror)
            (low_part a.places.items b.places.items))) n more.left) (sym node)
            (shared_leaves key height old mid olds want were left right a b at beside stay e hi more.left cut first joins.3 small)

  -- neighbours of which one has too few places are two nodes that have enough
  pub shared : (lower upper after : Node) (at : Base) (more : Upper) → Beside key TakesOut height old mid olds want were left
      right lower upper at → Joins lower upper after (Some more)
      → IsSmallAt key at lower upper → LeavesHave were at lower upper → Shared key TakesOut height old mid olds want were left right after more.node more.left
  shared (leaf_node a) (leaf_node b) (leaf_node after) at more beside joins small stay = leaves_shared a b after at more beside joins small stay
  shared (leaf_node a) (leaf_node b) (inner_node after) at more beside joins small stay = absurd joins
  shared (leaf_node a) (inner_node b) after at more beside joins small stay = absurd joins
  shared (inner_node a) (leaf_node b) after at more beside joins small stay = absurd joins
  shared (inner_node a) (inner_node b) (leaf_node after) at more beside joins small stay = absurd joins
  shared (inner_node a) (inner_node b) (inner_node after) at more beside joins small stay = inners_shared key old mid olds want
      were left right at a b after more height beside joins
