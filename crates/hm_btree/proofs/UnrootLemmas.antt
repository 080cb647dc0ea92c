-- The root of a tree that lost an element: it is written, or goes where it has one child alone.
use Rattle.std.proofs.Common.{◌≡◌, Bool, true, false, ◌||◌, ℕ, zero, suc, List, [], ◌∷◌, refl, sym, ap, subst, ◌∙◌, arith, nat_eq, Some}
use Rattle.std.specs.Prelude.{Option, IsSome, is_some, IfSome}
use Rattle.std.proofs.lemmas.Option.{IfSome_then}
use Rattle.hm_types.specs.Elements.{Key}
use Rattle.hm_fields.specs.Pages.{PageMap}
use Rattle.hm_types.specs.Told.{BothTell}
use Rattle.hm_key.specs.Elements.{element_at}
use Rattle.hm_key.specs.declared.element.Element.{Element}
use Rattle.hm_node.specs.declared.node.Node.{Node}
use Rattle.hm_node.specs.declared.node.Node.TheVariants.{Leaf as leaf_node, Inner as inner_node}
use Rattle.hm_search.specs.Tree.{node_at, elements_in, mark_in, reaches, height_of, root_place, IsTree, elements_of, mark_of}
use Rattle.hm_search.proofs.ReachLemmas.{not_below_itself}
use Rattle.hm_btree.specs.Marking.{Marking, MarksBy}
use Rattle.hm_btree.specs.Below.{Replaces, Changed}
use Rattle.hm_btree.specs.Edits.{inner_of}
use Rattle.hm_btree.specs.Shrink.{Shrinks, HoldsElement, IsLowered, IsOnlyChild}
use Rattle.hm_btree.specs.Space.{HasLost, IsUpdated}
use Rattle.hm_btree.specs.Tree.{IsTreeSpace, TreeChanged, ChangesTree}
use Rattle.hm_btree.proofs.LowestLemmas.{only_sound, only_elements, only_mark, only_reached}
use Rattle.hm_btree.proofs.MarkLemmas.{as_marks, same_marks, marks_whole}
use Rattle.hm_btree.proofs.NodeLemmas.{not_reached}
use Rattle.hm_btree.proofs.PutLemmas.{replaces_lost}
use Rattle.hm_btree.proofs.RootLemmas.{root_updated, there_inside, whole_after, spots_after, turned}
use Rattle.hm_btree.proofs.ToldLemmas.{IfSome_alike, IfSome_both, both_alike, told_after}
use Rattle.hm_btree.proofs.WorksLemmas.{inner_is}

-- the root has one child alone, and its page goes
module _ (f : List Element → List Element) (key : Key) (marking : Marking) (root : ℕ) (old mid new : PageMap) where
  pub root_dropped : (after : Node) (below : ℕ) → IsTreeSpace old root → Changed f key marking (root_place root)
      (height_of (node_at old root)) old mid (node_at old root) after → IsOnlyChild after below → HasLost root mid new
      → TreeChanged f key marking old new root below
  root_dropped (leaf_node leaf) below tree change only lost = absurd only
  root_dropped (inner_node inner) below tree change (c, items, at) lost =
      let is : inner_node inner ≡ inner_node (inner_of inner.level inner.mirror (c ∷ []) inner.right) = ap inner_node
      (inner_is inner inner.level inner.mirror (c ∷ []) inner.right refl refl items refl) in
      subst (λ (x : ℕ). TreeChanged f key marking old new root x) at
      (by_height (height_of (node_at old root)) refl
      (subst (λ (n : Node). Changed f key marking (root_place root) (height_of (node_at old root)) old mid (node_at old root) n) is change)) where
        by_height : (h : ℕ) → height_of (node_at old root) ≡ h → Changed f key marking (root_place root) h old mid
            (node_at old root) (inner_node (inner_of inner.level inner.mirror (c ∷ []) inner.right)) → TreeChanged f key marking old new root c.child
        by_height zero high change = absurd (omega (arith, change.tree.level, change.tree.sound.level.0))
        by_height (suc h) high change =
            let top : Node = inner_node (inner_of inner.level inner.mirror (c ∷ []) inner.right) in
            let was : Node = node_at old root in
            let whole : IsTree old (suc h) (root_place root) was = subst (λ (n : ℕ). IsTree old n (root_place root) was) high tree.sound.tree in
            let itself : reaches old (suc h) was root ≡ false = not_below_itself old (suc h) (root_place root) was root whole refl in
            let apart : reaches mid (suc h) top root ≡ false = not_reached old mid (suc h) was top change.pages root tree.sound.there itself in
            let olds : ℕ → Bool = reaches old (suc h) was in
            let news : ℕ → Bool = reaches mid (suc h) top in
            let all : (x : ℕ) → IsSome (old x) → (nat_eq root x || olds x) ≡ true = λ x there.
            ap (λ (b : Bool). b || olds x) (turned root x) ∙ ap (λ (n : ℕ). nat_eq x root || reaches old n was x) (sym high) ∙ tree.whole x there in
            let replaces : Replaces (λ x. nat_eq root x || olds x) news old new = replaces_lost root olds news old mid new lost change.pages in
            record {
              tree = record {
                sound = only_sound mid new h root inner.level inner.mirror c inner.right change.tree apart lost;
                whole = λ x there. only_reached mid new h root inner.level inner.mirror c inner.right change.tree apart lost x
                    (whole_after (λ y. nat_eq root y || olds y) news old new replaces all x there);
                spots = spots_after (λ y. nat_eq root y || olds y) news old new replaces tree.spots;
              };
              elements = only_elements mid new h root inner.level inner.mirror c inner.right change.tree apart lost
                  ∙ change.elements ∙ ap (λ (n : ℕ). f (elements_in old n was)) (sym high);
              mark = as_marks (MarksBy marking key) (mark_in old (suc h) was) (mark_of old root) (mark_in mid (suc h) top) (mark_of new c.child)
                  (λ k. ap (λ (n : ℕ). mark_in old n was k) high) (only_mark mid new h root inner.level inner.mirror c inner.right change.tree apart lost)
                  (marks_whole marking key (root_place root).left (root_place root).right (mark_in old (suc h) was) (mark_in mid (suc h) top) change.mark);
            }

-- a change of the tree that stands from a lower root on
pub changed_lowered : (f : List Element → List Element) (key : Key) (marking : Marking) (old mid new : PageMap)
    (root low root' : ℕ) (node : Node) → IsLowered old mid root low node → TreeChanged f key marking mid new low root'
    → TreeChanged f key marking old new root root'
changed_lowered f key marking old mid new root low root' node lowered change = record {
  tree = change.tree;
  elements = change.elements ∙ ap f lowered.elements;
  mark = same_marks (λ (o : Key → ℕ). MarksBy marking key o (mark_of new root')) (mark_of mid low) (mark_of old root) (λ k. sym (lowered.mark k)) change.mark;
}

-- the tree from a lower root on, whose node this is, has an element at a key
record HoldsLow (key : Key) (low : ℕ) (node : Node) (map : PageMap) : Type 0 where
  pub tree : IsTreeSpace map low
  pub here : node_at map low ≡ node
  pub there : IsSome (element_at key (elements_of map low))

holds_low : (key : Key) (root low : ℕ) (node : Node) (old mid : PageMap) → IsLowered old mid root low node
    → IsSome (element_at key (elements_of old root)) → HoldsLow key low node mid
holds_low key root low node old mid lowered there = record {
  tree = lowered.tree;
  here = lowered.here;
  there = subst (λ (l : List Element). IsSome (element_at key l)) (sym lowered.elements) there;
}

module _ (key : Key) (root low : ℕ) (node : Node) (p0 p1 p2 : Option PageMap) (same : p1 ≡ p0)
    (lowered : IfSome p1 (λ was. IfSome p2 (λ is. IsLowered was is root low node))) (told : is_some p2 ≡ is_some p1) where
  lowered_first : IfSome p0 (λ was. IfSome p2 (λ is. IsLowered was is root low node))
  lowered_first = subst (λ (p : Option PageMap). IfSome p (λ was. IfSome p2 (λ is. IsLowered was is root low node))) same lowered

  low_told : IfSome p0 (λ was. IsSome (element_at key (elements_of was root))) → IfSome p2 (HoldsLow key low node)
  low_told there = IfSome_alike p0 p2 _ (told ∙ ap is_some same) (IfSome_both p0 there lowered_first (λ old there lowered.
      IfSome_then p2 lowered (λ mid lowered. holds_low key root low node old mid lowered there)))

  -- the element is there from the lower root on
  pub holds_lowered : IfSome p0 (λ was. IsSome (element_at key (elements_of was root))) → IfSome p2 (HoldsElement key node)
  holds_lowered there = IfSome_then p2 (low_told there) (λ mid holds.
      let h : ℕ = height_of (node_at mid low) in
      record {
        place = root_place low;
        height = h;
        tree = subst (λ (n : Node). IsTree mid h (root_place low) n) holds.here holds.tree.sound.tree;
        inside = there_inside low key mid holds.tree holds.there;
        there = subst (λ (n : Node). IsSome (element_at key (elements_in mid h n))) holds.here holds.there;
      })

  module _ (f : List Element → List Element) (marking : Marking) (p3 : Option PageMap) (after : Node)
      (shrinks : Shrinks f key marking (λ o. IsSome o) p2 p3 node after) (told3 : is_some p3 ≡ is_some p2) where
    -- what became of its node
    change_of : (mid : PageMap) → HoldsLow key low node mid → Shrinks f key marking (λ o. IsSome o) (Some mid) p3 node after
        → IfSome p3 (λ now. Changed f key marking (root_place low) (height_of (node_at mid low)) mid now (node_at mid low) after)
    change_of mid holds shrinks =
        let h : ℕ = height_of (node_at mid low) in
        subst (λ (n : Node). IfSome p3 (λ now. Changed f key marking (root_place low) h mid now n after)) (sym holds.here)
        (shrinks (root_place low) h (subst (λ (n : Node). IsTree mid h (root_place low) n) holds.here holds.tree.sound.tree)
        (there_inside low key mid holds.tree holds.there)
        (subst (λ (n : Node). IsSome (element_at key (elements_in mid h n))) holds.here holds.there))

    -- the page of the lower root stays
    pub low_there : IfSome p0 (λ was. IsSome (element_at key (elements_of was root))) → IfSome p3 (λ map. IsSome (map low))
    low_there there = IfSome_alike p2 p3 _ told3 (IfSome_both p2 (low_told there) shrinks (λ mid holds shrinks.
        let itself = not_below_itself mid (height_of (node_at mid low)) (root_place low) (node_at mid low) low holds.tree.sound.tree refl in
        IfSome_then p3 (change_of mid holds shrinks) (λ now change.
        subst (λ (o : Option (List ℕ)). IsSome o) (sym (change.pages.kept low itself holds.tree.sound.there)) holds.tree.sound.there)))

    by_result : (p4 : Option PageMap) (root' : ℕ) (Ends : PageMap → PageMap → Type 0)
        → ((mid now new : PageMap) → IsTreeSpace mid low → node_at mid low ≡ node → Changed f key marking (root_place low) (height_of (node_at mid low))
        mid now (node_at mid low) after → Ends now new → TreeChanged f key marking mid new low root')
        → BothTell p3 p4 Ends → ChangesTree f key marking (λ es. IsSome (element_at key es)) p0 p4 root root'
    by_result p4 root' Ends step ended = IfSome_then p0 lowered_first (λ old lowered tree there.
        IfSome_alike p2 p4 _ (both_alike p3 p4 Ends ended ∙ told3) (IfSome_both p2 lowered shrinks (λ mid lowered shrinks.
        told_after p3 p4 ended (change_of mid (holds_low key root low node old mid lowered there) shrinks) (λ now new ended change.
        changed_lowered f key marking old mid new root low root' node lowered (step mid now new lowered.tree lowered.here change ended)))))

    -- it is written where it changed
    pub updated_result : (p4 : Option PageMap) (changed : Bool) → (changed ≡ false → after ≡ node) → BothTell p3 p4 (IsUpdated changed low after)
        → ChangesTree f key marking (λ es. IsSome (element_at key es)) p0 p4 root low
    updated_result p4 changed kept updated = by_result p4 low (IsUpdated changed low after) (λ mid now new tree here change ended. root_updated f key
        marking low mid now new after changed (λ is. kept is ∙ sym here) tree change ended) updated

    -- it goes
    pub dropped_result : (p4 : Option PageMap) (below : ℕ) → IsOnlyChild after below → BothTell p3 p4 (HasLost low)
        → ChangesTree f key marking (λ es. IsSome (element_at key es)) p0 p4 root below
    dropped_result p4 below only lost = by_result p4 below (HasLost low) (λ mid now new tree here change ended. root_dropped f key
        marking low mid now new after below tree change only ended) lost
