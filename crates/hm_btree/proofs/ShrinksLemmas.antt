-- Calls that take an element out below a node, where the pages are told.
use Rattle.std.proofs.Common.{◌≡◌, Bool, true, false, true≢false, ℕ, zero, suc, ◌<◌, ◌≤◌, inl, inr, List, ◌∷◌, ◌++◌, length, take, drop}
use Rattle.std.proofs.Common.{remove, refl, sym, ap, subst, ◌∙◌, arith, max, Some, None}
use Rattle.std.proofs.lemmas.Bool.{cases_lt}
use Rattle.std.specs.Prelude.{◌↔◌, Option, IsTrue, IsSome, is_some, IfSome, slice_get}
use Rattle.std.proofs.lemmas.Option.{IfSome_then}
use Rattle.hm_types.specs.Elements.{Key}
use Rattle.hm_fields.specs.Pages.{PageMap}
use Rattle.hm_types.specs.Told.{BothTell}
use Rattle.hm_key.specs.Elements.{element_at, removed}
use Rattle.hm_key.specs.Places.{leading}
use Rattle.hm_key.specs.declared.element.Element.{Element}
use Rattle.hm_node.specs.Node.{count_of, node_in}
use Rattle.hm_node.specs.declared.inner.Child.{Child}
use Rattle.hm_node.specs.declared.inner.Inner.{Inner}
use Rattle.hm_node.specs.declared.leaf.Leaf.{Leaf}
use Rattle.hm_node.specs.declared.node.Node.{Node}
use Rattle.hm_node.specs.declared.node.Node.TheVariants.{Leaf as leaf_node, Inner as inner_node}
use Rattle.hm_node.specs.Inner.{HasInnerOrder}
use Rattle.hm_node.specs.Leaf.{leaf_in, HasLeafOrder}
use Rattle.hm_search.specs.Place.{IsInside, least_count, mirror_of}
use Rattle.hm_search.specs.Search.{holder_place}
use Rattle.hm_search.specs.Tree.{node_at, elements_in, reaches, next_left, child_place, children_of, IsTree, IsStoredTree}
use Rattle.hm_search.specs.declared.subtree.Subtree.{Subtree}
use Rattle.hm_btree.specs.Marking.{TakesOut}
use Rattle.hm_btree.specs.Calls.Remove.{RemovesInLeaf}
use Rattle.hm_btree.specs.Below.{IsLocal, Changed, SpellsAt}
use Rattle.hm_btree.specs.Edits.{inner_of, leaf_of, with_mirror, ChildChange}
use Rattle.hm_btree.specs.Shrink.{loose, Shrinks, IsJoinedAt}
use Rattle.hm_btree.specs.Space.{IsUpdated}
use Rattle.hm_btree.proofs.EditLemmas.{split_at, set_at_place}
use Rattle.hm_btree.proofs.HoldsLemmas.{holder_below}
use Rattle.hm_btree.proofs.PairJoinedLemmas.{joined_changed}
use Rattle.hm_btree.proofs.RemoveLemmas.{removed_leaf}
use Rattle.hm_btree.proofs.ShrinkLemmas.{as_written}
use Rattle.hm_btree.proofs.ToldLemmas.{IfSome_all, IfSome_both, IfSome_where, both_then}
use Rattle.hm_btree.proofs.UpdateLemmas.{written_below}
use Rattle.hm_btree.proofs.WorksLemmas.{inner_is}

module _ (f : List Element → List Element) (key : Key) (local : IsLocal f key) (inner inner' : Inner) (i : ℕ) (s : Subtree) (child after : Node)
    (holder : HasInnerOrder inner → i ≡ holder_place key inner.places.items) (at : slice_get (children_of inner) i ≡ Some s) where
  -- the child that holds the key, and what became of it
  below_shrinks : (Result : PageMap → PageMap → Type 0)
      → ((old mid new : PageMap) (place : Subtree) (lower : ℕ) (one : Child) → IsTree old (suc lower) place (inner_node inner)
      → IsInside place.left place.right key → slice_get inner.places.items i ≡ Some one → s.at ≡ one.child
      → node_at old one.child ≡ child → IsStoredTree old lower (child_place inner.level (next_left inner.right (drop (suc i) inner.places.items)) one)
      → IsInside one.left (next_left inner.right (drop (suc i) inner.places.items)) key
      → Changed f key TakesOut (loose (child_place inner.level (next_left inner.right (drop (suc i) inner.places.items)) one))
      lower old mid (node_at old one.child) after → Result mid new
      → Changed f key TakesOut (loose place) (suc lower) old new (inner_node inner) (inner_node inner'))
      → (node : Node) (p0 p1 p2 p3 : Option PageMap) → node ≡ inner_node inner → p1 ≡ p0
      → IfSome p0 (λ map. SpellsAt map s child) → Shrinks f key TakesOut (λ o. IsSome o) p1 p2 child after → is_some p2 ≡ is_some p1
      → IfSome p2 (λ mid. IfSome p3 (Result mid)) → Shrinks f key TakesOut (λ o. IsSome o) p0 p3 node (inner_node inner')
  below_shrinks Result step node None p1 p2 p3 is same here shrinks told result = tt
  below_shrinks Result step node (Some old) p1 p2 p3 is same here shrinks told result =
      λ place height tree inside there.
      subst (λ (n : Node). IfSome p3 (λ new. Changed f key TakesOut (loose place) height old new n (inner_node inner'))) (sym is)
      (by_height height place (subst (λ (n : Node). IsTree old height place n) is tree) inside
      (subst (λ (n : Node). IsSome (element_at key (elements_in old height n))) is there)) where
        by_height : (height : ℕ) (place : Subtree) → IsTree old height place (inner_node inner) → IsInside place.left place.right key
            → IsSome (element_at key (elements_in old height (inner_node inner)))
            → IfSome p3 (λ new. Changed f key TakesOut (loose place) height old new (inner_node inner) (inner_node inner'))
        by_height zero place tree inside there = absurd (omega (arith, tree.level, tree.sound.level.0))
        by_height (suc height) place tree inside there =
            let below = holder_below key inner i s child holder at old (suc height) place tree inside here in
            let lower : height ≡ below.lower = omega (arith, below.high) in
            let spot : Subtree = child_place inner.level (next_left inner.right (drop (suc i) inner.places.items)) below.one in
            let some : IsSome (element_at key (elements_in old below.lower child)) = subst (λ (o : Option Element). IsSome o) below.same there in
            let was : Shrinks f key TakesOut (λ o. IsSome o) (Some old) p2 child after =
            subst (λ (p : Option PageMap). Shrinks f key TakesOut (λ o. IsSome o) p p2 child after) same shrinks in
            let change = was spot below.lower (subst (λ (n : Node). IsTree old below.lower spot n) below.read below.stored.tree) below.inside some in
            IfSome_where (Some old) p2
            (λ _. IfSome p3 (λ new. Changed f key TakesOut (loose place) (suc height) old new (inner_node inner) (inner_node inner')))
            (told ∙ ap is_some same) (IfSome_both p2 change result (λ mid change result.
            let change' : Changed f key TakesOut (loose spot) height old mid (node_at old below.one.child) after =
            subst (λ (n : ℕ). Changed f key TakesOut (loose spot) n old mid (node_at old below.one.child) after) (sym lower)
            (subst (λ (n : Node). Changed f key TakesOut (loose spot) below.lower old mid n after) (sym below.read) change) in
            IfSome_then p3 result (λ new result.
            step old mid new place height below.one tree inside below.at below.where_is below.read
            (subst (λ (n : ℕ). IsStoredTree old n spot) (sym lower) below.stored) below.inside change' result)))

  -- it has too few places, and was joined with a neighbour
  pub small_shrinks : (node : Node) (p0 p1 p2 p3 : Option PageMap) → node ≡ inner_node inner → p1 ≡ p0
      → IfSome p0 (λ map. SpellsAt map s child) → Shrinks f key TakesOut (λ o. IsSome o) p1 p2 child after → is_some p2 ≡ is_some p1
      → count_of after < 16 → IfSome p2 (λ mid. IfSome p3 (λ new. IsJoinedAt inner i after mid new inner'))
      → Shrinks f key TakesOut (λ o. IsSome o) p0 p3 node (inner_node inner')
  small_shrinks node p0 p1 p2 p3 is same here shrinks told small result =
      below_shrinks (λ mid new. IsJoinedAt inner i after mid new inner')
      (λ old mid new place lower one tree inside one_at where_is read stored one_inside change joined. joined_changed f key local place lower
      inner inner' old mid new tree i one after one_at one_inside change small joined)
      node p0 p1 p2 p3 is same here shrinks told result

  -- it has enough, and was written where its node changed
  pub large_shrinks : (m : ℕ) (changed : Bool) → (changed ≡ false → after ≡ child) → (node : Node) (p0 p1 p2 p3 : Option PageMap) → node ≡ inner_node inner
      → p1 ≡ p0
      → IfSome p0 (λ map. SpellsAt map s child) → Shrinks f key TakesOut (λ o. IsSome o) p1 p2 child after → is_some p2 ≡ is_some p1
      → 16 ≤ count_of after → BothTell p2 p3 (IsUpdated changed s.at after)
      → inner'.level ≡ inner.level → inner'.mirror ≡ max inner.mirror m → m ≡ mirror_of after → ChildChange (with_mirror m)
      inner.places.items i inner'.places.items → inner'.right ≡ inner.right
      → Shrinks f key TakesOut (λ o. IsSome o) p0 p3 node (inner_node inner')
  large_shrinks m changed kept node p0 p1 p2 p3 same_node same here shrinks told many written level mirror is items right =
      below_shrinks (IsUpdated changed s.at after) step node p0 p1 p2 p3 same_node same here shrinks told
      (both_then p2 p3 written (λ mid new written. written)) where
        enough : (n : Node) → 16 ≤ count_of n → least_count n ≤ count_of n
        enough (leaf_node leaf) many = omega arith
        enough (inner_node below) many = many

        step : (old mid new : PageMap) (place : Subtree) (lower : ℕ) (one : Child) → IsTree old (suc lower) place
            (inner_node inner) → IsInside place.left place.right key → slice_get inner.places.items i ≡ Some one → s.at ≡ one.child
            → node_at old one.child ≡ child → IsStoredTree old lower (child_place inner.level (next_left inner.right (drop (suc i) inner.places.items)) one)
            → IsInside one.left (next_left inner.right (drop (suc i) inner.places.items)) key
            → Changed f key TakesOut (loose (child_place inner.level (next_left inner.right (drop (suc i) inner.places.items))
            one)) lower old mid (node_at old one.child) after → IsUpdated changed s.at after mid new
            → Changed f key TakesOut (loose place) (suc lower) old new (inner_node inner) (inner_node inner')
        step old mid new place lower c tree inside c_at where_is read stored c_inside change written =
            let cs : List Child = inner.places.items in
            let pre : List Child = take i cs in
            let post : List Child = drop (suc i) cs in
            let split = split_at cs i c c_at in
            let tree' : IsTree old (suc lower) place (inner_node (inner_of inner.level inner.mirror (pre ++ c ∷ post) inner.right)) =
            subst (λ (l : List Child). IsTree old (suc lower) place (inner_node (inner_of inner.level inner.mirror l inner.right))) split.0 tree in
            let held : length pre ≡ holder_place key (pre ++ c ∷ post) = split.1 ∙ holder tree.sound.order ∙ ap (holder_place key) split.0 in
            let whole = as_written key place lower inner.level inner.mirror inner.right old pre c post tree' held inside f
            TakesOut mid new after local change (enough after many)
            (written_below changed c.child lower (child_place inner.level (next_left inner.right post) c) (node_at old c.child) after old mid new
            (reaches mid lower after) (subst (λ (a : ℕ). IsUpdated changed a after mid new) where_is written)
            (λ is. kept is ∙ sym read) stored.there stored.spelled refl stored.tree change.pages) in
            let items' : inner'.places.items ≡ pre ++ with_mirror (mirror_of after) c ∷ post =
            items c ∙ set_at_place (with_mirror m) cs i c c_at ∙ ap (λ (n : ℕ). pre ++ with_mirror n c ∷ post) is in
            let end : inner' ≡ inner_of inner.level (max inner.mirror (mirror_of after)) (pre ++ with_mirror (mirror_of after) c ∷ post) inner.right =
            inner_is inner' inner.level (max inner.mirror (mirror_of after)) (pre ++ with_mirror (mirror_of after) c ∷ post)
            inner.right level (mirror ∙ ap (max inner.mirror) is) items' right in
            subst (λ (x : Inner). Changed f key TakesOut (loose place) (suc lower) old new (inner_node inner) (inner_node x)) (sym end)
            (subst (λ (l : List Child). Changed f key TakesOut (loose place) (suc lower) old new
            (inner_node (inner_of inner.level inner.mirror l inner.right))
            (inner_node (inner_of inner.level (max inner.mirror (mirror_of after)) (pre ++ with_mirror (mirror_of after) c ∷ post) inner.right)))
            (sym split.0) whole)

-- a leaf that has the element loses it
pub leaf_shrinks : (key : Key) (node after : Node) (leaf leaf' : Leaf) (i : ℕ) (p : Option PageMap) → node ≡ leaf_node leaf
    → after ≡ leaf_node leaf' → (HasLeafOrder leaf → i ≡ leading key leaf.places.items) → leaf' ≡ leaf_of leaf.mirror (remove leaf.places.items i)
    → Shrinks (removed key) key TakesOut (λ o. IsSome o) p p node after
leaf_shrinks key node after leaf leaf' i None is now at items = tt
leaf_shrinks key node after leaf leaf' i (Some old) is now at items = λ place height tree inside there.
    subst (λ (n : Node). Changed (removed key) key TakesOut (loose place) height old old n after) (sym is)
    (subst (λ (n : Node). Changed (removed key) key TakesOut (loose place) height old old (leaf_node leaf) n) (sym now)
    (removed_leaf old height place key leaf leaf' i (subst (λ (n : Node). IsTree old height place n) is tree) inside
    (subst (λ (n : Node). IsSome (element_at key (elements_in old height n))) is there)
    (at (subst (λ (n : Node). IsTree old height place n) is tree).sound.order) items))

-- and one that has not does not come
pub leaf_has_none : (key : Key) (node after : Node) (leaf : Leaf) (p : Option PageMap) → node ≡ leaf_node leaf
    → (HasLeafOrder leaf → is_some (element_at key leaf.places.items) ≡ false) → Shrinks (removed key) key TakesOut (λ o. IsSome o) p p node after
leaf_has_none key node after leaf p is none = IfSome_all p (λ old place height tree inside there.
    absurd (true≢false (sym (subst (λ (n : Node). IsSome (element_at key (elements_in old height n))) is there)
    ∙ none (subst (λ (n : Node). IsTree old height place n) is tree).sound.order)))

-- the same of a leaf in a page
pub leaf_removes : (key : Key) (changed : Bool) (before after : List ℕ) (p : Option PageMap) → node_in before ≡ leaf_node (leaf_in before)
    → node_in after ≡ leaf_node (leaf_in after) → RemovesInLeaf key before after changed
    → Shrinks (removed key) key TakesOut (λ o. IsSome o) p p (node_in before) (node_in after)
leaf_removes key true before after p is now did =
    let one = did.some refl in
    leaf_shrinks key (node_in before) (node_in after) (leaf_in before) (leaf_in after) one.at p is now one.place one.leaf
leaf_removes key false before after p is now did =
    leaf_has_none key (node_in before) (node_in after) (leaf_in before) p is (did.none refl)

-- a node that has not too few places
pub not_small : (small : Bool) (count : ℕ) → (IsTrue small ↔ (count < 16)) → small ≡ false → 16 ≤ count
not_small small count is not = elim (cases_lt count 16) [ inl less ↦ absurd (true≢false (sym (is.1 less) ∙ not)) | inr many ↦ omega arith ]
