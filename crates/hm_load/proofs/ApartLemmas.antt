-- That no node comes twice: boundaries tell the places of a tree apart.
use Rattle.std.proofs.Common.{◌≡◌, ◌≢◌, ℕ, zero, suc, ◌<◌, ◌≤◌, List, [], ◌∷◌, Option, None, Some, IsSome, slice_get, inl, inr, refl, sym, ap, subst}
use Rattle.std.proofs.Common.{◌∙◌, arith}
use Rattle.std.specs.List.{AllByRecursion}
use Rattle.std.specs.List.Sorted.{IsStrictlySortedBy}
use Rattle.hm_types.specs.Elements.{Key}
use Rattle.hm_fields.specs.Pages.{PageMap, page_in}
use Rattle.hm_key.specs.Key.{key_of, IsBefore, IsFrom}
use Rattle.hm_key.specs.declared.base.Base.{Base}
use Rattle.hm_key.proofs.KeyLemmas.{key_not_before, key_before_from}
use Rattle.hm_node.specs.Base.{base_cmp}
use Rattle.hm_node.specs.Node.{node_in, level_of, IsNode}
use Rattle.hm_node.specs.declared.inner.Child.{Child}
use Rattle.hm_node.specs.declared.inner.Inner.{Inner}
use Rattle.hm_node.specs.declared.node.Node.{Node}
use Rattle.hm_node.specs.declared.node.Node.TheVariants.{Leaf as leaf_node, Inner as inner_node}
use Rattle.hm_search.specs.Descent.{levels_below, levels_under}
use Rattle.hm_search.specs.Place.{BeginsAt, Fits, FitsLevel, IsInside}
use Rattle.hm_search.specs.Tree.{node_at, height_of, children_of, child_place, next_left, places_of}
use Rattle.hm_search.specs.declared.subtree.Parent.{Parent}
use Rattle.hm_search.specs.declared.subtree.Subtree.{Subtree}
use Rattle.hm_search.proofs.ChildLemmas.{bounds, from_next, later_sorted, place_is}
use Rattle.hm_search.proofs.ContentLemmas.{from_left}
use Rattle.hm_search.proofs.DescentLemmas.{child_lower}
use Rattle.hm_search.proofs.ReachLemmas.{first_key, first_left_of, first_key_inside, reached_inside}
use Rattle.hm_load.specs.Held.{IsApart, IsAboveOrBefore}
use Rattle.hm_load.specs.Tree.{AddsChildren, AddsNode, IsUnder}
use Rattle.hm_load.proofs.TreeLemmas.{Keeps, same_there, node_here, node_pages}

-- the first key of a node is not before the left boundary of its place
first_from : (s : Subtree) (node : Node) → s.parent ≢ None → IsNode node → Fits s node → IsFrom (key_of s.left) (first_key node)
first_from s (leaf_node leaf) below sound fits =
    (first_key_inside (λ at. None) 0 s (leaf_node leaf) below (record { sound = sound; level = omega arith; fits = fits; below = tt })).from
first_from s (inner_node inner) below sound fits = go inner.places.items fits.bounds.0 where
  go : (cs : List Child) → BeginsAt s.left cs → IsFrom (key_of s.left) (first_left_of cs)
  go [] begins = absurd begins
  go (c ∷ cs) begins = subst (λ (k : Key). IsFrom (key_of s.left) k) (sym begins) (key_not_before (key_of s.left))

most_level : (node : Node) → IsNode node → level_of node ≤ 9
most_level (leaf_node leaf) sound = omega arith
most_level (inner_node inner) sound = sound.level.1

-- a node that is sound at a place is none of those beside it
pub not_beside : (s : Subtree) (node : Node) → IsNode node → Fits s node → IsAboveOrBefore s node → ⊥
not_beside s node sound fits (inl high) = by_parent s.parent fits.level high where
  by_parent : (p : Option Parent) → FitsLevel p node → levels_under p ≤ level_of node → ⊥
  by_parent None level high = let low = most_level node sound in omega arith
  by_parent (Some parent) level high = omega arith
not_beside s node sound fits (inr (below, before)) = first_from s node below sound fits before

-- a fact of each boundary, at one of the children
left_of_each : (P : Base → Type 0) (right : Base) (cs : List Child) (i : ℕ) (c : Child) → slice_get cs i ≡ Some c → AllByRecursion P (bounds right cs)
    → P c.left
left_of_each P right [] i c is each = absurd cc
left_of_each P right (d ∷ cs) zero c is each = let same : d ≡ c = cc in subst (λ (x : Child). P x.left) same each.0
left_of_each P right (d ∷ cs) (suc i) c is each = left_of_each P right cs i c is each.1

-- a child ends before a later one begins
ends_before : (level : ℕ) (right : Base) (cs : List Child) (k i : ℕ) (s t : Subtree) → IsStrictlySortedBy base_cmp (bounds right cs) → k < i
    → slice_get (places_of level right cs) k ≡ Some s → slice_get (places_of level right cs) i ≡ Some t → IsFrom (key_of s.right) (key_of t.left)
ends_before level right [] k i s t sorted low first later = absurd cc
ends_before level right (c ∷ cs) k zero s t sorted low first later = absurd (omega arith)
ends_before level right (c ∷ cs) zero (suc i) s t sorted low first later =
    let same : child_place level (next_left right cs) c ≡ s = cc in
    let at = place_is level right cs i t later in
    let from = left_of_each (λ b. IsFrom (key_of (next_left right cs)) (key_of b)) right cs i at.child at.is
    (from_next right cs (later_sorted right c cs sorted)) in
    subst (λ (p : Subtree). IsFrom (key_of p.right) (key_of t.left)) same (subst (λ (p : Subtree). IsFrom (key_of (next_left right cs)) (key_of p.left))
    (sym at.place) from)
ends_before level right (c ∷ cs) (suc k) (suc i) s t sorted low first later = ends_before level right cs k i s t (later_sorted right c cs sorted)
    (omega arith) first later

-- what came before a node is apart from each of its children that comes next
module _ (s : Subtree) (inner : Inner) (i : ℕ) (child : Subtree) (old start map : PageMap) (is : slice_get (children_of inner) i ≡ Some child)
    (apart : IsApart s old) (adds : AddsNode s (inner_node inner) old start) (came : AddsChildren inner i start map) where
  parent_is : child.parent ≢ None
  parent_is none =
      let at = place_is inner.level inner.right inner.places.items i child is in
      let some = ap (λ (p : Subtree). p.parent) (sym at.place) ∙ none in
      absurd cc

  level_is : levels_below child ≡ inner.level
  level_is =
      let at = place_is inner.level inner.right inner.places.items i child is in
      ap levels_below at.place

  lower : levels_below child < levels_below s
  lower = child_lower s inner i child adds.sound adds.fits is

  left_from : IsFrom (key_of s.left) (key_of child.left)
  left_from =
      let at = place_is inner.level inner.right inner.places.items i child is in
      let each = from_left s.left inner.right inner.places.items adds.fits.bounds.0 adds.sound.order in
      subst (λ (p : Subtree). IsFrom (key_of s.left) (key_of p.left)) (sym at.place)
      (left_of_each (λ b. IsFrom (key_of s.left) (key_of b)) inner.right inner.places.items i at.child at.is each)

  widen : (node : Node) → IsAboveOrBefore s node → IsAboveOrBefore child node
  widen node (inl high) = inl (omega (arith, lower))
  widen node (inr (below, before)) = inr (parent_is, key_before_from (first_key node) (key_of s.left) (key_of child.left) before left_from)

  -- a page that stayed
  back : (first : PageMap) (at : ℕ) (page : List ℕ) → Keeps first map → IsSome (first at) → map at ≡ Some page → first at ≡ Some page
  back first at page keeps there here = sym (same_there first map at keeps there) ∙ here

  kept_all : Keeps old map
  kept_all at bytes was = came.pages.kept at bytes ((node_pages s (inner_node inner) old start adds).kept at bytes was)

  under_before : (k : ℕ) (first : Subtree) → k < i → slice_get (children_of inner) k ≡ Some first → (at : ℕ) → IsUnder map first at
      → IsBefore (first_key (node_at map at)) (key_of child.left)
  under_before k first low at_k at under =
      let place = place_is inner.level inner.right inner.places.items k first at_k in
      let below : first.parent ≢ None = λ none. let some = ap (λ (p : Subtree). p.parent) (sym place.place) ∙ none in absurd cc in
      let tree = came.trees k first low at_k in
      let ends = ends_before inner.level inner.right inner.places.items k i first child adds.sound.order low at_k is in
      let inside : IsInside first.left first.right (first_key (node_at map at)) = elim under [
        | inl here ↦ subst (λ (a : ℕ). IsInside first.left first.right (first_key (node_at map a))) (sym here)
            (first_key_inside map (height_of (node_at map first.at)) first (node_at map first.at) below tree.tree)
        | inr reached ↦ reached_inside map (height_of (node_at map first.at)) first (node_at map first.at) at tree.tree reached
      ] in
      key_before_from (first_key (node_at map at)) (key_of first.right) (key_of child.left) inside.before ends

  pub child_apart : IsApart child map
  child_apart at page here zone =
      let there : IsSome (map at) = rw here refl in
      elim (came.pages.added at there) [
        | inl begun ↦ elim ((node_pages s (inner_node inner) old start adds).added at begun) [
          | inl was ↦ widen (node_in page) (apart at page (back old at page kept_all was here) zone)
          | inr is_s ↦
              let mine : map at ≡ Some adds.page = ap map is_s ∙ came.pages.kept s.at adds.page (node_here s (inner_node inner) old start adds) in
              let both : Some page ≡ Some adds.page = sym here ∙ mine in
              let one : page ≡ adds.page = cc in
              let node : node_in page ≡ inner_node inner = ap node_in one ∙ adds.spelled.value in
              inl (subst (λ (n : Node). levels_below child ≤ level_of n) (sym node) (omega (arith, level_is)))
        ]
        | inr under ↦
            let node : node_at map at ≡ node_in page = ap (λ (o : Option (List ℕ)). node_in (page_in o)) here in
            inr (
              parent_is,
              subst (λ (n : Node). IsBefore (first_key n) (key_of child.left)) node
                  (under_before under.i under.child under.low under.is at under.under),
            )
      ]
