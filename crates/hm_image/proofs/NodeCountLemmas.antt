-- The tree below a sound node refers to each node once: what stands under one child stands under no other.
use Rattle.std.proofs.Common.{◌≡◌, inl, inr, Bool, true, false, true≢false, ◌||◌, ℕ, zero, suc, ◌+◌, List, [], ◌∷◌}
use Rattle.std.proofs.Common.{refl, sym, ap, subst, ◌∙◌, arith, nat_eq, eqb-true}
use Rattle.std.specs.Prelude.{IsSome, IsTrue, count_by, is_some}
use Rattle.std.specs.List.{AllByRecursion, flat_map, list_any}
use Rattle.std.specs.List.Sorted.{IsStrictlySortedBy}
use Rattle.std.proofs.lemmas.List.Concat.{flat_map-cons}
use Rattle.hm_fields.specs.Pages.{PageMap}
use Rattle.hm_freemap.proofs.CountLemmas.{count-append, count-cons}
use Rattle.hm_key.specs.declared.base.Base.{Base}
use Rattle.hm_node.specs.Base.{base_cmp}
use Rattle.hm_node.specs.declared.inner.Child.{Child}
use Rattle.hm_node.specs.declared.node.Node.{Node}
use Rattle.hm_node.specs.declared.node.Node.TheVariants.{Leaf, Inner as inner_node}
use Rattle.hm_search.specs.Reach.{is_under}
use Rattle.hm_search.specs.Tree.{IsSoundTree, IsStoredTree, IsTree, IsWhole, Reaches}
use Rattle.hm_search.specs.Tree.{child_place, height_of, next_left, node_at, places_of, reaches, root_place}
use Rattle.hm_search.specs.declared.subtree.Subtree.{Subtree}
use Rattle.hm_search.proofs.ChildLemmas.{bounds, later_sorted}
use Rattle.hm_search.proofs.ReachLemmas.{apart_children, either, not_below_itself, one_under}
use Rattle.hm_image.specs.Image.{nodes_below, to_node}
use Rattle.hm_image.specs.Referred.{begins_at, is_node, nodes_of, one_if}
use Rattle.hm_image.proofs.CountLemmas.{nat_turned, same_tests}
use Rattle.hm_image.proofs.ReferenceLemmas.{with_below}

-- of two tests that do not both pass, one or none does
one_of : (a b : Bool) → (a ≡ true → b ≡ false) → one_if (a || b) ≡ one_if a + one_if b
one_of true b apart = rw (apart refl) refl
one_of false b apart = omega arith

module _ (pages : PageMap) (x : ℕ) where
  -- a node below which a tree refers to each node once
  abbrev IsOnce : ℕ → Node → Type 0
  IsOnce height node = count_by (begins_at x) (nodes_below pages height node) ≡ one_if (reaches pages height node x)

  module _ (height : ℕ) (deeper : (s : Subtree) → IsStoredTree pages height s → IsOnce height (node_at pages s.at)) where
    -- a child is not below itself
    child_once : (s : Subtree) → IsStoredTree pages height s
        → count_by (begins_at x) (to_node s.at ∷ nodes_below pages height (node_at pages s.at))
        ≡ one_if (nat_eq s.at x || reaches pages height (node_at pages s.at) x)
    child_once s stored =
        let node = node_at pages s.at in
        let itself : nat_eq s.at x ≡ true → reaches pages height node x ≡ false =
        λ is. subst (λ (y : ℕ). reaches pages height node y ≡ false) (eqb-true s.at x is) (not_below_itself pages height s node s.at stored.tree refl) in
        let both = one_of (nat_eq s.at x) (reaches pages height node x) itself in
        omega (arith, both, deeper s stored, count-cons (begins_at x) (to_node s.at) (nodes_below pages height node))

    children_once : (level : ℕ) (right : Base) (cs : List Child) → IsStrictlySortedBy base_cmp (bounds right cs)
        → AllByRecursion (IsStoredTree pages height) (places_of level right cs)
        → count_by (begins_at x) (flat_map (with_below pages height) cs) ≡ one_if (list_any (is_under pages height x) cs)
    children_once level right [] sorted stored = refl
    children_once level right (c ∷ cs) sorted stored =
        let here = child_once (child_place level (next_left right cs) c) stored.0 in
        let later = children_once level right cs (later_sorted right c cs sorted) stored.1 in
        let apart = apart_children pages height x level right c cs sorted stored in
        let either = one_of (is_under pages height x c) (list_any (is_under pages height x) cs) apart in
        let rest = flat_map (with_below pages height) cs in
        let all = ap (count_by (begins_at x)) (flat_map-cons (with_below pages height) c cs) in
        omega (arith, here, later, either, all, count-append (begins_at x) (with_below pages height c) rest)

  pub below_once : (height : ℕ) (s : Subtree) (node : Node) → IsTree pages height s node → IsOnce height node
  below_once zero s (Leaf leaf) tree = refl
  below_once zero s (inner_node inner) tree = refl
  below_once (suc height) s (Leaf leaf) tree = refl
  below_once (suc height) s (inner_node inner) tree =
      let deeper = λ (c : Subtree) (stored : IsStoredTree pages height c). below_once height c (node_at pages c.at) stored.tree in
      children_once height deeper inner.level inner.right inner.places.items tree.sound.order tree.below

-- the root is not below itself either
pub node_once : (pages : PageMap) (root at : ℕ) → IsSoundTree pages root
    → count_by (begins_at at) (nodes_of pages root) ≡ one_if (is_node pages root at)
node_once pages root at sound =
    let height = height_of (node_at pages root) in
    child_once pages at height (λ s stored. below_once pages at height s (node_at pages s.at) stored.tree) (root_place root) sound
    ∙ ap (λ (b : Bool). one_if (b || reaches pages height (node_at pages root) at)) (nat_turned root at)

-- ---- the nodes of a tree have pages

reached_there : (pages : PageMap) (height : ℕ) (s : Subtree) (node : Node) (x : ℕ) → IsTree pages height s node → Reaches pages height node x
    → IsSome (pages x)
reached_there pages zero s (Leaf leaf) x tree is = absurd (true≢false (sym is))
reached_there pages zero s (inner_node inner) x tree is = absurd (true≢false (sym is))
reached_there pages (suc height) s (Leaf leaf) x tree is = absurd tree.below
reached_there pages (suc height) s (inner_node inner) x tree is =
    let one = one_under pages height (IsStoredTree pages height) x inner.level inner.right inner.places.items tree.below is in
    elim one.under [
      | inl here ↦ subst (λ (y : ℕ). IsSome (pages y)) here one.fact.there
      | inr below ↦ reached_there pages height one.place (node_at pages one.place.at) x one.fact.tree below
    ]

node_there : (pages : PageMap) (root at : ℕ) → IsSoundTree pages root → IsTrue (is_node pages root at) → IsSome (pages at)
node_there pages root at sound is =
    let node = node_at pages root in
    elim (either (nat_eq at root) (reaches pages (height_of node) node at) is) [
      | inl here ↦ subst (λ (y : ℕ). IsSome (pages y)) (sym (eqb-true at root here)) sound.there
      | inr below ↦ reached_there pages (height_of node) (root_place root) node at sound.tree below
    ]

pub page_once : (pages : PageMap) (root at : ℕ) → IsSoundTree pages root → IsWhole pages root
    → count_by (begins_at at) (nodes_of pages root) ≡ one_if (is_some (pages at))
page_once pages root at sound whole =
    node_once pages root at sound
    ∙ ap one_if (same_tests (is_node pages root at) (is_some (pages at)) (node_there pages root at sound) (whole at))
