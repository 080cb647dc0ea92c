-- Trees that come into a map of pages.
use Rattle.std.proofs.Common.{◌≡◌, ◌⊎◌, ℕ, zero, suc, ◌+◌, ◌-◌, ◌<◌, ◌≤◌, Bool, true, true≢false, ◌||◌, List, [], ◌∷◌, length, Option, Some, None}
use Rattle.std.proofs.Common.{IsSome, slice_get, inl, inr, refl, sym, ap, subst, ◌∙◌, eq-eqb, nat_eq, arith}
use Rattle.std.specs.List.{AllByRecursion, list_any}
use Rattle.std.proofs.lemmas.List.Elements.{recursion_from_All}
use Rattle.std.proofs.lemmas.Bool.{cases_lt}
use Rattle.std.proofs.lemmas.Option.{slice_get_within}
use Rattle.hm_fields.specs.Pages.{PageMap, page_in}
use Rattle.hm_node.specs.Inner.{IsChild, IsNodeOffset}
use Rattle.hm_node.specs.Node.{node_in, IsNode, Spells}
use Rattle.hm_node.specs.declared.inner.Inner.{Inner}
use Rattle.hm_node.specs.declared.leaf.Leaf.{Leaf}
use Rattle.hm_node.specs.declared.node.Node.{Node}
use Rattle.hm_node.specs.declared.node.Node.TheVariants.{Leaf as leaf_node, Inner as inner_node}
use Rattle.hm_btree.specs.Space.{IsSpot}
use Rattle.hm_search.specs.Place.{FitsLevel}
use Rattle.hm_search.specs.Reach.{is_under, IsSameBelow}
use Rattle.hm_search.specs.Tree.{elements_in, node_at, height_of, children_of, IsTree, IsStoredTree, Reaches, reaches}
use Rattle.hm_search.specs.declared.subtree.Subtree.{Subtree}
use Rattle.hm_search.proofs.ChildLemmas.{place_is}
use Rattle.hm_search.proofs.FrameLemmas.{frame_elements, frame_reaches, frame_stored}
use Rattle.hm_search.proofs.ListLemmas.{each_get}
use Rattle.hm_search.proofs.ReachLemmas.{one_under, or_left, or_right}
use Rattle.hm_load.specs.Damage.{elements_at}
use Rattle.hm_load.specs.Tree.{Adds, AddsNode, AddsTree, AddsChildren, HasTreeAt, IsUnder, IsUnderFirst}
use Rattle.hm_load.proofs.StoreLemmas.{set_here, put_adds}

-- what holds of a list's elements by their places holds of each
pub each_of : {A : Type 0} (P : A → Type 0) (xs : List A) → ((i : ℕ) (x : A) → slice_get xs i ≡ Some x → P x) → AllByRecursion P xs
each_of P [] at = tt
each_of P (x ∷ xs) at = (at 0 x refl, each_of P xs (λ i y is. at (suc i) y is))

-- a test that an element passes
any_at : {A : Type 0} (f : A → Bool) (xs : List A) (i : ℕ) (x : A) → slice_get xs i ≡ Some x → f x ≡ true → list_any f xs ≡ true
any_at f [] i x is passes = absurd cc
any_at f (y ∷ xs) zero x is passes = let same : y ≡ x = cc in or_left (f y) (list_any f xs) (ap f same ∙ passes)
any_at f (y ∷ xs) (suc i) x is passes = or_right (f y) (list_any f xs) (any_at f xs i x is passes)

-- each page that a sound tree reaches is there
pub reached_there : (map : PageMap) (height : ℕ) (s : Subtree) (node : Node) (x : ℕ) → IsTree map height s node → Reaches map height node x → IsSome (map x)
reached_there map zero s (leaf_node leaf) x tree is = absurd (true≢false (sym is))
reached_there map zero s (inner_node inner) x tree is = absurd (true≢false (sym is))
reached_there map (suc height) s (leaf_node leaf) x tree is = absurd tree.below
reached_there map (suc height) s (inner_node inner) x tree is =
    let one = one_under map height (IsStoredTree map height) x inner.level inner.right inner.places.items tree.below is in
    elim one.under [
      | inl here ↦ subst (λ (a : ℕ). IsSome (map a)) here one.fact.there
      | inr below ↦ reached_there map height one.place (node_at map one.place.at) x one.fact.tree below
    ]

-- the pages of a map stay in another one
abbrev pub Keeps : PageMap → PageMap → Type 0
Keeps old new = (at : ℕ) (bytes : List ℕ) → old at ≡ Some bytes → new at ≡ Some bytes

pub same_there : (old new : PageMap) (x : ℕ) → Keeps old new → IsSome (old x) → new x ≡ old x
same_there old new x keeps there = go (old x) refl there where
  go : (o : Option (List ℕ)) → old x ≡ o → IsSome o → new x ≡ old x
  go None is there = absurd (true≢false (sym there))
  go (Some bytes) is there = keeps x bytes is ∙ sym is

-- so does a tree, and what is under its place
module _ (old new : PageMap) (s : Subtree) (keeps : Keeps old new) (tree : HasTreeAt old s) where
  pub same_node : node_at new s.at ≡ node_at old s.at
  same_node = ap (λ (o : Option (List ℕ)). node_in (page_in o)) (same_there old new s.at keeps tree.there)

  pub same_below : IsSameBelow old new (height_of (node_at old s.at)) (node_at old s.at)
  same_below = record { same = λ x is. same_there old new x keeps (reached_there old (height_of (node_at old s.at)) s (node_at old s.at) x tree.tree is) }

  pub tree_kept : HasTreeAt new s
  tree_kept =
      subst (λ (n : Node). IsStoredTree new (height_of n) s) (sym same_node)
      (frame_stored old new (height_of (node_at old s.at)) s (same_there old new s.at keeps tree.there) same_below tree)

  pub under_kept : (x : ℕ) → IsUnder old s x → IsUnder new s x
  under_kept x (inl here) = inl here
  under_kept x (inr below) =
      inr (subst (λ (n : Node). Reaches new (height_of n) n x) (sym same_node)
      (frame_reaches old new x (height_of (node_at old s.at)) (node_at old s.at) same_below ∙ below))

  pub elements_kept : elements_at new s ≡ elements_at old s
  elements_kept =
      ap (λ (n : Node). elements_in new (height_of n) n) same_node
      ∙ frame_elements old new (height_of (node_at old s.at)) (node_at old s.at) same_below

-- a tree from the node in a page on
stored_of : (map : PageMap) (s : Subtree) (page : List ℕ) (node : Node) → map s.at ≡ Some page → Spells page node → IsTree map (height_of node) s node
    → HasTreeAt map s
stored_of map s page node here spelled tree =
    let is_page : page_in (map s.at) ≡ page = ap page_in here in
    let is_node : node_at map s.at ≡ node = ap node_in is_page ∙ spelled.value in
    record {
      there = rw here refl;
      spelled = subst (λ (n : Node). Spells (page_in (map s.at)) n) (sym is_node) (subst (λ (p : List ℕ). Spells p node) (sym is_page) spelled);
      tree = subst (λ (n : Node). IsTree map (height_of n) s n) (sym is_node) tree;
    }

-- the page of a node is there once it came
pub node_here : (s : Subtree) (node : Node) (old new : PageMap) → (adds : AddsNode s node old new) → new s.at ≡ Some adds.page
node_here s node old new adds = ap (λ (map : PageMap). map s.at) adds.put ∙ set_here s.at (Some adds.page) old

-- and it is the only page that came
pub node_pages : (s : Subtree) (node : Node) (old new : PageMap) → AddsNode s node old new → Adds (λ x. x ≡ s.at) old new
node_pages s node old new adds = put_adds s.at adds.page old new adds.free adds.put adds.spot

-- a leaf is a tree
pub leaf_added : (s : Subtree) (leaf : Leaf) (old new : PageMap) → AddsNode s (leaf_node leaf) old new → AddsTree s old new
leaf_added s leaf old new adds =
    let pages = node_pages s (leaf_node leaf) old new adds in
    record {
      tree = stored_of new s adds.page (leaf_node leaf) (node_here s (leaf_node leaf) old new adds) adds.spelled
          (record { sound = adds.sound; level = omega arith; fits = adds.fits; below = tt });
      pages = record {
        kept = pages.kept;
        added = λ x there. elim (pages.added x there) [ inl was ↦ inl was | inr here ↦ inr (inl here) ];
        spots = pages.spots;
      };
    }

-- no child came yet
pub no_children : (inner : Inner) (map : PageMap) → AddsChildren inner 0 map map
no_children inner map = record {
  trees = λ i child low is. absurd (omega arith);
  pages = record { kept = λ at bytes is. is; added = λ at there. inl there; spots = λ at there. inl there };
}

-- one child more
module _ (inner : Inner) (count : ℕ) (child : Subtree) (start old new : PageMap) (is : slice_get (children_of inner) count ≡ Some child)
    (first : AddsChildren inner count start old) (tree : AddsTree child old new) where
  trees_more : (i : ℕ) (s : Subtree) → i < count + 1 → slice_get (children_of inner) i ≡ Some s → HasTreeAt new s
  trees_more i s low at =
      elim (cases_lt i count) [
        | inl below ↦ tree_kept old new s tree.pages.kept (first.trees i s below at)
        | inr from ↦
            let last : i ≡ count = omega arith in
            let here : slice_get (children_of inner) count ≡ Some s = subst (λ (k : ℕ). slice_get (children_of inner) k ≡ Some s) last at in
            let same : child ≡ s = cc in
            subst (λ (c : Subtree). HasTreeAt new c) same tree.tree
      ]

  added_more : (x : ℕ) → IsSome (new x) → IsSome (start x) ⊎ IsUnderFirst new inner (count + 1) x
  added_more x there =
      elim (tree.pages.added x there) [
        | inl was ↦ elim (first.pages.added x was) [
          | inl begun ↦ inl begun
          | inr under ↦ inr (record {
            i = under.i;
            low = omega (arith, under.low);
            child = under.child;
            is = under.is;
            under = under_kept old new under.child tree.pages.kept (first.trees under.i under.child under.low under.is) x under.under;
          })
        ]
        | inr here ↦ inr (record { i = count; low = omega arith; child = child; is = is; under = here })
      ]

  spots_more : (x : ℕ) → IsSome (new x) → IsSome (start x) ⊎ IsSpot x
  spots_more x there = elim (tree.pages.spots x there) [ inl was ↦ first.pages.spots x was | inr spot ↦ inr spot ]

  pub children_more : AddsChildren inner (count + 1) start new
  children_more = record {
    trees = trees_more;
    pages = record { kept = λ at bytes was. tree.pages.kept at bytes (first.pages.kept at bytes was); added = added_more; spots = spots_more };
  }

-- the height of a child
pub child_height : (map : PageMap) (inner : Inner) (i : ℕ) (s : Subtree) → slice_get (children_of inner) i ≡ Some s → HasTreeAt map s
    → height_of (node_at map s.at) ≡ inner.level - 2
child_height map inner i s is tree =
    let at = place_is inner.level inner.right inner.places.items i s is in
    let level = subst (λ (p : Subtree). FitsLevel p.parent (node_at map s.at)) at.place tree.tree.fits.level in
    omega (arith, level)

-- a child stands where a node may
pub child_offset : (inner : Inner) (i : ℕ) (s : Subtree) → IsNode (inner_node inner) → slice_get (children_of inner) i ≡ Some s → IsNodeOffset s.at
child_offset inner i s sound is =
    let at = place_is inner.level inner.right inner.places.items i s is in
    let fact = each_get IsChild inner.places.items i at.child at.is (recursion_from_All IsChild inner.places.items sound.fields.children) in
    subst (λ (p : Subtree). IsNodeOffset p.at) (sym at.place) fact.child

-- an inner node with all its children is a tree
module _ (s : Subtree) (inner : Inner) (old start new : PageMap) (node : AddsNode s (inner_node inner) old start)
    (count : ℕ) (whole : length inner.places.items ≤ count) (all : AddsChildren inner count start new) where
  height : ℕ
  height = inner.level - 2

  each : AllByRecursion (IsStoredTree new height) (children_of inner)
  unfolding height
  each = each_of (IsStoredTree new height) (children_of inner) (λ i c is.
      let at = place_is inner.level inner.right inner.places.items i c is in
      let low = slice_get_within inner.places.items i at.child at.is in
      let tree = all.trees i c (omega (arith, low, whole)) is in
      subst (λ (h : ℕ). IsStoredTree new h c) (child_height new inner i c is tree) tree)

  level_is : suc height ≡ height_of (inner_node inner)
  unfolding height
  level_is = let low = node.sound.level.0 in omega arith

  tree_here : IsTree new (height_of (inner_node inner)) s (inner_node inner)
  tree_here = subst (λ (h : ℕ). IsTree new h s (inner_node inner)) level_is
      (record { sound = node.sound; level = omega (arith, level_is, node.sound.level.0); fits = node.fits; below = each })

  here : new s.at ≡ Some node.page
  here = all.pages.kept s.at node.page (node_here s (inner_node inner) old start node)

  reached : (x : ℕ) → IsUnderFirst new inner count x → Reaches new (height_of (node_at new s.at)) (node_at new s.at) x
  unfolding height
  reached x under =
      let at = place_is inner.level inner.right inner.places.items under.i under.child under.is in
      let tree = all.trees under.i under.child under.low under.is in
      let same : under.child.at ≡ at.child.child = ap (λ (p : Subtree). p.at) at.place in
      let is_node : node_at new s.at ≡ inner_node inner = ap (λ (o : Option (List ℕ)). node_in (page_in o)) here ∙ node.spelled.value in
      let one : is_under new height x at.child ≡ true = subst (λ (a : ℕ). (nat_eq a x || reaches new height (node_at new a) x) ≡ true) same
      (elim under.under [
        | inl is ↦ or_left (nat_eq under.child.at x) (reaches new height (node_at new under.child.at) x) (eq-eqb under.child.at x (sym is))
        | inr below ↦ or_right (nat_eq under.child.at x) (reaches new height (node_at new under.child.at) x)
            (subst (λ (h : ℕ). Reaches new h (node_at new under.child.at) x) (child_height new inner under.i under.child under.is tree) below)
      ]) in
      let any : Reaches new (suc height) (inner_node inner) x = any_at (is_under new height x) inner.places.items under.i at.child at.is one in
      subst (λ (n : Node). Reaches new (height_of n) n x) (sym is_node) (subst (λ (h : ℕ). Reaches new h (inner_node inner) x) level_is any)

  pub inner_added : AddsTree s old new
  inner_added =
      let first = node_pages s (inner_node inner) old start node in
      record {
        tree = stored_of new s node.page (inner_node inner) here node.spelled tree_here;
        pages = record {
          kept = λ at bytes was. all.pages.kept at bytes (first.kept at bytes was);
          added = λ x there. elim (all.pages.added x there) [
            | inl was ↦ elim (first.added x was) [ inl begun ↦ inl begun | inr is ↦ inr (inl is) ]
            | inr under ↦ inr (inr (reached x under))
          ];
          spots = λ x there. elim (all.pages.spots x there) [ inl was ↦ first.spots x was | inr spot ↦ inr spot ];
        };
      }
