-- What a tree refers to: each node that it reaches, and nothing that depends on other pages.
use Rattle.std.proofs.Common.{◌≡◌, inl, inr, true, true≢false, ℕ, zero, suc, List, [], ◌∷◌, ◌++◌, refl, sym, ap, subst, ◌∙◌, nat_eq, eqb-true, arith}
use Rattle.std.specs.List.{All, Contains, flat_map, list_any}
use Rattle.std.proofs.lemmas.List.Concat.{flat_map-cons}
use Rattle.std.proofs.lemmas.List.Elements.{All-contains, All-contains_itself, All-weaker, Contains-append_left, Contains-append_right}
use Rattle.hm_types.specs.References.{Reference}
use Rattle.hm_fields.specs.Pages.{PageMap}
use Rattle.hm_node.specs.declared.inner.Child.{Child}
use Rattle.hm_node.specs.declared.node.Node.{Node}
use Rattle.hm_node.specs.declared.node.Node.TheVariants.{Leaf, Inner as inner_node}
use Rattle.hm_search.specs.Reach.{IsSameBelow, IsSameUnder, is_under}
use Rattle.hm_search.specs.Tree.{Reaches, node_at, reaches}
use Rattle.hm_search.proofs.FrameLemmas.{same_at_first, same_later, under_all}
use Rattle.hm_search.proofs.ReachLemmas.{either}
use Rattle.hm_image.specs.Image.{nodes_below, to_node}

-- ---- parts of lists

pub All-left : {X : Type 0} (P : X → Type 0) (xs ys : List X) → All P (xs ++ ys) → All P xs
All-left P xs ys all =
    All-weaker (Contains xs) P (λ x there. All-contains P (xs ++ ys) x all (Contains-append_left xs ys x there)) xs (All-contains_itself xs)

pub All-right : {X : Type 0} (P : X → Type 0) (xs ys : List X) → All P (xs ++ ys) → All P ys
All-right P xs ys all =
    All-weaker (Contains ys) P (λ x there. All-contains P (xs ++ ys) x all (Contains-append_right xs ys x there)) ys (All-contains_itself ys)

-- ---- a node that is reached is referred to

module _ (pages : PageMap) where
  -- a child and what is below it
  abbrev pub with_below : ℕ → Child → List Reference
  with_below height c = to_node c.child ∷ nodes_below pages height (node_at pages c.child)

  module _ (height x : ℕ) (deeper : (node : Node) → Reaches pages height node x → Contains (nodes_below pages height node) (to_node x)) where
    at_child : (c : Child) → is_under pages height x c ≡ true → Contains (with_below height c) (to_node x)
    at_child c is =
        elim (either (nat_eq c.child x) (reaches pages height (node_at pages c.child) x) is) [
          | inl here ↦ (0, omega arith, ap to_node (eqb-true c.child x here))
          | inr below ↦
              Contains-append_right (to_node c.child ∷ []) (nodes_below pages height (node_at pages c.child)) (to_node x) (deeper (node_at pages c.child) below)
        ]

    at_children : (cs : List Child) → list_any (is_under pages height x) cs ≡ true → Contains (flat_map (with_below height) cs) (to_node x)
    at_children [] is = absurd (true≢false (sym is))
    at_children (c ∷ cs) is =
        let both = sym (flat_map-cons (with_below height) c cs) in
        let rest = flat_map (with_below height) cs in
        subst (λ (rs : List Reference). Contains rs (to_node x)) both
        (elim (either (is_under pages height x c) (list_any (is_under pages height x) cs) is) [
          | inl here ↦ Contains-append_left (with_below height c) rest (to_node x) (at_child c here)
          | inr later ↦ Contains-append_right (with_below height c) rest (to_node x) (at_children cs later)
        ])

  pub reached_is_referred : (height : ℕ) (node : Node) (x : ℕ) → Reaches pages height node x → Contains (nodes_below pages height node) (to_node x)
  reached_is_referred zero (Leaf leaf) x is = absurd (true≢false (sym is))
  reached_is_referred zero (inner_node inner) x is = absurd (true≢false (sym is))
  reached_is_referred (suc height) (Leaf leaf) x is = absurd (true≢false (sym is))
  reached_is_referred (suc height) (inner_node inner) x is =
      at_children height x (λ node below. reached_is_referred height node x below) inner.places.items is

-- ---- pages that are not reached do not matter

pub same_nodes : (old new : PageMap) (height : ℕ) (node : Node) → IsSameBelow old new height node → nodes_below new height node ≡ nodes_below old height node
same_nodes old new zero (Leaf leaf) below = refl
same_nodes old new zero (inner_node inner) below = refl
same_nodes old new (suc height) (Leaf leaf) below = refl
same_nodes old new (suc height) (inner_node inner) below =
    each (λ node same. same_nodes old new height node same) inner.places.items (under_all old new height inner.places.items below.same) where
      each : ((node : Node) → IsSameBelow old new height node → nodes_below new height node ≡ nodes_below old height node)
          → (cs : List Child) → IsSameUnder old new height cs → flat_map (with_below new height) cs ≡ flat_map (with_below old height) cs
      each same [] under = refl
      each same (c ∷ cs) under =
          let here : nodes_below new height (node_at new c.child) ≡ nodes_below old height (node_at old c.child) =
          same_at_first old new height (λ pages. nodes_below pages height) same c cs under in
          let later = each same cs (same_later old new height c cs under) in
          flat_map-cons (with_below new height) c cs ∙ rw (here, later) refl ∙ sym (flat_map-cons (with_below old height) c cs)
