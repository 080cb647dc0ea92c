-- The marks of a sound tree: at most the node's `mirror`, and at least each id at their key.
use Rattle.std.proofs.Common.{◌≡◌, ℕ, zero, suc, ◌≤◌, List, [], ◌∷◌, sym, ap, subst, arith}
use Rattle.std.specs.List.{AllByRecursion}
use Rattle.std.specs.List.Sorted.{IsStrictlySortedBy}
use Rattle.std.proofs.lemmas.List.Elements.{recursion_from_All}
use Rattle.hm_types.specs.Elements.{Key}
use Rattle.hm_fields.specs.Pages.{PageMap}
use Rattle.hm_key.specs.Elements.{element_key}
use Rattle.hm_key.specs.Marks.{IsMarked}
use Rattle.hm_key.specs.declared.base.Base.{Base}
use Rattle.hm_key.specs.declared.element.Element.{Element}
use Rattle.hm_node.specs.Base.{base_cmp}
use Rattle.hm_node.specs.Leaf.{IsUpTo}
use Rattle.hm_node.specs.declared.inner.Child.{Child}
use Rattle.hm_node.specs.declared.node.Node.{Node}
use Rattle.hm_node.specs.declared.node.Node.TheVariants.{Leaf, Inner as inner_node}
use Rattle.hm_search.specs.Place.{IsInside, mirror_of}
use Rattle.hm_search.specs.Tree.{node_at, elements_in, mark_in, at_holder, next_left, child_place, places_of, children_of, IsTree, IsStoredTree}
use Rattle.hm_search.specs.declared.subtree.Subtree.{Subtree}
use Rattle.hm_search.proofs.ChildLemmas.{bounds, later_sorted, at_holder_each, holder_first, holder_later}
use Rattle.hm_search.proofs.ContentLemmas.{AreInside, all_of, from_next_on, elements_inside}
use Rattle.hm_search.proofs.ListLemmas.{each_so, each_both, each_append}

-- the children of a node whose marks at a key are those that a function gives at their offsets
module _ (map : PageMap) (height : ℕ) (key : Key)
    (most : (s : Subtree) → IsStoredTree map height s → mark_in map height (node_at map s.at) key ≤ mirror_of (node_at map s.at)) (level : ℕ)
    (right : Base) where
  children_most : (mirror : ℕ) (cs : List Child) → AllByRecursion (IsStoredTree map height) (places_of level right cs)
      → AllByRecursion (λ c. c.mirror ≤ mirror) cs
      → AllByRecursion (λ c. mark_in map height (node_at map c.child) key ≤ mirror) cs
  children_most mirror [] each up = tt
  children_most mirror (c ∷ cs) each up =
      let here = most (child_place level (next_left right cs) c) each.0 in
      let same = each.0.tree.fits.mirror in
      (omega (arith, here, same, up.0), children_most mirror cs each.1 up.1)

-- no mark below a node of a sound tree is above its `mirror`
pub mark_most : (map : PageMap) (key : Key) (height : ℕ) (s : Subtree) (node : Node) → IsTree map height s node → mark_in map height node key ≤ mirror_of node
mark_most map key zero s (Leaf leaf) tree = omega arith
mark_most map key zero s (inner_node inner) tree = omega arith
mark_most map key (suc height) s (Leaf leaf) tree = absurd tree.below
mark_most map key (suc height) s (inner_node inner) tree =
    at_holder_each (λ c. mark_in map height (node_at map c.child) key) inner.mirror key inner.places.items
    (children_most map height key (λ c stored. mark_most map key height c (node_at map c.at) stored.tree) inner.level inner.right inner.mirror
    inner.places.items tree.below
    (recursion_from_All (λ c. c.mirror ≤ inner.mirror) inner.places.items tree.sound.mirror))

-- the elements of children, marked as their children mark them
module _ (els : ℕ → List Element) (mark : ℕ → Key → ℕ) (level : ℕ) (right : Base) where
  abbrev pub mark_of_all : List Child → Key → ℕ
  mark_of_all cs key = at_holder (λ (c : Child). mark c.child key) key cs

  first_marked : (c : Child) (cs : List Child) (e : Element) → IsInside c.left (next_left right cs) (element_key e) × IsMarked (mark c.child) e
      → IsMarked (mark_of_all (c ∷ cs)) e
  first_marked c cs e (inside, marked) =
      let same : mark_of_all (c ∷ cs) (element_key e) ≡ mark c.child (element_key e) =
      ap (λ (d : Child). mark d.child (element_key e)) (holder_first (element_key e) right c cs inside.before) in
      record { create = subst (λ (n : ℕ). e.base.create ≤ n) (sym same) marked.create; delete = subst (λ (n : ℕ). e.base.delete ≤ n) (sym same) marked.delete }

  later_marked : (c d : Child) (ds : List Child) (e : Element) → IsInside d.left right (element_key e) × IsMarked (mark_of_all (d ∷ ds)) e
      → IsMarked (mark_of_all (c ∷ d ∷ ds)) e
  later_marked c d ds e (inside, marked) =
      let same : mark_of_all (c ∷ d ∷ ds) (element_key e) ≡ mark_of_all (d ∷ ds) (element_key e) =
      ap (λ (x : Child). mark x.child (element_key e)) (holder_later (element_key e) c d ds inside.from) in
      record { create = subst (λ (n : ℕ). e.base.create ≤ n) (sym same) marked.create; delete = subst (λ (n : ℕ). e.base.delete ≤ n) (sym same) marked.delete }

  pub marked_children : (cs : List Child) → IsStrictlySortedBy base_cmp (bounds right cs)
      → AllByRecursion (λ s. AreInside s.left s.right (els s.at)) (places_of level right cs)
      → AllByRecursion (λ s. AllByRecursion (IsMarked (mark s.at)) (els s.at)) (places_of level right cs)
      → AllByRecursion (IsMarked (mark_of_all cs)) (all_of els level right cs)
  marked_children [] sorted inside marked = tt
  marked_children (c ∷ cs) sorted inside marked =
      each_append (IsMarked (mark_of_all (c ∷ cs))) (els c.child) (all_of els level right cs)
      (each_so (λ e. IsInside c.left (next_left right cs) (element_key e) × IsMarked (mark c.child) e) (IsMarked (mark_of_all (c ∷ cs))) (els c.child)
      (first_marked c cs)
      (each_both (λ e. IsInside c.left (next_left right cs) (element_key e)) (IsMarked (mark c.child)) (els c.child) inside.0 marked.0))
      (later cs (from_next_on els level right cs (later_sorted right c cs sorted) inside.1)
      (marked_children cs (later_sorted right c cs sorted) inside.1 marked.1)) where
        later : (ds : List Child) → AreInside (next_left right ds) right (all_of els level right ds)
            → AllByRecursion (IsMarked (mark_of_all ds)) (all_of els level right ds)
            → AllByRecursion (IsMarked (mark_of_all (c ∷ ds))) (all_of els level right ds)
        later [] inside marked = tt
        later (d ∷ ds) inside marked =
            each_so (λ e. IsInside d.left right (element_key e) × IsMarked (mark_of_all (d ∷ ds)) e) (IsMarked (mark_of_all (c ∷ d ∷ ds)))
            (all_of els level right (d ∷ ds)) (later_marked c d ds)
            (each_both (λ e. IsInside d.left right (element_key e)) (IsMarked (mark_of_all (d ∷ ds))) (all_of els level right (d ∷ ds)) inside marked)

-- the mark at the key of each element of a sound tree is at least the element's two ids
pub elements_marked : (map : PageMap) (height : ℕ) (s : Subtree) (node : Node) → IsTree map height s node
    → AllByRecursion (IsMarked (mark_in map height node)) (elements_in map height node)
elements_marked map zero s (Leaf leaf) tree =
    each_so (IsUpTo leaf.mirror) (IsMarked (mark_in map zero (Leaf leaf))) leaf.places.items (λ e up. record { create = up.create; delete = up.delete })
    (recursion_from_All (IsUpTo leaf.mirror) leaf.places.items tree.sound.mirror)
elements_marked map zero s (inner_node inner) tree = tt
elements_marked map (suc height) s (Leaf leaf) tree = absurd tree.below
elements_marked map (suc height) s (inner_node inner) tree =
    marked_children (λ at. elements_in map height (node_at map at))
    (λ at. mark_in map height (node_at map at)) inner.level inner.right inner.places.items tree.sound.order
    (each_so (IsStoredTree map height) (λ c. AreInside c.left c.right (elements_in map height (node_at map c.at))) (children_of inner)
    (λ c stored. elements_inside map height c (node_at map c.at) stored.tree) tree.below)
    (each_so (IsStoredTree map height) (λ c. AllByRecursion (IsMarked (mark_in map height (node_at map c.at))) (elements_in map height (node_at map c.at)))
    (children_of inner)
    (λ c stored. elements_marked map height c (node_at map c.at) stored.tree) tree.below)
