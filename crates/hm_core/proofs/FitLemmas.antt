-- The ids of the elements of a tree fit 8 bytes, since its nodes are bytes.
use Rattle.std.proofs.Common.{◌≡◌, Bool, true, false, ℕ, zero, suc, ◌+◌, ◌^◌, ◌<◌, eqb, Option, None, Some, List, [], ◌∷◌, map, refl, subst, arith}
use Rattle.std.specs.Prelude.{IsSome, IsSomeAnd, if◌then◌else◌}
use Rattle.std.specs.List.{All, AllByRecursion, Contains}
use Rattle.std.proofs.lemmas.List.Elements.{All-contains, All-from_recursion}
use Rattle.byteorder.specs.Numbers.{little_from-lt}
use Rattle.hm_types.specs.Elements.{FullElement}
use Rattle.hm_types.specs.Offset.{zone_of}
use Rattle.hm_types.specs.declared.zone.TheConstants.{TREE_ZONE}
use Rattle.hm_disk.specs.Crash.{Told}
use Rattle.hm_fields.specs.Fields.{AreBytes, get}
use Rattle.hm_fields.specs.Pages.{PageMap, page_in}
use Rattle.hm_key.specs.Elements.{element_key}
use Rattle.hm_key.specs.Key.{IsWide}
use Rattle.hm_key.specs.Versions.{IsBelow}
use Rattle.hm_key.specs.declared.element.Element.{Element}
use Rattle.hm_node.specs.Base.{base_in}
use Rattle.hm_node.specs.Head.{head_in}
use Rattle.hm_node.specs.Inner.{inner_in}
use Rattle.hm_node.specs.Leaf.{element_in, leaf_in}
use Rattle.hm_node.specs.Node.{node_in}
use Rattle.hm_node.specs.Places.{first, place}
use Rattle.hm_node.specs.declared.head.TheConstants.{LEAF}
use Rattle.hm_node.specs.declared.node.Node.{Node}
use Rattle.hm_node.specs.declared.node.Node.TheVariants.{Leaf, Inner as inner_node}
use Rattle.hm_search.specs.Tree.{IsStoredTree, IsTree, children_of, elements_in, elements_of, height_of, node_at, root_place}
use Rattle.hm_search.specs.declared.subtree.Subtree.{Subtree}
use Rattle.hm_search.proofs.ContentLemmas.{each_of_children}
use Rattle.hm_search.proofs.ListLemmas.{each_append, each_so}
use Rattle.hm_image.specs.Image.{full_of}
use Rattle.hm_stored.specs.Basis.{nodes}
use Rattle.hm_stored.specs.Heap.{Heap}
use Rattle.hm_stored.specs.Standing.{Holds, HoldsBy}
use Rattle.hm_core.specs.Told.{ArePages}

-- the fields of an element's key are as wide as those of a base, and the id that closed it fits 8 bytes
record IsLow (e : Element) : Type 0 where
  wide : IsWide (element_key e)
  delete : e.base.delete < 2 ^ 64

get_low : (page : List ℕ) (at : ℕ) → AreBytes page → get page at 8 < 2 ^ 64
unfolding get
get_low page at small = (let low = little_from-lt at 8 page (λ k. let byte = small k in omega (arith, byte)) in omega (arith, low))

get_mid : (page : List ℕ) (at : ℕ) → AreBytes page → get page at 4 < 2 ^ 32
unfolding get
get_mid page at small = (let low = little_from-lt at 4 page (λ k. let byte = small k in omega (arith, byte)) in omega (arith, low))

get_few : (page : List ℕ) (at : ℕ) → AreBytes page → get page at 2 < 2 ^ 16
unfolding get
get_few page at small = (let low = little_from-lt at 2 page (λ k. let byte = small k in omega (arith, byte)) in omega (arith, low))

element_low : (page : List ℕ) (at : ℕ) → AreBytes page → IsLow (element_in page at)
unfolding element_in base_in
element_low page at small = record {
  wide = record {
    localization = get_mid page (at + 36) small;
    obj = get_low page at small;
    rec_type = get_few page (at + 32) small;
    number = get_low page (at + 8) small;
    create = get_low page (at + 16) small;
  };
  delete = get_low page (at + 24) small;
}

first_low : (page : List ℕ) (n : ℕ) → AreBytes page → AllByRecursion IsLow (first (λ i. element_in page (place i)) n)
unfolding first
first_low page zero small = tt
first_low page (suc n) small = each_append IsLow (first (λ i. element_in page (place i)) n) (element_in page (place n) ∷ []) (first_low page n small)
    (element_low page (place n) small, tt)

-- the elements of a node that is a leaf
abbrev LowLeaf : Node → Type 0
LowLeaf (Leaf leaf) = AllByRecursion IsLow leaf.places.items
LowLeaf (inner_node inner) = Unit {0}

node_low : (page : List ℕ) → AreBytes page → LowLeaf (node_in page)
node_low page small = by (eqb (head_in page).kind LEAF) where
  by : (test : Bool) → LowLeaf (if test then Leaf (leaf_in page) else inner_node (inner_in page))
  by true = first_low page (head_in page).count small
  by false = tt

module _ (pages : PageMap) (bytes : (at : ℕ) (page : List ℕ) → pages at ≡ Some page → AreBytes page) where
  stored_low : (at : ℕ) → IsSome (pages at) → LowLeaf (node_at pages at)
  stored_low at there = by (pages at) refl there where
    by : (o : Option (List ℕ)) → pages at ≡ o → IsSome o → LowLeaf (node_in (page_in o))
    by None is there = absurd (cc)
    by (Some page) is there = node_low page (bytes at page is)

  tree_low : (height : ℕ) (s : Subtree) (node : Node) → IsTree pages height s node → LowLeaf node → AllByRecursion IsLow (elements_in pages height node)
  tree_low zero s (Leaf leaf) tree low = low
  tree_low zero s (inner_node inner) tree low = tt
  tree_low (suc height) s (Leaf leaf) tree low = absurd tree.below
  tree_low (suc height) s (inner_node inner) tree low =
      each_of_children (λ at. elements_in pages height (node_at pages at)) inner.level inner.right IsLow inner.places.items
      (each_so (IsStoredTree pages height) (λ c. AllByRecursion IsLow (elements_in pages height (node_at pages c.at))) (children_of inner)
      (λ c stored. tree_low height c (node_at pages c.at) stored.tree (stored_low c.at stored.there)) tree.below)

  elements_low : (root : ℕ) → IsStoredTree pages (height_of (node_at pages root)) (root_place root) → AllByRecursion IsLow (elements_of pages root)
  elements_low root stored = tree_low (height_of (node_at pages root)) (root_place root) (node_at pages root) stored.tree (stored_low root stored.there)

-- with their payloads
fulls_low : (image : List ℕ) (es : List Element) → AllByRecursion IsLow es
    → AllByRecursion (λ (x : FullElement). IsWide x.key × (x.delete < 2 ^ 64)) (map (full_of image) es)
fulls_low image [] low = tt
fulls_low image (e ∷ es) low = ((low.0.wide, low.0.delete), fulls_low image es low.1)

-- the ids of all that a space holds fit 8 bytes, where its pages are bytes
module _ (h : Heap) (root : ℕ) (pages : ArePages h) where
  node_bytes : (at : ℕ) (page : List ℕ) → nodes h.pages.current at ≡ Some page → AreBytes page
  node_bytes at page = by (eqb (zone_of at) TREE_ZONE) where
    by : (t : Bool) → (if t then h.pages.current at else None) ≡ Some page → AreBytes page
    by true is = pages at page is
    by false is = absurd (cc)

  abbrev Fits : FullElement → Type 0
  Fits x = IsWide x.key × (x.delete < 2 ^ 64)

  by_disk : (o : Option Told) (es : List FullElement) → IsSomeAnd o (λ t. HoldsBy h root t.bytes es) → (x : FullElement) → Contains es x → Fits x
  by_disk None es is = absurd is
  by_disk (Some t) es is =
      subst (λ (l : List FullElement). (x : FullElement) → Contains l x → Fits x) is.elements (λ x there. All-contains Fits held x each there) where
        held : List FullElement
        held = map (full_of t.bytes) (elements_of (nodes h.pages.current) root)

        each : All Fits held
        each = All-from_recursion Fits held (fulls_low t.bytes (elements_of (nodes h.pages.current) root)
            (elements_low (nodes h.pages.current) node_bytes root is.firm.tree.sound))

  pub held_fit : (es : List FullElement) → Holds h root es → IsBelow (2 ^ 64) es
  held_fit es holds = record {
    made = λ x there. (by_disk h.disk es holds x there).0.create;
    closed = λ x there. (by_disk h.disk es holds x there).1;
  }

  pub held_wide : (es : List FullElement) → Holds h root es → (x : FullElement) → Contains es x → IsWide x.key
  held_wide es holds x there = (by_disk h.disk es holds x there).0
