-- How often a tree refers to an extent: by a node that takes it, and by each element whose payload does.
use Rattle.std.proofs.Common.{◌≡◌, Bool, true, false, ℕ, zero, suc, ◌+◌, List, [], ◌∷◌, Option, Some, None}
use Rattle.std.proofs.Common.{refl, sym, ap, subst, ◌∙◌, arith, nat_eq, eqb-true, map, ◌&&◌}
use Rattle.std.specs.Prelude.{if◌then◌else◌, IsSomeAnd, count_by}
use Rattle.std.specs.List.{AllByRecursion, flat_map}
use Rattle.std.proofs.lemmas.List.Concat.{flat_map-cons}
use Rattle.std.proofs.lemmas.List.Elements.{recursion_from_All}
use Rattle.hm_types.specs.References.{Reference}
use Rattle.hm_types.specs.Space.{rounded}
use Rattle.hm_types.specs.declared.limits.TheConstants.{PAGE_BYTES}
use Rattle.hm_fields.specs.Pages.{PageMap}
use Rattle.hm_freemap.specs.Extents.{is_extent, reference}
use Rattle.hm_freemap.proofs.CountLemmas.{count-append}
use Rattle.hm_key.specs.Balance.{IsBalanced, IsHeld, references}
use Rattle.hm_key.specs.Extents.{Extent, extent_at}
use Rattle.hm_key.specs.declared.element.Element.{Element}
use Rattle.hm_key.proofs.BalanceLemmas.{extent_each, refer_to}
use Rattle.hm_node.specs.declared.inner.Child.{Child}
use Rattle.hm_node.specs.declared.node.Node.{Node}
use Rattle.hm_node.specs.declared.node.Node.TheVariants.{Leaf, Inner as inner_node}
use Rattle.hm_search.specs.Tree.{IsSoundTree, elements_of, height_of, node_at}
use Rattle.hm_search.proofs.ListLemmas.{each_append, each_so}
use Rattle.hm_image.specs.Image.{nodes_below, references_from, to_payload}
use Rattle.hm_image.specs.Referred.{begins_at, is_node, is_node_extent, nodes_of, one_if, references_of, takes_extent}
use Rattle.hm_image.proofs.CountLemmas.{count_alike, count_map, count_none, nat_turned}
use Rattle.hm_image.proofs.NodeCountLemmas.{node_once}
use Rattle.hm_image.proofs.ReferenceLemmas.{with_below}

-- ---- a node takes a page

abbrev IsPage : Reference → Type 0
IsPage r = r.len ≡ PAGE_BYTES

module _ (pages : PageMap) where
  abbrev AllPages : ℕ → Node → Type 0
  AllPages height node = AllByRecursion IsPage (nodes_below pages height node)

  pages_under : (height : ℕ) → ((node : Node) → AllPages height node) → (cs : List Child)
      → AllByRecursion IsPage (flat_map (with_below pages height) cs)
  pages_under height deeper [] = tt
  pages_under height deeper (c ∷ cs) =
      subst (AllByRecursion IsPage) (sym (flat_map-cons (with_below pages height) c cs))
      (each_append IsPage (with_below pages height c) (flat_map (with_below pages height) cs)
      (refl, deeper (node_at pages c.child)) (pages_under height deeper cs))

  pages_below : (height : ℕ) (node : Node) → AllPages height node
  pages_below zero (Leaf leaf) = tt
  pages_below zero (inner_node inner) = tt
  pages_below (suc height) (Leaf leaf) = tt
  pages_below (suc height) (inner_node inner) = pages_under height (λ node. pages_below height node) inner.places.items

and_last : (a b : Bool) → b ≡ true → (a && b) ≡ a
and_last true b is = is
and_last false b is = refl

and_none : (a b : Bool) → b ≡ false → (a && b) ≡ false
and_none true b is = is
and_none false b is = refl

module _ (at len : ℕ) where
  abbrev is_it : Reference → Bool
  is_it = is_extent (reference at len)

  -- the same test of the lengths, of a page
  page_test : (r : Reference) → IsPage r → nat_eq (rounded r.len) (rounded len) ≡ nat_eq (rounded len) PAGE_BYTES
  page_test r page = ap (λ (n : ℕ). nat_eq (rounded n) (rounded len)) page ∙ nat_turned PAGE_BYTES (rounded len)

  nodes_counted : (rs : List Reference) → AllByRecursion IsPage rs → (b : Bool) → nat_eq (rounded len) PAGE_BYTES ≡ b
      → count_by is_it rs ≡ (if b then count_by (begins_at at) rs else 0)
  nodes_counted rs pages true is =
      count_alike is_it (begins_at at) rs (each_so IsPage (λ r. is_it r ≡ begins_at at r) rs
      (λ r page. and_last (nat_eq r.at at) (nat_eq (rounded r.len) (rounded len)) (page_test r page ∙ is)) pages)
  nodes_counted rs pages false is =
      count_none is_it rs (each_so IsPage (λ r. is_it r ≡ false) rs
      (λ r page. and_none (nat_eq r.at at) (nat_eq (rounded r.len) (rounded len)) (page_test r page ∙ is)) pages)

  one_page : (node size : Bool) (count : ℕ) → count ≡ one_if node → (if size then count else 0) ≡ one_if (node && size)
  one_page true true count is = is
  one_page false true count is = is
  one_page true false count is = refl
  one_page false false count is = refl

  pub references_counted : (pages : PageMap) (root : ℕ) → IsSoundTree pages root
      → count_by is_it (references_from pages root) ≡ one_if (is_node_extent pages root at len) + count_by (takes_extent at len) (elements_of pages root)
  references_counted pages root sound =
      let nodes = nodes_of pages root in
      let payloads = map to_payload (elements_of pages root) in
      let all = pages_below pages (height_of (node_at pages root)) (node_at pages root) in
      let first = nodes_counted nodes (refl, all) (nat_eq (rounded len) PAGE_BYTES) refl
      ∙ one_page (is_node pages root at) (nat_eq (rounded len) PAGE_BYTES) (count_by (begins_at at) nodes) (node_once pages root at sound) in
      omega (arith, first, count-append is_it nodes payloads, count_map is_it to_payload (elements_of pages root))

  -- ---- elements that refer to an extent of a balanced list

  module _ (xs : List Extent) where
    elsewhere : (e : Element) → extent_at at xs ≡ None → IsHeld xs e → takes_extent at len e ≡ false
    elsewhere e none held = by_test (nat_eq e.payload at) refl where
      by_test : (b : Bool) → nat_eq e.payload at ≡ b → (b && nat_eq (rounded e.len) (rounded len)) ≡ false
      by_test false is = refl
      by_test true is =
          let there : extent_at e.payload xs ≡ None = ap (λ (y : ℕ). extent_at y xs) (eqb-true e.payload at is) ∙ none in
          absurd (subst (λ (o : Option Extent). IsSomeAnd o (λ x. x.len ≡ rounded e.len)) there held)

    -- what begins there has the length of the extent
    as_long : (x : Extent) (e : Element) → extent_at at xs ≡ Some x → IsHeld xs e
        → takes_extent at len e ≡ (nat_eq e.payload at && nat_eq x.len (rounded len))
    as_long x e some held = by_test (nat_eq e.payload at) refl where
      by_test : (b : Bool) → nat_eq e.payload at ≡ b → (b && nat_eq (rounded e.len) (rounded len)) ≡ (b && nat_eq x.len (rounded len))
      by_test false is = refl
      by_test true is =
          let there : extent_at e.payload xs ≡ Some x = ap (λ (y : ℕ). extent_at y xs) (eqb-true e.payload at is) ∙ some in
          let long : x.len ≡ rounded e.len = subst (λ (o : Option Extent). IsSomeAnd o (λ y. y.len ≡ rounded e.len)) there held in
          ap (λ (n : ℕ). nat_eq n (rounded len)) (sym long)

    counted_by : (es : List Element) → IsBalanced es xs → (o : Option Extent) → extent_at at xs ≡ o
        → count_by (takes_extent at len) es ≡ references_of len o
    counted_by es balanced None none =
        count_none (takes_extent at len) es
        (each_so (IsHeld xs) (λ e. takes_extent at len e ≡ false) es (λ e held. elsewhere e none held) (recursion_from_All (IsHeld xs) es balanced.held))
    counted_by es balanced (Some x) some =
        let found = extent_each (λ y. y.refs ≡ references es y) at x xs (recursion_from_All (λ y. y.refs ≡ references es y) xs balanced.counted) some in
        let refs : x.refs ≡ refer_to at es = found.0 ∙ ap (λ (y : ℕ). refer_to y es) found.1 in
        let same = each_so (IsHeld xs) (λ e. takes_extent at len e ≡ (nat_eq e.payload at && nat_eq x.len (rounded len))) es
        (λ e held. as_long x e some held) (recursion_from_All (IsHeld xs) es balanced.held) in
        count_alike (takes_extent at len) (λ e. nat_eq e.payload at && nat_eq x.len (rounded len)) es same ∙ by_size refs (nat_eq x.len (rounded len)) where
          by_size : x.refs ≡ refer_to at es → (b : Bool) → count_by (λ (e : Element). nat_eq e.payload at && b) es ≡ (if b then x.refs else 0)
          by_size refs true = count_alike (λ e. nat_eq e.payload at && true) (λ e. nat_eq e.payload at) es (each es) ∙ sym refs where
            each : (list : List Element) → AllByRecursion (λ e. (nat_eq e.payload at && true) ≡ nat_eq e.payload at) list
            each [] = tt
            each (e ∷ list) = (and_last (nat_eq e.payload at) true refl, each list)
          by_size refs false = count_none (λ e. nat_eq e.payload at && false) es (each es) where
            each : (list : List Element) → AllByRecursion (λ e. (nat_eq e.payload at && false) ≡ false) list
            each [] = tt
            each (e ∷ list) = (and_none (nat_eq e.payload at) false refl, each list)

    pub elements_counted : (es : List Element) → IsBalanced es xs → count_by (takes_extent at len) es ≡ references_of len (extent_at at xs)
    elements_counted es balanced = counted_by es balanced (extent_at at xs) refl
