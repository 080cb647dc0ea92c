-- The rules of a page that says that it holds a leaf.
use Rattle.std.proofs.Common.{◌≡◌, ℕ, ◌≤◌, List, length, map, refl, sym, ap, subst, ◌∙◌, ◌↔◌, arith}
use Rattle.std.specs.Prelude.{All}
use Rattle.std.specs.List.Sorted.{IsStrictlySortedBy}
use Rattle.hm_types.specs.declared.limits.TheConstants.{MOST_LEAF_ELEMENTS}
use Rattle.hm_key.specs.declared.element.Element.{Element}
use Rattle.hm_node.specs.Base.{base_in, base_cmp}
use Rattle.hm_node.specs.Head.{head_in}
use Rattle.hm_node.specs.Places.{place, bases_in, IsZeroOutside}
use Rattle.hm_node.specs.Leaf.{element_in, first_elements, leaf_in, IsPlaced, IsUpTo, ArePlaces}
use Rattle.hm_node.specs.Node.{node_in, HasLevel, HasCount, HasOrder, HasFields, HasMirror, SaysLevel, HasZeros}
use Rattle.hm_node.specs.Damage.{Keeps}
use Rattle.hm_node.specs.declared.head.Head.{Head}
use Rattle.hm_node.specs.declared.head.TheConstants.{LEAF, LEAF_LEVEL}
use Rattle.hm_node.specs.declared.node.Node.{Node}
use Rattle.hm_node.specs.declared.node.Node.TheVariants.{Leaf}
use Rattle.hm_node.specs.declared.rule.Rule.TheVariants.{Level, Count, Order, Fields, Mirror}
use Rattle.hm_node.proofs.FieldLemmas.{element_base}
use Rattle.hm_node.proofs.PlaceLemmas.{first_length, first_map, first_same, first_all, all_first, sorted_map, map_sorted}

-- the bases of the elements
bases_of_elements : (page : List ℕ) (n : ℕ) → map (λ (e : Element). e.base) (first_elements page n) ≡ bases_in page n
bases_of_elements page n =
    first_map (λ (e : Element). e.base) (λ i. element_in page (place i)) n
    ∙ first_same (λ i. (element_in page (place i)).base) (λ i. base_in page (place i)) n (λ i low. element_base page (place i))

-- what the head of a leaf says: it has so many elements, and this `mirror`
pub record LeafHead (page : List ℕ) (n mirror : ℕ) : Type 0 where
  pub kind : (head_in page).kind ≡ LEAF
  pub level : (head_in page).level ≡ LEAF_LEVEL
  pub count : n ≡ (head_in page).count
  pub latest : mirror ≡ (head_in page).mirror

pub leaf_head : (page : List ℕ) (head : Head) (n : ℕ) → head ≡ head_in page → head.kind ≡ LEAF → head.level ≡ LEAF_LEVEL → n ≡ head.count
    → LeafHead page n head.mirror
leaf_head page head n is kind level count = record {
  kind = ap (λ (h : Head). h.kind) (sym is) ∙ kind;
  level = ap (λ (h : Head). h.level) (sym is) ∙ level;
  count = count ∙ ap (λ (h : Head). h.count) is;
  latest = ap (λ (h : Head). h.mirror) is;
}

module _ {page : List ℕ} {n mirror : ℕ} (h : LeafHead page n mirror) where
  leaf_here : node_in page ≡ Leaf (leaf_in page)
  leaf_here = rw h.kind refl

  -- what holds of the leaf holds of the node
  of_leaf : (P : Node → Type 0) → P (Leaf (leaf_in page)) → P (node_in page)
  of_leaf P = subst P (sym leaf_here)

  to_leaf : (P : Node → Type 0) → P (node_in page) → P (Leaf (leaf_in page))
  to_leaf P = subst P leaf_here

  size : length (first_elements page (head_in page).count) ≡ n
  size = first_length (λ i. element_in page (place i)) (head_in page).count ∙ sym h.count

  pub leaf_level : Keeps page Level
  leaf_level = (of_leaf (SaysLevel page) (record { kind = h.kind; level = h.level }), of_leaf HasLevel tt)

  pub leaf_count : (n ≤ MOST_LEAF_ELEMENTS) ↔ Keeps page Count
  leaf_count =
      let all = size in
      (λ few. of_leaf HasCount (omega arith), λ kept. let few = to_leaf HasCount kept in omega arith)

  pub leaf_order : IsStrictlySortedBy base_cmp (bases_in page n) ↔ Keeps page Order
  leaf_order =
      let same = bases_of_elements page (head_in page).count ∙ ap (bases_in page) (sym h.count) in (
        λ rising. of_leaf HasOrder (map_sorted base_cmp (λ (e : Element). e.base) (first_elements page (head_in page).count)
            (subst (IsStrictlySortedBy base_cmp) (sym same) rising)),
        λ kept. subst (IsStrictlySortedBy base_cmp) same (sorted_map base_cmp (λ (e : Element). e.base) (first_elements page (head_in page).count)
            (to_leaf HasOrder kept)),
      )

  pub leaf_fields : (ArePlaces page n × IsZeroOutside page (place n)) ↔ Keeps page Fields
  leaf_fields =
      let all = size in
      let counted = h.count in (
        λ both. (
          of_leaf HasFields (first_all (λ i. element_in page (place i)) IsPlaced (head_in page).count (λ i low. (both.0 i (omega arith)).placed)),
          of_leaf (HasZeros page) (record {
            outside = rw all both.1;
            places = λ i low. (both.0 i (omega arith)).zero;
          }),
        ),
        λ kept.
            let fields = all_first (λ i. element_in page (place i)) IsPlaced (head_in page).count (to_leaf HasFields kept.0) in
            let zeros = to_leaf (HasZeros page) kept.1 in
            (λ i low. record { placed = fields i (omega arith); zero = zeros.places i (omega arith) }, rw (← all) zeros.outside),
      )

  pub leaf_mirror : (es : List Element) → es ≡ first_elements page n → All (IsUpTo mirror) es ↔ Keeps page Mirror
  leaf_mirror es read =
      let all : es ≡ first_elements page (head_in page).count = read ∙ ap (first_elements page) h.count in
      (λ each. of_leaf HasMirror (rw (← h.latest, ← all) each), λ kept. rw (h.latest, all) (to_leaf HasMirror kept))

  -- the leaf that was read
  pub leaf_read : (es : List Element) → es ≡ first_elements page n → record { mirror = mirror; places = record { items = es } } ≡ leaf_in page
  leaf_read es read = rw (read ∙ ap (first_elements page) h.count, h.latest) refl
