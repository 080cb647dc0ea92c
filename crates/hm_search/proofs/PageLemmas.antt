-- What the head of a page and the bases in its places say of the node in it.
use Rattle.std.proofs.Common.{◌≡◌, ◌≢◌, false, ℕ, zero, suc, ◌-◌, ◌<◌, ◌≤◌, inl, inr, List, [], ◌∷◌, ◌++◌, length, refl, sym, ap, subst, ◌∙◌, ◌↔◌, arith}
use Rattle.std.proofs.Common.{ne_eqb}
use Rattle.std.specs.Prelude.{All, Some, nat_eq, slice_index_or}
use Rattle.std.specs.List.Sorted.{IsStrictlySortedBy}
use Rattle.std.specs.declared.cmp.Ordering.TheVariants.{Less}
use Rattle.std.proofs.lemmas.Bool.{cases_lt}
use Rattle.hm_types.specs.Elements.{Key}
use Rattle.hm_key.specs.Key.{key_of, IsBefore, IsFrom}
use Rattle.hm_key.specs.Elements.{element_key, element_cmp}
use Rattle.hm_key.specs.declared.base.Base.{Base}
use Rattle.hm_key.specs.declared.element.Element.{Element}
use Rattle.hm_key.proofs.KeyLemmas.{key_from_before, key_before_from}
use Rattle.hm_node.specs.Base.{base_in}
use Rattle.hm_node.specs.Head.{head_in}
use Rattle.hm_node.specs.Places.{place, first}
use Rattle.hm_node.specs.Leaf.{first_elements, element_in, leaf_in}
use Rattle.hm_node.specs.Inner.{first_children, child_in, inner_in}
use Rattle.hm_node.specs.Node.{node_in, HasCount, HasOrder}
use Rattle.hm_node.specs.declared.head.Head.{Head}
use Rattle.hm_node.specs.declared.head.TheConstants.{LEAF}
use Rattle.hm_node.specs.declared.inner.Child.{Child}
use Rattle.hm_node.specs.declared.node.Node.{Node}
use Rattle.hm_node.specs.declared.node.Node.TheVariants.{Leaf as leaf_node, Inner as inner_node}
use Rattle.hm_node.proofs.PlaceLemmas.{first_length, first_at, first_all, all_first}
use Rattle.hm_search.specs.Place.{FitsCount, FitsBounds, BeginsAt, IsInside}
use Rattle.hm_search.specs.declared.subtree.Parent.{Parent}
use Rattle.hm_search.proofs.ListLemmas.{sorted_pair}
use Rattle.hm_search.proofs.OrderLemmas.{from_trans}

-- the node in a page, by the kind in its head
pub leaf_here : (page : List ℕ) (head : Head) → head ≡ head_in page → head.kind ≡ LEAF → node_in page ≡ leaf_node (leaf_in page)
leaf_here page head is kind = let here : (head_in page).kind ≡ LEAF = ap (λ (h : Head). h.kind) (sym is) ∙ kind in rw here refl

pub inner_here : (page : List ℕ) (head : Head) → head ≡ head_in page → head.kind ≢ LEAF → node_in page ≡ inner_node (inner_in page)
inner_here page head is kind =
    let other : (head_in page).kind ≢ LEAF = λ same. kind (ap (λ (h : Head). h.kind) is ∙ same) in
    let test : nat_eq (head_in page).kind LEAF ≡ false = ne_eqb (head_in page).kind LEAF other in
    rw test refl

pub count_here : (page : List ℕ) (head : Head) → head ≡ head_in page → head.count ≡ (head_in page).count
count_here page head is = ap (λ (h : Head). h.count) is

-- how many places a node in a page has
pub leaf_count : (page : List ℕ) → length (first_elements page (head_in page).count) ≡ (head_in page).count
leaf_count page = first_length (λ i. element_in page (place i)) (head_in page).count

pub inner_count : (page : List ℕ) → length (first_children page (head_in page).count) ≡ (head_in page).count
inner_count page = first_length (λ i. child_in page (place i)) (head_in page).count

-- the count of a node below the root
pub leaf_fits_count : (page : List ℕ) (head : Head) (parent : Parent) → head ≡ head_in page → head.kind ≡ LEAF
    → (1 ≤ head.count) ↔ FitsCount (Some parent) (node_in page)
leaf_fits_count page head parent is kind =
    let here = leaf_here page head is kind in
    let counts : head.count ≡ length (first_elements page (head_in page).count) = count_here page head is ∙ sym (leaf_count page) in (
      λ some. subst (λ (n : Node). FitsCount (Some parent) n) (sym here) (subst (λ (n : ℕ). 1 ≤ n) counts some),
      λ fits. subst (λ (n : ℕ). 1 ≤ n) (sym counts) (subst (λ (n : Node). FitsCount (Some parent) n) here fits),
    )

pub inner_fits_count : (page : List ℕ) (head : Head) (parent : Parent) → head ≡ head_in page → head.kind ≢ LEAF
    → (16 ≤ head.count) ↔ FitsCount (Some parent) (node_in page)
inner_fits_count page head parent is kind =
    let here = inner_here page head is kind in
    let counts : head.count ≡ length (first_children page (head_in page).count) = count_here page head is ∙ sym (inner_count page) in (
      λ some. subst (λ (n : Node). FitsCount (Some parent) n) (sym here) (subst (λ (n : ℕ). 16 ≤ n) counts some),
      λ fits. subst (λ (n : ℕ). 16 ≤ n) (sym counts) (subst (λ (n : Node). FitsCount (Some parent) n) here fits),
    )

-- the elements in the places of a page, by their bases
pub inside_places : (left right : Base) (page : List ℕ) (n : ℕ) → ((k : ℕ) → k < n → IsInside left right (key_of (base_in page (place k))))
    → All (λ e. IsInside left right (element_key e)) (first_elements page n)
unfolding element_in
inside_places left right page n each = first_all (λ i. element_in page (place i)) (λ e. IsInside left right (element_key e)) n each

pub places_inside : (left right : Base) (page : List ℕ) (n : ℕ) → All (λ e. IsInside left right (element_key e)) (first_elements page n) → (k : ℕ) → k < n
    → IsInside left right (key_of (base_in page (place k)))
unfolding element_in
places_inside left right page n all = all_first (λ i. element_in page (place i)) (λ e. IsInside left right (element_key e)) n all

-- of elements in order, a later one stands after an earlier one
in_order : (page : List ℕ) (n i j : ℕ) → IsStrictlySortedBy element_cmp (first_elements page n) → i < j → j < n
    → IsBefore (key_of (base_in page (place i))) (key_of (base_in page (place j)))
unfolding element_in
in_order page n i j sorted low high =
    let f = λ (k : ℕ). element_in page (place k) in
    let d = f 0 in
    let pair = sorted_pair element_cmp (first_elements page n) i j d sorted low (omega (arith, first_length f n)) in
    subst (λ (x : Element). element_cmp x (f j) ≡ Less) (first_at f n i d (omega arith))
    (subst (λ (y : Element). element_cmp (slice_index_or (first_elements page n) i d) y ≡ Less) (first_at f n j d high) pair)

-- they lie inside boundaries where the first and the last do
pub ends_inside : (left right : Base) (page : List ℕ) (n : ℕ) → 1 ≤ n → IsStrictlySortedBy element_cmp (first_elements page n)
    → IsInside left right (key_of (base_in page (place 0))) → IsInside left right (key_of (base_in page (place (n - 1))))
    → All (λ e. IsInside left right (element_key e)) (first_elements page n)
ends_inside left right page n some sorted front last = inside_places left right page n each where
  key_at : ℕ → Key
  key_at k = key_of (base_in page (place k))

  from : (k : ℕ) → k < n → IsFrom (key_of left) (key_at k)
  from zero low = front.from
  from (suc k) low =
      from_trans (key_of left) (key_at 0) (key_at (suc k)) front.from
      (key_from_before (key_at 0) (key_at (suc k)) (in_order page n 0 (suc k) sorted (omega arith) low))

  before : (k : ℕ) → k < n → IsBefore (key_at k) (key_of right)
  before k low =
      elim (cases_lt k (n - 1)) [
        | inl earlier ↦ key_before_from (key_at k) (key_at (n - 1)) (key_of right) (in_order page n k (n - 1) sorted earlier (omega arith))
            (key_from_before (key_at (n - 1)) (key_of right) last.before)
        | inr end ↦ let is : k ≡ n - 1 = omega arith in subst (λ (i : ℕ). IsBefore (key_at i) (key_of right)) (sym is) last.before
      ]

  each : (k : ℕ) → k < n → IsInside left right (key_at k)
  each k low = record { from = from k low; before = before k low }

-- the order of the elements of a leaf
pub leaf_order : (page : List ℕ) (head : Head) (n : ℕ) → head ≡ head_in page → head.kind ≡ LEAF → n ≡ head.count → HasOrder (node_in page)
    → IsStrictlySortedBy element_cmp (first_elements page n)
leaf_order page head n is kind count order =
    subst (λ (k : ℕ). IsStrictlySortedBy element_cmp (first_elements page k)) (sym (count ∙ count_here page head is))
    (subst HasOrder (leaf_here page head is kind) order)

-- the first of so many children begins where the first base in the page does
begins_first : (left : Base) (page : List ℕ) (n : ℕ) → 1 ≤ n → (key_of (base_in page (place 0)) ≡ key_of left) ↔ BeginsAt left (first_children page n)
unfolding first child_in
begins_first left page zero some = absurd (omega arith)
begins_first left page (suc n) some = go n where
  front : (cs : List Child) (c : Child) → BeginsAt left (cs ++ c ∷ []) → (1 ≤ length cs → ⊥) → key_of c.left ≡ key_of left
  front [] c begins none = begins
  front (d ∷ cs) c begins none = absurd (none (omega arith))

  more : (cs : List Child) (c : Child) → 1 ≤ length cs → BeginsAt left cs ↔ BeginsAt left (cs ++ c ∷ [])
  more [] c some = absurd (omega arith)
  more (d ∷ cs) c some = (λ begins. begins, λ begins. begins)

  go : (n : ℕ) → (key_of (base_in page (place 0)) ≡ key_of left) ↔ BeginsAt left (first_children page (suc n))
  go zero = (λ is. is, λ is. is)
  go (suc n) =
      let before = go n in
      let longer = more (first_children page (suc n)) (child_in page (place (suc n))) (omega (arith, first_length (λ i. child_in page (place i)) (suc n))) in
      (λ is. longer.0 (before.0 is), λ begins. before.1 (longer.1 begins))

-- a node in a page lies inside boundaries, as its bases say
pub leaf_fits_bounds : (left right : Base) (page : List ℕ) (head : Head) (count : ℕ) → head ≡ head_in page → count ≡ head.count → head.kind ≡ LEAF
    → All (λ e. IsInside left right (element_key e)) (first_elements page count) ↔ FitsBounds left right (node_in page)
leaf_fits_bounds left right page head count is same kind =
    let here = leaf_here page head is kind in
    let counts : count ≡ (head_in page).count = same ∙ count_here page head is in (
      λ all. subst (FitsBounds left right) (sym here) (subst (λ (n : ℕ). All (λ e. IsInside left right (element_key e)) (first_elements page n)) counts all),
      λ fits. subst (λ (n : ℕ). All (λ e. IsInside left right (element_key e)) (first_elements page n)) (sym counts) (subst (FitsBounds left right) here fits),
    )

pub inner_fits_bounds : (left right : Base) (page : List ℕ) (head : Head) (count : ℕ) → head ≡ head_in page → count ≡ head.count → head.kind ≢ LEAF
    → HasCount (node_in page)
    → ((key_of (base_in page (place 0)) ≡ key_of left) × (key_of (base_in page (place count)) ≡ key_of right)) ↔ FitsBounds left right (node_in page)
inner_fits_bounds left right page head count is same kind counted =
    let here = inner_here page head is kind in
    let counts : count ≡ (head_in page).count = same ∙ count_here page head is in
    let some : 1 ≤ count = some_children (subst HasCount here counted) counts in
    let begins = begins_first left page count some in (
      λ both. subst (FitsBounds left right) (sym here) (
        subst (λ (n : ℕ). BeginsAt left (first_children page n)) counts (begins.0 both.0),
        subst
            (λ (n : ℕ). key_of (base_in page (place n)) ≡ key_of right) counts both.1,
      ),
      λ fits. let both = subst (FitsBounds left right) here fits in (
        begins.1 (subst (λ (n : ℕ). BeginsAt left (first_children page n)) (sym counts) both.0),
        subst
            (λ (n : ℕ). key_of (base_in page (place n)) ≡ key_of right) (sym counts) both.1,
      ),
    ) where
      some_children : HasCount (inner_node (inner_in page)) → count ≡ (head_in page).count → 1 ≤ count
      some_children counted counts = omega (arith, inner_count page, counted.0)

-- how many places a node has that keeps the rule of counts
pub leaf_few : (page : List ℕ) (head : Head) → head ≡ head_in page → head.kind ≡ LEAF → HasCount (node_in page) → head.count ≤ 63
leaf_few page head is kind counted =
    let most = subst HasCount (leaf_here page head is kind) counted in
    omega (arith, most, leaf_count page, count_here page head is)

pub inner_few : (page : List ℕ) (head : Head) → head ≡ head_in page → head.kind ≢ LEAF → HasCount (node_in page) → head.count ≤ 62
inner_few page head is kind counted =
    let most = subst HasCount (inner_here page head is kind) counted in
    omega (arith, most.1, inner_count page, count_here page head is)
