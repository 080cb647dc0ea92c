-- Pages that hold a node: what stands in their places is ready to be read, and what a search finds of them.
use Rattle.std.proofs.Common.{◌≡◌, ◌≢◌, ℕ, ◌-◌, ◌<◌, ◌≤◌, inl, inr, List, refl, sym, ap, subst, ◌∙◌, ◌↔◌, arith}
use Rattle.std.specs.Prelude.{Option, IfSome}
use Rattle.std.proofs.lemmas.Bool.{cases_lt}
use Rattle.hm_key.specs.Elements.{element_key}
use Rattle.hm_key.specs.Key.{key_of}
use Rattle.hm_key.specs.declared.base.Base.{Base}
use Rattle.hm_key.specs.declared.element.Element.{Element}
use Rattle.hm_node.specs.Base.{base_in}
use Rattle.hm_node.specs.Head.{head_in}
use Rattle.hm_node.specs.Inner.{AreChildPlaces}
use Rattle.hm_node.specs.Leaf.{ArePlaces, element_in, first_elements}
use Rattle.hm_node.specs.Node.{node_in, SaysLevel, IsNode, Spells}
use Rattle.hm_node.specs.Places.{place}
use Rattle.hm_node.specs.Shape.{HoldsNode}
use Rattle.hm_node.specs.declared.head.Head.{Head}
use Rattle.hm_node.specs.declared.head.TheConstants.{LEAF}
use Rattle.hm_node.proofs.InnerLemmas.{inner_head, inner_count, inner_fields}
use Rattle.hm_node.proofs.LeafLemmas.{leaf_head, leaf_count, leaf_fields}
use Rattle.hm_search.specs.Place.{FitsBounds, IsInside, IsInsideAt, MeetsBounds}
use Rattle.hm_search.proofs.LookLemmas.{first_get, first_past}
use Rattle.hm_search.proofs.PageLemmas.{leaf_here, inner_here, count_here, leaf_count as leaf_length}

-- the elements of a leaf
pub leaf_held : (page : List ℕ) (head : Head) → head ≡ head_in page → head.kind ≡ LEAF → HoldsNode page → (head.count ≤ 63) × ArePlaces page head.count
leaf_held page head is kind holds =
    let says = subst (SaysLevel page) (leaf_here page head is kind) holds.spelled.says in
    let h = leaf_head page head head.count is kind (ap (λ (h : Head). h.level) is ∙ says.level) refl in
    ((leaf_count h).1 holds.count, ((leaf_fields h).1 (holds.fields, holds.spelled.zeros)).0)

-- the children of an inner node
pub inner_held : (page : List ℕ) (head : Head) → head ≡ head_in page → head.kind ≢ LEAF → HoldsNode page → (head.count ≤ 62) × AreChildPlaces page head.count
inner_held page head is kind holds =
    let says = subst (SaysLevel page) (inner_here page head is kind) holds.spelled.says in
    let h = inner_head page head head.count is (ap (λ (h : Head). h.kind) is ∙ says.kind) refl in
    (((inner_count h).1 holds.count).1, ((inner_fields h).1 (holds.fields, holds.spelled.zeros)).1)

-- a page that spells a sound node holds it
pub sound_held : (page : List ℕ) → IsNode (node_in page) → Spells page (node_in page) → HoldsNode page
sound_held page sound spelled = record { spelled = spelled; level = sound.level; count = sound.count; fields = sound.fields }

-- an element lies inside boundaries where its base in the page does
pub inside_at : (left right : Base) (page : List ℕ) (n i : ℕ) → (i < n → IsInside left right (key_of (base_in page (place i))))
    → IsInsideAt left right (first_elements page n) i
unfolding element_in
inside_at left right page n i inside =
    elim (cases_lt i n) [
      | inl low ↦ subst (λ (o : Option Element). IfSome o (λ e. IsInside left right (element_key e)))
          (sym (first_get (λ k. element_in page (place k)) n i low)) (inside low)
      | inr high ↦ subst (λ (o : Option Element). IfSome o (λ e. IsInside left right (element_key e)))
          (sym (first_past (λ k. element_in page (place k)) n i (omega arith))) tt
    ]

pub at_inside : (left right : Base) (page : List ℕ) (n i : ℕ) → i < n → IsInsideAt left right (first_elements page n) i
    → IsInside left right (key_of (base_in page (place i)))
unfolding element_in
at_inside left right page n i low at =
    subst (λ (o : Option Element). IfSome o (λ e. IsInside left right (element_key e))) (first_get (λ k. element_in page (place k)) n i low) at

-- the ends of a leaf in a page are those of its node
pub leaf_meets_bounds : (left right : Base) (page : List ℕ) (head : Head) (count : ℕ) → head ≡ head_in page → count ≡ head.count → head.kind ≡ LEAF
    → (IsInsideAt left right (first_elements page count) 0 × IsInsideAt left right (first_elements page count) (count - 1)) ↔ MeetsBounds left right
    (node_in page)
leaf_meets_bounds left right page head count is same kind =
    let here = leaf_here page head is kind in
    let counts : count ≡ (head_in page).count = same ∙ count_here page head is in
    let ends : (IsInsideAt left right (first_elements page count) 0 × IsInsideAt left right (first_elements page count) (count - 1))
    ≡ MeetsBounds left right (node_in page) =
    ap (λ (n : ℕ). IsInsideAt left right (first_elements page n) 0 × IsInsideAt left right (first_elements page n) (n - 1)) counts
    ∙ ap (λ (n : ℕ). IsInsideAt left right (first_elements page (head_in page).count) 0 × IsInsideAt left right (first_elements page (head_in page).count)
    (n - 1)) (sym (leaf_length page))
    ∙ ap (MeetsBounds left right) (sym here) in
    (λ both. subst (λ (T : Type 0). T) ends both, λ meets. subst (λ (T : Type 0). T) (sym ends) meets)

-- an inner node meets its boundaries where it fits them
pub inner_meets_bounds : (left right : Base) (page : List ℕ) (head : Head) → head ≡ head_in page → head.kind ≢ LEAF
    → FitsBounds left right (node_in page) ↔ MeetsBounds left right (node_in page)
inner_meets_bounds left right page head is kind =
    let here = inner_here page head is kind in (
      λ fits. subst (MeetsBounds left right) (sym here) (subst (FitsBounds left right) here fits),
      λ meets. subst (FitsBounds left right) (sym here) (subst (MeetsBounds left right) here meets),
    )
