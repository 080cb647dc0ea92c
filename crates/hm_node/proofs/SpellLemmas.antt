-- Pages that were written as a whole.
use Rattle.std.proofs.Common.{◌≡◌, ℕ, ◌+◌, ◌≤◌, inl, inr, List, length, refl, ap, ◌∙◌, arith}
use Rattle.arrayvec.specs.ArrayVec.{array_vec_len}
use Rattle.hm_types.specs.declared.limits.TheConstants.{PAGE_BYTES}
use Rattle.hm_fields.specs.Fields.{Apart, get, zero_page}
use Rattle.hm_fields.proofs.FieldLemmas.{get_zero}
use Rattle.hm_node.specs.Base.{base_in}
use Rattle.hm_node.specs.Head.{head_in}
use Rattle.hm_node.specs.Places.{place, IsZero, IsZeroOutside, IsWritten}
use Rattle.hm_node.specs.Leaf.{element_in, leaf_in}
use Rattle.hm_node.specs.Inner.{first_children, child_in, inner_in}
use Rattle.hm_node.specs.Node.{Spells}
use Rattle.hm_node.specs.declared.head.Head.{Head}
use Rattle.hm_node.specs.declared.head.TheConstants.{LEAF, INNER, LEAF_LEVEL}
use Rattle.hm_node.specs.declared.leaf.Leaf.{Leaf}
use Rattle.hm_node.specs.declared.inner.Inner.{Inner}
use Rattle.hm_node.specs.declared.node.Node.TheVariants.{Leaf as leaf_node, Inner as inner_node}
use Rattle.hm_node.proofs.FieldLemmas.{same_child}
use Rattle.hm_node.proofs.PlaceLemmas.{first_same}
use Rattle.hm_node.proofs.ZeroLemmas.{zero_part}
use Rattle.hm_node.proofs.WriteLemmas.{Elsewhere, zero_elsewhere, zero_before}

-- a page with a head and nothing else
pub record HasHeadAlone (page : List ℕ) (head : Head) : Type 0 where
  pub sized : length page ≡ PAGE_BYTES
  pub says : head_in page ≡ head
  pub gap : IsZero page 4 8
  pub rest : IsZero page 16 PAGE_BYTES

pub head_alone : (blank page : List ℕ) (head : Head) → blank ≡ zero_page → length page ≡ PAGE_BYTES → head_in page ≡ head
    → ((other width : ℕ) → 16 ≤ other → get page other width ≡ get blank other width)
    → ((other width : ℕ) → Apart 0 4 other width → Apart 8 8 other width → get page other width ≡ get blank other width)
    → HasHeadAlone page head
head_alone blank page head none sized says after between = record {
  sized = sized;
  says = says;
  gap = record { each = λ k low high. between k 1 (inl (omega arith)) (inr (omega arith)) ∙ rw none (get_zero k 1) };
  rest = record { each = λ k low high. after k 1 low ∙ rw none (get_zero k 1) };
}

-- the places of such a page are 0
pub places_blank : (page : List ℕ) (head : Head) → HasHeadAlone page head → IsZero page 64 PAGE_BYTES
places_blank page head alone = zero_part page 16 PAGE_BYTES 64 PAGE_BYTES (omega arith) (omega arith) alone.rest

-- the head of a page in which nothing before the places changed
head_kept : (old new : List ℕ) → ((at size : ℕ) → at + size ≤ 64 → get new at size ≡ get old at size) → head_in new ≡ head_in old
head_kept old new same = rw (same 0 1 (omega arith), same 1 1 (omega arith), same 2 2 (omega arith), same 8 8 (omega arith)) refl

zero_kept : (old new : List ℕ) (from to : ℕ) → to ≤ 64 → ((at size : ℕ) → at + size ≤ 64 → get new at size ≡ get old at size) → IsZero old from to
    → IsZero new from to
zero_kept old new from to low same none = record { each = λ k a b. same k 1 (omega arith) ∙ none.each k a b }

-- what a page says and leaves 0 outside its places, once nothing but these changed
outside_kept : (old new : List ℕ) (head : Head) (end : ℕ) → HasHeadAlone old head → ((at size : ℕ) → at + size ≤ 64 → get new at size ≡ get old at size)
    → IsZero new end PAGE_BYTES → IsZeroOutside new end
outside_kept old new head end alone same rest = record {
  head = zero_kept old new 4 8 (omega arith) same alone.gap;
  rest_of_head = zero_kept old new 16 64 (omega arith) same (zero_part old 16 PAGE_BYTES 16 64 (omega arith) (omega arith) alone.rest);
  rest = rest;
}

-- the head of a leaf
abbrev pub leaf_head_of : Leaf → Head
leaf_head_of leaf = record { kind = LEAF; level = LEAF_LEVEL; count = array_vec_len leaf.places; mirror = leaf.mirror }

-- a page into which a leaf's elements were written
pub leaf_spelled : (leaf : Leaf) (old page : List ℕ) → HasHeadAlone old (leaf_head_of leaf) → IsWritten element_in 52 leaf.places.items old page
    → Spells page (leaf_node leaf)
leaf_spelled leaf old page alone written =
    let says : head_in page ≡ leaf_head_of leaf = head_kept old page written.head ∙ alone.says in
    let kind : (head_in page).kind ≡ LEAF = ap (λ (h : Head). h.kind) says in
    let level : (head_in page).level ≡ LEAF_LEVEL = ap (λ (h : Head). h.level) says in
    let count : (head_in page).count ≡ array_vec_len leaf.places = ap (λ (h : Head). h.count) says in
    let mirror : (head_in page).mirror ≡ leaf.mirror = ap (λ (h : Head). h.mirror) says in
    let read : leaf_in page ≡ leaf = rw (count, mirror, written.values) refl in
    record {
      sized = written.sized;
      says = record { kind = kind; level = level };
      value = rw kind (ap leaf_node read);
      zeros = record {
        outside = outside_kept old page (leaf_head_of leaf)
            (place (array_vec_len leaf.places)) alone written.head written.rest;
        places = written.gaps;
      };
    }

-- the head of an inner node
abbrev pub inner_head_of : Inner → Head
inner_head_of inner = record { kind = INNER; level = inner.level; count = array_vec_len inner.places; mirror = inner.mirror }

-- a page into which an inner node's children, and then its right boundary, were written
pub inner_spelled : (inner : Inner) (old page new : List ℕ) → HasHeadAlone old (inner_head_of inner) → IsWritten child_in 56 inner.places.items old page
    → Elsewhere (place (array_vec_len inner.places)) 40 page new → base_in new (place (array_vec_len inner.places)) ≡ inner.right → length new ≡ PAGE_BYTES
    → array_vec_len inner.places ≤ 62 → Spells new (inner_node inner)
inner_spelled inner old page new alone written elsewhere right sized few =
    let n = array_vec_len inner.places in
    let same = λ (at size : ℕ) (low : at + size ≤ 64). elsewhere.same at size (inr (omega arith)) ∙ written.head at size low in
    let says : head_in new ≡ inner_head_of inner = head_kept old new same ∙ alone.says in
    let kind : (head_in new).kind ≡ INNER = ap (λ (h : Head). h.kind) says in
    let level : (head_in new).level ≡ inner.level = ap (λ (h : Head). h.level) says in
    let count : (head_in new).count ≡ n = ap (λ (h : Head). h.count) says in
    let mirror : (head_in new).mirror ≡ inner.mirror = ap (λ (h : Head). h.mirror) says in
    let kept : first_children new n ≡ first_children page n = first_same (λ i. child_in new (place i)) (λ i. child_in page (place i)) n
    (λ i low. same_child new page (place i) (record { each = λ at size a b. elsewhere.same at size (inr (omega arith)) })) in
    let values : first_children new n ≡ inner.places.items = kept ∙ written.values in
    let read : inner_in new ≡ inner = rw (count, level, mirror, right, values) refl in
    record {
      sized = sized;
      says = record { kind = kind; level = level };
      value = rw kind (ap inner_node read);
      zeros = record {
        outside = outside_kept old new (inner_head_of inner) (place n + 40) alone same
            (zero_elsewhere (place n) 40 (place n + 40) PAGE_BYTES page new elsewhere
            (zero_part page (place n) PAGE_BYTES (place n + 40) PAGE_BYTES (omega arith) (omega arith) written.rest) (omega arith));
        places = λ i low. zero_before (place n) 40 (place i + 56) (place i + 64) page new elsewhere (written.gaps i low) (omega arith);
      };
    }
