-- Two pages that spell one node have the same bytes.
use Rattle.std.proofs.Common.{◌≡◌, ℕ, zero, suc, ◌+◌, ◌<◌, ◌≤◌, inl, inr, List, length, refl, sym, ap, subst, ◌∙◌, arith}
use Rattle.std.specs.Prelude.{slice_index_or}
use Rattle.std.proofs.lemmas.Bool.{cases_lt}
use Rattle.arrayvec.specs.ArrayVec.{array_vec_len}
use Rattle.hm_types.specs.declared.limits.TheConstants.{PAGE_BYTES}
use Rattle.hm_fields.specs.Fields.{AreBytes, get}
use Rattle.hm_fields.proofs.ByteLemmas.{same_bytes, same_page}
use Rattle.hm_key.specs.declared.base.Base.{Base}
use Rattle.hm_key.specs.declared.element.Element.{Element}
use Rattle.hm_node.specs.Base.{base_in}
use Rattle.hm_node.specs.Head.{head_in}
use Rattle.hm_node.specs.Places.{place, first, IsZero}
use Rattle.hm_node.specs.Leaf.{element_in, first_elements, leaf_in}
use Rattle.hm_node.specs.Inner.{child_in, first_children, inner_in}
use Rattle.hm_node.specs.Node.{node_in, Spells, HasZeros}
use Rattle.hm_node.specs.declared.head.Head.{Head}
use Rattle.hm_node.specs.declared.leaf.Leaf.{Leaf}
use Rattle.hm_node.specs.declared.inner.Child.{Child}
use Rattle.hm_node.specs.declared.inner.Inner.{Inner}
use Rattle.hm_node.specs.declared.node.Node.{Node}
use Rattle.hm_node.specs.declared.node.Node.TheVariants.{Leaf as leaf_node, Inner as inner_node}
use Rattle.hm_node.proofs.PlaceLemmas.{first_length, first_at}

-- two pages have the same bytes from one place to before another
record HasSame (p q : List ℕ) (from to : ℕ) : Type 0 where
  pub each : (k : ℕ) → from ≤ k → k < to → get p k 1 ≡ get q k 1

join : (p q : List ℕ) (from between to : ℕ) → HasSame p q from between → HasSame p q between to → HasSame p q from to
join p q from between to below above = record { each = each } where
  each : (k : ℕ) → from ≤ k → k < to → get p k 1 ≡ get q k 1
  each k low high = elim (cases_lt k between) [
    | inl before ↦ below.each k low before
    | inr after ↦ above.each k after high
  ]

zeros : (p q : List ℕ) (from to : ℕ) → IsZero p from to → IsZero q from to → HasSame p q from to
zeros p q from to none none' = record { each = λ k low high. none.each k low high ∙ sym (none'.each k low high) }

module _ (p q : List ℕ) (bytes : AreBytes p) (bytes' : AreBytes q) where
  field : (at size to : ℕ) → to ≡ at + size → get p at size ≡ get q at size → HasSame p q at to
  field at size to end same = rw end (record { each = same_bytes p q at size bytes bytes' same })

  base_bytes : (at : ℕ) → base_in p at ≡ base_in q at → HasSame p q at (at + 40)
  unfolding base_in
  base_bytes at same =
      join p q at (at + 8) (at + 40) (field at 8 (at + 8) refl (ap (λ (b : Base). b.obj.0) same))
      (join p q (at + 8) (at + 16) (at + 40) (field (at + 8) 8 (at + 16) (omega arith) (ap (λ (b : Base). b.key) same))
      (join p q (at + 16) (at + 24) (at + 40) (field (at + 16) 8 (at + 24) (omega arith) (ap (λ (b : Base). b.create) same))
      (join p q (at + 24) (at + 32) (at + 40) (field (at + 24) 8 (at + 32) (omega arith) (ap (λ (b : Base). b.delete) same))
      (join p q (at + 32) (at + 34) (at + 40) (field (at + 32) 2 (at + 34) (omega arith) (ap (λ (b : Base). b.rec_type) same))
      (join p q (at + 34) (at + 35) (at + 40) (field (at + 34) 1 (at + 35) (omega arith) (ap (λ (b : Base). b.obj_type) same))
      (join p q (at + 35) (at + 36) (at + 40) (field (at + 35) 1 (at + 36) (omega arith) (ap (λ (b : Base). b.btype) same))
      (field (at + 36) 4 (at + 40) (omega arith) (ap (λ (b : Base). b.localization) same))))))))

  element_bytes : (at : ℕ) → element_in p at ≡ element_in q at → HasSame p q at (at + 52)
  unfolding element_in
  element_bytes at same =
      join p q at (at + 40) (at + 52) (base_bytes at (ap (λ (e : Element). e.base) same))
      (join p q (at + 40) (at + 48) (at + 52) (field (at + 40) 8 (at + 48) (omega arith) (ap (λ (e : Element). e.payload) same))
      (field (at + 48) 4 (at + 52) (omega arith) (ap (λ (e : Element). e.len) same)))

  child_bytes : (at : ℕ) → child_in p at ≡ child_in q at → HasSame p q at (at + 56)
  unfolding child_in
  child_bytes at same =
      join p q at (at + 40) (at + 56) (base_bytes at (ap (λ (c : Child). c.left) same))
      (join p q (at + 40) (at + 48) (at + 56) (field (at + 40) 8 (at + 48) (omega arith) (ap (λ (c : Child). c.child) same))
      (field (at + 48) 8 (at + 56) (omega arith) (ap (λ (c : Child). c.mirror) same)))

  -- the head, and the bytes up to the first place
  head_bytes : (node : Node) → head_in p ≡ head_in q → HasZeros p node → HasZeros q node → HasSame p q 0 64
  head_bytes node same none none' =
      join p q 0 1 64 (field 0 1 1 refl (ap (λ (h : Head). h.kind) same))
      (join p q 1 2 64 (field 1 1 2 refl (ap (λ (h : Head). h.level) same))
      (join p q 2 4 64 (field 2 2 4 refl (ap (λ (h : Head). h.count) same))
      (join p q 4 8 64 (zeros p q 4 8 none.outside.head none'.outside.head)
      (join p q 8 16 64 (field 8 8 16 refl (ap (λ (h : Head). h.mirror) same))
      (zeros p q 16 64 none.outside.rest_of_head none'.outside.rest_of_head)))))

  -- the places, of which each is the same
  place_bytes : (n : ℕ) → ((i : ℕ) → i < n → HasSame p q (place i) (place i + 64)) → HasSame p q 64 (place n)
  place_bytes zero each = record { each = λ k low high. absurd (omega arith) }
  place_bytes (suc n) each =
      let end : place n + 64 ≡ place (suc n) = omega arith in
      join p q 64 (place n) (place (suc n)) (place_bytes n (λ i low. each i (omega arith))) (subst (HasSame p q (place n)) end (each n (omega arith)))

  -- the whole page
  all_bytes : length p ≡ PAGE_BYTES → length q ≡ PAGE_BYTES → HasSame p q 0 PAGE_BYTES → p ≡ q
  all_bytes sized sized' same = same_page p q (sized ∙ sym sized') (λ k low. same.each k (omega arith) (omega arith))

-- the leaf in a page that spells one
pub leaf_there : (page : List ℕ) (leaf : Leaf) → Spells page (leaf_node leaf) → leaf_in page ≡ leaf
leaf_there page leaf spells =
    let here : node_in page ≡ leaf_node (leaf_in page) = rw spells.says.kind refl in
    let same : leaf_node (leaf_in page) ≡ leaf_node leaf = sym here ∙ spells.value in
    cc

pub inner_there : (page : List ℕ) (inner : Inner) → Spells page (inner_node inner) → inner_in page ≡ inner
inner_there page inner spells =
    let here : node_in page ≡ inner_node (inner_in page) = rw spells.says.kind refl in
    let same : inner_node (inner_in page) ≡ inner_node inner = sym here ∙ spells.value in
    cc

-- what stands in the places of a page, by the list of it
module _ {A : Type 0} (reads : List ℕ → ℕ → A) (page : List ℕ) (count : ℕ) (xs : List A) (read : first (λ i. reads page (place i)) count ≡ xs) where
  counted : count ≡ length xs
  counted = sym (first_length (λ i. reads page (place i)) count) ∙ ap length read

  stands : (i : ℕ) (d : A) → i < length xs → reads page (place i) ≡ slice_index_or xs i d
  stands i d low =
      let all = counted in
      sym (first_at (λ i. reads page (place i)) count i d (omega arith)) ∙ ap (λ (ys : List A). slice_index_or ys i d) read

same_leaf : (p q : List ℕ) (leaf : Leaf) → AreBytes p → AreBytes q → Spells p (leaf_node leaf) → Spells q (leaf_node leaf) → p ≡ q
same_leaf p q leaf bytes bytes' one other =
    let n = array_vec_len leaf.places in
    let l = leaf_there p leaf one in
    let l' = leaf_there q leaf other in
    let read : first_elements p (head_in p).count ≡ leaf.places.items = ap (λ (x : Leaf). x.places.items) l in
    let read' : first_elements q (head_in q).count ≡ leaf.places.items = ap (λ (x : Leaf). x.places.items) l' in
    let kind : (head_in p).kind ≡ (head_in q).kind = one.says.kind ∙ sym other.says.kind in
    let level : (head_in p).level ≡ (head_in q).level = one.says.level ∙ sym other.says.level in
    let count : (head_in p).count ≡ (head_in q).count = counted element_in p (head_in p).count leaf.places.items read ∙ sym
    (counted element_in q (head_in q).count leaf.places.items read') in
    let mirror : (head_in p).mirror ≡ (head_in q).mirror = ap (λ (x : Leaf). x.mirror) l ∙ sym (ap (λ (x : Leaf). x.mirror) l') in
    let head : head_in p ≡ head_in q = rw (kind, level, count, mirror) refl in
    let each = λ (i : ℕ) (low : i < n).
    let e = element_in p (place i) in
    let same = stands element_in p (head_in p).count leaf.places.items read i e low ∙ sym
    (stands element_in q (head_in q).count leaf.places.items read' i e low) in
    join p q (place i) (place i + 52) (place i + 64) (element_bytes p q bytes bytes' (place i) same)
    (zeros p q (place i + 52) (place i + 64) (one.zeros.places i low) (other.zeros.places i low)) in
    all_bytes p q bytes bytes' one.sized other.sized
    (join p q 0 64 PAGE_BYTES (head_bytes p q bytes bytes' (leaf_node leaf) head one.zeros other.zeros)
    (join p q 64 (place n) PAGE_BYTES (place_bytes p q bytes bytes' n each)
    (zeros p q (place n) PAGE_BYTES one.zeros.outside.rest other.zeros.outside.rest)))

same_inner : (p q : List ℕ) (inner : Inner) → AreBytes p → AreBytes q → Spells p (inner_node inner) → Spells q (inner_node inner) → p ≡ q
same_inner p q inner bytes bytes' one other =
    let n = array_vec_len inner.places in
    let l = inner_there p inner one in
    let l' = inner_there q inner other in
    let read : first_children p (head_in p).count ≡ inner.places.items = ap (λ (x : Inner). x.places.items) l in
    let read' : first_children q (head_in q).count ≡ inner.places.items = ap (λ (x : Inner). x.places.items) l' in
    let many : (head_in p).count ≡ n = counted child_in p (head_in p).count inner.places.items read in
    let many' : (head_in q).count ≡ n = counted child_in q (head_in q).count inner.places.items read' in
    let kind : (head_in p).kind ≡ (head_in q).kind = one.says.kind ∙ sym other.says.kind in
    let level : (head_in p).level ≡ (head_in q).level = one.says.level ∙ sym other.says.level in
    let count : (head_in p).count ≡ (head_in q).count = many ∙ sym many' in
    let mirror : (head_in p).mirror ≡ (head_in q).mirror = ap (λ (x : Inner). x.mirror) l ∙ sym (ap (λ (x : Inner). x.mirror) l') in
    let head : head_in p ≡ head_in q = rw (kind, level, count, mirror) refl in
    let right : base_in p (place n) ≡ base_in q (place n) =
    ap (λ (k : ℕ). base_in p (place k)) (sym many) ∙ ap (λ (x : Inner). x.right) l
    ∙ sym (ap (λ (k : ℕ). base_in q (place k)) (sym many') ∙ ap (λ (x : Inner). x.right) l') in
    let each = λ (i : ℕ) (low : i < n).
    let c = child_in p (place i) in
    let same = stands child_in p (head_in p).count inner.places.items read i c low ∙ sym
    (stands child_in q (head_in q).count inner.places.items read' i c low) in
    join p q (place i) (place i + 56) (place i + 64) (child_bytes p q bytes bytes' (place i) same)
    (zeros p q (place i + 56) (place i + 64) (one.zeros.places i low) (other.zeros.places i low)) in
    all_bytes p q bytes bytes' one.sized other.sized
    (join p q 0 64 PAGE_BYTES (head_bytes p q bytes bytes' (inner_node inner) head one.zeros other.zeros)
    (join p q 64 (place n) PAGE_BYTES (place_bytes p q bytes bytes' n each)
    (join p q (place n) (place n + 40) PAGE_BYTES (base_bytes p q bytes bytes' (place n) right)
    (zeros p q (place n + 40) PAGE_BYTES one.zeros.outside.rest other.zeros.outside.rest))))

pub node_has_one_page : (p q : List ℕ) (node : Node) → AreBytes p → AreBytes q → Spells p node → Spells q node → p ≡ q
node_has_one_page p q (leaf_node leaf) = same_leaf p q leaf
node_has_one_page p q (inner_node inner) = same_inner p q inner
