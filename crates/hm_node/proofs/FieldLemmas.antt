-- What stands in a place depends on its bytes alone.
use Rattle.std.proofs.Common.{◌≡◌, ℕ, ◌+◌, ◌≤◌, inl, inr, List, refl, ◌∙◌, arith}
use Rattle.hm_fields.specs.Fields.{Apart, get, put}
use Rattle.hm_fields.proofs.FieldLemmas.{get_put_apart, get_put_apart_two}
use Rattle.hm_key.specs.declared.base.Base.{Base}
use Rattle.hm_key.specs.declared.element.Element.{Element}
use Rattle.hm_node.specs.Base.{base_in}
use Rattle.hm_node.specs.Leaf.{element_in}
use Rattle.hm_node.specs.Inner.{child_in}
use Rattle.hm_node.specs.declared.inner.Child.{Child}

-- the fields of two pages between two places are the same
pub record AreSame (p q : List ℕ) (from to : ℕ) : Type 0 where
  pub each : (at size : ℕ) → from ≤ at → at + size ≤ to → get p at size ≡ get q at size

pub same_part : (p q : List ℕ) (from to low high : ℕ) → from ≤ low → high ≤ to → AreSame p q from to → AreSame p q low high
same_part p q from to low high a b same = record { each = λ at size c d. same.each at size (omega arith) (omega arith) }

pub same_then : (p q r : List ℕ) (from to : ℕ) → AreSame p q from to → AreSame q r from to → AreSame p r from to
same_then p q r from to first second = record { each = λ at size c d. first.each at size c d ∙ second.each at size c d }

pub same_base : (p q : List ℕ) (at : ℕ) → AreSame p q at (at + 40) → base_in p at ≡ base_in q at
unfolding base_in
same_base p q at same =
    let obj = same.each at 8 (omega arith) (omega arith) in
    let key = same.each (at + 8) 8 (omega arith) (omega arith) in
    let create = same.each (at + 16) 8 (omega arith) (omega arith) in
    let delete = same.each (at + 24) 8 (omega arith) (omega arith) in
    let rec_type = same.each (at + 32) 2 (omega arith) (omega arith) in
    let obj_type = same.each (at + 34) 1 (omega arith) (omega arith) in
    let btype = same.each (at + 35) 1 (omega arith) (omega arith) in
    let localization = same.each (at + 36) 4 (omega arith) (omega arith) in
    rw (obj, key, create, delete, rec_type, obj_type, btype, localization) refl

pub same_element : (p q : List ℕ) (at : ℕ) → AreSame p q at (at + 52) → element_in p at ≡ element_in q at
unfolding element_in
same_element p q at same =
    let base = same_base p q at (same_part p q at (at + 52) at (at + 40) (omega arith) (omega arith) same) in
    let payload = same.each (at + 40) 8 (omega arith) (omega arith) in
    let len = same.each (at + 48) 4 (omega arith) (omega arith) in
    rw (base, payload, len) refl

pub same_child : (p q : List ℕ) (at : ℕ) → AreSame p q at (at + 56) → child_in p at ≡ child_in q at
unfolding child_in
same_child p q at same =
    let left = same_base p q at (same_part p q at (at + 56) at (at + 40) (omega arith) (omega arith) same) in
    let child = same.each (at + 40) 8 (omega arith) (omega arith) in
    let mirror = same.each (at + 48) 8 (omega arith) (omega arith) in
    rw (left, child, mirror) refl

-- a put changes nothing before its field
put_same : (page : List ℕ) (a size value from to : ℕ) → to ≤ a → AreSame (put page a size value) page from to
put_same page a size value from to high = record { each = λ at n c d. get_put_apart page a size value at n (inr (omega arith)) }

-- the base before two fields that are put
base_put : (page : List ℕ) (a size value b width number at : ℕ) → at + 40 ≤ a → at + 40 ≤ b
    → base_in (put (put page a size value) b width number) at ≡ base_in page at
base_put page a size value b width number at first second =
    let p = put page a size value in
    same_base _ _ at (same_then _ p _ at (at + 40) (put_same p b width number at (at + 40) second) (put_same page a size value at (at + 40) first))

-- an element whose fields were put
pub element_put : (page : List ℕ) (at : ℕ) (e : Element) (p q : List ℕ) (raw : ℕ) → base_in page at ≡ e.base → raw ≡ e.payload
    → p ≡ put page (at + 40) 8 raw → get p (at + 40) 8 ≡ raw → q ≡ put p (at + 48) 4 e.len → get q (at + 48) 4 ≡ e.len → element_in q at ≡ e
unfolding element_in
element_put page at e p q raw base is first held second held' =
    let kept : base_in q at ≡ e.base = rw (second, first) (base_put page (at + 40) 8 raw (at + 48) 4 e.len at (omega arith) (omega arith)) ∙ base in
    let payload : get q (at + 40) 8 ≡ e.payload = rw second (get_put_apart p (at + 48) 4 e.len (at + 40) 8 (inr (omega arith))) ∙ held ∙ is in
    rw (kept, payload, held') refl

-- a child whose fields were put
pub child_put : (page : List ℕ) (at : ℕ) (c : Child) (p q : List ℕ) (raw : ℕ) → base_in page at ≡ c.left → raw ≡ c.child
    → p ≡ put page (at + 40) 8 raw → get p (at + 40) 8 ≡ raw → q ≡ put p (at + 48) 8 c.mirror → get q (at + 48) 8 ≡ c.mirror → child_in q at ≡ c
unfolding child_in
child_put page at c p q raw base is first held second held' =
    let kept : base_in q at ≡ c.left = rw (second, first) (base_put page (at + 40) 8 raw (at + 48) 8 c.mirror at (omega arith) (omega arith)) ∙ base in
    let child : get q (at + 40) 8 ≡ c.child = rw second (get_put_apart p (at + 48) 8 c.mirror (at + 40) 8 (inr (omega arith))) ∙ held ∙ is in
    rw (kept, child, held') refl

-- what lies apart from a place lies apart from each field in it
pub apart_field : (at n a size other width : ℕ) → at ≤ a → a + size ≤ at + n → Apart at n other width → Apart a size other width
apart_field at n a size other width low high (inl above) = inl (omega arith)
apart_field at n a size other width low high (inr below) = inr (omega arith)

-- two puts into a place leave what lies apart from it
pub apart_put : (page p q : List ℕ) (at n a size value b more number other width : ℕ) → p ≡ put page a size value → q ≡ put p b more number
    → at ≤ a → a + size ≤ at + n → at ≤ b → b + more ≤ at + n → Apart at n other width → get q other width ≡ get page other width
apart_put page p q at n a size value b more number other width first second a0 a1 b0 b1 apart =
    rw (second, first) (get_put_apart_two page a size value b more number other width (apart_field at n a size other width a0 a1 apart)
    (apart_field at n b more other width b0 b1 apart))

-- a place has the base's bytes and more
pub apart_base : (at n other width : ℕ) → 40 ≤ n → Apart at n other width → Apart at 40 other width
apart_base at n other width wide apart = apart_field at n at 40 other width (omega arith) (omega arith) apart

-- an element whose fields were read
pub element_read : (page : List ℕ) (at : ℕ) (base : Base) (payload len : ℕ) → base ≡ base_in page at → payload ≡ get page (at + 40) 8
    → len ≡ get page (at + 48) 4
    → record { base = base; payload = payload; len = len } ≡ element_in page at
unfolding element_in
element_read page at base payload len is is' is'' = rw (is, is', is'') refl

-- the offset of an element's payload
pub element_payload : (page : List ℕ) (at : ℕ) → (element_in page at).payload ≡ get page (at + 40) 8
unfolding element_in
element_payload page at = refl

-- a child whose fields were read
pub child_read : (page : List ℕ) (at : ℕ) (left : Base) (child mirror : ℕ) → left ≡ base_in page at → child ≡ get page (at + 40) 8
    → mirror ≡ get page (at + 48) 8
    → record { left = left; child = child; mirror = mirror } ≡ child_in page at
unfolding child_in
child_read page at left child mirror is is' is'' = rw (is, is', is'') refl

-- the offset of a child
pub child_offset : (page : List ℕ) (at : ℕ) → (child_in page at).child ≡ get page (at + 40) 8
unfolding child_in
child_offset page at = refl

-- the left boundary of a child
pub child_left : (page : List ℕ) (at : ℕ) → (child_in page at).left ≡ base_in page at
unfolding child_in
child_left page at = refl

-- the base of an element
pub element_base : (page : List ℕ) (at : ℕ) → (element_in page at).base ≡ base_in page at
unfolding element_in
element_base page at = refl

-- the `mirror` of a child
pub child_mirror : (page : List ℕ) (at : ℕ) → get page (at + 48) 8 ≡ (child_in page at).mirror
unfolding child_in
child_mirror page at = refl
