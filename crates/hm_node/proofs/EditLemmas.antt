-- Edits of a leaf in its page.
use Rattle.std.proofs.Common.{◌≡◌, ℕ, zero, suc, ◌+◌, ◌-◌, ◌^◌, ◌<◌, ◌≤◌, ◌⊎◌, inl, inr, List, [], ◌∷◌, ◌++◌, length, refl, sym, ap, subst, ◌∙◌}
use Rattle.std.proofs.Common.{arith, append-nil}
use Rattle.std.specs.Prelude.{insert, remove, slice_set, slice_index_or}
use Rattle.std.proofs.lemmas.Bool.{cases_lt}
use Rattle.std.proofs.lemmas.List.{set-append_left, set-append_right}
use Rattle.std.proofs.lemmas.List.Edits.{insert-append_left, insert_end, remove-append_left, remove-append_right}
use Rattle.hm_types.specs.declared.limits.TheConstants.{PAGE_BYTES}
use Rattle.hm_fields.specs.Fields.{Apart, get, put}
use Rattle.hm_fields.specs.Moves.{HasCleared, HasMoved}
use Rattle.hm_fields.proofs.FieldLemmas.{get_put, get_put_apart, get_put_apart_two}
use Rattle.hm_types.specs.Offset.{IsOffset}
use Rattle.hm_key.specs.Elements.{closed_at, moved_to}
use Rattle.hm_key.proofs.ElementLemmas.{fits_changed}
use Rattle.hm_key.specs.declared.element.Element.{Element}
use Rattle.hm_node.specs.Base.{base_in}
use Rattle.hm_node.specs.Edits.{ChangesPlace, IsLeafPage, HoldsLeaf}
use Rattle.hm_node.specs.Head.{head_in}
use Rattle.hm_node.specs.Leaf.{element_in, first_elements, leaf_in, ArePlaces, IsElementPlace, IsPlaced}
use Rattle.hm_node.specs.Node.{node_in, SaysLevel}
use Rattle.hm_node.specs.Places.{place, first, IsZero, IsZeroOutside}
use Rattle.hm_node.specs.declared.head.TheConstants.{LEAF, LEAF_LEVEL}
use Rattle.hm_node.specs.declared.node.Node.TheVariants.{Leaf as leaf_node}
use Rattle.hm_node.proofs.FieldLemmas.{same_base, same_element}
use Rattle.hm_node.proofs.LeafLemmas.{LeafHead, leaf_level, leaf_count, leaf_fields}
use Rattle.hm_node.proofs.PlaceLemmas.{first_length, first_at, first_same}

-- what a list has at its places, with one more
pub first_inserted : {A : Type 0} (f g : ℕ → A) (n at : ℕ) (x : A) → at ≤ n → ((i : ℕ) → i < at → g i ≡ f i) → g at ≡ x
    → ((i : ℕ) → at ≤ i → i < n → g (suc i) ≡ f i) → first g (suc n) ≡ insert (first f n) at x
unfolding first
first_inserted f g zero at x low before here after =
    let none : at ≡ zero = omega arith in
    rw none (ap (λ y. y ∷ []) (ap g (sym none) ∙ here))
first_inserted f g (suc n) at x low before here after =
    elim (cases_lt at (suc n)) [
      | inl more ↦
          ap (λ l. l ++ g (suc n) ∷ []) (first_inserted f g n at x (omega arith) before here (λ i a b. after i a (omega arith)))
          ∙ ap (λ y. insert (first f n) at x ++ y ∷ []) (after n (omega arith) (omega arith))
          ∙ sym (insert-append_left (first f n) (f n ∷ []) at x (omega (arith, first_length f n)))
      | inr end ↦
          let is : at ≡ suc n = omega arith in
          ap (λ l. l ++ g (suc n) ∷ []) (first_same g f (suc n) (λ i a. before i (omega arith)))
          ∙ ap (λ y. first f (suc n) ++ y ∷ []) (ap g (sym is) ∙ here)
          ∙ sym (insert_last (first f (suc n)) at x (omega (arith, is, first_length f (suc n))))
    ] where
      insert_last : {A : Type 0} (xs : List A) (i : ℕ) (x : A) → i ≡ length xs → insert xs i x ≡ xs ++ x ∷ []
      insert_last xs i x is = ap (λ (k : ℕ). insert xs k x) is ∙ insert_end xs x

-- Each field of a part of a page stands in another page's part that begins at another place.
pub record AreMoved (p q : List ℕ) (a b n : ℕ) : Type 0 where
  pub each : (x y size : ℕ) → b ≤ x → x + size ≤ b + n → y + b ≡ x + a → get p y size ≡ get q x size

moved_base : (p q : List ℕ) (a b : ℕ) → AreMoved p q a b 40 → base_in p a ≡ base_in q b
unfolding base_in
moved_base p q a b same =
    let obj = same.each b a 8 (omega arith) (omega arith) (omega arith) in
    let key = same.each (b + 8) (a + 8) 8 (omega arith) (omega arith) (omega arith) in
    let create = same.each (b + 16) (a + 16) 8 (omega arith) (omega arith) (omega arith) in
    let delete = same.each (b + 24) (a + 24) 8 (omega arith) (omega arith) (omega arith) in
    let rec_type = same.each (b + 32) (a + 32) 2 (omega arith) (omega arith) (omega arith) in
    let obj_type = same.each (b + 34) (a + 34) 1 (omega arith) (omega arith) (omega arith) in
    let btype = same.each (b + 35) (a + 35) 1 (omega arith) (omega arith) (omega arith) in
    let localization = same.each (b + 36) (a + 36) 4 (omega arith) (omega arith) (omega arith) in
    rw (obj, key, create, delete, rec_type, obj_type, btype, localization) refl

moved_element : (p q : List ℕ) (a b : ℕ) → AreMoved p q a b 52 → element_in p a ≡ element_in q b
unfolding element_in
moved_element p q a b same =
    let base = moved_base p q a b (record { each = λ x y size low high is. same.each x y size low (omega arith) is }) in
    let payload = same.each (b + 40) (a + 40) 8 (omega arith) (omega arith) (omega arith) in
    let len = same.each (b + 48) (a + 48) 4 (omega arith) (omega arith) (omega arith) in
    rw (base, payload, len) refl

-- what is known of the page of a leaf
pub record LeafBytes (page : List ℕ) (n : ℕ) : Type 0 where
  pub sized : length page ≡ PAGE_BYTES
  pub kind : get page 0 1 ≡ LEAF
  pub level : get page 1 1 ≡ LEAF_LEVEL
  pub count : get page 2 2 ≡ n
  pub few : n ≤ 63
  pub places : ArePlaces page n
  pub zeros : IsZeroOutside page (place n)

pub leaf_bytes : (page : List ℕ) → IsLeafPage page → LeafBytes page (head_in page).count
leaf_bytes page leaf =
    let here : node_in page ≡ leaf_node (leaf_in page) = rw leaf.kind refl in
    let says = subst (SaysLevel page) here leaf.holds.spelled.says in
    let h : LeafHead page (head_in page).count (head_in page).mirror = record { kind = leaf.kind; level = says.level; count = refl; latest = refl } in
    let both = (leaf_fields h).1 (leaf.holds.fields, leaf.holds.spelled.zeros) in
    record {
      sized = leaf.holds.spelled.sized;
      kind = leaf.kind;
      level = says.level;
      count = refl;
      few = (leaf_count h).1 leaf.holds.count;
      places = both.0;
      zeros = both.1;
    }

-- a leaf has no more places than a page
pub leaf_few : (page : List ℕ) → IsLeafPage page → (head_in page).count ≤ 63
leaf_few page leaf = (leaf_bytes page leaf).few

pub bytes_leaf : (page : List ℕ) (n : ℕ) → LeafBytes page n → IsLeafPage page
bytes_leaf page n b =
    let h : LeafHead page n (head_in page).mirror = record { kind = b.kind; level = b.level; count = sym b.count; latest = refl } in
    let fields = (leaf_fields h).0 (b.places, b.zeros) in
    let level = leaf_level h in
    record {
      holds = record {
        spelled = record { sized = b.sized; says = level.0; value = refl; zeros = fields.1 };
        level = level.1;
        count = (leaf_count h).0 b.few;
        fields = fields.0;
      };
      kind = b.kind;
    }

-- an element was put in before a place of a leaf
module _ (old p1 p2 new : List ℕ) (at n m : ℕ) (e : Element) (leaf : LeafBytes old n) (low : at ≤ n) (few : n < 63) (placed : IsPlaced e)
    (moved : HasMoved (place at) (place n) (place (at + 1)) old p1) (value : element_in p2 (place at) ≡ e)
    (others : (x size : ℕ) → Apart (place at) 52 x size → get p2 x size ≡ get p1 x size)
    (beside : (x size : ℕ) → Apart 2 2 x size → Apart 8 8 x size → get new x size ≡ get p2 x size)
    (sized : length new ≡ PAGE_BYTES) (counted : get new 2 2 ≡ n + 1) where
  -- what stands before the place, beside the count and the `mirror`
  before : (x size : ℕ) → Apart 2 2 x size → Apart 8 8 x size → x + size ≤ place at → get new x size ≡ get old x size
  before x size a b high = beside x size a b ∙ others x size (inr high) ∙ moved.below x size (omega arith)

  -- what stood in the places from there on
  after : (x size : ℕ) → place at ≤ x → x + size ≤ place n → get new (x + 64) size ≡ get old x size
  after x size a b =
      beside (x + 64) size (inl (omega arith)) (inl (omega arith)) ∙ others (x + 64) size (inl (omega arith))
      ∙ ap (λ (k : ℕ). get p1 k size) (omega arith) ∙ moved.moved x size a b

  -- what stands after the last place, and at the end of the new one
  behind : (x size : ℕ) → place (n + 1) ≤ x → get new x size ≡ get old x size
  behind x size a =
      beside x size (inl (omega arith)) (inl (omega arith)) ∙ others x size (inl (omega arith)) ∙ moved.above x size (omega arith)

  gap : (x size : ℕ) → place at + 52 ≤ x → x + size ≤ place at + 64 → get new x size ≡ get old x size
  gap x size a b =
      beside x size (inl (omega arith)) (inl (omega arith)) ∙ others x size (inl (omega arith)) ∙ moved.below x size (omega arith)

  front : (i : ℕ) → i < at → element_in new (place i) ≡ element_in old (place i)
  front i a = moved_element new old (place i) (place i) (record {
    each = λ x y size l h is.
        let same : y ≡ x = omega arith in
        ap (λ (k : ℕ). get new k size) same ∙ before x size (inl (omega arith)) (inl (omega arith)) (omega arith);
  })

  here : element_in new (place at) ≡ e
  here = moved_element new p2 (place at) (place at) (record {
    each = λ x y size l h is.
        let same : y ≡ x = omega arith in
        ap (λ (k : ℕ). get new k size) same ∙ beside x size (inl (omega arith)) (inl (omega arith));
  }) ∙ value

  back : (i : ℕ) → at ≤ i → i < n → element_in new (place (suc i)) ≡ element_in old (place i)
  back i a b = moved_element new old (place (suc i)) (place i) (record {
    each = λ x y size l h is.
        let same : y ≡ x + 64 = omega arith in
        ap (λ (k : ℕ). get new k size) same ∙ after x size (omega arith) (omega arith);
  })

  pub elements_inserted : first_elements new (suc n) ≡ insert (first_elements old n) at e
  elements_inserted = first_inserted (λ i. element_in old (place i)) (λ i. element_in new (place i)) n at e low front here back

  -- the end of the place in which the element came is 0
  gap_zero : (k : ℕ) → place at + 52 ≤ k → k < place at + 64 → get old k 1 ≡ 0
  gap_zero k a b = elim (cases_lt at n) [
    | inl more ↦ (leaf.places at more).zero.each k a b
    | inr end ↦ leaf.zeros.rest.each k (omega arith) (omega arith)
  ]

  one : (i : ℕ) → i < suc n → IsElementPlace new (place i)
  one i less = elim (cases_lt i at) [
    | inl a ↦
        let was = leaf.places i (omega arith) in record {
          placed = subst IsPlaced (sym (front i a)) was.placed;
          zero = record { each = λ k l h. before k 1 (inl (omega arith)) (inl (omega arith)) (omega arith) ∙ was.zero.each k l h };
        }
    | inr a ↦ elim (cases_lt at i) [
      | inl b ↦ later i b less
      | inr b ↦
          let is : i ≡ at = omega arith in
          subst (λ (j : ℕ). IsElementPlace new (place j)) (sym is) (record {
            placed = subst IsPlaced (sym here) placed;
            zero = record { each = λ k l h. gap k 1 l (omega arith) ∙ gap_zero k l h };
          })
    ]
  ] where
    later : (i : ℕ) → at < i → i < suc n → IsElementPlace new (place i)
    later zero a b = absurd (omega arith)
    later (suc i) a b =
        let was = leaf.places i (omega arith) in record {
          placed = subst IsPlaced (sym (back i (omega arith) (omega arith))) was.placed;
          zero = record {
            each = λ k l h.
                let same : k ≡ k - 64 + 64 = omega arith in
                ap (λ (j : ℕ). get new j 1) same ∙ after (k - 64) 1 (omega arith) (omega arith) ∙ was.zero.each (k - 64) (omega arith) (omega arith);
          };
        }

  pub bytes_inserted : LeafBytes new (suc n)
  bytes_inserted = record {
    sized = sized;
    kind = before 0 1 (inr (omega arith)) (inr (omega arith)) (omega arith) ∙ leaf.kind;
    level = before 1 1 (inr (omega arith)) (inr (omega arith)) (omega arith) ∙ leaf.level;
    count = counted ∙ omega arith;
    few = omega arith;
    places = one;
    zeros = record {
      head = record { each = λ k l h. before k 1 (inl (omega arith)) (inr (omega arith)) (omega arith) ∙ leaf.zeros.head.each k l h };
      rest_of_head = record { each = λ k l h. before k 1 (inl (omega arith)) (inl (omega arith)) (omega arith) ∙ leaf.zeros.rest_of_head.each k l h };
      rest = record { each = λ k l h. behind k 1 (omega arith) ∙ leaf.zeros.rest.each k (omega arith) h };
    };
  }

  pub leaf_inserted : get new 8 8 ≡ m → n ≡ (head_in old).count → HoldsLeaf new m (insert (leaf_in old).places.items at e)
  leaf_inserted mirror count =
      let bytes = bytes_inserted in
      let items : first_elements new (head_in new).count ≡ insert (first_elements old (head_in old).count) at e =
      ap (first_elements new) bytes.count ∙ elements_inserted ∙ ap (λ (k : ℕ). insert (first_elements old k) at e) count in
      record {
        held = bytes_leaf new (suc n) bytes;
        leaf = rw (items, mirror) refl;
      }

-- what a list has at its places, with another value at one of them
pub first_set : {A : Type 0} (f g : ℕ → A) (n i : ℕ) (x : A) → i < n → g i ≡ x → ((j : ℕ) → j < n → (j ≡ i → ⊥) → g j ≡ f j)
    → first g n ≡ slice_set (first f n) i x
unfolding first
first_set f g zero i x low here other = absurd (omega arith)
first_set f g (suc n) i x low here other =
    elim (cases_lt i n) [
      | inl more ↦
          ap (λ l. l ++ g n ∷ []) (first_set f g n i x more here (λ j a. other j (omega arith)))
          ∙ ap (λ y. slice_set (first f n) i x ++ y ∷ []) (other n (omega arith) (λ is. omega arith))
          ∙ sym (set-append_left (first f n) (f n ∷ []) i x (omega (arith, first_length f n)))
      | inr end ↦
          let is : n ≡ i = omega arith in
          let none : i - n ≡ 0 = omega arith in
          ap (λ l. l ++ g n ∷ []) (first_same g f n (λ j a. other j (omega arith) (λ same. omega arith)))
          ∙ ap (λ y. first f n ++ y ∷ []) (ap g is ∙ here)
          ∙ sym (set-append_right (first f n) (f n ∷ []) n i x (first_length f n) (omega arith) ∙ ap (λ (k : ℕ). first f n ++ slice_set (f n ∷ []) k x) none)
    ]

-- a place is another or not
pub cases_at : (j i : ℕ) → (j ≡ i) ⊎ (j ≡ i → ⊥)
cases_at j i = elim (cases_lt j i) [
  | inl low ↦ inr (λ is. omega arith)
  | inr not ↦ elim (cases_lt i j) [ inl high ↦ inr (λ is. omega arith) | inr end ↦ inl (omega arith) ]
]

-- what a list has at its places, without one
pub first_removed : {A : Type 0} (f g : ℕ → A) (n at : ℕ) → at ≤ n → ((i : ℕ) → i < at → g i ≡ f i)
    → ((i : ℕ) → at ≤ i → i < n → g i ≡ f (suc i)) → first g n ≡ remove (first f (suc n)) at
unfolding first
first_removed f g zero at low before after =
    let none : at ≡ zero = omega arith in
    rw none refl
first_removed f g (suc n) at low before after =
    elim (cases_lt n at) [
      | inl last ↦
          let is : at ≡ suc n = omega arith in
          let size : length (first f (suc n)) ≡ at = first_length f (suc n) ∙ sym is in
          let none : at - at ≡ 0 = omega arith in
          first_same g f (suc n) (λ i a. before i (omega arith))
          ∙ sym (remove-append_right (first f (suc n)) (f (suc n) ∷ []) at at size (omega arith)
          ∙ ap (λ (k : ℕ). first f (suc n) ++ remove (f (suc n) ∷ []) k) none ∙ append-nil (first f (suc n)))
      | inr more ↦
          ap (λ l. l ++ g n ∷ []) (first_removed f g n at more before (λ i a b. after i a (omega arith)))
          ∙ ap (λ y. remove (first f (suc n)) at ++ y ∷ []) (after n more (omega arith))
          ∙ sym (remove-append_left (first f (suc n)) (f (suc n) ∷ []) at (omega (arith, first_length f (suc n))))
    ]

-- an element was taken out of a leaf
module _ (old p1 p2 new : List ℕ) (at n : ℕ) (leaf : LeafBytes old (suc n)) (low : at < suc n)
    (moved : HasMoved (place (at + 1)) (place (suc n)) (place at) old p1) (cleared : HasCleared (place n) (place (suc n)) p1 p2)
    (beside : (x size : ℕ) → Apart 2 2 x size → get new x size ≡ get p2 x size)
    (sized : length new ≡ PAGE_BYTES) (counted : get new 2 2 ≡ n) where
  kept : (x size : ℕ) → Apart 2 2 x size → x + size ≤ place at → get new x size ≡ get old x size
  kept x size a high = beside x size a ∙ cleared.below x size (omega arith) ∙ moved.below x size high

  later : (x size : ℕ) → place at ≤ x → x + size ≤ place n → get new x size ≡ get old (x + 64) size
  later x size a b =
      beside x size (inl (omega arith)) ∙ cleared.below x size b
      ∙ ap (λ (k : ℕ). get p1 k size) (omega arith) ∙ moved.moved (x + 64) size (omega arith) (omega arith)

  gone : (k : ℕ) → place n ≤ k → k < place (suc n) → get new k 1 ≡ 0
  gone k a b = beside k 1 (inl (omega arith)) ∙ cleared.zero k 1 a (omega arith)

  end : (x size : ℕ) → place (suc n) ≤ x → get new x size ≡ get old x size
  end x size a = beside x size (inl (omega arith)) ∙ cleared.above x size a ∙ moved.above x size (omega arith)

  front_kept : (i : ℕ) → i < at → element_in new (place i) ≡ element_in old (place i)
  front_kept i a = same_element new old (place i) (record { each = λ x size l h. kept x size (inl (omega arith)) (omega arith) })

  back_moved : (i : ℕ) → at ≤ i → i < n → element_in new (place i) ≡ element_in old (place (suc i))
  back_moved i a b = moved_element new old (place i) (place (suc i)) (record {
    each = λ x y size l h is.
        let same : x ≡ y + 64 = omega arith in
        later y size (omega arith) (omega arith) ∙ ap (λ (k : ℕ). get old k size) (sym same);
  })

  pub elements_removed : first_elements new n ≡ remove (first_elements old (suc n)) at
  elements_removed = first_removed (λ i. element_in old (place i)) (λ i. element_in new (place i)) n at (omega arith) front_kept back_moved

  place_kept : (i : ℕ) → i < n → IsElementPlace new (place i)
  place_kept i less = elim (cases_lt i at) [
    | inl a ↦
        let was = leaf.places i (omega arith) in record {
          placed = subst IsPlaced (sym (front_kept i a)) was.placed;
          zero = record { each = λ k l h. kept k 1 (inl (omega arith)) (omega arith) ∙ was.zero.each k l h };
        }
    | inr a ↦
        let was = leaf.places (suc i) (omega arith) in record {
          placed = subst IsPlaced (sym (back_moved i a less)) was.placed;
          zero = record { each = λ k l h. later k 1 (omega arith) (omega arith) ∙ was.zero.each (k + 64) (omega arith) (omega arith) };
        }
  ]

  bytes_removed : LeafBytes new n
  bytes_removed = record {
    sized = sized;
    kind = kept 0 1 (inr (omega arith)) (omega arith) ∙ leaf.kind;
    level = kept 1 1 (inr (omega arith)) (omega arith) ∙ leaf.level;
    count = counted;
    few = omega (arith, leaf.few);
    places = place_kept;
    zeros = record {
      head = record { each = λ k l h. kept k 1 (inl (omega arith)) (omega arith) ∙ leaf.zeros.head.each k l h };
      rest_of_head = record { each = λ k l h. kept k 1 (inl (omega arith)) (omega arith) ∙ leaf.zeros.rest_of_head.each k l h };
      rest = record {
        each = λ k l h. elim (cases_lt k (place (suc n))) [
          | inl before ↦ gone k l before
          | inr after ↦ end k 1 after ∙ leaf.zeros.rest.each k after h
        ];
      };
    };
  }

  pub leaf_removed : suc n ≡ (head_in old).count → HoldsLeaf new (leaf_in old).mirror (remove (leaf_in old).places.items at)
  leaf_removed count =
      let items : first_elements new (head_in new).count ≡ remove (first_elements old (head_in old).count) at =
      ap (first_elements new) counted ∙ elements_removed ∙ ap (λ (k : ℕ). remove (first_elements old k) at) count in
      let mirror : get new 8 8 ≡ get old 8 8 = kept 8 8 (inl (omega arith)) (omega arith) in
      record {
        held = bytes_leaf new n bytes_removed;
        leaf = rw (items, mirror) refl;
      }

-- an element was changed where it stands
module _ (change : Element → Element) (old new : List ℕ) (at n up : ℕ) (leaf : LeafBytes old n) (low : at < n)
    (beside : (x size : ℕ) → Apart (place at) 52 x size → Apart 8 8 x size → get new x size ≡ get old x size)
    (sized : length new ≡ PAGE_BYTES) (here : element_in new (place at) ≡ change (element_in old (place at)))
    (placed : IsPlaced (change (element_in old (place at)))) where
  element_other : (j : ℕ) → j < n → (j ≡ at → ⊥) → element_in new (place j) ≡ element_in old (place j)
  element_other j less not = same_element new old (place j) (record {
    each = λ x size a b. elim (cases_lt j at) [
      | inl before ↦ beside x size (inr (omega arith)) (inl (omega arith))
      | inr after ↦ elim (cases_lt at j) [
        | inl more ↦ beside x size (inl (omega arith)) (inl (omega arith))
        | inr end ↦ absurd (not (omega arith))
      ]
    ];
  })

  gap_kept : (j k : ℕ) → place j + 52 ≤ k → k < place j + 64 → get new k 1 ≡ get old k 1
  gap_kept j k a b = elim (cases_lt j at) [
    | inl before ↦ beside k 1 (inr (omega arith)) (inl (omega arith))
    | inr after ↦ beside k 1 (inl (omega arith)) (inl (omega arith))
  ]

  place_changed : (j : ℕ) → j < n → IsElementPlace new (place j)
  place_changed j less =
      let was = leaf.places j less in
      let zero : IsZero new (place j + 52) (place j + 64) = record { each = λ k a b. gap_kept j k a b ∙ was.zero.each k a b } in
      elim (cases_at j at) [
        | inl is ↦ record {
          placed = subst (λ (k : ℕ). IsPlaced (element_in new (place k))) (sym is) (subst IsPlaced (sym here) placed);
          zero = zero;
        }
        | inr not ↦ record { placed = subst IsPlaced (sym (element_other j less not)) was.placed; zero = zero }
      ]

  bytes_changed : LeafBytes new n
  bytes_changed = record {
    sized = sized;
    kind = beside 0 1 (inr (omega arith)) (inr (omega arith)) ∙ leaf.kind;
    level = beside 1 1 (inr (omega arith)) (inr (omega arith)) ∙ leaf.level;
    count = beside 2 2 (inr (omega arith)) (inr (omega arith)) ∙ leaf.count;
    few = leaf.few;
    places = place_changed;
    zeros = record {
      head = record { each = λ k a b. beside k 1 (inr (omega arith)) (inr (omega arith)) ∙ leaf.zeros.head.each k a b };
      rest_of_head = record { each = λ k a b. beside k 1 (inr (omega arith)) (inl (omega arith)) ∙ leaf.zeros.rest_of_head.each k a b };
      rest = record { each = λ k a b. beside k 1 (inl (omega arith)) (inl (omega arith)) ∙ leaf.zeros.rest.each k a b };
    };
  }

  pub leaf_changed : n ≡ (head_in old).count → get new 8 8 ≡ up → ChangesPlace change at up old new
  leaf_changed count mirror =
      let f = λ (j : ℕ). element_in old (place j) in
      let bytes = bytes_changed in
      record {
        held = bytes_leaf new n bytes;
        mirror = mirror;
        items = λ d.
            let was : slice_index_or (first_elements old n) at d ≡ f at = first_at f n at d low in
            let list : first_elements new n ≡ slice_set (first_elements old n) at (change (slice_index_or (first_elements old n) at d)) =
            first_set f (λ j. element_in new (place j)) n at (change (slice_index_or (first_elements old n) at d)) low
            (here ∙ ap change (sym was)) element_other in
            ap (first_elements new) bytes.count ∙ list
            ∙ ap (λ (k : ℕ). slice_set (first_elements old k) at (change (slice_index_or (first_elements old k) at d))) count;
      }

-- an element with another delete id and another place of its payload may stand in a leaf yet
pub placed_changed : (e : Element) (delete to : ℕ) → IsPlaced e → (delete ≡ 0) ⊎ (e.base.create < delete) → IsOffset to
    → IsPlaced (closed_at delete (moved_to to e))
placed_changed e delete to was closed offset = record {
  element = record {
    made = was.element.made;
    closed = closed;
    obj_type = was.element.obj_type;
    btype = was.element.btype;
    fits = fits_changed e delete to was.element.fits;
  };
  payload = offset;
}

-- the delete id of an element, and its payload
pub delete_put : (page : List ℕ) (a delete up : ℕ) → 64 ≤ a → delete < 256 ^ 8
    → element_in (put (put page (a + 24) 8 delete) 8 8 up) a ≡ closed_at delete (element_in page a)
unfolding element_in base_in
delete_put page a delete up high fits =
    let p = put page (a + 24) 8 delete in
    let field : (x size : ℕ) → a ≤ x → Apart (a + 24) 8 x size → get (put p 8 8 up) x size ≡ get page x size =
    λ x size l apart. get_put_apart_two page (a + 24) 8 delete 8 8 up x size apart (inl (omega arith)) in
    let held : get (put p 8 8 up) (a + 24) 8 ≡ delete = get_put_apart p 8 8 up (a + 24) 8 (inl (omega arith)) ∙ get_put page (a + 24) 8 delete fits in
    rw (
      field a 8 (omega arith) (inr (omega arith)),
      field (a + 8) 8 (omega arith) (inr (omega arith)),
      field (a + 16) 8 (omega arith) (inr (omega arith)),
      held,
      field (a + 32) 2 (omega arith) (inl (omega arith)),
      field (a + 34) 1 (omega arith) (inl (omega arith)),
      field (a + 35) 1 (omega arith) (inl (omega arith)),
      field (a + 36) 4 (omega arith) (inl (omega arith)),
      field (a + 40) 8 (omega arith) (inl (omega arith)),
      field (a + 48) 4 (omega arith) (inl (omega arith)),
    ) refl

pub payload_put : (page : List ℕ) (a to : ℕ) → to < 256 ^ 8 → element_in (put page (a + 40) 8 to) a ≡ moved_to to (element_in page a)
unfolding element_in
payload_put page a to fits =
    let base = same_base (put page (a + 40) 8 to) page a (record { each = λ x size l h. get_put_apart page (a + 40) 8 to x size (inr (omega arith)) }) in
    rw (base, get_put page (a + 40) 8 to fits, get_put_apart page (a + 40) 8 to (a + 48) 4 (inl (omega arith))) refl
