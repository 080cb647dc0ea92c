-- Marks that change below one node, beside marks that stay.
use Rattle.std.proofs.Common.{◌≡◌, Bool, true, false, ℕ, ◌⊎◌, inl, inr, refl, sym, ap, subst, ◌∙◌, arith, max}
use Rattle.std.specs.Prelude.{if◌then◌else◌}
use Rattle.std.specs.Ordering.{is_lt}
use Rattle.hm_types.specs.Elements.{Key, key_cmp}
use Rattle.hm_key.specs.Key.{key_of, IsBefore, IsFrom}
use Rattle.hm_key.specs.declared.base.Base.{Base}
use Rattle.hm_key.proofs.KeyLemmas.{key_before_from, key_from_before, key_not_before}
use Rattle.hm_search.specs.Place.{IsInside}
use Rattle.hm_search.proofs.OrderLemmas.{before_is, from_is, from_not, from_trans, from_then_before}
use Rattle.hm_btree.specs.Marking.{Marking, Writes, TakesOut, Leaves, MarksBy, MarksWithin}
use Rattle.hm_key.specs.Marks.{MarksStay, AllTook, IsBetween, Marks, MarksJoin}
use Rattle.hm_btree.proofs.OrderLemmas.{before_before}

-- a function of keys that is the same everywhere
pub same_marks : (P : (Key → ℕ) → Type 0) (marks marks' : Key → ℕ) → ((k : Key) → marks' k ≡ marks k) → P marks → P marks'
same_marks P marks marks' same is = let both : marks ≡ marks' = λ i k. sym (same k) i in subst P both is

pub as_marks : (P : (Key → ℕ) → (Key → ℕ) → Type 0) (old old' new new' : Key → ℕ)
    → ((k : Key) → old' k ≡ old k) → ((k : Key) → new' k ≡ new k) → P old new → P old' new'
as_marks P old old' new new' first second is =
    same_marks (P old') new new' second (same_marks (λ (o : Key → ℕ). P o new) old old' first is)

-- what is known below a node holds of the whole tree, if it is all of it
pub marks_whole : (marking : Marking) (key : Key) (left right : Base) (old new : Key → ℕ)
    → MarksWithin marking key left right old new → MarksBy marking key old new
marks_whole (Writes id) key left right old new marks = marks
marks_whole TakesOut key left right old new marks = marks.joins
marks_whole Leaves key left right old new marks = marks

-- boundaries with the same keys
pub marks_bounds : (marking : Marking) (key : Key) (left left' right right' : Base) (old new : Key → ℕ)
    → key_of left ≡ key_of left' → key_of right ≡ key_of right'
    → MarksWithin marking key left right old new → MarksWithin marking key left' right' old new
marks_bounds (Writes id) key left left' right right' old new first last marks = marks
marks_bounds TakesOut key left left' right right' old new first last marks = record {
  joins = marks.joins;
  inside = record {
    from = subst (λ (k : Key). IsFrom k marks.joins.other) first marks.inside.from;
    before = subst (λ (k : Key). IsBefore marks.joins.other k) last marks.inside.before;
  };
}
marks_bounds Leaves key left left' right right' old new first last marks = marks

-- a key between two that are before an end, or from a start on
between_before : (a b end key : Key) → IsBefore a end → IsBefore b end → IsBetween a b key → IsBefore key end
between_before a b end key first second (inl within) = from_then_before key b end within.1 second
between_before a b end key first second (inr within) = from_then_before key a end within.1 first

between_from : (a b start key : Key) → IsFrom start a → IsFrom start b → IsBetween a b key → IsFrom start key
between_from a b start key first second (inl within) = from_trans start a key first within.0
between_from a b start key first second (inr within) = from_trans start b key second within.0

-- the mark of each key stays, or each key from it to this one had such a mark and now has that one
abbrev Rises : (ℕ → Type 0) → ℕ → Key → (Key → ℕ) → (Key → ℕ) → Type 0
Rises Had mark at old new = (k : Key) → (new k ≡ old k) ⊎ AllTook Had mark k at old new

-- marks on both sides of a boundary
module _ (bound : Base) where
  abbrev pub both_sides : (Key → ℕ) → (Key → ℕ) → Key → ℕ
  both_sides low high k = if is_lt (key_cmp k (key_of bound)) then low k else high k

  pub side_low : (low high : Key → ℕ) (k : Key) → IsBefore k (key_of bound) → both_sides low high k ≡ low k
  side_low low high k before = rw (ap is_lt before) refl

  pub side_high : (low high : Key → ℕ) (k : Key) → IsFrom (key_of bound) k → both_sides low high k ≡ high k
  side_high low high k from = rw (from_not k (key_of bound) from) refl

  -- those before it changed
  module _ (low low' high : Key → ℕ) (key : Key) (here : IsBefore key (key_of bound)) where
    abbrev were : Key → ℕ
    were = both_sides low high

    abbrev are : Key → ℕ
    are = both_sides low' high

    took_low : (Had : ℕ → Type 0) (mark : ℕ) → Rises Had mark key low low' → Rises Had mark key were are
    took_low Had mark each k = by_test (is_lt (key_cmp k (key_of bound))) refl where
      by_test : (t : Bool) → is_lt (key_cmp k (key_of bound)) ≡ t
          → ((if t then low' k else high k) ≡ (if t then low k else high k)) ⊎ AllTook Had mark k key were are
      by_test true is = elim (each k) [
        | inl same ↦ inl same
        | inr took ↦ inr (λ other within.
            let before = between_before k key (key_of bound) other (before_is k (key_of bound) is) here within in
            let one = took other within in
            (subst Had (sym (side_low low high other before)) one.0, side_low low' high other before ∙ one.1))
      ]
      by_test false is = inl refl

    stay_low : MarksStay low low' → MarksStay were are
    stay_low same k = ap (λ (n : ℕ). if is_lt (key_cmp k (key_of bound)) then n else high k) (same k)

    pub marks_low : (marking : Marking) (left right : Base) → IsBefore (key_of bound) (key_of right)
        → MarksWithin marking key left bound low low' → MarksWithin marking key left right were are
    marks_low (Writes id) left right end marks = record {
      reach = omega (arith, marks.reach, side_low low' high key here);
      each = subst (λ (n : ℕ). Rises (λ mark. mark ≡ n) (max n id) key were are) (sym (side_low low high key here))
          (took_low (λ mark. mark ≡ low key) (max (low key) id) marks.each);
    }
    marks_low TakesOut left right end marks =
        let other = marks.joins.other in
        let first = sym (side_low low high key here) in
        let second = sym (side_low low high other marks.inside.before) in
        record {
          joins = record {
            other = other;
            each = subst (λ (n : ℕ). Rises (λ mark. (mark ≡ were key) ⊎ (mark ≡ n)) (max (were key) n) key were are) second
                (subst (λ (n : ℕ). Rises (λ mark. (mark ≡ n) ⊎ (mark ≡ low other)) (max n (low other)) key were are) first
                (took_low (λ mark. (mark ≡ low key) ⊎ (mark ≡ low other)) (max (low key) (low other)) marks.joins.each));
          };
          inside = record {
            from = marks.inside.from;
            before = before_before other (key_of bound) (key_of right) marks.inside.before end;
          };
        }
    marks_low Leaves left right end marks = stay_low marks

  -- those from it on changed
  module _ (low high high' : Key → ℕ) (key : Key) (here : IsFrom (key_of bound) key) where
    abbrev had : Key → ℕ
    had = both_sides low high

    abbrev have : Key → ℕ
    have = both_sides low high'

    took_high : (Had : ℕ → Type 0) (mark : ℕ) → Rises Had mark key high high' → Rises Had mark key had have
    took_high Had mark each k = by_test (is_lt (key_cmp k (key_of bound))) refl where
      by_test : (t : Bool) → is_lt (key_cmp k (key_of bound)) ≡ t
          → ((if t then low k else high' k) ≡ (if t then low k else high k)) ⊎ AllTook Had mark k key had have
      by_test true is = inl refl
      by_test false is = elim (each k) [
        | inl same ↦ inl same
        | inr took ↦ inr (λ other within.
            let from = between_from k key (key_of bound) other (from_is k (key_of bound) is) here within in
            let one = took other within in
            (subst Had (sym (side_high low high other from)) one.0, side_high low high' other from ∙ one.1))
      ]

    stay_high : MarksStay high high' → MarksStay had have
    stay_high same k = ap (λ (n : ℕ). if is_lt (key_cmp k (key_of bound)) then low k else n) (same k)

    pub marks_high : (marking : Marking) (left right : Base) → IsBefore (key_of left) (key_of bound)
        → MarksWithin marking key bound right high high' → MarksWithin marking key left right had have
    marks_high (Writes id) left right start marks = record {
      reach = omega (arith, marks.reach, side_high low high' key here);
      each = subst (λ (n : ℕ). Rises (λ mark. mark ≡ n) (max n id) key had have) (sym (side_high low high key here))
          (took_high (λ mark. mark ≡ high key) (max (high key) id) marks.each);
    }
    marks_high TakesOut left right start marks =
        let other = marks.joins.other in
        let first = sym (side_high low high key here) in
        let second = sym (side_high low high other marks.inside.from) in
        record {
          joins = record {
            other = other;
            each = subst (λ (n : ℕ). Rises (λ mark. (mark ≡ had key) ⊎ (mark ≡ n)) (max (had key) n) key had have) second
                (subst (λ (n : ℕ). Rises (λ mark. (mark ≡ n) ⊎ (mark ≡ high other)) (max n (high other)) key had have) first
                (took_high (λ mark. (mark ≡ high key) ⊎ (mark ≡ high other)) (max (high key) (high other)) marks.joins.each));
          };
          inside = record {
            from = from_trans (key_of left) (key_of bound) other (key_from_before (key_of left) (key_of bound) start) marks.inside.from;
            before = marks.inside.before;
          };
        }
    marks_high Leaves left right start marks = stay_high marks

-- an id is written into a leaf
pub writes_leaf : (key : Key) (id m m' : ℕ) → m' ≡ max m id → Marks key id (λ _. m) (λ _. m')
writes_leaf key id m m' is = record { reach = omega (arith, is); each = λ k. inr (λ other within. (refl, is)) }

-- an element is taken out of a leaf, whose mark stays
pub takes_leaf : (left right : Base) (key : Key) (m : ℕ) → IsInside left right key → MarksWithin TakesOut key left right (λ _. m) (λ _. m)
takes_leaf left right key m inside = record { joins = record { other = key; each = λ k. inl refl }; inside = inside }

-- one mark for all keys, which is the same after something was taken out
pub takes_same : (key : Key) (m m' : ℕ) → MarksJoin key (λ _. m) (λ _. m') → m' ≡ m
takes_same key m m' marks = elim (marks.each key) [
  | inl same ↦ same
  | inr took ↦ let here = took key (inl (key_not_before key, key_not_before key)) in omega (arith, here.1)
]

-- two leaves on both sides of a boundary, of which one holds a key
module _ (at left right : Base) (key : Key) (a b : ℕ) (from : IsBefore (key_of left) (key_of at)) (to : IsBefore (key_of at) (key_of right)) where
  abbrev two_marks : Key → ℕ
  two_marks = both_sides at (λ _. a) (λ _. b)

  one_of : (mark mark' : ℕ) → mark ≡ a → mark' ≡ b → (k : Key) → (two_marks k ≡ mark) ⊎ (two_marks k ≡ mark')
  one_of mark mark' first second k = by_test (is_lt (key_cmp k (key_of at))) where
    by_test : (t : Bool) → ((if t then a else b) ≡ mark) ⊎ ((if t then a else b) ≡ mark')
    by_test true = inl (sym first)
    by_test false = inr (sym second)

  turned : {A B : Type 0} → A ⊎ B → B ⊎ A
  turned (inl x) = inr x
  turned (inr x) = inl x

  in_low : two_marks (key_of left) ≡ a
  in_low = side_low at (λ _. a) (λ _. b) (key_of left) from

  in_high : two_marks (key_of at) ≡ b
  in_high = side_high at (λ _. a) (λ _. b) (key_of at) (key_not_before (key_of at))

  inside_low : IsInside left right (key_of left)
  inside_low = record { from = key_not_before (key_of left); before = before_before (key_of left) (key_of at) (key_of right) from to }

  inside_high : IsInside left right (key_of at)
  inside_high = record { from = key_from_before (key_of left) (key_of at) from; before = to }

  -- they become one
  pub marks_joined : IsBefore key (key_of at) ⊎ IsFrom (key_of at) key → MarksWithin TakesOut key left right two_marks (λ _. max a b)
  marks_joined (inl before) =
      let here : two_marks key ≡ a = side_low at (λ _. a) (λ _. b) key before in
      record {
        joins = record {
          other = key_of at;
          each = λ k. inr (λ other within. (one_of (two_marks key) (two_marks (key_of at)) here in_high other, omega (arith, here, in_high)));
        };
        inside = inside_high;
      }
  marks_joined (inr after) =
      let here : two_marks key ≡ b = side_high at (λ _. a) (λ _. b) key after in
      record {
        joins = record {
          other = key_of left;
          each = λ k. inr (λ other within. (turned (one_of (two_marks (key_of left)) (two_marks key) in_low here other), omega (arith, here, in_low)));
        };
        inside = inside_low;
      }

  -- the lower one holds the key, and gains what is before another boundary
  pub marks_gain_low : (now : Base) → IsBefore key (key_of at) → IsFrom (key_of at) (key_of now)
      → MarksWithin TakesOut key left right two_marks (both_sides now (λ _. max a b) (λ _. b))
  marks_gain_low now before up =
      let here : two_marks key ≡ a = side_low at (λ _. a) (λ _. b) key before in
      let below : IsBefore key (key_of now) = key_before_from key (key_of at) (key_of now) before up in
      record {
        joins = record { other = key_of at; each = λ k. by_test k (is_lt (key_cmp k (key_of now))) refl here below };
        inside = inside_high;
      } where
        by_test : (k : Key) (t : Bool) → is_lt (key_cmp k (key_of now)) ≡ t → two_marks key ≡ a → IsBefore key (key_of now)
            → ((if t then max a b else b) ≡ two_marks k)
            ⊎ AllTook (λ mark. (mark ≡ two_marks key) ⊎ (mark ≡ two_marks (key_of at))) (max (two_marks key) (two_marks (key_of at)))
            k key two_marks (both_sides now (λ _. max a b) (λ _. b))
        by_test k true is here below = inr (λ other within. (
          one_of (two_marks key) (two_marks (key_of at)) here in_high other,
          side_low now (λ _. max a b) (λ _. b) other (between_before k key (key_of now) other (before_is k (key_of now) is) below within)
              ∙ omega (arith, here, in_high),
        ))
        by_test k false is here below = inl (sym (side_high at (λ _. a) (λ _. b) k (from_trans (key_of at) (key_of now) k up (from_is k (key_of now) is))))

  -- the upper one holds the key, and gains what is from another boundary on
  pub marks_gain_high : (now : Base) → IsFrom (key_of at) key → IsBefore (key_of now) (key_of at)
      → MarksWithin TakesOut key left right two_marks (both_sides now (λ _. a) (λ _. max a b))
  marks_gain_high now after down =
      let here : two_marks key ≡ b = side_high at (λ _. a) (λ _. b) key after in
      let above : IsFrom (key_of now) key = from_trans (key_of now) (key_of at) key (key_from_before (key_of now) (key_of at) down) after in
      record {
        joins = record { other = key_of left; each = λ k. by_test k (is_lt (key_cmp k (key_of now))) refl here above };
        inside = inside_low;
      } where
        by_test : (k : Key) (t : Bool) → is_lt (key_cmp k (key_of now)) ≡ t → two_marks key ≡ b → IsFrom (key_of now) key
            → ((if t then a else max a b) ≡ two_marks k)
            ⊎ AllTook (λ mark. (mark ≡ two_marks key) ⊎ (mark ≡ two_marks (key_of left))) (max (two_marks key) (two_marks (key_of left)))
            k key two_marks (both_sides now (λ _. a) (λ _. max a b))
        by_test k true is here above =
            inl (sym (side_low at (λ _. a) (λ _. b) k (before_before k (key_of now) (key_of at) (before_is k (key_of now) is) down)))
        by_test k false is here above = inr (λ other within. (
          turned (one_of (two_marks (key_of left)) (two_marks key) in_low here other),
          side_high now (λ _. a) (λ _. max a b) other (between_from k key (key_of now) other (from_is k (key_of now) is) above within)
              ∙ omega (arith, here, in_low),
        ))
