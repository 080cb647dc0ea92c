-- Two lists of intervals whose ids are put together.
use Rattle.std.proofs.Common.{ℕ, ◌+◌, ◌≤◌, List, [], ◌∷◌, inl, inr, arith}
use Rattle.std.specs.Prelude.{◌⊎◌, ◌↔◌}
use Rattle.hm_types.specs.Intervals.{Keeps}
use Rattle.hm_retain.specs.Intervals.{RiseFrom}
use Rattle.hm_retain.specs.Growth.{BeginBy, Adds}
use Rattle.hm_retain.specs.Walk.{HeadFrom, TakesEarliest}
use Rattle.hm_retain.proofs.SetLemmas.{BeginBy-higher, RiseFrom-lower}

-- `set`, `a` and `b` together are the whole lists together, and later ids come at the end of `set`
pub record IsUnion (whole_a whole_b a b set : List (ℕ × ℕ)) : Type 0 where
  pub low : ℕ
  pub a_rises : RiseFrom low a
  pub b_rises : RiseFrom low b
  pub begin : BeginBy low set
  pub keeps : (id : ℕ) → ((Keeps set id ⊎ (Keeps a id ⊎ Keeps b id)) ↔ (Keeps whole_a id ⊎ Keeps whole_b id))

-- nothing is walked yet
pub IsUnion-none : (a b : List (ℕ × ℕ)) → RiseFrom 0 a → RiseFrom 0 b → IsUnion a b a b []
IsUnion-none a b ra rb = record {
  low = 0;
  a_rises = ra;
  b_rises = rb;
  begin = tt;
  keeps = λ id. (λ either. elim either [ inl none ↦ absurd none | inr rest ↦ rest ], λ rest. inr rest);
}

-- both lists are walked to their ends
pub IsUnion-all : (wa wb set : List (ℕ × ℕ)) → IsUnion wa wb [] [] set → (id : ℕ) → (Keeps set id ↔ (Keeps wa id ⊎ Keeps wb id))
IsUnion-all wa wb set union id = (
  λ kept. (union.keeps id).0 (inl kept),
  λ whole. elim ((union.keeps id).1 whole) [ inl kept ↦ kept | inr none ↦ elim none [ inl a ↦ absurd a | inr b ↦ absurd b ] ],
)

-- a list whose head begins at an id or above rises from there
rises_from_head : (low first : ℕ) (list : List (ℕ × ℕ)) → HeadFrom first list → RiseFrom low list → RiseFrom first list
rises_from_head low first [] head rise = tt
rises_from_head low first (x ∷ xs) head rise = (record { above = head; ordered = rise.0.ordered; bounded = rise.0.bounded }, rise.1)

head_begins : (low : ℕ) (x : ℕ × ℕ) (rest set : List (ℕ × ℕ)) → RiseFrom low (x ∷ rest) → BeginBy low set → BeginBy x.0 set
head_begins low x rest set rise begin = BeginBy-higher low x.0 set rise.0.above begin

-- the head of one list may come at the end
pub IsUnion-begin : (wa wb a b : List (ℕ × ℕ)) (x : ℕ × ℕ) (more_a more_b set : List (ℕ × ℕ)) → IsUnion wa wb a b set
    → TakesEarliest a b x more_a more_b → BeginBy x.0 set
IsUnion-begin wa wb a b x more_a more_b set union takes =
    elim takes [
      | inl left ↦ let rise : RiseFrom union.low (x ∷ more_a) = rw left.0 at union.a_rises in head_begins union.low x more_a set rise union.begin
      | inr right ↦ let rise : RiseFrom union.low (x ∷ more_b) = rw right.0 at union.b_rises in head_begins union.low x more_b set rise union.begin
    ]

left_step : (wa wb : List (ℕ × ℕ)) (x : ℕ × ℕ) (a b old new : List (ℕ × ℕ)) → IsUnion wa wb (x ∷ a) b old → HeadFrom x.0 b → Adds x old new
    → IsUnion wa wb a b new
left_step wa wb x a b old new union head adds =
    let ordered : x.0 ≤ x.1 = union.a_rises.0.ordered in
    record {
      low = x.0;
      a_rises = RiseFrom-lower x.0 (x.1 + 2) a (omega arith) union.a_rises.1;
      b_rises = rises_from_head union.low x.0 b head union.b_rises;
      begin = adds.begin;
      keeps = λ id. (
        λ either. (union.keeps id).0 (elim either [
          | inl kept ↦ elim ((adds.keeps id).0 kept) [ inl was ↦ inl was | inr held ↦ inr (inl (inl held)) ]
          | inr rest ↦ elim rest [ inl left ↦ inr (inl (inr left)) | inr right ↦ inr (inr right) ]
        ]),
        λ whole. elim ((union.keeps id).1 whole) [
          | inl was ↦ inl ((adds.keeps id).1 (inl was))
          | inr rest ↦ elim rest [
            | inl left ↦ elim left [ inl held ↦ inl ((adds.keeps id).1 (inr held)) | inr more ↦ inr (inl more) ]
            | inr right ↦ inr (inr right)
          ]
        ],
      );
    }

swapped : (P Q R S T : Type 0) → ((P ⊎ (Q ⊎ R)) ↔ (S ⊎ T)) → ((P ⊎ (R ⊎ Q)) ↔ (T ⊎ S))
swapped P Q R S T same = (
  λ either. elim (same.0 (elim either [ inl p ↦ inl p | inr rest ↦ inr (elim rest [ inl r ↦ inr r | inr q ↦ inl q ]) ])) [ inl s ↦ inr s | inr t ↦ inl t ],
  λ either. elim (same.1 (elim either [ inl t ↦ inr t | inr s ↦ inl s ])) [ inl p ↦ inl p | inr rest ↦ inr (elim rest [ inl q ↦ inr q | inr r ↦ inl r ]) ],
)

swap_sides : (wa wb a b set : List (ℕ × ℕ)) → IsUnion wa wb a b set → IsUnion wb wa b a set
swap_sides wa wb a b set union = record {
  low = union.low;
  a_rises = union.b_rises;
  b_rises = union.a_rises;
  begin = union.begin;
  keeps = λ id. swapped (Keeps set id) (Keeps a id) (Keeps b id) (Keeps wa id) (Keeps wb id) (union.keeps id);
}

-- the head of one list goes to the end
pub IsUnion-step : (wa wb a b : List (ℕ × ℕ)) (x : ℕ × ℕ) (more_a more_b old new : List (ℕ × ℕ)) → IsUnion wa wb a b old
    → TakesEarliest a b x more_a more_b → Adds x old new → IsUnion wa wb more_a more_b new
IsUnion-step wa wb a b x more_a more_b old new union takes adds =
    elim takes [
      | inl left ↦
          let before : IsUnion wa wb (x ∷ more_a) b old = rw left.0 at union in
          let after : IsUnion wa wb more_a b new = left_step wa wb x more_a b old new before left.2 adds in
          rw (← left.1) after
      | inr right ↦
          let before : IsUnion wb wa (x ∷ more_b) a old = rw right.0 at (swap_sides wa wb a b old union) in
          let after : IsUnion wb wa more_b a new = left_step wb wa x more_b a old new before right.2 adds in
          rw (← right.1) (swap_sides wb wa more_b a new after)
    ]
