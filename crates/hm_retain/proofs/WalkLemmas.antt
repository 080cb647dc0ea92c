-- Two lists of intervals that are walked together.
use Rattle.std.proofs.Common.{ℕ, ◌+◌, ◌<◌, ◌≤◌, max, min, List, [], ◌∷◌, inl, inr, arith, ◌-◌, length, get_or, take, drop}
use Rattle.std.proofs.lemmas.List.{take_rest}
use Rattle.hm_types.specs.declared.id.Id.{Id}
use Rattle.std.specs.Prelude.{◌⊎◌, ◌↔◌}
use Rattle.hm_types.specs.Intervals.{Keeps}
use Rattle.hm_retain.specs.Intervals.{numbers_of, RiseFrom}
use Rattle.hm_retain.specs.Growth.{BeginBy, Adds}
use Rattle.hm_retain.specs.Walk.{AddsShared}
use Rattle.hm_retain.proofs.GrowthLemmas.{number_pair}
use Rattle.hm_retain.proofs.SetLemmas.{kept_from, BeginBy-higher}

-- `set` and what `a` and `b` share are what the whole lists share, and later ids come at its end
pub record IsShared (whole_a whole_b a b set : List (ℕ × ℕ)) : Type 0 where
  pub low_a : ℕ
  pub low_b : ℕ
  pub a_rises : RiseFrom low_a a
  pub b_rises : RiseFrom low_b b
  pub begin : BeginBy (max low_a low_b) set
  pub keeps : (id : ℕ) → ((Keeps set id ⊎ (Keeps a id × Keeps b id)) ↔ (Keeps whole_a id × Keeps whole_b id))

-- nothing is walked yet
pub IsShared-none : (a b : List (ℕ × ℕ)) → RiseFrom 0 a → RiseFrom 0 b → IsShared a b a b []
IsShared-none a b ra rb = record {
  low_a = 0;
  low_b = 0;
  a_rises = ra;
  b_rises = rb;
  begin = tt;
  keeps = λ id. (λ either. elim either [ inl none ↦ absurd none | inr both ↦ both ], λ both. inr both);
}

-- what the two heads share may come at the end
pub IsShared-begin : (wa wb : List (ℕ × ℕ)) (x y : ℕ × ℕ) (a b set : List (ℕ × ℕ)) → IsShared wa wb (x ∷ a) (y ∷ b) set → BeginBy (max x.0 y.0) set
IsShared-begin wa wb x y a b set shared =
    let left : shared.low_a ≤ x.0 = shared.a_rises.0.above in
    let right : shared.low_b ≤ y.0 = shared.b_rises.0.above in
    BeginBy-higher (max shared.low_a shared.low_b) (max x.0 y.0) set (omega arith) shared.begin

-- the first list's head ends first
pub IsShared-left : (wa wb : List (ℕ × ℕ)) (x y : ℕ × ℕ) (a b old new : List (ℕ × ℕ)) → IsShared wa wb (x ∷ a) (y ∷ b) old → AddsShared x y old new
    → x.1 < y.1 → IsShared wa wb a (y ∷ b) new
IsShared-left wa wb x y a b old new shared adds less =
    let ordered : x.0 ≤ x.1 = shared.a_rises.0.ordered in
    record {
      low_a = x.1 + 2;
      low_b = y.0;
      a_rises = shared.a_rises.1;
      b_rises = (record { above = omega arith; ordered = shared.b_rises.0.ordered; bounded = shared.b_rises.0.bounded }, shared.b_rises.1);
      begin = BeginBy-higher (max x.0 y.0) (max (x.1 + 2) y.0) new (omega arith) adds.begin;
      keeps = λ id. (
        λ either. (shared.keeps id).0 (elim either [
          | inl kept ↦ elim ((adds.keeps id).0 kept) [ inl was ↦ inl was | inr both ↦ inr (inl both.0, inl both.1) ]
          | inr both ↦ inr (inr both.0, both.1)
        ]),
        λ whole. elim ((shared.keeps id).1 whole) [
          | inl was ↦ inl ((adds.keeps id).1 (inl was))
          | inr both ↦ elim both.0 [
            | inl held ↦ elim both.1 [
              | inl too ↦ inl ((adds.keeps id).1 (inr (held, too)))
              | inr later ↦ let above : y.1 + 2 ≤ id = kept_from (y.1 + 2) b id shared.b_rises.1 later in absurd (omega (arith, held.1))
            ]
            | inr more ↦ inr (more, both.1)
          ]
        ],
      );
    }

-- the second list's head ends no later
pub IsShared-right : (wa wb : List (ℕ × ℕ)) (x y : ℕ × ℕ) (a b old new : List (ℕ × ℕ)) → IsShared wa wb (x ∷ a) (y ∷ b) old → AddsShared x y old new
    → y.1 ≤ x.1 → IsShared wa wb (x ∷ a) b new
IsShared-right wa wb x y a b old new shared adds le =
    let ordered : y.0 ≤ y.1 = shared.b_rises.0.ordered in
    record {
      low_a = x.0;
      low_b = y.1 + 2;
      a_rises = (record { above = omega arith; ordered = shared.a_rises.0.ordered; bounded = shared.a_rises.0.bounded }, shared.a_rises.1);
      b_rises = shared.b_rises.1;
      begin = BeginBy-higher (max x.0 y.0) (max x.0 (y.1 + 2)) new (omega arith) adds.begin;
      keeps = λ id. (
        λ either. (shared.keeps id).0 (elim either [
          | inl kept ↦ elim ((adds.keeps id).0 kept) [ inl was ↦ inl was | inr both ↦ inr (inl both.0, inl both.1) ]
          | inr both ↦ inr (both.0, inr both.1)
        ]),
        λ whole. elim ((shared.keeps id).1 whole) [
          | inl was ↦ inl ((adds.keeps id).1 (inl was))
          | inr both ↦ elim both.1 [
            | inl held ↦ elim both.0 [
              | inl too ↦ inl ((adds.keeps id).1 (inr (too, held)))
              | inr later ↦ let above : x.1 + 2 ≤ id = kept_from (x.1 + 2) a id shared.a_rises.1 later in absurd (omega (arith, held.1))
            ]
            | inr more ↦ inr (both.0, more)
          ]
        ],
      );
    }

-- one list is walked to its end
pub IsShared-left_end : (wa wb b set : List (ℕ × ℕ)) → IsShared wa wb [] b set → (id : ℕ) → (Keeps set id ↔ (Keeps wa id × Keeps wb id))
IsShared-left_end wa wb b set shared id = (
  λ kept. (shared.keeps id).0 (inl kept),
  λ whole. elim ((shared.keeps id).1 whole) [ inl kept ↦ kept | inr both ↦ absurd both.0 ],
)

pub IsShared-right_end : (wa wb a set : List (ℕ × ℕ)) → IsShared wa wb a [] set → (id : ℕ) → (Keeps set id ↔ (Keeps wa id × Keeps wb id))
IsShared-right_end wa wb a set shared id = (
  λ kept. (shared.keeps id).0 (inl kept),
  λ whole. elim ((shared.keeps id).1 whole) [ inl kept ↦ kept | inr both ↦ absurd both.1 ],
)

-- what two intervals share is one interval
pub AddsShared-some : (x y : ℕ × ℕ) (old new : List (ℕ × ℕ)) → Adds (max x.0 y.0, min x.1 y.1) old new → AddsShared x y old new
AddsShared-some x y old new adds = record {
  keeps = λ id. (
    λ kept. elim ((adds.keeps id).0 kept) [
      | inl was ↦ inl was
      | inr held ↦ inr (
        (omega (arith, held.0), omega (arith, held.1)),
        (omega (arith, held.0), omega (arith, held.1)),
      )
    ],
    λ either. (adds.keeps id).1 (elim either [ inl was ↦ inl was | inr both ↦ inr (omega (arith, both.0.0, both.1.0), omega (arith, both.0.1, both.1.1)) ]),
  );
  begin = adds.begin;
}

-- two intervals that share nothing
pub AddsShared-none : (x y : ℕ × ℕ) (old : List (ℕ × ℕ)) → min x.1 y.1 < max x.0 y.0 → BeginBy (max x.0 y.0) old → AddsShared x y old old
AddsShared-none x y old apart begin = record {
  keeps = λ id. (
    λ kept. inl kept,
    λ either. elim either [ inl was ↦ was | inr both ↦ absurd (omega (arith, both.0.0, both.0.1, both.1.0, both.1.1)) ],
  );
  begin = begin;
}

-- what the heads of two lists share may come at the end
pub shared_begin : (wa wb : List (ℕ × ℕ)) (a b : List (Id × Id)) (d : Id × Id) (set : List (ℕ × ℕ)) → IsShared wa wb (numbers_of a) (numbers_of b) set
    → 1 ≤ length a → 1 ≤ length b → BeginBy (max (get_or a 0 d).0.0 (get_or b 0 d).0.0) set
shared_begin wa wb [] b d set shared some_a some_b = absurd (omega arith)
shared_begin wa wb (x ∷ a) [] d set shared some_a some_b = absurd (omega arith)
shared_begin wa wb (x ∷ a) (y ∷ b) d set shared some_a some_b = IsShared-begin wa wb (number_pair x) (number_pair y) (numbers_of a) (numbers_of b) set shared

-- the first list goes on
pub shared_left : (wa wb : List (ℕ × ℕ)) (a b : List (Id × Id)) (d : Id × Id) (old new : List (ℕ × ℕ))
    → IsShared wa wb (numbers_of a) (numbers_of b) old → 1 ≤ length a → 1 ≤ length b
    → AddsShared (number_pair (get_or a 0 d)) (number_pair (get_or b 0 d)) old new → (get_or a 0 d).1.0 < (get_or b 0 d).1.0
    → IsShared wa wb (numbers_of (take (length a - 1) (drop 1 a))) (numbers_of b) new
shared_left wa wb [] b d old new shared some_a some_b adds less = absurd (omega arith)
shared_left wa wb (x ∷ a) [] d old new shared some_a some_b adds less = absurd (omega arith)
shared_left wa wb (x ∷ a) (y ∷ b) d old new shared some_a some_b adds less =
    rw (take_rest (x ∷ a) 1) (IsShared-left wa wb (number_pair x) (number_pair y) (numbers_of a) (numbers_of b) old new shared adds less)

-- the second list goes on
pub shared_right : (wa wb : List (ℕ × ℕ)) (a b : List (Id × Id)) (d : Id × Id) (old new : List (ℕ × ℕ))
    → IsShared wa wb (numbers_of a) (numbers_of b) old → 1 ≤ length a → 1 ≤ length b
    → AddsShared (number_pair (get_or a 0 d)) (number_pair (get_or b 0 d)) old new → (get_or b 0 d).1.0 ≤ (get_or a 0 d).1.0
    → IsShared wa wb (numbers_of a) (numbers_of (take (length b - 1) (drop 1 b))) new
shared_right wa wb [] b d old new shared some_a some_b adds le = absurd (omega arith)
shared_right wa wb (x ∷ a) [] d old new shared some_a some_b adds le = absurd (omega arith)
shared_right wa wb (x ∷ a) (y ∷ b) d old new shared some_a some_b adds le =
    rw (take_rest (y ∷ b) 1) (IsShared-right wa wb (number_pair x) (number_pair y) (numbers_of a) (numbers_of b) old new shared adds le)
