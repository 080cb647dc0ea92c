-- Cuts and joins as sets of ids.
use Rattle.std.proofs.Common.{◌≡◌, ℕ, ◌+◌, List, ◌++◌, map, inl, inr, arith}
use Rattle.hm_types.specs.declared.id.Id.{Id}
use Rattle.hm_retain.specs.Intervals.{IsIntervals, KeepsExactly}
use Rattle.hm_retain.specs.Retention.{IsCut, IsJoin}
use Rattle.hm_retain.proofs.SameLemmas.{same_list}
use Rattle.hm_model.specs.Cut.{cut, join, single, within}
use Rattle.hm_types.specs.Intervals.{open_end}
use Rattle.hm_model.proofs.IntervalLemmas.{Keeps-append, Keeps-maximal, Keeps-single, Keeps-within, RiseFrom-maximal, among_listed, both_intervals}
use Rattle.hm_model.proofs.IntervalLemmas.{each_interval, listed_among, single_intervals, within_intervals}

-- one list alone of maximal intervals stands for a set
pub alone : (Set : ℕ → Type 0) (a b : List (ℕ × ℕ)) → IsIntervals a → IsIntervals b → KeepsExactly a Set → KeepsExactly b Set → a ≡ b
alone Set a b rise_a rise_b exact_a exact_b =
    same_list a b rise_a rise_b (λ id below.
    (λ kept. (exact_b id below).1 ((exact_a id below).0 kept), λ kept. (exact_a id below).1 ((exact_b id below).0 kept)))

-- the numbers of ids
abbrev pub numbers : List Id → List ℕ
numbers ids = map (λ (i : Id). i.0) ids

pub IsCut-cut : (retention : List (ℕ × ℕ)) (ids : List Id) (from : ℕ) → IsCut retention ids from (cut retention (numbers ids) from)
IsCut-cut retention ids from id below = (
  λ kept. elim ((Keeps-append (single retention (numbers ids)) (within from open_end retention) id).0
      ((Keeps-maximal (single retention (numbers ids) ++ within from open_end retention) id).0 kept)) [
        | inl listed ↦ let both = (Keeps-single retention (numbers ids) id).0 listed in (both.0, inl (among_listed ids id both.1))
        | inr later ↦ let both = (Keeps-within from open_end retention id).0 later in (both.0, inr both.1)
      ],
  λ both. (Keeps-maximal (single retention (numbers ids) ++ within from open_end retention) id).1
      ((Keeps-append (single retention (numbers ids)) (within from open_end retention) id).1 (elim both.1 [
        | inl listed ↦ inl ((Keeps-single retention (numbers ids) id).1 (both.0, listed_among ids id listed))
        | inr later ↦ inr ((Keeps-within from open_end retention id).1 (both.0, later, omega (arith, below)))
      ])),
)

pub IsIntervals-cut : (retention : List (ℕ × ℕ)) (ids : List ℕ) (from : ℕ) → IsIntervals retention → IsIntervals (cut retention ids from)
IsIntervals-cut retention ids from rise =
    RiseFrom-maximal (single retention ids ++ within from open_end retention)
    (both_intervals (single retention ids) (within from open_end retention) (single_intervals retention ids rise)
    (within_intervals from open_end retention (each_interval 0 retention rise)))

pub IsJoin-join : (retention other : List (ℕ × ℕ)) (begin end : ℕ) → IsJoin retention other begin end (join retention other begin end)
IsJoin-join retention other begin end id below = (
  λ kept. elim ((Keeps-append (within (begin + 1) end other) retention id).0 ((Keeps-maximal (within (begin + 1) end other ++ retention) id).0 kept)) [
    | inl new ↦ let both = (Keeps-within (begin + 1) end other id).0 new in inr (both.0, omega (arith, both.1), both.2)
    | inr old ↦ inl old
  ],
  λ either. (Keeps-maximal (within (begin + 1) end other ++ retention) id).1 ((Keeps-append (within (begin + 1) end other) retention id).1 (elim either [
    | inl old ↦ inr old
    | inr new ↦ inl ((Keeps-within (begin + 1) end other id).1 (new.0, omega (arith, new.1), new.2))
  ])),
)

pub IsIntervals-join : (retention other : List (ℕ × ℕ)) (begin end : ℕ) → IsIntervals retention → IsIntervals other →
    IsIntervals (join retention other begin end)
IsIntervals-join retention other begin end rise rise_other =
    RiseFrom-maximal (within (begin + 1) end other ++ retention)
    (both_intervals (within (begin + 1) end other) retention (within_intervals (begin + 1) end other (each_interval 0 other rise_other))
    (each_interval 0 retention rise))
