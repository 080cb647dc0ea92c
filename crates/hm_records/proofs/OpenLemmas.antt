-- Which interval of a retention may have an open end.
use Rattle.std.proofs.Common.{ℕ, ◌+◌, List, [], ◌∷◌, inl, inr, arith}
use Rattle.std.specs.Prelude.{◌↔◌}
use Rattle.hm_retain.specs.Intervals.{RiseFrom}
use Rattle.hm_retain.specs.Retention.{IsRetention}
use Rattle.hm_records.specs.PfsRecord.{EndsOpen, IsOpen, NoneEndsOpen}

open_ends : (least : ℕ) (list : List (ℕ × ℕ)) → RiseFrom least list → IsOpen list → EndsOpen list
open_ends least [] rise kept = absurd kept
open_ends least (x ∷ []) rise (inl held) = omega (arith, rise.0.bounded, held.1)
open_ends least (x ∷ []) rise (inr kept) = absurd kept
open_ends least (x ∷ y ∷ more) rise (inl held) = absurd (omega (arith, rise.0.bounded, held.1, rise.1.0.above, rise.1.0.ordered, rise.1.0.bounded))
open_ends least (x ∷ y ∷ more) rise (inr kept) = open_ends (x.1 + 2) (y ∷ more) rise.1 kept

ends_open : (least : ℕ) (list : List (ℕ × ℕ)) → RiseFrom least list → EndsOpen list → IsOpen list
ends_open least [] rise ends = absurd ends
ends_open least (x ∷ []) rise ends = inl (omega (arith, rise.0.ordered), omega arith)
ends_open least (x ∷ y ∷ more) rise ends = inr (ends_open (x.1 + 2) (y ∷ more) rise.1 ends)

none_ends : (least : ℕ) (list : List (ℕ × ℕ)) → RiseFrom least list → ¬ IsOpen list → NoneEndsOpen list
none_ends least [] rise none = tt
none_ends least (x ∷ more) rise none = (
  (λ ends. none (inl (omega (arith, rise.0.ordered), omega arith))),
  none_ends (x.1 + 2) more rise.1 (λ kept. none (inr kept)),
)

not_open : (least : ℕ) (list : List (ℕ × ℕ)) → RiseFrom least list → NoneEndsOpen list → ¬ IsOpen list
not_open least [] rise none kept = kept
not_open least (x ∷ more) rise none (inl held) = none.0 (omega (arith, rise.0.bounded, held.1))
not_open least (x ∷ more) rise none (inr kept) = not_open (x.1 + 2) more rise.1 none.1 kept

pub open_is_last : (list : List (ℕ × ℕ)) → IsRetention list → (IsOpen list ↔ EndsOpen list)
open_is_last list is = (open_ends 0 list is.intervals, ends_open 0 list is.intervals)

pub open_is_none : (list : List (ℕ × ℕ)) → IsRetention list → ((¬ IsOpen list) ↔ NoneEndsOpen list)
open_is_none list is = (none_ends 0 list is.intervals, not_open 0 list is.intervals)
