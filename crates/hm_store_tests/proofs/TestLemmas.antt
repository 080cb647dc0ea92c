-- What calls by ids that rise need of the stores of the tests, and leave there.
use Rattle.std.proofs.Common.{ℕ, ◌+◌, List, Some, arith}
use Rattle.std.specs.Prelude.{OnOk, Result}
use Rattle.std.proofs.lemmas.Result.{on_ok_weaker}
use Rattle.hm_types.specs.Elements.{FullElement}
use Rattle.hm_key.specs.Balance.{IsBalanced}
use Rattle.hm_key.specs.Counts.{Subject}
use Rattle.hm_key.specs.Versions.{IsBelow}
use Rattle.hm_records.proofs.ChangeLemmas.{below_later}
use Rattle.hm_cursor.proofs.CallLemmas.{Change}
use Rattle.hm_cursor.specs.Told.{Lists, fulls}
use Rattle.hm_cursor.specs.Write.{IsFreshFor}
use Rattle.hm_store_tests.specs.Tests.{IsReady}

pub fresh_below : (s : Subject) (i : ℕ) (es : List FullElement) → IsBelow i es → IsFreshFor s i es
fresh_below s i es below = record {
  made = λ x has about. below.made x has;
  closed = λ x has about. let closed = below.closed x has in omega (arith, closed);
}

-- a store that tells these lists is ready
abbrev pub AreReady : Lists → ℕ → Type 0
AreReady lists next = IsReady (Some lists.0) (Some lists.1) next

-- a call by an id, and what it did: the store is ready for the next one
pub ready_after : {T E : Type 0} (r : Result T E) (i : ℕ) (was now : Lists) (A : Change) → AreReady was i
    → (A (fulls was) (fulls now) → IsBelow (i + 1) (fulls was) → IsBelow (i + 1) (fulls now))
    → OnOk r (IsBalanced was.0 was.1 → IsBalanced now.0 now.1 × A (fulls was) (fulls now))
    → OnOk r (AreReady now (i + 1))
ready_after r i was now A ready up_to writes =
    on_ok_weaker r
    (λ does. let done = does ready.balanced in
    record { balanced = done.0; below = up_to done.1 (below_later (fulls was) i (i + 1) (omega arith) ready.below) })
    writes
