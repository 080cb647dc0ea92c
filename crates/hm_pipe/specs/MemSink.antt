-- A sink in memory.
use Rattle.std.specs.Prelude.{◌≡◌, ℕ, ◌⊎◌, ◌/◌, ◌++◌, List, take, length, Result, IsErr, OnOk, OnErr}
use Rattle.hm_types.specs.Calls.{Counts, IsNextListed, called, faulted}

-- the bytes that it holds, and the calls of `put` so far
pub record SinkState : Type 0 where
  pub held : List ℕ
  pub calls : Counts

-- what a failed call gains: nothing for want of memory, and half of the piece where it is listed
abbrev pub GainsHalf : Counts → List ℕ → List ℕ → List ℕ → Type 0
GainsHalf calls before piece after =
    (after ≡ before) ⊎ (IsNextListed calls × (after ≡ before ++ take (length piece / 2) piece))

-- the whole change of a call of `put`: a listed call fails with half of the piece gained, and any other
-- gains all of it, or fails for want of memory with nothing gained
pub record PutChange {E : Type 0} (old new : SinkState) (piece : List ℕ) (result : Result (Unit {0}) E)
    : Type 0 where
  pub listed : IsNextListed old.calls → IsErr result
  pub ok : OnOk result (new ≡ record { held = old.held ++ piece; calls = called old.calls })
  pub gained : OnErr result (GainsHalf old.calls old.held piece new.held)
  pub err : OnErr result (new.calls ≡ faulted (called old.calls))
