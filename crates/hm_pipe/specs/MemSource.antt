-- A source in memory.
use Rattle.std.specs.Prelude.{◌≡◌, ℕ, ◌↔◌, ◌++◌, min, List, take, drop, length, Result, IsErr, IfOk, OnErr}
use Rattle.hm_types.specs.Calls.{Counts, IsNextListed, called, faulted}

-- the bytes that are left, and the calls of `take` so far
pub record SourceState : Type 0 where
  pub rest : List ℕ
  pub calls : Counts

-- the whole change of a call of `take`: a listed call fails and takes nothing, and any other gives as
-- many bytes as fit the buffer or are left, at its front
pub record TakeChange {E : Type 0} (old new : SourceState) (before after : List ℕ) (result : Result ℕ E)
    : Type 0 where
  pub fails : IsErr result ↔ IsNextListed old.calls
  pub count : IfOk result (λ n. n ≡ min (length before) (length old.rest))
  pub given : IfOk result (λ n. after ≡ take n old.rest ++ drop n before)
  pub ok : IfOk result (λ n. new ≡ record { rest = drop n old.rest; calls = called old.calls })
  pub kept : OnErr result (after ≡ before)
  pub err : OnErr result (new ≡ record { rest = old.rest; calls = faulted (called old.calls) })
