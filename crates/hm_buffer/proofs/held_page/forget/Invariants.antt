use Rattle.std.proofs.Common.{◌≢◌, ℕ, ◌+◌, ◌<◌, ◌≤◌}
use Rattle.std.specs.Global.{Box}
use Rattle.hm_buffer.specs.Held.{Holds}
use Rattle.hm_buffer.specs.declared.held_page.HeldPage.{HeldPage}
use Rattle.hm_buffer.proofs.held_page.forget.Given as goal

-- what is held still was held, and is none of the pages so far
abbrev pub invariant-loop-k : goal.invariant-loop-k
invariant-loop-k l = (i : ℕ) (page : Box HeldPage) → Holds l.slots.items i page
    → Holds l.fn.slots.items i page × ((n : ℕ) → l.first ≤ n → n < l.first + l.k → page.value.number ≢ n)
