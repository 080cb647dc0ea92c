-- Bytes of a page that were moved within it.
use Rattle.std.specs.Prelude.{◌≡◌, ℕ, ◌+◌, ◌-◌, ◌≤◌, List, length}
use Rattle.hm_types.specs.declared.limits.TheConstants.{PAGE_BYTES}
use Rattle.hm_fields.specs.Fields.{get}

-- Each field of the bytes from one place to before another stands in those from a third place on. What is before these
-- and after them is as it was.
pub record HasMoved (from to dest : ℕ) (old new : List ℕ) : Type 0 where
  pub sized : length new ≡ PAGE_BYTES
  pub moved : (at size : ℕ) → from ≤ at → at + size ≤ to → get new (dest + (at - from)) size ≡ get old at size
  pub below : (at size : ℕ) → at + size ≤ dest → get new at size ≡ get old at size
  pub above : (at size : ℕ) → dest + (to - from) ≤ at → get new at size ≡ get old at size

-- each field of the bytes from one place to before another is 0, and what is before these and after them is as it was
pub record HasCleared (from to : ℕ) (old new : List ℕ) : Type 0 where
  pub sized : length new ≡ PAGE_BYTES
  pub zero : (at size : ℕ) → from ≤ at → at + size ≤ to → get new at size ≡ 0
  pub below : (at size : ℕ) → at + size ≤ from → get new at size ≡ get old at size
  pub above : (at size : ℕ) → to ≤ at → get new at size ≡ get old at size
