-- Which big-blocks are free after the references of the current state changed.
use Rattle.std.specs.Prelude.{◌≡◌, ◌⊎◌, ℕ, ◌+◌, ◌≤◌, List, IsTrue}
use Rattle.hm_types.specs.References.{References, is_free, free_blocks}

-- the same ones are
pub record KeepsFree (bigblocks : ℕ) (append : List ℕ) (old new : References) : Type 0 where
  pub each : (block : ℕ) → is_free append new block ≡ is_free append old block
  pub number : free_blocks bigblocks append new ≡ free_blocks bigblocks append old

-- those that were are still, and no other is but one big-block
pub record MayFree (bigblocks : ℕ) (append : List ℕ) (one : ℕ) (old new : References) : Type 0 where
  pub kept : (block : ℕ) → IsTrue (is_free append old block) → IsTrue (is_free append new block)
  pub only : (block : ℕ) → IsTrue (is_free append new block) → IsTrue (is_free append old block) ⊎ (block ≡ one)
  pub never_falls : free_blocks bigblocks append old ≤ free_blocks bigblocks append new
  pub one_more : free_blocks bigblocks append new ≤ free_blocks bigblocks append old + 1
