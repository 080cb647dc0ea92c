-- What the calls of a freemap answer and do.
use Rattle.std.specs.Prelude.{◌≡◌, ℕ, List, ℤ, pos}
use Rattle.hm_types.specs.References.{References, free_blocks, live_bytes}
use Rattle.hm_freemap.specs.Stand.{Maps, StandBy, free_by}

-- a number of free big-blocks is that of the maps, and of any states for which they stand
pub record CountsFree (bigblocks : ℕ) (append : List ℕ) (maps : Maps) (free : ℕ) : Type 0 where
  pub by_maps : free ≡ free_by bigblocks append maps
  pub by_states : (states : References) → StandBy bigblocks append maps states → free ≡ free_blocks bigblocks append states

-- a number of bytes is that of the live ones of a big-block, in any current state for which the maps stand
pub record IsLive (bigblocks : ℕ) (append : List ℕ) (maps : Maps) (block : ℕ) (live : ℤ) : Type 0 where
  pub exact : (states : References) → StandBy bigblocks append maps states → live ≡ pos (live_bytes states.current block)
