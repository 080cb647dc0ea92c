-- Which big-blocks a reblock chooses.
use Rattle.std.specs.Prelude.{◌≡◌, ℕ, ◌*◌, Bool, ◌&&◌, not, nat_lt, List, IsTrue}
use Rattle.std.specs.List.{Contains, filter}
use Rattle.std.specs.List.Sorted.{IsNonDecreasing}
use Rattle.hm_types.specs.References.{Reference, References, is_append, live_bytes, pool}
use Rattle.hm_types.specs.declared.limits.TheConstants.{BIGBLOCK_BYTES}
use Rattle.hm_freemap.specs.Stand.{Maps, StandBy}
use Rattle.hm_relocate.specs.Leaving.{AppendsToNone}

-- whether so many live bytes are some, and fewer than so many hundredths of a big-block
abbrev pub is_sparse : ℕ → ℕ → Bool
is_sparse fill live = nat_lt 0 live && nat_lt (live * 100) (fill * BIGBLOCK_BYTES)

-- whether a reblock chooses a big-block, by what the current state refers to: no zone appends to it, and it is sparse
abbrev pub is_chosen : ℕ → List ℕ → List Reference → ℕ → Bool
is_chosen fill append current block = not (is_append append block) && is_sparse fill (live_bytes current block)

-- It is told whether a reblock chooses a big-block, for any states for which the maps stand, and none that a zone appends to.
pub record TellsChosen (fill bigblocks : ℕ) (append : List ℕ) (maps : Maps) (block : ℕ) (chosen : Bool) : Type 0 where
  pub exact : (states : References) → StandBy bigblocks append maps states → chosen ≡ is_chosen fill append states.current block
  pub apart : IsTrue chosen → Contains append block → ⊥

-- a list has the big-blocks of the pool that a reblock chooses: just these for any states for which the maps stand, by rising
-- numbers, and none that a zone appends to
pub record Chooses (fill bigblocks : ℕ) (append : List ℕ) (maps : Maps) (chosen : List ℕ) : Type 0 where
  pub exact : (states : References) → StandBy bigblocks append maps states
      → chosen ≡ filter (is_chosen fill append states.current) (pool bigblocks)
  pub rising : IsNonDecreasing chosen
  pub apart : AppendsToNone append chosen
