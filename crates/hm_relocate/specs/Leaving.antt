-- Which big-blocks may leave a choice, and which stay in it.
use Rattle.std.specs.Prelude.{◌≡◌, ◌⊎◌, ℕ, IsFalse, Bool, List, [], ◌∷◌, pos}
use Rattle.std.specs.List.{Contains, filter}
use Rattle.hm_freemap.specs.Calls.{IsLive}
use Rattle.hm_reblock.specs.Choice.{without_block}
use Rattle.hm_stored.specs.Heap.{Heap, maps_of}

-- no zone appends to one of these big-blocks
abbrev pub AppendsToNone : List ℕ → List ℕ → Type 0
AppendsToNone append blocks = (block : ℕ) → Contains blocks block → Contains append block → ⊥

-- a choice without these big-blocks
abbrev pub apart_from : List ℕ → List ℕ → List ℕ
apart_from [] choice = choice
apart_from (block ∷ blocks) choice = apart_from blocks (without_block block choice)

-- nothing in a big-block is live in the current state of a space
abbrev pub HasNothingLive : Heap → ℕ → Type 0
HasNothingLive h block = IsLive h.bigblocks h.append (maps_of h) block (pos 0)

-- a big-block may leave a choice in a unit: a zone appended to it as that began, or appends to it now, or nothing is live in it now
abbrev pub MayLeaveChoice : Heap → Heap → ℕ → Type 0
MayLeaveChoice old new block = Contains old.append block ⊎ Contains new.append block ⊎ HasNothingLive new block

-- A choice after a unit is the one before it, in its order, without some big-blocks, each of which may leave it.
pub record LeavesChoice (old new : Heap) (was now : List ℕ) : Type 0 where
  pub stays : ℕ → Bool
  pub left : now ≡ filter stays was
  pub may : (block : ℕ) → Contains was block → IsFalse (stays block) → MayLeaveChoice old new block
