-- Why a call of the freemap may tell damage.
use Rattle.std.specs.Prelude.{◌≡◌, ℕ, ◌+◌, ◌<◌, List, slice_index, Option, Result, IfErr}
use Rattle.hm_types.specs.Faults.{HasFaultCause}
use Rattle.hm_types.specs.Layout.{IsPool}
use Rattle.hm_types.specs.declared.damage.TheConstants.{BAD_FREEMAP}
use Rattle.hm_types.specs.declared.fault.Fault.{Fault}
use Rattle.hm_types.specs.declared.fault.Fault.TheVariants.{Media, Damaged, NoMemory}
use Rattle.hm_types.specs.declared.zone.TheConstants.{TREE_ZONE}
use Rattle.hm_fields.specs.Pages.{PageMap}
use Rattle.hm_freemap.specs.Change.{MayHold}
use Rattle.hm_freemap.specs.Places.{page_of}
use Rattle.hm_freemap.specs.Stand.{Maps, WhereTold, HoldsPoolEntry, entry_page, entry_of}

-- a big-block of the pool that has an entry in each state, and that of its zone where one appends to it
pub record IsGoodBlock (bigblocks : ℕ) (append : List ℕ) (maps : Maps) (block : ℕ) : Type 0 where
  pub pool : IsPool bigblocks block
  pub committed : HoldsPoolEntry (entry_page maps.committed block) block
  pub frozen : HoldsPoolEntry (entry_page maps.frozen block) block
  pub current : HoldsPoolEntry (entry_page maps.current block) block
  pub zone : (k : ℕ) → k < 4 → slice_index append k ≡ block → (entry_of maps.current block).zone ≡ TREE_ZONE + k

-- damage is told of the page with the entry of a big-block that was looked at, and which is not good
pub record IsBadBlock (bigblocks : ℕ) (append : List ℕ) (Looked : ℕ → Type 0) (maps : Maps) (at kind : ℕ) : Type 0 where
  pub block : ℕ
  pub looked : Looked block
  pub place : at ≡ page_of block
  pub number : kind ≡ BAD_FREEMAP
  pub bad : IsGoodBlock bigblocks append maps block → ⊥

-- a fault that tells damage tells such a one
abbrev pub IsFreemapDamage : ℕ → List ℕ → (ℕ → Type 0) → Maps → Fault → Type 0
IsFreemapDamage bigblocks append Looked maps (Media before after) = Unit {0}
IsFreemapDamage bigblocks append Looked maps (Damaged at kind) = IsBadBlock bigblocks append Looked maps at kind
IsFreemapDamage bigblocks append Looked maps NoMemory = Unit {0}

-- Each fault of a call has its cause in it. Where pages are told, damage is told only of a big-block that was looked
-- at, and whose entry is out of range or not that of its big-block.
pub record HasFreemapCause {T : Type 0} (bigblocks : ℕ) (append : List ℕ) (Looked : ℕ → Type 0) (committed frozen current : Option PageMap) (old new : ℕ) (result : Result T Fault) : Type 0 where
  pub counted : HasFaultCause old new result
  pub damage : WhereTold committed frozen current (λ maps. IfErr result (IsFreemapDamage bigblocks append Looked maps))

-- damage is told of the page with the entry of the big-block of an extent, which is not good, or tells too many free bytes
pub record IsBadExtent (bigblocks : ℕ) (append : List ℕ) (block size : ℕ) (maps : Maps) (at kind : ℕ) : Type 0 where
  pub place : at ≡ page_of block
  pub number : kind ≡ BAD_FREEMAP
  pub bad : IsGoodBlock bigblocks append maps block → MayHold size (entry_of maps.current block) → ⊥

abbrev pub IsExtentDamage : ℕ → List ℕ → ℕ → ℕ → Maps → Fault → Type 0
IsExtentDamage bigblocks append block size maps (Media before after) = Unit {0}
IsExtentDamage bigblocks append block size maps (Damaged at kind) = IsBadExtent bigblocks append block size maps at kind
IsExtentDamage bigblocks append block size maps NoMemory = Unit {0}

-- The same of a call on an extent of so many bytes in a big-block: damage is told also where its entry tells more free
-- bytes than the extent leaves.
pub record HasExtentCause {T : Type 0} (bigblocks : ℕ) (append : List ℕ) (block size : ℕ) (committed frozen current : Option PageMap)
    (old new : ℕ) (result : Result T Fault) : Type 0 where
  pub counted : HasFaultCause old new result
  pub damage : WhereTold committed frozen current (λ maps. IfErr result (IsExtentDamage bigblocks append block size maps))
