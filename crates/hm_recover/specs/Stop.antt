-- Why a recovery did not come to its end.
use Rattle.std.specs.Prelude.{◌≡◌, ◌⊎◌, ℕ, ◌≤◌, List, Result, IfErr}
use Rattle.hm_types.specs.Faults.{Rose}
use Rattle.hm_types.specs.declared.damage.TheConstants.{BAD_UNDO}
use Rattle.hm_types.specs.declared.fault.Fault.TheVariants.{Damaged, Media, NoMemory}
use Rattle.hm_disk.specs.Crash.{Told}
use Rattle.hm_disk.specs.Moments.{LeftSince}
use Rattle.hm_header.specs.declared.fault.HeaderFault.{HeaderFault}
use Rattle.hm_header.specs.declared.fault.HeaderFault.TheVariants.{BadField as bad_field, NotVolume as no_volume}
use Rattle.hm_header.specs.declared.header.Header.{Header}
use Rattle.hm_undo.specs.Range.{HasRange, OldPage}
use Rattle.hm_recover.specs.Damage.{IsRangeDamage, IsWholeEntry}
use Rattle.hm_recover.specs.Recovery.{HasWholeRange, IsRecoveryRefused, IsUntouched}
use Rattle.hm_recover.specs.declared.fault.OpenFault.{OpenFault}
use Rattle.hm_recover.specs.declared.fault.OpenFault.TheVariants.{BadField, Fault as of_disk, NotVolume}
use Rattle.hm_recover.specs.declared.stop.RecoveryStop.{RecoveryStop}
use Rattle.hm_recover.specs.declared.stop.RecoveryStop.TheVariants.{Failed, Refused}

-- the disk failed
abbrev pub IsFailed : RecoveryStop → Type 0
IsFailed Failed = Unit {0}
IsFailed (Refused fault) = ⊥

-- what is told of slots without a header
abbrev pub IsOfHeader : HeaderFault → OpenFault → Type 0
IsOfHeader no_volume fault = fault ≡ NotVolume
IsOfHeader (bad_field place) fault = fault ≡ BadField place

-- a fault that tells of no failure: the slots have no header, or an entry is damaged
abbrev pub IsRefusal : OpenFault → Type 0
IsRefusal NotVolume = Unit {0}
IsRefusal (BadField place) = Unit {0}
IsRefusal (of_disk (Media before after)) = ⊥
IsRefusal (of_disk (Damaged at kind)) = kind ≡ BAD_UNDO
IsRefusal (of_disk NoMemory) = ⊥

-- the disk failed only where its count of faults rose
abbrev pub IsStopCaused : ℕ → ℕ → RecoveryStop → Type 0
IsStopCaused old new Failed = Rose old new
IsStopCaused old new (Refused fault) = IsRefusal fault

-- a call kept or raised the count, and failed only where it rose
pub record HasEndCause {T : Type 0} (old new : ℕ) (result : Result T RecoveryStop) : Type 0 where
  pub never_falls : old ≤ new
  pub caused : IfErr result (IsStopCaused old new)

-- a fault tells the damage of a range that comes first
abbrev pub TellsRangeDamage : List ℕ → Header → OpenFault → Type 0
TellsRangeDamage image header NotVolume = ⊥
TellsRangeDamage image header (BadField place) = ⊥
TellsRangeDamage image header (of_disk (Media before after)) = ⊥
TellsRangeDamage image header (of_disk (Damaged at kind)) = (kind ≡ BAD_UNDO) × IsRangeDamage image header at
TellsRangeDamage image header (of_disk NoMemory) = ⊥

-- the check of a range ended: the disk failed, or this is the damage that comes first
abbrev pub IsRangeStop : List ℕ → Header → RecoveryStop → Type 0
IsRangeStop image header Failed = Unit {0}
IsRangeStop image header (Refused fault) = TellsRangeDamage image header fault

-- an entry with an old page stops nothing but by a failure of the disk
abbrev pub IsNoDamage : Header → ℕ → RecoveryStop → Told → Type 0
IsNoDamage header entry stop t = IsWholeEntry t.bytes header entry → IsFailed stop

-- so does a range of such entries
abbrev pub IsNoRange : Header → RecoveryStop → Told → Type 0
IsNoRange header stop t = (olds : List OldPage) → HasRange t.bytes header olds → IsFailed stop

-- a recovery ended early, and this is why: nothing was written, or the disk failed while the pages of a whole range were put back
abbrev pub IsStopped : RecoveryStop → LeftSince → LeftSince → Told → Told → Type 0
IsStopped Failed past since old new = IsUntouched past since old new ⊎ HasWholeRange old.bytes
IsStopped (Refused fault) past since old new = IsRecoveryRefused fault past since old new
