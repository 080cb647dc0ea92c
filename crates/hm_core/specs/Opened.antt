-- What comes of making a volume, and of opening one.
use Rattle.std.specs.Prelude.{◌≡◌, ◌⊎◌, ℕ, ◌*◌, ◌<◌, ◌≤◌, List, [], Option, Some, IfErr, IfSome, Result, length}
use Rattle.hm_types.specs.Faults.{IsCaused, IsUndamaged}
use Rattle.hm_types.specs.declared.fault.Fault.TheVariants.{Damaged, Media, NoMemory}
use Rattle.hm_types.specs.declared.limits.TheConstants.{BIGBLOCK_BYTES}
use Rattle.hm_disk.specs.Crash.{Told}
use Rattle.hm_disk.specs.Moments.{LeftSince}
use Rattle.hm_header.specs.OnDisk.{HasFault, HasHeader}
use Rattle.hm_header.specs.declared.fault.HeaderFault.TheVariants.{BadField as bad_field, NotVolume as no_volume}
use Rattle.hm_header.specs.declared.header.Header.{Header}
use Rattle.hm_undo.specs.Recovered.{RecoversTo}
use Rattle.hm_flush.specs.declared.flush.Position.TheVariants.{Idle}
use Rattle.hm_image.specs.Stands.{StandsFor}
use Rattle.hm_load.specs.Damage.{IsDamage, IsWhole}
use Rattle.hm_model.specs.Foreign.{Foreigners}
use Rattle.hm_model.specs.Volume.{Volume, fresh}
use Rattle.hm_recover.specs.Damage.{HasRangeDamage}
use Rattle.hm_recover.specs.Recovery.{HasWholeRange, KeepsRecovery}
use Rattle.hm_recover.specs.declared.fault.OpenFault.{OpenFault}
use Rattle.hm_recover.specs.declared.fault.OpenFault.TheVariants.{BadField, Fault as of_disk, NotVolume}
use Rattle.hm_stored.specs.Heap.{free_of}
use Rattle.hm_core.specs.Core.{IsGuarded, IsSoundCore, StandsOver}
use Rattle.hm_core.specs.Crash.{LeavesNow, LeavesPrefixes, StandsRecovered}
use Rattle.hm_core.specs.Mounting.{CountsFree}
use Rattle.hm_core.specs.State.{CoreState}

-- a disk that tells this is too small for so many big-blocks
abbrev pub IsTooSmall : ℕ → Told → Type 0
IsTooSmall bigblocks t = length t.bytes < bigblocks * BIGBLOCK_BYTES

-- a disk stands for this volume, and nothing of it is unsettled
pub record IsSettled (volume : Volume) (t : Told) : Type 0 where
  pub stands : StandsFor t.bytes volume
  pub settled : t.unsettled ≡ []

-- once the bytes are recovered, this is the first damage below the header that counts
pub record HasDamage (bytes : List ℕ) (at kind : ℕ) : Type 0 where
  pub result : List ℕ
  pub recovers : RecoversTo bytes result
  pub header : Header
  pub slot : ℕ
  pub counts : HasHeader result header slot
  pub damage : IsDamage result header at kind

-- why bytes gave no volume: no header counts, an entry of the UNDO log that it names is damaged, or what stands below it is
abbrev pub IsOpenFault : List ℕ → OpenFault → Type 0
IsOpenFault bytes NotVolume = HasFault bytes no_volume
IsOpenFault bytes (BadField place) = HasFault bytes (bad_field place)
IsOpenFault bytes (of_disk (Damaged at kind)) = HasRangeDamage bytes at kind ⊎ HasDamage bytes at kind
IsOpenFault bytes (of_disk (Media before after)) = Unit {0}
IsOpenFault bytes (of_disk NoMemory) = Unit {0}

-- bytes that recover to some that stand for a volume are opened, unless the disk or memory fails
abbrev pub IsFailure : OpenFault → Type 0
IsFailure NotVolume = ⊥
IsFailure (BadField place) = ⊥
IsFailure (of_disk fault) = IsUndamaged fault

-- a fault of the disk has its cause in such a call; a volume that is none has its in the bytes
abbrev pub IsOpenCaused : ℕ → ℕ → OpenFault → Type 0
IsOpenCaused old new NotVolume = Unit {0}
IsOpenCaused old new (BadField place) = Unit {0}
IsOpenCaused old new (of_disk fault) = IsCaused old new fault

-- a call kept or raised the count, and each fault of the disk that it answers has its cause
pub record HasOpenCause {T : Type 0} (old new : ℕ) (result : Result T OpenFault) : Type 0 where
  pub never_falls : old ≤ new
  pub caused : IfErr result (IsOpenCaused old new)

-- No volume was mounted over a disk that told this, and tells that, and this is why. Nothing was written but where the header names a
-- whole range of entries; and what the disk recovered to it recovers to still, also after a crash at any moment within.
pub record IsNotMounted (fault : OpenFault) (past since : LeftSince) (old new : Told) : Type 0 where
  pub why : IsOpenFault old.bytes fault
  pub whole : (volume : Volume) → StandsRecovered old.bytes volume → IsFailure fault
  pub untouched : ¬ HasWholeRange old.bytes → (new ≡ old) × LeavesNow past since (Some new)
  pub recovery : KeepsRecovery past since old new

-- No volume was made on a disk that told this, and tells that: it is too small, and is as before, or it failed.
abbrev pub IsNotMade : ℕ → Option Told → Option Told → OpenFault → Type 0
IsNotMade bigblocks old new NotVolume = ⊥
IsNotMade bigblocks old new (BadField place) = (place ≡ 12) × (new ≡ old) × IfSome old (IsTooSmall bigblocks)
IsNotMade bigblocks old new (of_disk (Media before after)) = Unit {0}
IsNotMade bigblocks old new (of_disk (Damaged at kind)) = ⊥
IsNotMade bigblocks old new (of_disk NoMemory) = ⊥

-- the header that counts names no entries of the UNDO log, so that nothing is to be put back
pub record IsUnarmed (bytes : List ℕ) : Type 0 where
  pub header : Header
  pub slot : ℕ
  pub counts : HasHeader bytes header slot
  pub none : header.undo_count ≡ 0

-- An empty volume of so many big-blocks was made on a disk that had room for it.
pub record IsMade (bigblocks : ℕ) (old new : Told) : Type 0 where
  pub stands : IsSettled (fresh bigblocks) new
  pub room : IsTooSmall bigblocks old → ⊥
  pub unarmed : IsUnarmed new.bytes

-- A core as it is mounted over a disk whose faults were counted so far: nothing has happened yet, no call is open, no flush is in flight,
-- and the header names no entries of the log.
pub record IsMounted (faults : ℕ) (core : CoreState) : Type 0 where
  pub history : core.history ≡ []
  pub running : core.running ≡ []
  pub counts : (faults ≤ core.counts.disk) × (core.mounted.counts ≡ core.counts)
  pub ids : (core.last ≡ core.boundary) × (core.mounted.first ≡ core.boundary) × (core.boundary ≡ core.flush.header.last.0)
  pub idle : (core.flush.at ≡ Idle) × (core.flush.header.undo_count ≡ 0)
  pub free : core.mounted.free ≡ free_of core.heap
  pub sound : IsSoundCore core

-- A core was mounted over a disk that told this, and tells that: it was recovered, and nothing below its header is damaged. Whatever
-- volume the disk stands for now, the core stands for it, and as many big-blocks are free as its bytes leave. Where nothing was unsettled
-- no crash takes that volume away, and none within took it.
pub record MountsDisk (core : CoreState) (past since : LeftSince) (old new : Told) : Type 0 where
  pub recovers : RecoversTo old.bytes new.bytes
  pub written : (new ≡ old) ⊎ (HasWholeRange old.bytes × (new.unsettled ≡ []))
  pub counts : HasHeader new.bytes core.flush.header core.flush.slot
  pub whole : IsWhole new.bytes core.flush.header
  pub counted : CountsFree core.mounted.free core.flush.header new
  pub stands : (opening : Volume) (foreigners : Foreigners) → StandsFor new.bytes opening → StandsOver core opening foreigners []
  pub guarded : old.unsettled ≡ [] → (opening : Volume) (foreigners : Foreigners) → StandsFor new.bytes opening
      → IsGuarded core opening foreigners []
  pub crashed : old.unsettled ≡ [] → (opening : Volume) (foreigners : Foreigners) → StandsFor new.bytes opening
      → LeavesPrefixes past since (λ boundary. boundary ≡ core.boundary) opening foreigners []
