-- What recovery makes of a disk.
use Rattle.std.specs.Prelude.{◌≡◌, ◌⊎◌, ℕ, ◌<◌, ◌≤◌, List, [], length, Result, IfErr}
use Rattle.hm_types.specs.Faults.{IsMedia}
use Rattle.hm_types.specs.declared.damage.TheConstants.{BAD_UNDO}
use Rattle.hm_types.specs.declared.fault.Fault.TheVariants.{Damaged, Media, NoMemory}
use Rattle.hm_disk.specs.Crash.{Told}
use Rattle.hm_disk.specs.Moments.{Elapses, LeftSince, SameLeft}
use Rattle.hm_header.specs.OnDisk.{HasFault, HasHeader}
use Rattle.hm_header.specs.Range.{HasRoom, IsHeader}
use Rattle.hm_header.specs.declared.fault.HeaderFault.TheVariants.{BadField as bad_field, NotVolume as no_volume}
use Rattle.hm_header.specs.declared.header.Header.{Header}
use Rattle.hm_undo.specs.Range.{HasRange, OldPage}
use Rattle.hm_undo.specs.Recovered.{RecoversTo}
use Rattle.hm_recover.specs.Damage.{HasRangeDamage}
use Rattle.hm_recover.specs.declared.fault.OpenFault.{OpenFault}
use Rattle.hm_recover.specs.declared.fault.OpenFault.TheVariants.{BadField, Fault as of_disk, NotVolume}
use Rattle.hm_recover.specs.declared.opened.Opened.{Opened}

-- a disk that tells this has room for so many big-blocks
abbrev pub HasSpaceFor : ℕ → Told → Type 0
HasSpaceFor bigblocks t = HasRoom (length t.bytes) bigblocks

-- the header that counts names a range of entries, and each of them is whole
pub record HasWholeRange (image : List ℕ) : Type 0 where
  pub header : Header
  pub slot : ℕ
  pub counts : HasHeader image header slot
  pub some : 0 < header.undo_count
  pub olds : List OldPage
  pub range : HasRange image header olds

-- the header of this slot counts, and names a range in which each entry is whole
pub record IsRangeReady (header : Header) (slot : ℕ) (t : Told) : Type 0 where
  pub counts : HasHeader t.bytes header slot
  pub some : 0 < header.undo_count
  pub olds : List OldPage
  pub range : HasRange t.bytes header olds

-- a header in range that names no entry, and the number of a slot
pub record IsOpenedHeader (opened : Opened) : Type 0 where
  pub header : IsHeader opened.header
  pub slot : opened.slot ≤ 1
  pub none : opened.header.undo_count ≡ 0

-- nothing was written: the disk tells what it told, and no crash within left anything new
pub record IsUntouched (past since : LeftSince) (old new : Told) : Type 0 where
  pub told : new ≡ old
  pub left : SameLeft past since

-- A disk was recovered, and this is the header that counts, with its slot. Where no range was named the header counted
-- before, and nothing was written. Else nothing is unsettled.
pub record IsRecovered (opened : Opened) (past since : LeftSince) (old new : Told) : Type 0 where
  pub recovers : RecoversTo old.bytes new.bytes
  pub counts : HasHeader new.bytes opened.header opened.slot
  pub how : (HasHeader old.bytes opened.header opened.slot × IsUntouched past since old new)
      ⊎ (HasWholeRange old.bytes × (new.unsettled ≡ []))

-- A disk was not recovered, and this is why: nothing was written, or the disk failed while the pages of a whole range were put back.
-- No memory is taken.
abbrev pub IsRecoveryRefused : OpenFault → LeftSince → LeftSince → Told → Told → Type 0
IsRecoveryRefused NotVolume past since old new = IsUntouched past since old new × HasFault old.bytes no_volume
IsRecoveryRefused (BadField place) past since old new = IsUntouched past since old new × HasFault old.bytes (bad_field place)
IsRecoveryRefused (of_disk (Media before after)) past since old new = IsUntouched past since old new ⊎ HasWholeRange old.bytes
IsRecoveryRefused (of_disk (Damaged at kind)) past since old new = IsUntouched past since old new × HasRangeDamage old.bytes at kind
IsRecoveryRefused (of_disk NoMemory) past since old new = ⊥

-- The disk recovers to this image. Where nothing was unsettled as the call began, so does each image that a crash within it
-- may leave.
pub record StillRecovers (result : List ℕ) (past since : LeftSince) (old new : Told) : Type 0 where
  pub now : RecoversTo new.bytes result
  pub time : old.unsettled ≡ [] → Elapses (λ image. RecoversTo image result) past since old new

-- What a disk recovers to it recovers to after the call, however it ends, and after a crash at any moment within it.
abbrev pub KeepsRecovery : LeftSince → LeftSince → Told → Told → Type 0
KeepsRecovery past since old new =
    (result : List ℕ) → RecoversTo old.bytes result → StillRecovers result past since old new

-- why a recovery was refused, by the count of faults
abbrev pub IsRecoveryCaused : ℕ → ℕ → OpenFault → Type 0
IsRecoveryCaused old new NotVolume = Unit {0}
IsRecoveryCaused old new (BadField place) = Unit {0}
IsRecoveryCaused old new (of_disk (Media before after)) = IsMedia old new before after
IsRecoveryCaused old new (of_disk (Damaged at kind)) = kind ≡ BAD_UNDO
IsRecoveryCaused old new (of_disk NoMemory) = ⊥

-- a call kept or raised the count, and the disk failed only where it rose; what is damaged is an entry, and memory is
-- never wanted
pub record HasRecoveryCause {T : Type 0} (old new : ℕ) (result : Result T OpenFault) : Type 0 where
  pub never_falls : old ≤ new
  pub caused : IfErr result (IsRecoveryCaused old new)
