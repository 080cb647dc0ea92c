-- What making a volume does to a disk.
use Rattle.std.specs.Prelude.{◌≡◌, ◌⊎◌, ℕ, List, [], length}
use Rattle.hm_disk.specs.Crash.{Told}
use Rattle.hm_disk.specs.Moments.{Elapses, LeftSince}
use Rattle.hm_header.specs.OnDisk.{HasFault}
use Rattle.hm_header.specs.declared.fault.HeaderFault.TheVariants.{NotVolume}
use Rattle.hm_image.specs.Fresh.{IsFresh}
use Rattle.hm_newfs.specs.Steps.{HasOldButGates}

-- the disk has the bytes of the volume as it is made, none of them is unsettled, and its size is as before
pub record MakesVolume (bigblocks : ℕ) (old new : Told) : Type 0 where
  pub made : IsFresh bigblocks new.bytes
  pub settled : new.unsettled ≡ []
  pub size : length new.bytes ≡ length old.bytes

-- what a crash within may leave: what one might have left before, but for the two gates, or no volume, or the new one
abbrev pub MayBeMade : ℕ → Told → List ℕ → Type 0
MayBeMade bigblocks old image = HasOldButGates old image ⊎ HasFault image NotVolume ⊎ IsFresh bigblocks image

-- so at each moment, whether it succeeds or not; and the disk keeps its size
abbrev pub VolumeElapses : ℕ → LeftSince → LeftSince → Told → Told → Type 0
VolumeElapses bigblocks past since old new = Elapses (MayBeMade bigblocks old) past since old new

-- a call of the disk failed: the disk reads as a crash within might have left it, and keeps its size
pub record FailsToMake (bigblocks : ℕ) (old new : Told) : Type 0 where
  pub left : MayBeMade bigblocks old new.bytes
  pub size : length new.bytes ≡ length old.bytes
