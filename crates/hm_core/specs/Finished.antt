-- What the disk of a core has once all is committed.
use Rattle.std.specs.Prelude.{◌≡◌, ℕ, List}
use Rattle.hm_disk.specs.Crash.{Told}
use Rattle.hm_header.specs.OnDisk.{HasHeader}
use Rattle.hm_image.specs.Stands.{StandsFor}
use Rattle.hm_model.specs.After.{Event}
use Rattle.hm_model.specs.Foreign.{Foreigners}
use Rattle.hm_model.specs.Volume.{Volume}
use Rattle.hm_core.specs.Core.{StandsOver}
use Rattle.hm_core.specs.History.{volume_of}
use Rattle.hm_core.specs.State.{CoreDevices, CoreState}

-- whatever volume the run began on, the bytes stand for the volume after the history
abbrev pub HasVolumeAfter : CoreState → List ℕ → Type 0
HasVolumeAfter core bytes = (opening : Volume) (foreigners : Foreigners) (events : List Event) → StandsOver core opening foreigners events
    → StandsFor bytes (volume_of opening foreigners events)

-- the header that counts does so on the disk, which leaves the volume
pub record IsCommittedOn (core : CoreState) (t : Told) : Type 0 where
  pub counts : HasHeader t.bytes core.flush.header core.flush.slot
  pub volume : HasVolumeAfter core t.bytes

module _ {D I O : Type 0} where
  -- these are the disk and the streams of a core
  pub record HandsBack (devices : CoreDevices D I O) (disk : D) (input : I) (output : O) : Type 0 where
    pub disk_is : disk ≡ devices.disk
    pub input_is : input ≡ devices.input
    pub output_is : output ≡ devices.output
