-- What a volume is read from, and the space that comes of it.
use Rattle.std.specs.Prelude.{◌≡◌, ℕ, [], None, Option, IfSome}
use Rattle.hm_types.specs.Faults.{IsUndamaged}
use Rattle.hm_types.specs.declared.fault.Fault.{Fault}
use Rattle.hm_disk.specs.Crash.{Told}
use Rattle.hm_flush.specs.Ends.{as_read}
use Rattle.hm_flush.specs.Flush.{idle_flush}
use Rattle.hm_header.specs.OnDisk.{HasHeader}
use Rattle.hm_header.specs.declared.header.Header.{Header}
use Rattle.hm_image.specs.Stands.{StandsFor}
use Rattle.hm_load.specs.Damage.{IsDamage, IsWhole}
use Rattle.hm_load.specs.Faults.{Tells}
use Rattle.hm_model.specs.Volume.{Volume}
use Rattle.hm_state.specs.Flushing.{HoldsFlush}
use Rattle.hm_state.specs.Free.{free_in}
use Rattle.hm_state.specs.Volume.{HoldsVolume}
use Rattle.hm_stored.specs.Heap.{Heap, free_of}
use Rattle.hm_stored.specs.Turn.{IsClosed}

-- this header counts on a disk that tells this
abbrev pub IsHeaderOn : Header → Told → Type 0
IsHeaderOn header t = (slot : ℕ) × HasHeader t.bytes header slot

-- a space holds whatever volume a disk stands for that tells this
abbrev pub HoldsWhatStands : Heap → Header → Told → Type 0
HoldsWhatStands h header t = (volume : Volume) → StandsFor t.bytes volume → HoldsVolume h header.root header.last.0 volume

-- Whatever volume a disk stands for, an idle flush holds it, with the header that counts in a slot: as reads give it, and where
-- nothing is unsettled as a crash may leave it.
abbrev pub CommitsWhatStands : Heap → Header → Told → Type 0
CommitsWhatStands h header t = (slot : ℕ) (volume : Volume) → HasHeader t.bytes header slot → StandsFor t.bytes volume
    → HoldsFlush (idle_flush header slot) h (as_read t) volume volume
    × (t.unsettled ≡ [] → HoldsFlush (idle_flush header slot) h t volume volume)

-- so many big-blocks are free on a disk that tells this, where it stands for a volume
abbrev pub CountsFree : ℕ → Header → Told → Type 0
CountsFree free header t = (volume : Volume) → StandsFor t.bytes volume → free ≡ free_in t.bytes header

-- A space is that of the volume with this header, as it was read from a disk that told this: no call is open, and so many
-- big-blocks are free.
pub record IsReadFrom (told : Option Told) (header : Header) (free : ℕ) (h : Heap) : Type 0 where
  pub closed : IsClosed h
  pub disk : h.disk ≡ told
  pub free_is : free ≡ free_of h
  pub counted : IfSome told (CountsFree free header)
  pub holds : IfSome told (HoldsWhatStands h header)
  pub committed : IfSome told (CommitsWhatStands h header)
  pub whole : IfSome told (λ t. IsWhole t.bytes header)
  pub bigblocks : header.bigblocks ≡ h.bigblocks
  pub idle : h.pages.boundary ≡ None

-- No space was read of the volume with this header from a disk that told this, and tells that, and this is why.
pub record IsNotRead (header : Header) (fault : Fault) (old new : Option Told) : Type 0 where
  pub told : new ≡ old
  pub damage : IfSome old (λ t. Tells (IsDamage t.bytes header) fault)
  pub whole : IfSome old (λ t. (volume : Volume) → StandsFor t.bytes volume → IsUndamaged fault)
