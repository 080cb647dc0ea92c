-- What a change of the header does, in three stages. A stage asks for a property of each image that a
-- crash may leave. It keeps this property as long as it does not succeed, so that it may be done again.
use Rattle.std.specs.Prelude.{◌≡◌, ◌⊎◌, ℕ, ◌+◌, ◌-◌, ◌*◌, ◌%◌, ◌^◌, ◌<◌, List, [], ◌∷◌, length, slice_index}
use Rattle.hm_disk.specs.Crash.{Told, MayLeave, Outside, is_outside}
use Rattle.hm_disk.specs.Moments.{Each, Elapses, LeftSince}
use Rattle.hm_disk.specs.Transfer.{TornAll}
use Rattle.hm_header.specs.declared.header.Header.{Header}
use Rattle.hm_header.specs.declared.header.TheConstants.{SLOT_BYTES}
use Rattle.hm_header.specs.OnDisk.{HasHeader, slot_in, slot_place}
use Rattle.hm_header.specs.Range.{HasRoom, IsHeader}
use Rattle.hm_header.specs.Slots.{IsClosed, SpellsHeader, TakesPart}

-- the header that is written after another, on the same volume
pub record IsNext (header next : Header) : Type 0 where
  pub bigblocks : next.bigblocks ≡ header.bigblocks
  pub generation : next.generation ≡ (header.generation + 1) % 2 ^ 64

-- no unsettled range meets a slot
abbrev pub AreSlotsSettled : Told → Type 0
AreSlotsSettled t = (byte : ℕ) → byte < 2 * SLOT_BYTES → Outside t.unsettled byte

-- Two disks of one size have the same slots: each byte of them reads the same, and is settled in both or in
-- neither.
pub record HaveSameSlots (old new : Told) : Type 0 where
  pub size : length new.bytes ≡ length old.bytes
  pub bytes : (byte : ℕ) → byte < 2 * SLOT_BYTES → slice_index new.bytes byte ≡ slice_index old.bytes byte
  pub settled : (byte : ℕ) → byte < 2 * SLOT_BYTES → is_outside new.unsettled byte ≡ is_outside old.unsettled byte

-- whatever a crash of a disk leaves has this property; so has what reads give
abbrev pub AnyCrash : (List ℕ → Type 0) → Told → Type 0
AnyCrash Has t = Each (MayLeave t.bytes t.unsettled) Has

-- What the first stage asks for: the header of this slot counts.
abbrev pub IsCounting : Header → ℕ → List ℕ → Type 0
IsCounting header slot bytes = HasHeader bytes header slot

-- What the second one asks for: it counts, and the gate of the other slot is closed.
pub record IsClosedBeside (header : Header) (slot : ℕ) (bytes : List ℕ) : Type 0 where
  pub header_is : HasHeader bytes header slot
  pub closed : IsClosed (slot_in bytes (1 - slot))

-- the slot of this number has this header under an open gate, on a disk with room for its volume
pub record HoldsHeader (header : Header) (number : ℕ) (bytes : List ℕ) : Type 0 where
  pub part : TakesPart (slot_in bytes number)
  pub spelled : SpellsHeader (slot_in bytes number) header
  pub in_range : IsHeader header
  pub room : HasRoom (length bytes) header.bigblocks

-- What the third one asks for: the slot of the header is open, and the other one has the body of the
-- next header, under any gate. Where this gate is open the next header counts, and else the header does.
pub record HasNextBody (header : Header) (slot : ℕ) (next : Header) (bytes : List ℕ) : Type 0 where
  pub held : HoldsHeader header slot bytes
  pub body : SpellsHeader (slot_in bytes (1 - slot)) next
  pub header_is : HasHeader bytes header slot ⊎ HasHeader bytes next (1 - slot)

-- What the second one brings about: this, under a closed gate.
abbrev pub IsBodyWritten : Header → ℕ → Header → List ℕ → Type 0
IsBodyWritten header slot next bytes = IsClosedBeside header slot bytes × HasNextBody header slot next bytes

-- What the third one brings about: the next header counts, in the other slot.
abbrev pub IsChanged : ℕ → Header → List ℕ → Type 0
IsChanged slot next bytes = HasHeader bytes next (1 - slot)

-- A stage succeeded: the disk has what it brings about, each byte outside its range is as before, and
-- nothing is unsettled.
pub record StageDone (Has : List ℕ → Type 0) (place count : ℕ) (old new : Told) : Type 0 where
  pub has : Has new.bytes
  pub others : MayLeave old.bytes ((place, count) ∷ []) new.bytes
  pub settled : new.unsettled ≡ []
  pub later : old.moment < new.moment

-- A stage failed: each byte outside its range is as before, and settled where it was so, and whatever a
-- crash leaves still has what the stage asks for.
pub record StageFailed (Has : List ℕ → Type 0) (place count : ℕ) (old new : Told) : Type 0 where
  pub torn : TornAll place count old new
  pub crash : AnyCrash Has new

-- What a crash within a stage leaves has what the stage asks for, and outside its range it is what a crash
-- might have left before.
pub record StageLeaves (Has : List ℕ → Type 0) (place count : ℕ) (old : Told) (image : List ℕ) : Type 0 where
  pub has : Has image
  pub others : MayLeave old.bytes ((place, count) ∷ old.unsettled) image

abbrev pub StageElapses : (List ℕ → Type 0) → ℕ → ℕ → LeftSince → LeftSince → Told → Told → Type 0
StageElapses Has place count past since old new = Elapses (StageLeaves Has place count old) past since old new

-- each byte outside the slot of this number is as before
abbrev pub KeepsOthers : ℕ → List ℕ → List ℕ → Type 0
KeepsOthers number old new = MayLeave old ((slot_place number, SLOT_BYTES) ∷ []) new

-- a header counts, in the slot of this number, which alone was written, and nothing is unsettled
pub record Changes (header : Header) (number : ℕ) (old new : Told) : Type 0 where
  pub header_is : HasHeader new.bytes header number
  pub others : KeepsOthers number old.bytes new.bytes
  pub settled : new.unsettled ≡ []

-- The old header counts still, or the next one, in the other slot; and each byte outside that slot, and
-- outside these ranges, is as before.
pub record MayChange (header : Header) (slot : ℕ) (next : Header) (old : List ℕ) (unsettled : List (ℕ × ℕ))
    (new : List ℕ) : Type 0 where
  pub header_is : HasHeader new header slot ⊎ HasHeader new next (1 - slot)
  pub others : MayLeave old ((slot_place (1 - slot), SLOT_BYTES) ∷ unsettled) new

-- so after a header change that failed, where the slot alone was written
abbrev pub ChangeFailed : Header → ℕ → Header → Told → Told → Type 0
ChangeFailed header slot next old new = MayChange header slot next old.bytes [] new.bytes

-- And so at each moment: outside the slot a crash leaves what one might have left before.
abbrev pub ChangeElapses : Header → ℕ → Header → LeftSince → LeftSince → Told → Told → Type 0
ChangeElapses header slot next past since old new =
    Elapses (MayChange header slot next old.bytes old.unsettled) past since old new
