-- The two header slots in the bytes of a disk.
use Rattle.std.specs.Prelude.{ℕ, ◌+◌, ◌*◌, ◌≤◌, List, length, take, slice_range}
use Rattle.hm_header.specs.declared.fault.HeaderFault.{HeaderFault}
use Rattle.hm_header.specs.declared.header.Header.{Header}
use Rattle.hm_header.specs.declared.header.TheConstants.{GATE_PLACE, SLOT_BYTES}
use Rattle.hm_header.specs.Slots.{IsChosen, IsFault, slot_of}

-- the two header slots; a disk that is too short for them has less of them
abbrev pub first_slot : List ℕ → List ℕ
first_slot bytes = take 16384 bytes

abbrev pub second_slot : List ℕ → List ℕ
second_slot bytes = slice_range bytes 16384 32768

-- where a slot begins, and where its gate stands, in bytes from the start of the disk
abbrev pub slot_place : ℕ → ℕ
slot_place number = number * SLOT_BYTES

abbrev pub gate_place : ℕ → ℕ
gate_place number = slot_place number + GATE_PLACE

-- the slot of this number
abbrev pub slot_in : List ℕ → ℕ → List ℕ
slot_in bytes number = slot_of (first_slot bytes) (second_slot bytes) number

-- a disk has both slots whole
abbrev pub HasSlots : List ℕ → Type 0
HasSlots bytes = 2 * SLOT_BYTES ≤ length bytes

-- the slot of this number counts, and this is its header
abbrev pub HasHeader : List ℕ → Header → ℕ → Type 0
HasHeader bytes header number = IsChosen (first_slot bytes) (second_slot bytes) (length bytes) header number

-- why the bytes have no header
abbrev pub HasFault : List ℕ → HeaderFault → Type 0
HasFault bytes fault = IsFault (first_slot bytes) (second_slot bytes) (length bytes) fault
