-- Which of the two slots of a disk counts, and what is answered for them.
use Rattle.std.specs.Prelude.{◌≡◌, ◌≢◌, ℕ, zero, suc, ◌+◌, ◌%◌, ◌^◌, List, take, slice_index}
use Rattle.hm_header.specs.declared.fault.HeaderFault.{HeaderFault}
use Rattle.hm_header.specs.declared.fault.HeaderFault.TheVariants.{NotVolume, BadField}
use Rattle.hm_header.specs.declared.header.Header.{Header}
use Rattle.hm_header.specs.declared.header.TheConstants.{BODY_BYTES, GATE_OPEN, GATE_PLACE}
use Rattle.hm_header.specs.Layout.{body_of, header_in, signature}
use Rattle.hm_header.specs.Parts.{IsFirstBad, all_parts}
use Rattle.hm_header.specs.Range.{HasRoom, IsHeader}

-- a slot takes part where its gate is open and its signature exact. A slot that a disk cuts short has its
-- gate past its end, where bytes count as zero, so it never does
pub record TakesPart (slot : List ℕ) : Type 0 where
  pub open_gate : slice_index slot GATE_PLACE ≡ GATE_OPEN
  pub signed : take 8 slot ≡ signature

-- a slot with a closed gate
abbrev pub IsClosed : List ℕ → Type 0
IsClosed slot = slice_index slot GATE_PLACE ≢ GATE_OPEN

-- the second slot was written after the first
abbrev pub Follows : List ℕ → List ℕ → Type 0
Follows first second = (header_in second).generation ≡ ((header_in first).generation + 1) % 2 ^ 64

-- the first slot counts
abbrev pub FirstCounts : List ℕ → List ℕ → Type 0
FirstCounts first second = TakesPart first × (TakesPart second → ¬ Follows first second)

-- the second slot counts
abbrev pub SecondCounts : List ℕ → List ℕ → Type 0
SecondCounts first second = TakesPart second × (TakesPart first → Follows first second)

-- the slot of this number counts: 0 for the first, 1 for the second
abbrev pub Counts : List ℕ → List ℕ → ℕ → Type 0
Counts first second zero = FirstCounts first second
Counts first second (suc zero) = SecondCounts first second
Counts first second (suc (suc number)) = ⊥

-- the slot of this number
abbrev pub slot_of : List ℕ → List ℕ → ℕ → List ℕ
slot_of first second zero = first
slot_of first second (suc number) = second

-- the body of a slot is that of this header
abbrev pub SpellsHeader : List ℕ → Header → Type 0
SpellsHeader slot header = take BODY_BYTES slot ≡ body_of header

-- the slot of this number counts, and this is its header, on a disk of so many bytes
pub record IsChosen (first second : List ℕ) (size : ℕ) (header : Header) (number : ℕ) : Type 0 where
  pub counts : Counts first second number
  pub spelled : SpellsHeader (slot_of first second number) header
  pub in_range : IsHeader header
  pub room : HasRoom size header.bigblocks

-- the slot that counts is bad at this place
pub record IsBadAt (first second : List ℕ) (size place : ℕ) : Type 0 where
  pub number : ℕ
  pub counts : Counts first second number
  pub bad : IsFirstBad (slot_of first second number) size all_parts place

-- why two slots give no header
abbrev pub IsFault : List ℕ → List ℕ → ℕ → HeaderFault → Type 0
IsFault first second size NotVolume = ¬ TakesPart first × ¬ TakesPart second
IsFault first second size (BadField place) = IsBadAt first second size place
