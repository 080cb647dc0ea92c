-- A change of the header by its stages: what each asks for and brings about, and where it writes.
use Rattle.std.specs.Prelude.{ℕ, ◌-◌, List}
use Rattle.hm_header.specs.declared.header.Header.{Header}
use Rattle.hm_header.specs.declared.header.TheConstants.{BODY_BYTES}
use Rattle.hm_header.specs.Change.{HasNextBody, IsBodyWritten, IsChanged, IsClosedBeside, IsCounting}
use Rattle.hm_header.specs.OnDisk.{gate_place, slot_place}
use Rattle.hm_flush.specs.declared.change.Change.{Change}
use Rattle.hm_flush.specs.declared.change.Change.TheVariants.{Close, Write, Open}

-- what the next stage asks for, of each image that a crash may leave
abbrev pub change_asks : Change → Header → ℕ → Header → List ℕ → Type 0
change_asks Close header slot next = IsCounting header slot
change_asks Write header slot next = IsClosedBeside header slot
change_asks (Open tried) header slot next = HasNextBody header slot next

-- what it brings about
abbrev pub change_brings : Change → Header → ℕ → Header → List ℕ → Type 0
change_brings Close header slot next = IsClosedBeside header slot
change_brings Write header slot next = IsBodyWritten header slot next
change_brings (Open tried) header slot next = IsChanged slot next

-- the range that it writes: its place, and how many bytes it has
abbrev pub change_range : Change → ℕ → ℕ × ℕ
change_range Close slot = (gate_place (1 - slot), 1)
change_range Write slot = (slot_place (1 - slot), BODY_BYTES)
change_range (Open tried) slot = (gate_place (1 - slot), 1)

-- its number among the three
abbrev pub change_number : Change → ℕ
change_number Close = 1
change_number Write = 2
change_number (Open tried) = 3
