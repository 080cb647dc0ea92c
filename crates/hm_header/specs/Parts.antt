-- The parts of a slot that have a range, and the first that is out of it.
use Rattle.std.specs.Prelude.{◌≡◌, ◌⊎◌, ℕ, List, [], ◌∷◌, ◌++◌, slice_range}
use Rattle.std.specs.List.{AllByRecursion}
use Rattle.hm_fields.specs.Fields.{get}
use Rattle.hm_header.specs.declared.fault.HeaderFault.{HeaderFault}
use Rattle.hm_header.specs.declared.fault.HeaderFault.TheVariants.{NotVolume, BadField}
use Rattle.hm_header.specs.declared.header.TheConstants.{VERSION}
use Rattle.hm_header.specs.Layout.{header_in, zeros}
use Rattle.hm_header.specs.Range.{HasRoom, IsAppendAt, IsCount, IsEntry, IsId, IsRoot, IsSize}

-- the parts of a slot that have a range. Gap and Rest are zeros
pub data Part : Type 0 where
  Version : Part
  Bigblocks : Part
  Last : Part
  Root : Part
  UndoFirst : Part
  UndoCount : Part
  UndoNext : Part
  Gap : Part
  TreeAppend : Part
  MetaAppend : Part
  LargeAppend : Part
  SmallAppend : Part
  Rest : Part

-- where each begins, in bytes
abbrev pub place_of : Part → ℕ
place_of Version = 8
place_of Bigblocks = 12
place_of Last = 24
place_of Root = 32
place_of UndoFirst = 40
place_of UndoCount = 44
place_of UndoNext = 48
place_of Gap = 52
place_of TreeAppend = 56
place_of MetaAppend = 60
place_of LargeAppend = 64
place_of SmallAppend = 68
place_of Rest = 72

-- a part of a slot is in range, on a disk of so many bytes
abbrev pub IsPartInRange : List ℕ → ℕ → Part → Type 0
IsPartInRange slot size Version = (header_in slot).version ≡ VERSION
IsPartInRange slot size Bigblocks = IsSize (header_in slot).bigblocks × HasRoom size (header_in slot).bigblocks
IsPartInRange slot size Last = IsId (header_in slot).last.0
IsPartInRange slot size Root = IsRoot (header_in slot).bigblocks (header_in slot).root
IsPartInRange slot size UndoFirst = IsEntry (header_in slot).undo_first
IsPartInRange slot size UndoCount = IsCount (header_in slot).undo_count
IsPartInRange slot size UndoNext = IsEntry (header_in slot).undo_next
IsPartInRange slot size Gap = get slot 52 4 ≡ 0
IsPartInRange slot size TreeAppend = IsAppendAt (header_in slot) 0
IsPartInRange slot size MetaAppend = IsAppendAt (header_in slot) 1
IsPartInRange slot size LargeAppend = IsAppendAt (header_in slot) 2
IsPartInRange slot size SmallAppend = IsAppendAt (header_in slot) 3
IsPartInRange slot size Rest = slice_range slot 72 16383 ≡ zeros 16311

-- the parts with the version and the size of the volume, by rising places
abbrev pub size_parts : List Part
size_parts = Version ∷ Bigblocks ∷ []

-- those with the state of the volume
abbrev pub state_parts : List Part
state_parts = Last ∷ Root ∷ []

-- those with the UNDO log, and the four zeros after them
abbrev pub undo_parts : List Part
undo_parts = UndoFirst ∷ UndoCount ∷ UndoNext ∷ Gap ∷ []

-- those with the append big-blocks
abbrev pub append_parts : List Part
append_parts = TreeAppend ∷ MetaAppend ∷ LargeAppend ∷ SmallAppend ∷ []

-- all of them, by rising places
abbrev pub all_parts : List Part
all_parts = size_parts ++ state_parts ++ undo_parts ++ append_parts ++ Rest ∷ []

-- these parts of a slot are in range
abbrev pub AreInRange : List ℕ → ℕ → List Part → Type 0
AreInRange slot size parts = AllByRecursion (IsPartInRange slot size) parts

-- the first of these parts that is out of range begins at this place
abbrev pub IsFirstBad : List ℕ → ℕ → List Part → ℕ → Type 0
IsFirstBad slot size [] place = ⊥
IsFirstBad slot size (part ∷ more) place =
    ((place ≡ place_of part) × ¬ IsPartInRange slot size part)
    ⊎ (IsPartInRange slot size part × IsFirstBad slot size more place)

-- a fault tells of that place
abbrev pub IsBadField : List ℕ → ℕ → List Part → HeaderFault → Type 0
IsBadField slot size parts NotVolume = ⊥
IsBadField slot size parts (BadField place) = IsFirstBad slot size parts place
