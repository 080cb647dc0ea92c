-- The names of directories: what reading one entry answers, and which entries of a directory lead.
use Rattle.std.specs.Prelude.{◌≡◌, ◌≢◌, ℕ, ◌*◌, ◌/◌, ◌^◌, ◌<◌, ◌≤◌, Bool, true, false, List, Option, None, Some}
use Rattle.hm_types.specs.declared.damage.TheConstants.{BAD_PAYLOAD}
use Rattle.hm_types.specs.declared.fault.Fault.{Fault}
use Rattle.hm_types.specs.declared.fault.Fault.TheVariants.{Media, Damaged, NoMemory}
use Rattle.hm_types.specs.declared.id.Obj.{Obj}
use Rattle.hm_key.specs.Balance.{payload_of}
use Rattle.hm_key.specs.Counts.{Content, Counts}
use Rattle.hm_key.specs.Extents.{Extent}
use Rattle.hm_key.specs.declared.element.Element.{Element}
use Rattle.hm_records.specs.Entry.{IsEntry, IsSpelled, entry_bytes}
use Rattle.hm_records.specs.KeysFit.{KeysFit}
use Rattle.hm_records.specs.Laws.{HasEarlier}
use Rattle.hm_records.specs.Payload.{SpellsEntry}
use Rattle.hm_records.specs.View.{HasEntry}
use Rattle.hm_records.specs.declared.entry.DirEntry.{DirEntry}
use Rattle.hm_cursor.specs.Told.{Lists, fulls}

-- a hash of 8 bytes
abbrev pub IsHash : (List ℕ → ℕ) → Type 0
IsHash hash = (name : List ℕ) → hash name < 2 ^ 64

-- what some bytes spell: an entry of a name that leads to this object, or one of another name
abbrev pub IsObjectNamed : List ℕ → List ℕ → Option Obj → Type 0
IsObjectNamed bytes name None = (entry : DirEntry) × IsEntry entry × (bytes ≡ entry_bytes entry) × (entry.name ≢ name)
IsObjectNamed bytes name (Some object) = IsSpelled bytes object name

-- a fault that tells damage tells it of the payload of this element, which spells no entry
abbrev pub IsNoEntry : List Extent → Element → Fault → Type 0
IsNoEntry xs e (Damaged at kind) = (at ≡ e.payload) × (kind ≡ BAD_PAYLOAD) × (SpellsEntry (payload_of xs e) → ⊥)
IsNoEntry xs e (Media before after) = Unit {0}
IsNoEntry xs e NoMemory = Unit {0}

-- a directory has no entry of a name under any key from one to another
abbrev pub LacksNameIn : Content → ℕ → Obj → List ℕ → ℕ → ℕ → Type 0
LacksNameIn counts pfs directory name first end =
    (key : ℕ) (object : Obj) → first ≤ key → key < end → HasEntry counts pfs directory key name object → ⊥

-- an entry of a name, under the first key of those of this name from one key to another
pub record IsFirstNameIn (counts : Content) (pfs : ℕ) (directory : Obj) (first last : ℕ) (name : List ℕ) (key : ℕ) (object : Obj) : Type 0 where
  pub there : HasEntry counts pfs directory key name object
  pub from : first ≤ key
  pub to : key ≤ last
  pub least : (other : ℕ) (object' : Obj) → first ≤ other → other ≤ last → HasEntry counts pfs directory other name object' → key ≤ other

-- what a look for a name under the keys from one to another answers: the key of the first entry of the name and the
-- object that it leads to, or none where no entry has the name
abbrev pub IsNameIn : Content → ℕ → Obj → ℕ → ℕ → List ℕ → Option (ℕ × Obj) → Type 0
IsNameIn counts pfs directory first last name None =
    (key : ℕ) (object : Obj) → first ≤ key → key ≤ last → HasEntry counts pfs directory key name object → ⊥
IsNameIn counts pfs directory first last name (Some found) = IsFirstNameIn counts pfs directory first last name found.0 found.1

-- an entry of a name, under the first key of those with this name
pub record IsFirstEntry (counts : Content) (pfs : ℕ) (directory : Obj) (name : List ℕ) (key : ℕ) (object : Obj) : Type 0 where
  pub there : HasEntry counts pfs directory key name object
  pub first : (other : ℕ) (object' : Obj) → HasEntry counts pfs directory other name object' → key ≤ other

-- of the entries that lead with keys from `first` to `last` this is the last
pub record IsPreviousEntry (counts : Content) (pfs : ℕ) (directory : Obj) (first last : ℕ) (found : ℕ × DirEntry) : Type 0 where
  pub leads : IsFirstEntry counts pfs directory found.1.name found.0 found.1.obj
  pub ranges : IsEntry found.1
  pub from : first ≤ found.0
  pub to : found.0 ≤ last
  pub most : (key : ℕ) (name : List ℕ) (object : Obj) → key ≤ last → IsFirstEntry counts pfs directory name key object → key ≤ found.0

-- the last one that leads with its key, and none exactly where none leads
abbrev pub IsPreviousName : Content → ℕ → Obj → ℕ → ℕ → Option (ℕ × DirEntry) → Type 0
IsPreviousName counts pfs directory first last None =
    (key : ℕ) (name : List ℕ) (object : Obj) → first ≤ key → key ≤ last → IsFirstEntry counts pfs directory name key object → ⊥
IsPreviousName counts pfs directory first last (Some found) = IsPreviousEntry counts pfs directory first last found

-- an entry of a name stands before a key, or none does of those under the keys of one hash
abbrev pub IsBehind : Content → ℕ → Obj → ℕ → List ℕ → Bool → Type 0
IsBehind counts pfs directory key name true = HasEarlier counts pfs directory name key
IsBehind counts pfs directory key name false = LacksNameIn counts pfs directory name (key / 2 ^ 16 * 2 ^ 16) key

-- the entry under a key, where it leads, or none where it does not
abbrev pub LeadsAt : Lists → ℕ → ℕ → Obj → ℕ → Option DirEntry → Type 0
LeadsAt lists t pfs directory key None =
    (name : List ℕ) (object : Obj) → IsFirstEntry (Counts (fulls lists) t) pfs directory name key object → ⊥
LeadsAt lists t pfs directory key (Some entry) =
    IsEntry entry
    × ((hash : List ℕ → ℕ) → KeysFit hash (fulls lists) → IsFirstEntry (Counts (fulls lists) t) pfs directory entry.name key entry.obj)
