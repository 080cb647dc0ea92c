-- What adding a pseudo file system makes of the elements of a store.
use Rattle.std.specs.Prelude.{◌≡◌, ◌≢◌, ◌↔◌, ◌⊎◌, ℕ, ◌<◌, ◌≤◌, true, false, List, [], ◌∷◌, Option, IfSome, IsNone}
use Rattle.std.specs.List.{Contains}
use Rattle.hm_types.specs.Elements.{FullElement, Key}
use Rattle.hm_types.specs.Tree.{FileTree, no_tree, root_tree}
use Rattle.hm_key.specs.Balance.{content_of}
use Rattle.hm_key.specs.Counts.{Counts, IsRecordOf, Subject, inode_subject, record_subject}
use Rattle.hm_key.specs.Element.{pfs_of}
use Rattle.hm_key.specs.Elements.{element_at}
use Rattle.hm_key.specs.Extents.{Extent}
use Rattle.hm_key.specs.declared.element.Element.{Element}
use Rattle.hm_records.specs.Inode.{inode_bytes}
use Rattle.hm_records.specs.Laws.{HasView}
use Rattle.hm_records.specs.PfsRecord.{pfs_bytes}
use Rattle.hm_types.specs.Intervals.{open_end}
use Rattle.hm_records.specs.declared.kind.TheConstants.{DIRECTORY}
use Rattle.hm_records.specs.declared.pfs_record.PfsRecord.{PfsRecord}
use Rattle.hm_cursor.specs.Told.{fulls}
use Rattle.hm_objects.specs.Objects.{inode_of}

-- the record of a new master, which keeps every id from 1 on
abbrev pub master_record : ℕ → PfsRecord
master_record shared = record { master = true; shared = shared; sync_end = record { 0 = 0 }; retention = (1, open_end) ∷ [] }

-- the record of a new slave, which has no sync end and keeps no id
abbrev pub slave_record : ℕ → PfsRecord
slave_record shared = record { master = false; shared = shared; sync_end = record { 0 = 0 }; retention = [] }

-- the key of what an id makes about a subject
abbrev pub key_about : Subject → ℕ → Key
key_about s i = record { localization = s.localization; obj = s.obj; rec_type = s.rec_type; key = s.key; create = i }

-- an open element about a subject, of a directory, that an id made
abbrev pub made_about : Subject → ℕ → List ℕ → FullElement
made_about s i bytes = record { key = key_about s i; delete = 0; obj_type = DIRECTORY; bytes = bytes }

-- the element that is the record of a pseudo file system, and the one that is the inode of its root directory, made by `i`
abbrev pub made_record : ℕ → PfsRecord → ℕ → FullElement
made_record pfs r i = made_about (record_subject pfs) i (pfs_bytes r)

abbrev pub made_root : ℕ → ℕ → FullElement
made_root pfs i = made_about (inode_subject pfs 1) i (inode_bytes (inode_of DIRECTORY 0))

-- no element is of a pseudo file system
abbrev pub IsUnusedNumber : ℕ → List FullElement → Type 0
IsUnusedNumber pfs es = (x : FullElement) → Contains es x → pfs_of x.key.localization ≢ pfs

-- no element of a pseudo file system was made by `i`
abbrev pub IsNotMadeBy : ℕ → ℕ → List FullElement → Type 0
IsNotMadeBy pfs i es = (x : FullElement) → Contains es x → pfs_of x.key.localization ≡ pfs → x.key.create ≢ i

-- the same of a store, where it tells its content
abbrev pub IsUnmadeIn : Option (List Element) → Option (List Extent) → ℕ → ℕ → Type 0
IsUnmadeIn es xs pfs i = IfSome (content_of es xs) (λ lists. IsNotMadeBy pfs i (fulls lists))

-- no element of a store stands at the key of this one, where it tells them
abbrev pub LacksElement : Option (List Element) → FullElement → Type 0
LacksElement told e = IfSome told (λ es. IsNone (element_at e.key es))

-- One pseudo file system more, made by `i`, with this record: of its number there are the new elements and no others.
-- From `i` on it shows a tree, and before no object. All else stays: each element, the trees of all others and their
-- records.
pub record AddsSystem (pfs i : ℕ) (r : PfsRecord) (New : FullElement → Type 0) (tree : FileTree) (es es' : List FullElement) : Type 0 where
  pub elements : (x : FullElement) → Contains es' x ↔ (New x ⊎ Contains es x)
  pub record_is : IsRecordOf es' pfs (pfs_bytes r)
  pub records : (other : ℕ) (bytes : List ℕ) → other ≢ pfs → IsRecordOf es' other bytes ↔ IsRecordOf es other bytes
  pub elsewhere : (t : ℕ) (s : Subject) (bytes : List ℕ) → pfs_of s.localization ≢ pfs → Counts es' t s bytes ↔ Counts es t s bytes
  pub others : (t other : ℕ) (shown : FileTree) → other ≢ pfs → HasView (Counts es t) other shown → HasView (Counts es' t) other shown
  pub past : (t : ℕ) → t < i → HasView (Counts es' t) pfs no_tree
  pub present : (t : ℕ) → i ≤ t → HasView (Counts es' t) pfs tree

-- one master more: its record and its root directory
abbrev pub AddsMaster : ℕ → ℕ → ℕ → List FullElement → List FullElement → Type 0
AddsMaster pfs shared i =
    AddsSystem pfs i (master_record shared) (λ x. (x ≡ made_root pfs i) ⊎ (x ≡ made_record pfs (master_record shared) i)) root_tree

-- one slave more: its record alone
abbrev pub AddsSlave : ℕ → ℕ → ℕ → List FullElement → List FullElement → Type 0
AddsSlave pfs shared i = AddsSystem pfs i (slave_record shared) (λ x. x ≡ made_record pfs (slave_record shared) i) no_tree

-- These elements of a number come, and no others, and outside of it the same counts. Where no element was of the number, they
-- are one pseudo file system more.
pub record PutsSystem (pfs i : ℕ) (r : PfsRecord) (New : FullElement → Type 0) (tree : FileTree) (es es' : List FullElement) : Type 0 where
  pub elements : (x : FullElement) → Contains es' x ↔ (New x ⊎ Contains es x)
  pub elsewhere : (t : ℕ) (s : Subject) (bytes : List ℕ) → pfs_of s.localization ≢ pfs → Counts es' t s bytes ↔ Counts es t s bytes
  pub adds : IsUnusedNumber pfs es → AddsSystem pfs i r New tree es es'

-- so of a master, and of a slave
abbrev pub PutsMaster : ℕ → ℕ → ℕ → List FullElement → List FullElement → Type 0
PutsMaster pfs shared i =
    PutsSystem pfs i (master_record shared) (λ x. (x ≡ made_root pfs i) ⊎ (x ≡ made_record pfs (master_record shared) i)) root_tree

abbrev pub PutsSlave : ℕ → ℕ → ℕ → List FullElement → List FullElement → Type 0
PutsSlave pfs shared i = PutsSystem pfs i (slave_record shared) (λ x. x ≡ made_record pfs (slave_record shared) i) no_tree
