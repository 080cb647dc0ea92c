-- Which of the elements of a tree count as of an id, and for what.
use Rattle.std.specs.Prelude.{◌≡◌, ℕ, ◌+◌, ◌*◌, ◌^◌, ◌≤◌, List}
use Rattle.std.specs.List.{Contains}
use Rattle.hm_types.specs.Elements.{Key, FullElement, Sees}
use Rattle.hm_key.specs.declared.rec_type.TheConstants.{INODE, FILE_BYTES, DIRECTORY_ENTRY, SOFTLINK_TARGET, PFS_RECORD, INODE_PART, OTHER_PART}

-- what an element is about: an inode, some bytes of a file, an entry of a directory, a target, a record. The
-- elements about one subject are its versions
pub record Subject : Type 0 where
  pub localization : ℕ
  pub obj : ℕ
  pub rec_type : ℕ
  pub key : ℕ

-- what an element with this key is about: all of the key but the id that made it
abbrev pub subject_of : Key → Subject
subject_of k = record { localization = k.localization; obj = k.obj; rec_type = k.rec_type; key = k.key }

-- the localization of a pseudo file system's inodes, and of all else in it
abbrev pub inodes_of : ℕ → ℕ
inodes_of pfs = pfs * 2 ^ 16 + INODE_PART

abbrev pub others_of : ℕ → ℕ
others_of pfs = pfs * 2 ^ 16 + OTHER_PART

-- the inode of an object, by its number
abbrev pub inode_subject : ℕ → ℕ → Subject
inode_subject pfs obj = record { localization = inodes_of pfs; obj = obj; rec_type = INODE; key = 0 }

-- the bytes of a file up to the byte at `end`, which is not one of them
abbrev pub bytes_subject : ℕ → ℕ → ℕ → Subject
bytes_subject pfs obj end = record { localization = others_of pfs; obj = obj; rec_type = FILE_BYTES; key = end }

-- the entry of a directory that has this key
abbrev pub entry_subject : ℕ → ℕ → ℕ → Subject
entry_subject pfs directory key =
    record { localization = others_of pfs; obj = directory; rec_type = DIRECTORY_ENTRY; key = key }

-- the target of a softlink
abbrev pub target_subject : ℕ → ℕ → Subject
target_subject pfs obj = record { localization = others_of pfs; obj = obj; rec_type = SOFTLINK_TARGET; key = 0 }

-- the record of a pseudo file system
abbrev pub record_subject : ℕ → Subject
record_subject pfs = record { localization = others_of pfs; obj = 1; rec_type = PFS_RECORD; key = pfs }

-- an element is seen as of an id: it was made by then, and is open, or closed later
abbrev pub IsSeen : ℕ → FullElement → Type 0
IsSeen t e = Sees e.key.create e.delete t

-- what counts: which bytes, for which subject
abbrev pub Content : Type 1
Content = Subject → List ℕ → Type 0

-- These bytes count for a subject as of `t`: of its versions that were made by then the newest decides, and it is seen
-- then. So where that one is closed nothing counts, whatever is open among the older ones.
pub record Counts (es : List FullElement) (t : ℕ) (subject : Subject) (bytes : List ℕ) : Type 0 where
  pub element : FullElement
  pub there : Contains es element
  pub about : subject_of element.key ≡ subject
  pub holds : element.bytes ≡ bytes
  pub seen : IsSeen t element
  pub newest : (other : FullElement) → Contains es other → subject_of other.key ≡ subject → other.key.create ≤ t
      → other.key.create ≤ element.key.create

-- The record of a pseudo file system: records have no past, so that the newest one decides, and where that one was
-- closed there is none.
pub record IsRecordOf (es : List FullElement) (pfs : ℕ) (bytes : List ℕ) : Type 0 where
  pub element : FullElement
  pub there : Contains es element
  pub about : subject_of element.key ≡ record_subject pfs
  pub holds : element.bytes ≡ bytes
  pub unclosed : element.delete ≡ 0
  pub newest : (other : FullElement) → Contains es other → subject_of other.key ≡ record_subject pfs
      → other.key.create ≤ element.key.create
