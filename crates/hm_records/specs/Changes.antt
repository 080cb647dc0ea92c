-- What a change of a list of elements does to what counts.
use Rattle.std.specs.Prelude.{◌≡◌, ◌≢◌, ◌↔◌, ℕ, List, Option, Some}
use Rattle.hm_types.specs.declared.id.Obj.{Obj}
use Rattle.hm_key.specs.Counts.{Content, Subject, inode_subject, bytes_subject, entry_subject, target_subject}
use Rattle.hm_records.specs.View.{HasEntry}
use Rattle.hm_records.specs.declared.inode.Inode.{Inode}
use Rattle.hm_records.specs.Inode.{IsInode, inode_bytes}

-- the same counts for every subject
abbrev pub CountSame : Content → Content → Type 0
CountSame old new = (s : Subject) (bytes : List ℕ) → new s bytes ↔ old s bytes

-- nothing counts for a subject
abbrev pub CountsNothing : Content → Subject → Type 0
CountsNothing counts s = (bytes : List ℕ) → counts s bytes → ⊥

-- for no subject two payloads count
abbrev pub IsSettled : Content → Type 0
IsSettled counts = (s : Subject) (a b : List ℕ) → counts s a → counts s b → a ≡ b

-- For one subject these bytes count and no others, or nothing counts for it. For every other subject there counts
-- what counted.
pub record Overrides (subject : Subject) (now : Option (List ℕ)) (old new : Content) : Type 0 where
  pub about : (bytes : List ℕ) → new subject bytes ↔ (now ≡ Some bytes)
  pub elsewhere : (other : Subject) (bytes : List ℕ) → other ≢ subject → new other bytes ↔ old other bytes

-- two contents agree about an object: about its inode, its bytes and its target
pub record AgreeOnObject (pfs obj : ℕ) (old new : Content) : Type 0 where
  pub inode : (bytes : List ℕ) → new (inode_subject pfs obj) bytes ↔ old (inode_subject pfs obj) bytes
  pub bytes : (end : ℕ) (bytes : List ℕ) → new (bytes_subject pfs obj end) bytes ↔ old (bytes_subject pfs obj end) bytes
  pub target : (bytes : List ℕ) → new (target_subject pfs obj) bytes ↔ old (target_subject pfs obj) bytes

-- they agree about the entries of a directory that have this name
abbrev pub AgreeOnName : ℕ → Obj → List ℕ → Content → Content → Type 0
AgreeOnName pfs directory name old new =
    (key : ℕ) (object : Obj) → HasEntry new pfs directory key name object ↔ HasEntry old pfs directory key name object

-- Two contents agree about a pseudo file system but for one object, of which neither the names are meant nor the
-- entries that it has as a directory.
pub record AgreeButObject (pfs obj : ℕ) (old new : Content) : Type 0 where
  pub objects : (other : ℕ) → other ≢ obj → AgreeOnObject pfs other old new
  pub entries : (directory : Obj) (name : List ℕ) → AgreeOnName pfs directory name old new

-- A subject is about no object of a pseudo file system and no entry in it.
pub record IsBeside (pfs : ℕ) (s : Subject) : Type 0 where
  pub inode : (obj : ℕ) → s ≢ inode_subject pfs obj
  pub bytes : (obj end : ℕ) → s ≢ bytes_subject pfs obj end
  pub target : (obj : ℕ) → s ≢ target_subject pfs obj
  pub entry : (directory key : ℕ) → s ≢ entry_subject pfs directory key

-- a directory has no entry of this name
abbrev pub LacksName : Content → ℕ → Obj → List ℕ → Type 0
LacksName counts pfs directory name = (key : ℕ) (object : Obj) → HasEntry counts pfs directory key name object → ⊥

-- one object of a pseudo file system changes at most, and what counts stays settled
pub record ChangesObject (pfs obj : ℕ) (old new : Content) : Type 0 where
  pub agree : AgreeButObject pfs obj old new
  pub settled : IsSettled new

-- an object has this inode
pub record HasInode (counts : Content) (pfs obj : ℕ) (inode : Inode) : Type 0 where
  pub ranges : IsInode inode
  pub there : counts (inode_subject pfs obj) (inode_bytes inode)

-- no inode of the object is of this kind, so that it has none or one of another kind
abbrev pub IsNotOfKind : Content → ℕ → ℕ → ℕ → Type 0
IsNotOfKind counts pfs obj kind = (inode : Inode) → HasInode counts pfs obj inode → inode.kind ≢ kind
