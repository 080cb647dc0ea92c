-- Words in which the laws of views are said.
use Rattle.std.specs.Prelude.{◌≡◌, ◌≢◌, ℕ, ◌+◌, ◌<◌, ◌≤◌, List, None, Some}
use Rattle.hm_types.specs.declared.id.Obj.{Obj}
use Rattle.hm_types.specs.Elements.{FullElement}
use Rattle.hm_key.specs.Counts.{Content, Counts, entry_subject}
use Rattle.hm_types.specs.Tree.{FileTree, insert_by, is_object_before}
use Rattle.hm_types.specs.declared.object.Object.{Object}
use Rattle.hm_types.specs.declared.object.Triple.{Triple}
use Rattle.hm_records.specs.declared.entry.DirEntry.{DirEntry}
use Rattle.hm_records.specs.Entry.{IsEntry, entry_bytes}
use Rattle.hm_types.specs.declared.object.Content.{Content as Held}
use Rattle.hm_types.specs.declared.object.Kind.{Kind}
use Rattle.hm_records.specs.declared.inode.Inode.{Inode}
use Rattle.hm_records.specs.declared.kind.TheConstants.{FILE}
use Rattle.hm_records.specs.View.{AreFileBytes, HasEntry, IsView}
use Rattle.hm_key.specs.Versions.{IsBelow}
use Rattle.hm_records.specs.Changes.{CountsNothing, HasInode, IsSettled, Overrides}

-- a list of elements as of an id
pub record AsOf : Type 0 where
  pub elements : List FullElement
  pub id : ℕ

-- what counts then
abbrev pub counts_of : AsOf → Content
counts_of shown = Counts shown.elements shown.id

-- no id of a list is above `t`
abbrev pub HasIdsUpTo : ℕ → List FullElement → Type 0
HasIdsUpTo t es = IsBelow (t + 1) es

-- a content has this view, and at most one payload counts in it for each subject
pub record HasView (counts : Content) (pfs : ℕ) (tree : FileTree) : Type 0 where
  pub settled : IsSettled counts
  pub view : IsView counts pfs tree

-- a directory gets an entry, under a key that no entry had
pub record GetsEntry (pfs : ℕ) (directory : Obj) (key : ℕ) (entry : DirEntry) (old new : Content) : Type 0 where
  pub ranges : IsEntry entry
  pub unused : CountsNothing old (entry_subject pfs directory.0 key)
  pub counts : Overrides (entry_subject pfs directory.0 key) (Some (entry_bytes entry)) old new

-- a directory loses the entry that it had under a key
pub record LosesEntry (pfs : ℕ) (directory : Obj) (key : ℕ) (entry : DirEntry) (old new : Content) : Type 0 where
  pub there : HasEntry old pfs directory key entry.name entry.obj
  pub counts : Overrides (entry_subject pfs directory.0 key) None old new

-- an entry under this key would be the first of its name
abbrev pub IsFirstOf : Content → ℕ → Obj → List ℕ → ℕ → Type 0
IsFirstOf counts pfs directory name key = (other : ℕ) (object : Obj) → HasEntry counts pfs directory other name object → key ≤ other

-- there is an entry of the name under an earlier key
pub record HasEarlier (counts : Content) (pfs : ℕ) (directory : Obj) (name : List ℕ) (key : ℕ) : Type 0 where
  pub other : ℕ
  pub object : Obj
  pub there : HasEntry counts pfs directory other name object
  pub earlier : other < key

-- of the entries of a name besides the one under a key this is the first, and leads to an object
pub record IsNext (counts : Content) (pfs : ℕ) (directory : Obj) (name : List ℕ) (key : ℕ) (object : Obj) : Type 0 where
  pub next : ℕ
  pub there : HasEntry counts pfs directory next name object
  pub besides : next ≢ key
  pub first : (other : ℕ) (object' : Obj) → HasEntry counts pfs directory other name object' → other ≢ key → next ≤ other

-- the entry under a key is the only one of its name
abbrev pub IsOnly : Content → ℕ → Obj → List ℕ → ℕ → Type 0
IsOnly counts pfs directory name key = (other : ℕ) (object : Obj) → HasEntry counts pfs directory other name object → other ≡ key

-- the tree with one object more, to which no name leads yet
abbrev pub with_inode : FileTree → Object → FileTree
with_inode tree object = record tree { objects = insert_by is_object_before object tree.objects }

-- the object that an inode makes
abbrev pub made_of : Obj → Kind → Held → Inode → Object
made_of number kind content inode = record { number = number; kind = kind; content = content; links = inode.links }

-- an inode with another number of links
abbrev pub linked : ℕ → Inode → Inode
linked links inode = record inode { links = links }

-- A file of a tree has these bytes in a content: its inode has their number, and as many links as the file.
pub record HoldsBytes (counts : Content) (pfs : ℕ) (file : Object) (inode : Inode) (bytes : List ℕ) : Type 0 where
  pub there : HasInode counts pfs file.number.0 inode
  pub kind : inode.kind ≡ FILE
  pub links : inode.links ≡ file.links
  pub are : AreFileBytes counts pfs file.number.0 inode.size bytes

-- a change of an object leaves its number
abbrev pub KeepsNumbers : (Object → Object) → Type 0
KeepsNumbers change = (o : Object) → (change o).number ≡ o.number

-- a directory's entry of this name, which leads to an object
abbrev pub triple_of : Obj → List ℕ → Obj → Triple
triple_of directory name object = record { directory = directory; name = name; object = object }
