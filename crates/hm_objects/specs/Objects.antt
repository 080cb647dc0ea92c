-- What the calls on objects need, and what they do to the tree.
use Rattle.std.specs.Prelude.{◌≡◌, ◌≢◌, ◌⊎◌, ◌↔◌, ℕ, ◌+◌, ◌*◌, ◌≤◌, List, [], Option, None, Some, IfSome}
use Rattle.hm_types.specs.Elements.{FullElement}
use Rattle.hm_types.specs.Space.{in_zone}
use Rattle.hm_types.specs.Tree.{FileTree}
use Rattle.hm_types.specs.declared.id.Id.{Id}
use Rattle.hm_types.specs.declared.id.Obj.{Obj}
use Rattle.hm_types.specs.declared.id.Pfs.{Pfs}
use Rattle.hm_types.specs.declared.object.Object.{Object}
use Rattle.hm_types.specs.declared.object.Content.TheVariants.{File as of_file, Linked, Target}
use Rattle.hm_types.specs.declared.object.Kind.TheVariants.{File, PfsLink, Softlink}
use Rattle.hm_types.specs.declared.space.TheConstants.{INSERT_ROOM}
use Rattle.hm_types.specs.declared.zone.TheConstants.{META_ZONE, TREE_ZONE}
use Rattle.hm_key.specs.Balance.{content_of}
use Rattle.hm_key.specs.Counts.{Counts, Subject, entry_subject, inode_subject, target_subject, subject_of}
use Rattle.hm_key.specs.Elements.{element_key}
use Rattle.hm_key.specs.Extents.{Extent}
use Rattle.hm_key.specs.declared.base.Base.{Base}
use Rattle.hm_key.specs.declared.base.TheConstants.{ELEMENT}
use Rattle.hm_key.specs.declared.element.Element.{Element}
use Rattle.hm_records.specs.Changes.{CountsNothing, HasInode, IsSettled}
use Rattle.hm_records.specs.Follows.{StillFollow}
use Rattle.hm_records.specs.KeysFit.{KeysFit}
use Rattle.hm_records.specs.Laws.{with_inode}
use Rattle.hm_records.specs.Payload.{IsPayload}
use Rattle.hm_records.specs.declared.inode.Inode.{Inode}
use Rattle.hm_records.specs.declared.kind.TheConstants.{FILE, PFS_LINK}
use Rattle.hm_cursor.specs.Told.{Lists, fulls}
use Rattle.hm_cursor.specs.Version.{IsNewestOf}
use Rattle.hm_cursor.specs.Views.{IsMissing, Shows, WritesIn}
use Rattle.hm_cursor.specs.Write.{IsClosedIn, IsFreshFor}

-- an empty file of its own, and a softlink, each with one link
abbrev pub file_of : Obj → Object
file_of number = record { number = number; kind = File; content = of_file []; links = 1 }

abbrev pub softlink_of : Obj → List ℕ → Object
softlink_of number text = record { number = number; kind = Softlink; content = Target text; links = 1 }

-- a link to a pseudo file system
abbrev pub pfs_link_of : Obj → Pfs → Object
pfs_link_of number to = record { number = number; kind = PfsLink; content = Linked to; links = 1 }

-- the inode of a new object, with one link
abbrev pub inode_of : ℕ → ℕ → Inode
inode_of kind size = record { kind = kind; size = size; links = 1; pfs = record { 0 = 0 } }

-- the inode of a new link to a pseudo file system
abbrev pub pfs_link_inode : Pfs → Inode
pfs_link_inode to = record { kind = PFS_LINK; size = 0; links = 1; pfs = to }

-- the base of an open element of an object of a kind, which an id made
abbrev pub open_base : Base → ℕ → ℕ → Base
open_base base kind i = record base { create = i; delete = 0; obj_type = kind; btype = ELEMENT }

-- a new element is about the inode or the target of an object, was made by `i`, and keeps the grammar of payloads
pub record IsOfObject (pfs obj i : ℕ) (x : FullElement) : Type 0 where
  pub about : (subject_of x.key ≡ inode_subject pfs obj) ⊎ (subject_of x.key ≡ target_subject pfs obj)
  pub made : x.key.create ≡ i
  pub payload : IsPayload x

-- what is about an object is older than `i`
pub record IsOlder (pfs obj i : ℕ) (es : List FullElement) : Type 0 where
  pub inode : IsFreshFor (inode_subject pfs obj) i es
  pub target : IsFreshFor (target_subject pfs obj) i es

-- the same of a store, where it tells its content
abbrev pub IsOlderIn : Option (List Element) → Option (List Extent) → ℕ → ℕ → ℕ → Type 0
IsOlderIn es xs pfs obj i = IfSome (content_of es xs) (λ lists. IsOlder pfs obj i (fulls lists))

-- the inode of an object as of an id, and the id that made it: its version that counts, or it has none
abbrev pub IsInodeMade : Lists → ℕ → ℕ → ℕ → Option (Id × Inode) → Type 0
IsInodeMade lists t pfs obj None = CountsNothing (Counts (fulls lists) t) (inode_subject pfs obj)
IsInodeMade lists t pfs obj (Some found) =
    HasInode (Counts (fulls lists) t) pfs obj found.1
    × ((e : Element) × IsNewestOf lists.0 (inode_subject pfs obj) t e × (e.base.create ≡ found.0.0))

-- the inode of an object that counted as of `i` is closed at it, where a store tells its elements
abbrev pub IsInodeClosed : Lists → ℕ → ℕ → ℕ → Option (List Element) → Type 0
IsInodeClosed was pfs obj i told = (e : Element) → IsNewestOf was.0 (inode_subject pfs obj) i e → IsClosedIn told (element_key e) i

-- nothing counts of an object from `i` on: neither an inode nor a target
pub record IsGone (pfs obj i : ℕ) (es : List FullElement) : Type 0 where
  pub inode : IsMissing pfs obj i es
  pub target : (t : ℕ) → i ≤ t → CountsNothing (Counts es t) (target_subject pfs obj)

-- for each entry of a directory the same counts, as of any id
abbrev pub KeepEntries : ℕ → List FullElement → List FullElement → Type 0
KeepEntries pfs es es' =
    (t directory key : ℕ) (bytes : List ℕ) → Counts es' t (entry_subject pfs directory key) bytes ↔ Counts es t (entry_subject pfs directory key) bytes

-- An object is added by `i`: where it had no inode, the tree gets it, and no name leads to it yet. The keys of entries
-- stay fit, and each entry counts as it did, those that no tree shows too. What followed before follows still.
pub record AddsObject (pfs i : ℕ) (object : Object) (es es' : List FullElement) : Type 0 where
  pub writes : WritesIn pfs i (IsOfObject pfs object.number.0 i) es es'
  pub shows : IsMissing pfs object.number.0 i es → Shows pfs i (λ tree. with_inode tree object) es es'
  pub fits : (hash : List ℕ → ℕ) → KeysFit hash es → KeysFit hash es'
  pub entries : KeepEntries pfs es es'
  pub follows : IsMissing pfs object.number.0 i es → StillFollow es es'

-- An object is changed by `i`, and the tree with it. The keys of entries stay fit, and each entry counts as it did. What
-- followed before follows still.
pub record ChangesBy (pfs obj i : ℕ) (change : FileTree → FileTree) (es es' : List FullElement) : Type 0 where
  pub writes : WritesIn pfs i (IsOfObject pfs obj i) es es'
  pub shows : Shows pfs i change es es'
  pub fits : (hash : List ℕ → ℕ) → KeysFit hash es → KeysFit hash es'
  pub entries : KeepEntries pfs es es'
  pub follows : StillFollow es es'

-- an inode with another size
abbrev pub sized : ℕ → Inode → Inode
sized size inode = record inode { size = size }

-- A file gets another size by `i`: the inode that it has counts with that size from then on, and all else counts as before.
-- The keys of entries stay fit, and what followed before follows still.
pub record ResizesObject (pfs obj i size : ℕ) (es es' : List FullElement) : Type 0 where
  pub writes : WritesIn pfs i (IsOfObject pfs obj i) es es'
  pub inode : (t : ℕ) (inode : Inode) → i ≤ t → IsSettled (Counts es t) → HasInode (Counts es t) pfs obj inode → inode.kind ≡ FILE
      → HasInode (Counts es' t) pfs obj (sized size inode)
  pub beside : (t : ℕ) (s : Subject) (bytes : List ℕ) → s ≢ inode_subject pfs obj → Counts es' t s bytes ↔ Counts es t s bytes
  pub fits : (hash : List ℕ → ℕ) → KeysFit hash es → KeysFit hash es'
  pub follows : StillFollow es es'

-- room for so many elements, and for so many bytes of their payloads
pub record HasRooms (room : ℕ → ℕ) (elements bytes : ℕ) : Type 0 where
  pub tree : elements * INSERT_ROOM ≤ room TREE_ZONE
  pub meta : bytes ≤ room META_ZONE

-- what they take of each zone at most
abbrev pub spent : ℕ → ℕ → ℕ → ℕ
spent elements bytes zone = in_zone TREE_ZONE (elements * INSERT_ROOM) zone + in_zone META_ZONE bytes zone
