-- What the parts of the plain program answer.
use Rattle.std.specs.Ordering.{is_eq}
use Rattle.std.specs.Prelude.{Bool, ◌≡◌, ◌≢◌, ℕ, ◌<◌, ◌≤◌, List, length, slice_index, Option, None, Some, option_map}
use Rattle.std.specs.List.{Contains}
use Rattle.hm_types.specs.Elements.{FullElement, Key, key_cmp}
use Rattle.hm_types.specs.declared.object.Object.{Object}
use Rattle.hm_types.specs.declared.object.Kind.{Kind}
use Rattle.hm_types.specs.declared.object.Content.{Content as Held}
use Rattle.hm_key.specs.Key.{key_of}
use Rattle.hm_key.specs.declared.base.Base.{Base}
use Rattle.hm_records.specs.declared.inode.Inode.{Inode}
use Rattle.hm_key.specs.Counts.{Content, Counts, Subject, bytes_subject, entry_subject, inode_subject, subject_of}
use Rattle.hm_types.specs.declared.id.Obj.{Obj}
use Rattle.hm_types.specs.declared.object.Triple.{Triple}
use Rattle.hm_types.specs.Tree.{FileTree, is_object_before, is_triple_before}
use Rattle.hm_records.specs.declared.entry.DirEntry.{DirEntry}
use Rattle.hm_records.specs.Changes.{CountsNothing, LacksName}
use Rattle.hm_records.specs.Laws.{triple_of}
use Rattle.hm_records.specs.View.{AreInOrder, EndsInBlock, HasEntry, IsFileByte, IsHeld, IsObject, IsTriple, ShowsRather, kind_number}

-- an element with these bytes
abbrev pub full_of : Base → List ℕ → FullElement
full_of base bytes = record { key = key_of base; delete = base.delete; obj_type = base.obj_type; bytes = bytes }

-- the element has this key
abbrev pub is_at_key : Key → FullElement → Bool
is_at_key at e = is_eq (key_cmp e.key at)

-- a number is at least another one, or there is no other
abbrev pub IsAtLeast : ℕ → Option ℕ → Type 0
IsAtLeast n None = Unit {0}
IsAtLeast n (Some other) = other ≤ n

-- a number is below another one, or there is no other
abbrev pub IsLess : ℕ → Option ℕ → Type 0
IsLess n None = Unit {0}
IsLess n (Some other) = n < other

-- an element is the newest version of a subject that was made by `t`
pub record IsNewestVersionOf (es : List FullElement) (t : ℕ) (s : Subject) (e : FullElement) : Type 0 where
  pub there : Contains es e
  pub about : subject_of e.key ≡ s
  pub made : e.key.create ≤ t
  pub newest : (other : FullElement) → Contains es other → subject_of other.key ≡ s → other.key.create ≤ t → other.key.create ≤ e.key.create

-- none was made by then
abbrev pub IsUnmade : List FullElement → ℕ → Subject → Type 0
IsUnmade es t s = (x : FullElement) → Contains es x → subject_of x.key ≡ s → x.key.create ≤ t → ⊥

abbrev pub IsNewest : List FullElement → ℕ → Subject → Option FullElement → Type 0
IsNewest es t s None = IsUnmade es t s
IsNewest es t s (Some e) = IsNewestVersionOf es t s e

-- these bytes count for a subject, or nothing does
abbrev pub IsCounted : List FullElement → ℕ → Subject → Option (List ℕ) → Type 0
IsCounted es t s None = CountsNothing (Counts es t) s
IsCounted es t s (Some bytes) = Counts es t s bytes

-- some bytes count for a subject
abbrev pub HasSome : Content → Subject → Type 0
HasSome counts s = (bytes : List ℕ) × counts s bytes

-- some bytes of a file that end there count
abbrev pub HasBytes : Content → ℕ → ℕ → ℕ → Type 0
HasBytes counts pfs obj end = HasSome counts (bytes_subject pfs obj end)

-- an element is about bytes of a file that count, and they end in a block
pub record IsOfBlock (counts : Content) (pfs obj block : ℕ) (e : FullElement) : Type 0 where
  pub about : subject_of e.key ≡ bytes_subject pfs obj e.key.key
  pub place : EndsInBlock block e.key.key
  pub there : HasBytes counts pfs obj e.key.key

-- of the bytes of a file of a size that some elements are about, that count and that end in a block, those that show end at `end`
pub record IsBestEnd (counts : Content) (pfs obj size block : ℕ) (es : List FullElement) (end : ℕ) : Type 0 where
  pub there : HasBytes counts pfs obj end
  pub place : EndsInBlock block end
  pub rather : (e : FullElement) → Contains es e → IsOfBlock counts pfs obj block e → ShowsRather size end e.key.key

-- those that show end there, or there are none
abbrev pub IsShownEnd : Content → ℕ → ℕ → ℕ → ℕ → List FullElement → Option ℕ → Type 0
IsShownEnd counts pfs obj size block es None = (e : FullElement) → Contains es e → IsOfBlock counts pfs obj block e → ⊥
IsShownEnd counts pfs obj size block es (Some end) = IsBestEnd counts pfs obj size block es end

-- the first bytes of a file of a size, so many
pub record AreFirstBytes (counts : Content) (pfs obj size n : ℕ) (bytes : List ℕ) : Type 0 where
  pub sized : length bytes ≡ n
  pub each : (x : ℕ) → x < n → IsFileByte counts pfs obj size x (slice_index bytes x)

-- an object of this inode has this kind and holds this
pub record IsHeldAs (counts : Content) (pfs obj : ℕ) (inode : Inode) (kind : Kind) (content : Held) : Type 0 where
  pub kind_is : inode.kind ≡ kind_number kind
  pub holds : IsHeld counts pfs obj inode content

-- this is the object of a number, or there is none
abbrev pub IsObjectAt : Content → ℕ → ℕ → Option Object → Type 0
IsObjectAt counts pfs number None = (o : Object) → IsObject counts pfs o → o.number.0 ≢ number
IsObjectAt counts pfs number (Some object) = IsObject counts pfs object × (object.number.0 ≡ number)

-- it is the newest, or there is none, and this is the id that made it
pub record IsNewestSince (es : List FullElement) (t : ℕ) (s : Subject) (e : Option FullElement) (since : Option ℕ) : Type 0 where
  pub newest : IsNewest es t s e
  pub since_is : since ≡ option_map (λ (x : FullElement). x.key.create) e

-- an element is a version of the subject that was made by `t`, and at least as new as an id
pub record IsNewerVersion (t : ℕ) (s : Subject) (since : Option ℕ) (e : FullElement) : Type 0 where
  pub about : subject_of e.key ≡ s
  pub made : e.key.create ≤ t
  pub newer : IsAtLeast e.key.create since

-- bytes that end at `end` show rather than bytes that end at another place, or there is no other
abbrev pub ShowsFirst : ℕ → ℕ → Option ℕ → Type 0
ShowsFirst size end None = Unit {0}
ShowsFirst size end (Some other) = ShowsRather size end other

-- an element is about bytes of a file that count and end in a block, and that show rather than the best ones so far
pub record IsBetterEnd (counts : Content) (pfs obj size block : ℕ) (best : Option ℕ) (e : FullElement) : Type 0 where
  pub place : EndsInBlock block e.key.key
  pub about : subject_of e.key ≡ bytes_subject pfs obj e.key.key
  pub rather : ShowsFirst size e.key.key best
  pub there : HasBytes counts pfs obj e.key.key

-- ---- objects

-- one of the objects has this number
abbrev pub HasNumber : List Object → ℕ → Type 0
HasNumber objects number = (o : Object) × Contains objects o × (o.number.0 ≡ number)

-- the element is a version of the inode of this object
abbrev pub IsInodeOf : ℕ → FullElement → Object → Type 0
IsInodeOf pfs e o = subject_of e.key ≡ inode_subject pfs o.number.0

-- an object of an element that is not among these
pub record IsAddedObject (counts : Content) (pfs : ℕ) (e : FullElement) (objects : List Object) (object : Object) : Type 0 where
  pub there : IsObject counts pfs object
  pub is_of : IsInodeOf pfs e object
  pub new : HasNumber objects object.number.0 → ⊥

-- it is that one, or what the element makes is among these
abbrev pub IsNewObject : Content → ℕ → FullElement → List Object → Option Object → Type 0
IsNewObject counts pfs e objects None = (o : Object) → IsObject counts pfs o → IsInodeOf pfs e o → HasNumber objects o.number.0
IsNewObject counts pfs e objects (Some object) = IsAddedObject counts pfs e objects object

-- these are the objects that some elements make
pub record HoldsObjects (counts : Content) (pfs : ℕ) (es : List FullElement) (objects : List Object) : Type 0 where
  pub rise : AreInOrder is_object_before objects
  pub sound : (o : Object) → Contains objects o → IsObject counts pfs o
  pub complete : (e : FullElement) (o : Object) → Contains es e → IsObject counts pfs o → IsInodeOf pfs e o → Contains objects o

-- ---- triples

-- what a directory has under a key
abbrev pub IsEntryAt : Content → ℕ → Obj → ℕ → Option DirEntry → Type 0
IsEntryAt counts pfs directory key None = (name : List ℕ) (object : Obj) → HasEntry counts pfs directory key name object → ⊥
IsEntryAt counts pfs directory key (Some entry) = HasEntry counts pfs directory key entry.name entry.obj

-- a directory has an entry of this name under the key, of whatever object
abbrev pub HasName : Content → ℕ → Obj → ℕ → List ℕ → Type 0
HasName counts pfs directory key name = (object : Obj) × HasEntry counts pfs directory key name object

-- an element is about an entry of this name, of which the key is below another one
pub record IsEarlierEntry (counts : Content) (pfs : ℕ) (directory : Obj) (name : List ℕ) (first : Option ℕ) (e : FullElement) : Type 0 where
  pub about : subject_of e.key ≡ entry_subject pfs directory.0 e.key.key
  pub before : IsLess e.key.key first
  pub named : HasName counts pfs directory e.key.key name

-- of the entries that some elements are about, this is the least key of one with the name
pub record IsLeastKeyOf (counts : Content) (pfs : ℕ) (directory : Obj) (name : List ℕ) (es : List FullElement) (key : ℕ) : Type 0 where
  pub named : HasName counts pfs directory key name
  pub least : (e : FullElement) → Contains es e → subject_of e.key ≡ entry_subject pfs directory.0 e.key.key
      → HasName counts pfs directory e.key.key name → key ≤ e.key.key

abbrev pub IsFirstKey : Content → ℕ → Obj → List ℕ → List FullElement → Option ℕ → Type 0
IsFirstKey counts pfs directory name es None =
    (e : FullElement) → Contains es e → subject_of e.key ≡ entry_subject pfs directory.0 e.key.key
    → HasName counts pfs directory e.key.key name → ⊥
IsFirstKey counts pfs directory name es (Some key) = IsLeastKeyOf counts pfs directory name es key

-- the object to which a name leads
abbrev pub NameLeadsTo : Content → ℕ → Obj → List ℕ → Option Obj → Type 0
NameLeadsTo counts pfs directory name None = LacksName counts pfs directory name
NameLeadsTo counts pfs directory name (Some object) = IsTriple counts pfs (triple_of directory name object)

-- one of the triples is this directory's of this name
abbrev pub HasTriple : List Triple → Obj → List ℕ → Type 0
HasTriple triples directory name = (t : Triple) × Contains triples t × (t.directory.0 ≡ directory.0) × (t.name ≡ name)

-- the element is about an entry that a triple's directory has under the triple's name
pub record IsEntryOf (counts : Content) (pfs : ℕ) (e : FullElement) (t : Triple) : Type 0 where
  pub about : subject_of e.key ≡ entry_subject pfs t.directory.0 e.key.key
  pub named : HasName counts pfs t.directory e.key.key t.name

-- a triple of an element's entry that is not among these
pub record IsAddedTriple (counts : Content) (pfs : ℕ) (e : FullElement) (triples : List Triple) (triple : Triple) : Type 0 where
  pub there : IsTriple counts pfs triple
  pub is_of : IsEntryOf counts pfs e triple
  pub new : HasTriple triples triple.directory triple.name → ⊥

abbrev pub IsNewTriple : Content → ℕ → FullElement → List Triple → Option Triple → Type 0
IsNewTriple counts pfs e triples None =
    (t : Triple) → IsTriple counts pfs t → IsEntryOf counts pfs e t → HasTriple triples t.directory t.name
IsNewTriple counts pfs e triples (Some triple) = IsAddedTriple counts pfs e triples triple

-- these are the triples of the entries that some elements are about
pub record HoldsTriples (counts : Content) (pfs : ℕ) (es : List FullElement) (triples : List Triple) : Type 0 where
  pub rise : AreInOrder is_triple_before triples
  pub sound : (t : Triple) → Contains triples t → IsTriple counts pfs t
  pub complete : (e : FullElement) (t : Triple) → Contains es e → IsTriple counts pfs t → IsEntryOf counts pfs e t → Contains triples t

-- the tree of these objects and triples
abbrev pub tree_of : List Object → List Triple → FileTree
tree_of objects triples = record { objects = objects; triples = triples }
