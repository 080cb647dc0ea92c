-- What the calls on names answer, what they need, and what they do to the tree.
use Rattle.std.specs.Prelude.{◌≡◌, ◌≢◌, ◌⊎◌, ◌↔◌, ℕ, ◌+◌, ◌*◌, ◌/◌, ◌^◌, ◌<◌, ◌≤◌, Bool, true, false, List, Option, None, Some, IfSome}
use Rattle.std.specs.List.{count_by}
use Rattle.hm_types.specs.Elements.{FullElement}
use Rattle.hm_types.specs.Tree.{FileTree, entries_in, with_name, without_name}
use Rattle.hm_types.specs.declared.id.Obj.{Obj}
use Rattle.hm_key.specs.Balance.{content_of}
use Rattle.hm_key.specs.Counts.{Content, Counts, Subject, entry_subject, subject_of}
use Rattle.hm_key.specs.Extents.{Extent}
use Rattle.hm_key.specs.declared.element.Element.{Element}
use Rattle.hm_records.specs.Changes.{CountsNothing, LacksName}
use Rattle.hm_records.specs.Entry.{IsEntry, entry_bytes}
use Rattle.hm_records.specs.Follows.{StillFollow}
use Rattle.hm_records.specs.KeysFit.{KeysFit}
use Rattle.hm_records.specs.Laws.{HasEarlier}
use Rattle.hm_records.specs.Payload.{KeyFits}
use Rattle.hm_records.specs.View.{HasEntry}
use Rattle.hm_records.specs.declared.entry.DirEntry.{DirEntry}
use Rattle.hm_cursor.specs.Names.{IsFirstEntry}
use Rattle.hm_cursor.specs.Told.{Lists, OnBalanced, fulls}
use Rattle.hm_cursor.specs.Views.{IsNothing, Shows, WritesIn}
use Rattle.hm_cursor.specs.Write.{IsFreshFor}
use Rattle.hm_model.specs.Due.{same_hash}
use Rattle.hm_dirs.specs.declared.spot.Spot.{Spot}

-- the least key of a name: its hash without the lowest bit, moved down by that bit, with a collision number of 0
abbrev pub first_key : ℕ → ℕ
first_key hash = hash / 2 / 2 ^ 16 * 2 ^ 16

-- a fact of a store that tells a balanced content, in which the keys of entries fit their names
abbrev pub OnNamed : (List ℕ → ℕ) → Option (List Element) → Option (List Extent) → (Lists → Type 0) → Type 0
OnNamed hash es xs P = OnBalanced es xs (λ lists. KeysFit hash (fulls lists) → P lists)

-- what a look for a name in a directory answers, as of `t`: the key of its entry and the object that it leads to, or
-- none where the directory has no such entry
abbrev pub IsLookedUp : ℕ → ℕ → Obj → List ℕ → Option (ℕ × Obj) → Lists → Type 0
IsLookedUp t pfs directory name None lists = LacksName (Counts (fulls lists) t) pfs directory name
IsLookedUp t pfs directory name (Some found) lists =
    IsFirstEntry (Counts (fulls lists) t) pfs directory name found.0 found.1

-- how many collision numbers are given to the names of one hash
abbrev pub numbers : ℕ
numbers = 1024

-- how many names of a directory have the hash of a name
abbrev pub names_of_hash : (List ℕ → ℕ) → FileTree → Obj → List ℕ → ℕ
names_of_hash hash tree directory name = count_by (same_hash hash name) (entries_in tree directory)

-- an entry is hidden behind an earlier one of its name
pub record IsHidden (counts : Content) (pfs : ℕ) (directory : Obj) (key : ℕ) : Type 0 where
  pub name : List ℕ
  pub object : Obj
  pub there : HasEntry counts pfs directory key name object
  pub earlier : HasEarlier counts pfs directory name key

-- a key can take a new entry: nothing counts there, or, where it is told to be hidden, an entry that is
abbrev pub CanTakeAt : Content → ℕ → Obj → ℕ → Bool → Type 0
CanTakeAt counts pfs directory key false = CountsNothing counts (entry_subject pfs directory.0 key)
CanTakeAt counts pfs directory key true =
    CountsNothing counts (entry_subject pfs directory.0 key) ⊎ IsHidden counts pfs directory key

abbrev pub CanTake : Content → ℕ → Obj → Spot → Type 0
CanTake counts pfs directory spot = CanTakeAt counts pfs directory spot.key spot.hidden

-- a key for a new entry, with one of the collision numbers of the names whose least key is `first`
pub record IsSpot (counts : Content) (pfs : ℕ) (directory : Obj) (first : ℕ) (spot : Spot) : Type 0 where
  pub from : first ≤ spot.key
  pub to : spot.key < first + numbers
  pub takes : CanTake counts pfs directory spot

-- a key for the entry of a new name, or none where the directory has as many names of its hash as there are collision
-- numbers, or more
abbrev pub IsSpotFor : (List ℕ → ℕ) → Content → FileTree → ℕ → Obj → List ℕ → Option Spot → Type 0
IsSpotFor hash counts tree pfs directory name None = numbers ≤ names_of_hash hash tree directory name
IsSpotFor hash counts tree pfs directory name (Some spot) =
    (names_of_hash hash tree directory name < numbers) × IsSpot counts pfs directory (first_key (hash name)) spot

-- a new element is this entry under this key, of an object of a kind, made by `i`
pub record IsEntryAt (pfs : ℕ) (directory : Obj) (key i : ℕ) (entry : DirEntry) (kind : ℕ) (x : FullElement) : Type 0 where
  pub about : subject_of x.key ≡ entry_subject pfs directory.0 key
  pub made : x.key.create ≡ i
  pub kind_is : x.obj_type ≡ kind
  pub entry_is : IsEntry entry
  pub bytes : x.bytes ≡ entry_bytes entry

-- A name of an object of a kind is added by `i`, under a key that can take it as of `i`: where the directory has no entry of
-- the name, the tree gets the name. An entry that was hidden there goes, which no tree shows. For all that is about another
-- subject the same counts, as of any id, and what followed before follows still.
pub record AddsName (pfs : ℕ) (directory : Obj) (spot : Spot) (i : ℕ) (entry : DirEntry) (kind : ℕ) (es es' : List FullElement) : Type 0 where
  pub writes : WritesIn pfs i (IsEntryAt pfs directory spot.key i entry kind) es es'
  pub shows : CanTake (Counts es i) pfs directory spot → LacksName (Counts es i) pfs directory entry.name
      → Shows pfs i (λ tree. with_name tree directory entry.name entry.obj) es es'
  pub fits : (hash : List ℕ → ℕ) → KeyFits hash spot.key entry.name → KeysFit hash es → KeysFit hash es'
  pub beside : (t : ℕ) (s : Subject) (bytes : List ℕ) → s ≢ entry_subject pfs directory.0 spot.key → Counts es' t s bytes ↔ Counts es t s bytes
  pub follows : CanTake (Counts es i) pfs directory spot → StillFollow es es'

-- A name is taken away by `i`, with each entry of it: the tree loses the name, nothing counts under the keys of its
-- entries, and entries of other names stay. What followed before follows still.
pub record TakesName (hash : List ℕ → ℕ) (pfs : ℕ) (directory : Obj) (name : List ℕ) (i : ℕ) (es es' : List FullElement) : Type 0 where
  pub writes : WritesIn pfs i IsNothing es es'
  pub shows : KeysFit hash es → Shows pfs i (λ tree. without_name tree directory name) es es'
  pub lacks : KeysFit hash es → (t : ℕ) → i ≤ t → LacksName (Counts es' t) pfs directory name
  pub fits : KeysFit hash es → KeysFit hash es'
  pub closed : KeysFit hash es → (key : ℕ) (object : Obj) → HasEntry (Counts es i) pfs directory key name object
      → (t : ℕ) → i ≤ t → CountsNothing (Counts es' t) (entry_subject pfs directory.0 key)
  pub only : (t : ℕ) (s : Subject) (bytes : List ℕ) → i ≤ t → Counts es' t s bytes → Counts es t s bytes
  pub beside : (t key : ℕ) (other : Obj) (name' : List ℕ) (object : Obj) → i ≤ t → (other ≡ directory → name' ≡ name → ⊥)
      → HasEntry (Counts es t) pfs other key name' object → HasEntry (Counts es' t) pfs other key name' object
  pub follows : StillFollow es es'

-- the entries of a directory are older than `i`
abbrev pub AreOlder : ℕ → Obj → ℕ → List FullElement → Type 0
AreOlder pfs directory i es = (key : ℕ) → IsFreshFor (entry_subject pfs directory.0 key) i es

-- the same of a store, where it tells its content
abbrev pub AreOlderIn : Option (List Element) → Option (List Extent) → ℕ → Obj → ℕ → Type 0
AreOlderIn es xs pfs directory i = IfSome (content_of es xs) (λ lists. AreOlder pfs directory i (fulls lists))
