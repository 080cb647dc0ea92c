-- What the writing steps of calls do to elements and trees.
use Rattle.std.specs.Prelude.{◌≡◌, ◌≢◌, ℕ, ◌+◌, ◌-◌, ◌^◌, ◌<◌, ◌≤◌, List, Option, if◌then◌else◌}
use Rattle.std.specs.Bool.{nat_lt}
use Rattle.std.specs.List.{Contains}
use Rattle.hm_types.specs.Elements.{FullElement}
use Rattle.hm_types.specs.Space.{in_zone}
use Rattle.hm_types.specs.Tree.{FileTree, with_change, with_links, with_name, with_object, without_name, without_object}
use Rattle.hm_types.specs.declared.id.Obj.{Obj}
use Rattle.hm_types.specs.declared.object.Object.{Object}
use Rattle.hm_types.specs.declared.space.TheConstants.{PAYLOAD_RESERVE, TREE_RESERVE}
use Rattle.hm_types.specs.declared.zone.TheConstants.{META_ZONE, TREE_ZONE}
use Rattle.hm_key.specs.Counts.{Counts, bytes_subject}
use Rattle.hm_key.specs.Element.{pfs_of}
use Rattle.hm_key.specs.Extents.{Extent}
use Rattle.hm_key.specs.declared.element.Element.{Element}
use Rattle.hm_key.specs.declared.rec_type.TheConstants.{DIRECTORY_ENTRY}
use Rattle.hm_cursor.specs.Views.{CameAs, IsMissing, Shows, WritesIn}
use Rattle.hm_records.specs.Changes.{CountsNothing, LacksName}
use Rattle.hm_records.specs.Entry.{IsEntry, entry_bytes}
use Rattle.hm_records.specs.Follows.{StillFollow}
use Rattle.hm_records.specs.KeysFit.{KeysFit}
use Rattle.hm_records.specs.Payload.{IsPayload, KeyFits}
use Rattle.hm_records.specs.View.{HasEntry, kind_number}
use Rattle.hm_records.specs.declared.entry.DirEntry.{DirEntry}
use Rattle.hm_records.specs.declared.kind.TheConstants.{FILE}
use Rattle.hm_objects.specs.Objects.{ChangesBy, IsGone}
use Rattle.hm_dirs.specs.Names.{AddsName, AreOlderIn, CanTake}
use Rattle.hm_dirs.specs.declared.position.Stand.{Stand}
use Rattle.hm_dirs.specs.declared.spot.Spot.{Spot}
use Rattle.hm_types.specs.Name.{IsName}
use Rattle.hm_calls.specs.declared.rename.Moved.{Moved}
use Rattle.hm_calls.specs.declared.rename.Named.{Named}

-- the zones 8 and 9 have their reserves
pub record HasReserves (room : ℕ → ℕ) : Type 0 where
  pub tree : TREE_RESERVE ≤ room TREE_ZONE
  pub meta : PAYLOAD_RESERVE ≤ room META_ZONE

-- the reserves of the zones 8 and 9
abbrev pub reserves : ℕ → ℕ
reserves zone = in_zone TREE_ZONE TREE_RESERVE zone + in_zone META_ZONE PAYLOAD_RESERVE zone

-- a new element is of this pseudo file system, was made by `i`, and keeps the grammar of payloads
pub record IsNewIn (pfs i : ℕ) (x : FullElement) : Type 0 where
  pub place : pfs_of x.key.localization ≡ pfs
  pub made : x.key.create ≡ i
  pub payload : IsPayload x

-- a new element that is an entry leads to this object, and has the type of its kind
pub record NamesObject (obj : Obj) (kind : ℕ) (x : FullElement) : Type 0 where
  pub leads : (entry : DirEntry) → x.key.rec_type ≡ DIRECTORY_ENTRY → IsEntry entry → x.bytes ≡ entry_bytes entry → (entry.obj ≡ obj) × (x.obj_type ≡ kind)

-- an element is no entry
abbrev pub NamesNothing : FullElement → Type 0
NamesNothing x = x.key.rec_type ≢ DIRECTORY_ENTRY

-- each element of a changed list was there, or is such a new one
abbrev pub AllCame : (FullElement → Type 0) → List FullElement → List FullElement → Type 0
AllCame New es es' = (x : FullElement) → Contains es' x → CameAs New es x

-- a place for a name: a directory of a pseudo file system
pub record Place : Type 0 where
  pub pfs : ℕ
  pub directory : Obj
  pub name : List ℕ

-- the place of a name in the directory that a walk came to
abbrev pub place_in : Stand → List ℕ → Place
place_in stand name = record { pfs = stand.at.pfs.0; directory = stand.at.object; name = name }

-- a name may be added there at this spot
pub record IsOpen (place : Place) (spot : Spot) (i : ℕ) (es : List FullElement) : Type 0 where
  pub takes : CanTake (Counts es i) place.pfs place.directory spot
  pub lacks : LacksName (Counts es i) place.pfs place.directory place.name

-- A writing step by `i` in one pseudo file system, at whose spot keys fit.
pub record Steps (pfs i : ℕ) (hash : List ℕ → ℕ) (Fits : Type 0) (es es' : List FullElement) : Type 0 where
  pub writes : WritesIn pfs i (IsNewIn pfs i) es es'
  pub keys : Fits → KeysFit hash es → KeysFit hash es'

-- an object and its name are added
pub record PutsObject (hash : List ℕ → ℕ) (place : Place) (spot : Spot) (i : ℕ) (object : Object) (es es' : List FullElement) : Type 0 where
  pub steps : Steps place.pfs i hash (KeyFits hash spot.key place.name) es es'
  pub shows : IsOpen place spot i es → IsMissing place.pfs object.number.0 i es
      → Shows place.pfs i (λ tree. with_object tree place.directory place.name object) es es'
  pub names : AllCame (NamesObject object.number (kind_number object.kind)) es es'
  pub follows : IsOpen place spot i es → IsMissing place.pfs object.number.0 i es → StillFollow es es'

-- a file gets so many links, and a name more
pub record PutsLink (hash : List ℕ → ℕ) (place : Place) (spot : Spot) (i : ℕ) (obj : Obj) (links : ℕ) (es es' : List FullElement) : Type 0 where
  pub steps : Steps place.pfs i hash (KeyFits hash spot.key place.name) es es'
  pub shows : IsOpen place spot i es
      → Shows place.pfs i (λ tree. with_name (with_change tree obj (with_links links)) place.directory place.name obj) es es'
  pub names : AllCame (NamesObject obj FILE) es es'
  pub follows : IsOpen place spot i es → StillFollow es es'

-- the tree in which a link less leads to an object that had so many
abbrev pub less_link : ℕ → Obj → FileTree → FileTree
less_link links obj tree = if nat_lt 1 links then with_change tree obj (with_links (links - 1)) else without_object tree obj

-- nothing counts of an object from `i` on: no inode, no target, and no bytes
pub record LeavesNothing (pfs obj i : ℕ) (es : List FullElement) : Type 0 where
  pub gone : IsGone pfs obj i es
  pub bytes : (t n : ℕ) → i ≤ t → n < 2 ^ 64 → CountsNothing (Counts es t) (bytes_subject pfs obj n)

-- a name goes, and with it a link of an object that had so many
pub record TakesLink (hash : List ℕ → ℕ) (place : Place) (i : ℕ) (obj : Obj) (links : ℕ) (es es' : List FullElement) : Type 0 where
  pub steps : Steps place.pfs i hash (Unit {0}) es es'
  pub shows : KeysFit hash es → Shows place.pfs i (λ tree. less_link links obj (without_name tree place.directory place.name)) es es'
  pub names : AllCame NamesNothing es es'
  pub leaves : links ≤ 1 → LeavesNothing place.pfs obj.0 i es'
  pub follows : StillFollow es es'

-- a name goes, and the directory that it leads to
pub record TakesDirectory (hash : List ℕ → ℕ) (place : Place) (i : ℕ) (obj : Obj) (es es' : List FullElement) : Type 0 where
  pub steps : Steps place.pfs i hash (Unit {0}) es es'
  pub shows : KeysFit hash es → Shows place.pfs i (λ tree. without_object (without_name tree place.directory place.name) obj) es es'
  pub names : AllCame NamesNothing es es'
  pub leaves : IsGone place.pfs obj.0 i es'
  pub follows : StillFollow es es'

-- two places are one: their directories have one number, and their names are one
abbrev pub AreOnePlace : Place → Place → Type 0
AreOnePlace a b = (a.directory ≡ b.directory) × (a.name ≡ b.name)

-- the name of an object of a kind gives way to a new one
pub record Renames (hash : List ℕ → ℕ) (old new : Place) (spot : Spot) (i : ℕ) (obj : Obj) (kind : ℕ) (es es' : List FullElement) : Type 0 where
  pub steps : Steps new.pfs i hash (KeyFits hash spot.key new.name) es es'
  pub shows : KeysFit hash es → KeyFits hash spot.key new.name → IsOpen new spot i es → (AreOnePlace old new → ⊥)
      → Shows new.pfs i (λ tree. with_name (without_name tree old.directory old.name) new.directory new.name obj) es es'
  pub names : AllCame (NamesObject obj kind) es es'
  pub follows : KeysFit hash es → IsOpen new spot i es → StillFollow es es'

-- the name of an object of a kind takes the place of another one's, which had so many links and whose entry stood under a key
pub record ReplacesName (hash : List ℕ → ℕ) (old new : Place) (key i : ℕ) (obj : Obj) (kind : ℕ) (there : Obj) (links : ℕ)
    (es es' : List FullElement) : Type 0 where
  pub steps : Steps new.pfs i hash (KeyFits hash key new.name) es es'
  pub shows : KeysFit hash es → KeyFits hash key new.name → HasEntry (Counts es i) new.pfs new.directory key new.name there
      → (AreOnePlace old new → ⊥)
      → Shows new.pfs i (λ tree. with_name (without_name (less_link links there
      (without_name tree new.directory new.name)) old.directory old.name) new.directory new.name obj) es es'
  pub names : AllCame (NamesObject obj kind) es es'
  pub leaves : links ≤ 1 → LeavesNothing new.pfs there.0 i es'
  pub follows : KeysFit hash es → HasEntry (Counts es i) new.pfs new.directory key new.name there → StillFollow es es'

-- the place of a name
abbrev pub place_of_name : Named → Place
place_of_name named = place_in named.directory.now named.name.now

-- an object of a kind of one of 1 to 4 is moved to a name that may be one, within one pseudo file system
pub record IsMoving (old new : Named) (moved : Moved) : Type 0 where
  pub name : IsName new.name.now
  pub kind : (1 ≤ moved.kind) × (moved.kind ≤ 4)
  pub pfs : old.directory.now.at.pfs ≡ new.directory.now.at.pfs

-- the entries of the directories of two names are older than `i`, in a store that tells its content
abbrev pub AreOlderAround : Option (List Element) → Option (List Extent) → Named → Named → ℕ → Type 0
AreOlderAround es xs old new i =
    AreOlderIn es xs new.directory.now.at.pfs.0 old.directory.now.at.object i
    × AreOlderIn es xs new.directory.now.at.pfs.0 new.directory.now.at.object i

-- a name is added at a place, which leads to an object of a kind
abbrev pub PutsName : Place → Spot → ℕ → Obj → ℕ → List FullElement → List FullElement → Type 0
PutsName place spot i obj = AddsName place.pfs place.directory spot i (record { obj = obj; name = place.name })

-- an object goes, with all that is about it
pub record DropsObject (pfs i : ℕ) (obj : Obj) (es es' : List FullElement) : Type 0 where
  pub changes : ChangesBy pfs obj.0 i (λ tree. without_object tree obj) es es'
  pub leaves : LeavesNothing pfs obj.0 i es'

-- a link goes of an object that had so many, and with the last one the object
pub record DropsLink (pfs i : ℕ) (obj : Obj) (links : ℕ) (es es' : List FullElement) : Type 0 where
  pub changes : ChangesBy pfs obj.0 i (λ tree. less_link links obj tree) es es'
  pub leaves : links ≤ 1 → LeavesNothing pfs obj.0 i es'
