-- What an accepted call does to the trees of the volume that it finds.
use Rattle.std.specs.Prelude.{◌≡◌, ◌≢◌, ◌↔◌, ℕ, ◌<◌, ◌≤◌, List, None, Some}
use Rattle.std.specs.List.{Contains}
use Rattle.hm_types.specs.Elements.{FullElement}
use Rattle.hm_types.specs.Tree.{FileTree, object_in}
use Rattle.hm_types.specs.declared.id.Obj.{Obj}
use Rattle.hm_types.specs.declared.object.Kind.{Kind}
use Rattle.hm_types.specs.declared.object.Kind.TheVariants.{Directory, File, PfsLink, Softlink}
use Rattle.hm_types.specs.declared.object.Object.{Object}
use Rattle.hm_key.specs.Counts.{Counts, IsRecordOf}
use Rattle.hm_key.specs.Element.{pfs_of}
use Rattle.hm_key.specs.declared.rec_type.TheConstants.{DIRECTORY_ENTRY}
use Rattle.hm_cursor.specs.Views.{CameAs}
use Rattle.hm_cursor.specs.Write.{AreUpTo}
use Rattle.hm_model.specs.Call.{Call, own_id}
use Rattle.hm_model.specs.Change.{changed, changed_pfs}
use Rattle.hm_model.specs.View.{Now}
use Rattle.hm_model.specs.Volume.{PseudoFileSystem, Volume, system_of}
use Rattle.hm_records.specs.Changes.{CountSame}
use Rattle.hm_records.specs.Entry.{IsEntry, entry_bytes}
use Rattle.hm_records.specs.Follows.{StillFollow}
use Rattle.hm_records.specs.KeysFit.{KeysFit}
use Rattle.hm_records.specs.Laws.{HasView}
use Rattle.hm_records.specs.View.{IsViewOf, kind_number}
use Rattle.hm_records.specs.declared.entry.DirEntry.{DirEntry}
use Rattle.hm_objects.specs.Objects.{IsGone}
use Rattle.hm_calls.specs.Call.{IsCall}
use Rattle.hm_calls.specs.Writes.{AllCame, IsNewIn, LeavesNothing}

-- the tree now of the pseudo file system in which a call's walk ends
abbrev pub tree_now : Call → FileTree
tree_now call = call.view (changed_pfs call) Now

-- a volume has a pseudo file system of this number
abbrev pub HasSystem : Volume → ℕ → Type 0
HasSystem volume pfs = (s : PseudoFileSystem) × (system_of volume pfs ≡ Some s)

-- an element that is an entry has the type of the kind of the object that it leads to in a tree
pub record IsOfItsKind (tree : FileTree) (x : FullElement) : Type 0 where
  pub kind_is : (entry : DirEntry) (o : Object) → x.key.rec_type ≡ DIRECTORY_ENTRY → IsEntry entry → x.bytes ≡ entry_bytes entry
      → object_in tree entry.obj ≡ Some o → x.obj_type ≡ kind_number o.kind

-- nothing counts of an object of a kind from `i` on: no inode, no target, and of one that is no directory no bytes
abbrev pub LeavesNone : Kind → ℕ → ℕ → ℕ → List FullElement → Type 0
LeavesNone Directory pfs obj i es = IsGone pfs obj i es
LeavesNone File pfs obj i es = LeavesNothing pfs obj i es
LeavesNone Softlink pfs obj i es = LeavesNothing pfs obj i es
LeavesNone PfsLink pfs obj i es = LeavesNothing pfs obj i es

-- An accepted call leaves what counts before its id, and with it every older view; the elements of all other pseudo file
-- systems, and so their trees; and each record, and so each retention. The volume has its pseudo file system, and where no
-- object now has its id for a number, the tree of that is from its id on the changed one. Its new elements are of that pseudo
-- file system, and keys fit still. A new entry tells the kind of its object in the changed tree, of an object that goes nothing
-- counts, and what followed before follows still.
pub record ChangesTree (call : Call) (es es' : List FullElement) : Type 0 where
  pub there : HasSystem call.volume (changed_pfs call)
  pub past : (t : ℕ) → t < own_id call → CountSame (Counts es t) (Counts es' t)
  pub others : (t other : ℕ) (tree : FileTree) → own_id call ≤ t → other ≢ changed_pfs call → HasView (Counts es t) other tree
      → HasView (Counts es' t) other tree
  pub elsewhere : (x : FullElement) → pfs_of x.key.localization ≢ changed_pfs call → Contains es' x ↔ Contains es x
  pub records : (pfs : ℕ) (bytes : List ℕ) → IsRecordOf es' pfs bytes ↔ IsRecordOf es pfs bytes
  pub tree : object_in (tree_now call) (record { 0 = own_id call }) ≡ None → (t : ℕ) → own_id call ≤ t
      → IsViewOf es' (changed_pfs call) t (changed call (tree_now call))
  pub came : (x : FullElement) → Contains es' x → CameAs (IsNewIn (changed_pfs call) (own_id call)) es x
  pub up_to : (localization : ℕ) → AreUpTo localization (own_id call) es → AreUpTo localization (own_id call) es'
  pub keys : KeysFit call.hash es'
  pub kinds : object_in (tree_now call) (record { 0 = own_id call }) ≡ None → AllCame (IsOfItsKind (changed call (tree_now call))) es es'
  pub gone : (obj : Obj) (o : Object) → object_in (tree_now call) obj ≡ Some o → object_in (changed call (tree_now call)) obj ≡ None
      → LeavesNone o.kind (changed_pfs call) obj.0 (own_id call) es'
  pub follows : object_in (tree_now call) (record { 0 = own_id call }) ≡ None → StillFollow es es'

-- each call by this id that is of a kind changes the tree so
abbrev pub Changes : (List ℕ → ℕ) → ℕ → (Call → Type 0) → List FullElement → List FullElement → Type 0
Changes hash id K es es' = (call : Call) → IsCall hash id es call → K call → ChangesTree call es es'
