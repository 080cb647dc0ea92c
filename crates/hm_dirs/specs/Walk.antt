-- What a walk over the elements of a store comes to: the same as the walk of the volume that they show.
use Rattle.std.specs.Prelude.{◌≡◌, ◌⊎◌, ℕ, ◌≤◌, List, IfSome, Option, Result, None, Some, Ok, Err, Bool, false, ◌==◌, ◌&&◌, if◌then◌else◌}
use Rattle.std.specs.List.{AllByRecursion, list_any}
use Rattle.std.specs.Option.{option_map_or}
use Rattle.hm_types.specs.Elements.{FullElement}
use Rattle.hm_types.specs.Intervals.{Keeps}
use Rattle.hm_types.specs.Tree.{root_number}
use Rattle.hm_types.specs.declared.id.Id.{Id}
use Rattle.hm_types.specs.declared.id.Obj.{Obj}
use Rattle.hm_types.specs.declared.id.Pfs.{Pfs}
use Rattle.hm_path.specs.declared.part.Part.{Part}
use Rattle.hm_key.specs.Counts.{Counts}
use Rattle.hm_key.specs.Extents.{Extent}
use Rattle.hm_key.specs.declared.element.Element.{Element}
use Rattle.hm_model.specs.View.{View, When, Now, AsOf, Position as Place, object_at}
use Rattle.hm_model.specs.Volume.{Volume}
use Rattle.hm_model.specs.Walk.{Passed, Walked, Reaches, Refuses, Follow as Mode, Stays as stays, Follows as follows, TakesPfs as takes_pfs}
use Rattle.hm_model.specs.declared.reply.Reply.{Reply}
use Rattle.hm_model.specs.declared.reply.Reply.TheVariants.{NotFound as not_found, NotDir as not_dir, NotRetained as not_retained}
use Rattle.hm_records.specs.View.{IsViewOf}
use Rattle.hm_records.specs.declared.inode.Inode.{Inode}
use Rattle.hm_records.specs.declared.kind.TheConstants.{DIRECTORY, PFS_LINK}
use Rattle.hm_records.specs.declared.pfs_record.PfsRecord.{PfsRecord}
use Rattle.hm_volume.specs.Found.{IsFoundBy}
use Rattle.hm_volume.specs.Shown.{ShowsAs}
use Rattle.hm_cursor.specs.Told.{OnBalanced, fulls}
use Rattle.hm_dirs.specs.declared.position.Course.{Course}
use Rattle.hm_dirs.specs.declared.position.Follow.{Follow}
use Rattle.hm_dirs.specs.declared.position.Follow.TheVariants.{Stays, Follows, TakesPfs}
use Rattle.hm_dirs.specs.declared.position.Lost.{Lost}
use Rattle.hm_dirs.specs.declared.position.Lost.TheVariants.{NotFound, NotDir, NotRetained}
use Rattle.hm_dirs.specs.declared.position.Position.{Position}
use Rattle.hm_dirs.specs.declared.position.Stand.{Stand}

-- ---- words of the model

-- as of when a tree is seen
abbrev pub when_of : Option Id → When
when_of None = Now
when_of (Some id) = AsOf id.0

-- a position
abbrev pub place_of : Position → Place
place_of at = record { pfs = at.pfs.0; object = at.object; when = when_of at.when }

-- the root of a PFS
abbrev pub root_at : Pfs → Option Id → Position
root_at pfs when = record { pfs = pfs; object = root_number; when = when }

-- what becomes of a PFS link at the end
abbrev pub mode_of : Follow → Mode
mode_of Stays = stays
mode_of Follows = follows
mode_of TakesPfs = takes_pfs

-- the reply to a walk that came to no end
abbrev pub reply_of : Lost → Reply
reply_of NotFound = not_found
reply_of NotDir = not_dir
reply_of NotRetained = not_retained

-- whether a pair of PFS and number is the one that is watched for
abbrev pub is_watched : Option (Pfs × Obj) → ℕ × ℕ → Bool
is_watched None pair = false
is_watched (Some watched) pair = (pair.0 == watched.0.0) && (pair.1 == watched.1.0)

-- whether a walk passed it
abbrev pub has_passed : Option (Pfs × Obj) → Passed → Bool
has_passed watch passed = list_any (is_watched watch) passed

-- ---- what a record tells

-- the id as of which a PFS is shown now
abbrev pub shown_by : ℕ → PfsRecord → ℕ
shown_by last r = if r.master then last else r.sync_end.0

-- where there is no PFS it is 0, as of which there is nothing
abbrev pub IsShownAs : ℕ → Option PfsRecord → ℕ → Type 0
IsShownAs last None t = t ≡ 0
IsShownAs last (Some r) t = t ≡ shown_by last r

-- the id as of which a PFS is read where it is seen as of then, and none where it does not keep the id
abbrev pub IsSeenAs : ℕ → PfsRecord → Option Id → Option Id → Type 0
IsSeenAs last r None None = ⊥
IsSeenAs last r None (Some seen) = seen.0 ≡ shown_by last r
IsSeenAs last r (Some id) None = Keeps r.retention id.0 → ⊥
IsSeenAs last r (Some id) (Some seen) = Keeps r.retention id.0 × (seen.0 ≡ id.0)

-- ---- what an inode tells

-- whether it is that of a directory
abbrev pub is_directory_by : Option Inode → Bool
is_directory_by None = false
is_directory_by (Some inode) = inode.kind == DIRECTORY

-- the PFS to which it leads, if it is that of a PFS link
abbrev pub link_by : Option Inode → Option Pfs
link_by None = None
link_by (Some inode) = if inode.kind == PFS_LINK then Some inode.pfs else None

-- ---- what a walk knows

-- some elements, the volume that they show, in these trees, and what a walk over them is asked
pub record Scene : Type 0 where
  pub elements : List FullElement
  pub volume : Volume
  pub view : View
  pub course : Course

-- a fact of each volume that the elements of a store show, whose last id is that of a course
abbrev pub OnShown : Option (List Element) → Option (List Extent) → Course → (Scene → Type 0) → Type 0
OnShown es xs course P = OnBalanced es xs (λ lists. (volume : Volume) (view : View) → volume.last ≡ course.last.0
    → ShowsAs (fulls lists) volume view → P (record { elements = fulls lists; volume = volume; view = view; course = course }))

-- an id of a path, if there is one, was drawn
abbrev pub IsDrawn : Id → Option Id → Type 0
IsDrawn last when = IfSome when (λ id. id.0 ≤ last.0)

-- each id of these parts was drawn
abbrev pub AreDrawn : Id → List Part → Type 0
AreDrawn last parts = AllByRecursion (λ (part : Part). IsDrawn last part.as_of) parts

-- The tree in hand is read as of an id, and the inode in hand is that of the object.
pub record IsRead (scene : Scene) (stand : Stand) : Type 0 where
  pub drawn : IsDrawn scene.course.last stand.at.when
  pub view : IsViewOf scene.elements stand.at.pfs.0 stand.as_of.0 (scene.view stand.at.pfs.0 (when_of stand.at.when))
  pub inode : IsFoundBy (Counts scene.elements stand.as_of.0) stand.at.pfs.0 (object_at scene.view (place_of stand.at)) stand.inode

-- it tells whether the walk passed what it watches for
abbrev pub IsTold : Scene → Passed → Bool → Type 0
IsTold scene passed told = told ≡ has_passed scene.course.watch passed

-- a walk came so far, and passed this
pub record IsOn (scene : Scene) (passed : Passed) (stand : Stand) : Type 0 where
  pub told : IsTold scene passed stand.passed
  pub read : IsRead scene stand

-- to an object, which the view must have
abbrev pub found_at : View → Place → Passed → Walked
found_at view here passed = option_map_or (λ _. Reaches here passed) (object_at view here) (Refuses not_found passed)

-- ---- how a walk comes out

-- whether the end of a walk is looked at
abbrev pub LooksAtEnd : Mode → Type 0
LooksAtEnd stays = Unit {0}
LooksAtEnd follows = Unit {0}
LooksAtEnd takes_pfs = ⊥

-- A walk took a pseudo file system without a look at its root: no inode is in hand, and the id as of which the tree is read
-- is that of the path, or the one as of which it is shown now.
pub record IsTaken (scene : Scene) (stand : Stand) : Type 0 where
  pub inode : stand.inode ≡ None
  pub dated : IfSome stand.at.when (λ id. stand.as_of ≡ id)
  pub now : stand.at.when ≡ None → IsViewOf scene.elements stand.at.pfs.0 stand.as_of.0 (scene.view stand.at.pfs.0 Now)

-- a walk came to this place, and passed this
pub record EndsAt (scene : Scene) (mode : Mode) (here : Place) (passed : Passed) (stand : Stand) : Type 0 where
  pub place : place_of stand.at ≡ here
  pub told : IsTold scene passed stand.passed
  pub read : LooksAtEnd mode → IsRead scene stand
  pub known : IsRead scene stand ⊎ IsTaken scene stand

-- a walk comes out as that of the model
abbrev pub ComesOut : Scene → Mode → Walked → Result Stand Lost → Type 0
ComesOut scene mode (Reaches here passed) (Ok stand) = EndsAt scene mode here passed stand
ComesOut scene mode (Refuses reply passed) (Err lost) = reply ≡ reply_of lost
ComesOut scene mode (Reaches here passed) (Err lost) = ⊥
ComesOut scene mode (Refuses reply passed) (Ok stand) = ⊥

-- Whatever a store tells: without an id a walk comes to a place as of now, or is lost for another reason than that an id is
-- not kept.
abbrev pub StaysNow : Result Stand Lost → Type 0
StaysNow (Ok stand) = stand.at.when ≡ None
StaysNow (Err NotFound) = Unit {0}
StaysNow (Err NotDir) = Unit {0}
StaysNow (Err NotRetained) = ⊥

-- from where a walk is it goes on as that of the model
abbrev pub WalkGoesOn : Scene → Mode → (Place → Passed → Walked) → Stand → Result Stand Lost → Type 0
WalkGoesOn scene mode next from walked =
    (passed : Passed) → IsOn scene passed from → ComesOut scene mode (next (place_of from.at) passed) walked
