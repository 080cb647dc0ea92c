-- The scenes in which a call finds a store, and where its walks led in them.
use Rattle.std.specs.Prelude.{◌≡◌, ℕ, Bool, List, Option, None, Some, false, true, if◌then◌else◌}
use Rattle.std.specs.Bool.{nat_le}
use Rattle.std.specs.Option.{option_map_or}
use Rattle.hm_types.specs.Elements.{FullElement}
use Rattle.hm_types.specs.Tree.{FileTree, named_in}
use Rattle.hm_types.specs.declared.id.Obj.{Obj}
use Rattle.hm_types.specs.declared.object.Object.{Object}
use Rattle.hm_path.specs.declared.part.Part.{Part}
use Rattle.hm_key.specs.Extents.{Extent}
use Rattle.hm_key.specs.declared.element.Element.{Element}
use Rattle.hm_cursor.specs.Told.{OnBalanced, fulls}
use Rattle.hm_model.specs.Answer.{is_master}
use Rattle.hm_model.specs.Call.{Call}
use Rattle.hm_model.specs.Due.{Check, refuse_if}
use Rattle.hm_model.specs.Sites.{At, MakesName, Parsed, Site, TakesName, locate}
use Rattle.hm_model.specs.View.{Now, Position, View, object_at}
use Rattle.hm_model.specs.Volume.{Volume, system_of}
use Rattle.hm_model.specs.Walk.{Follow as Mode, Passed, Reaches, Walked}
use Rattle.hm_model.specs.declared.command.Command.{Command}
use Rattle.hm_model.specs.declared.reply.Reply.TheVariants.{Exists, HashFull, ReadOnly}
use Rattle.hm_records.specs.KeysFit.{KeysFit}
use Rattle.hm_volume.specs.Shown.{ShowsAs}
use Rattle.hm_dirs.specs.Names.{names_of_hash}
use Rattle.hm_dirs.specs.Walk.{EndsAt, IsRead, IsTold, Scene, place_of, when_of}
use Rattle.hm_dirs.specs.declared.position.Course.{Course}
use Rattle.hm_dirs.specs.declared.position.Stand.{Stand}

-- the elements show their volume, whose last id is that of the course, and keys fit their names
pub record IsSet (hash : List ℕ → ℕ) (course : Course) (scene : Scene) : Type 0 where
  pub course_is : scene.course ≡ course
  pub last : scene.volume.last ≡ course.last.0
  pub shows : ShowsAs scene.elements scene.volume scene.view
  pub keys : KeysFit hash scene.elements

abbrev pub scene_in : List FullElement → Volume → View → Course → Scene
scene_in list volume view course = record { elements = list; volume = volume; view = view; course = course }

-- a fact of each scene over what a store tells
abbrev pub OnScenes : (List ℕ → ℕ) → Option (List Element) → Option (List Extent) → Course → (Scene → Type 0) → Type 0
OnScenes hash es xs course P =
    OnBalanced es xs (λ lists. (volume : Volume) (view : View) → IsSet hash course (scene_in (fulls lists) volume view course)
    → P (scene_in (fulls lists) volume view course))

-- the same as a record
pub record InScenes (hash : List ℕ → ℕ) (course : Course) (es : Option (List Element)) (xs : Option (List Extent)) (P : Scene → Type 0) : Type 0 where
  pub each : OnScenes hash es xs course P

-- the call of a command over a scene, whose paths were read so
abbrev pub call_in : (List ℕ → ℕ) → Command → List Parsed → Option ℕ → Scene → Call
call_in hash command paths busy scene =
    record { volume = scene.volume; view = scene.view; busy = busy; hash = hash; command = command; paths = paths }

-- a walk to its end came to a stand
pub record IsEnd (scene : Scene) (mode : Mode) (walked : Walked) (stand : Stand) : Type 0 where
  pub here : Position
  pub passed : Passed
  pub walked_is : walked ≡ Reaches here passed
  pub ends : EndsAt scene mode here passed stand

-- a name that stands there: the directory and the object that it leads to, of what is shown now
pub record IsStanding (view : View) (name : List ℕ) (directory at : Position) : Type 0 where
  pub now : directory.when ≡ Now
  pub number : Obj
  pub named : named_in (view directory.pfs Now) directory.object name ≡ Some number
  pub at_is : at ≡ record directory { object = number }
  pub object : Object
  pub there : object_at view at ≡ Some object

-- a walk found the name: its directory, and the object that it leads to
pub record IsTakenName (scene : Scene) (parts : List Part) (name : List ℕ) (directory end : Stand) : Type 0 where
  pub site : Site
  pub place_is : locate scene.volume scene.view TakesName parts ≡ At site
  pub name_is : site.name ≡ name
  pub standing : IsStanding scene.view name site.directory site.at
  pub directory_is : place_of directory.at ≡ site.directory
  pub end_is : place_of end.at ≡ site.at
  pub read : IsRead scene end

-- the walk before a new name led to this directory, which is seen now
pub record IsNewPlace (scene : Scene) (parts : List Part) (name : List ℕ) (directory : Stand) : Type 0 where
  pub site : Site
  pub place_is : locate scene.volume scene.view MakesName parts ≡ At site
  pub at_is : place_of directory.at ≡ site.at
  pub directory_is : place_of directory.at ≡ site.directory
  pub name_is : site.name ≡ name
  pub told : IsTold scene site.passed directory.passed
  pub now : when_of directory.at.when ≡ Now
  pub object : Object
  pub there : object_at scene.view (place_of directory.at) ≡ Some object

-- the tree in which a directory is seen
abbrev pub tree_at : Scene → Stand → FileTree
tree_at scene directory = scene.view directory.at.pfs.0 (when_of directory.at.when)

-- the checks of a new name there: that it is new, and that its hash has fewer than 1,024 names
abbrev pub new_check : Scene → Stand → List ℕ → Check
new_check scene directory name = option_map_or (λ _. Some Exists) (named_in (tree_at scene directory) directory.at.object name) None

abbrev pub full_check : (List ℕ → ℕ) → Scene → Stand → List ℕ → Check
full_check hash scene directory name =
    refuse_if (nat_le 1024 (names_of_hash hash (tree_at scene directory) directory.at.object name)) HashFull

-- whether a pseudo file system is a slave, and the check that refuses one
abbrev pub is_slave : Volume → ℕ → Bool
is_slave volume pfs = option_map_or (λ s. if is_master s then false else true) (system_of volume pfs) false

abbrev pub slave_check : Volume → ℕ → Check
slave_check volume pfs = refuse_if (is_slave volume pfs) ReadOnly
