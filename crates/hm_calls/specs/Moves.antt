-- What `mv` is asked, by where its walks led, and what that comes to.
use Rattle.std.specs.Prelude.{◌≡◌, ◌≢◌, ◌==◌, ℕ, ◌≤◌, List, [], ◌∷◌, Option, None, Some, false, if◌then◌else◌}
use Rattle.std.specs.Option.{option_map_or}
use Rattle.hm_types.specs.Elements.{FullElement}
use Rattle.hm_types.specs.Tree.{named_in, object_in}
use Rattle.hm_types.specs.declared.id.Obj.{Obj}
use Rattle.hm_types.specs.declared.object.Object.{Object}
use Rattle.hm_path.specs.declared.part.Part.{Part}
use Rattle.hm_key.specs.Counts.{Counts}
use Rattle.hm_model.specs.Call.{Call}
use Rattle.hm_model.specs.Caused.{on_a_name}
use Rattle.hm_model.specs.Due.{Check, gives_way, refuse_if}
use Rattle.hm_model.specs.Needs.{names_zones}
use Rattle.hm_model.specs.View.{object_at}
use Rattle.hm_model.specs.declared.reply.Reply.TheVariants.{CrossPfs, Exists, IntoItself}
use Rattle.hm_records.specs.View.{HasEntry}
use Rattle.hm_dirs.specs.Names.{IsSpot, first_key}
use Rattle.hm_dirs.specs.Walk.{Scene, place_of, when_of}
use Rattle.hm_dirs.specs.declared.position.Stand.{Stand}
use Rattle.hm_dirs.specs.declared.spot.Spot.{Spot}
use Rattle.hm_calls.specs.Due.{space_for}
use Rattle.hm_calls.specs.Known.{AreBelow}
use Rattle.hm_calls.specs.Places.{IsKindOf}
use Rattle.hm_calls.specs.Scenes.{IsNewPlace, IsTakenName, full_check, slave_check, tree_at}
use Rattle.hm_calls.specs.Writes.{HasReserves, Place, Renames, ReplacesName}
use Rattle.hm_calls.specs.declared.links.Linked.{Linked}
use Rattle.hm_calls.specs.declared.moves.Moving.{Moving}
use Rattle.hm_calls.specs.declared.rename.Move.{Move}
use Rattle.hm_calls.specs.declared.rename.Move.TheVariants.{Beside, Itself, Over}
use Rattle.hm_calls.specs.declared.rename.Moved.{Moved}
use Rattle.hm_calls.specs.declared.rename.Replaced.{Replaced}

-- the numbers of the replies of a call that passed its words
abbrev pub on_a_move : List ℕ
on_a_move = 101 ∷ 11 ∷ 12 ∷ on_a_name

-- ---- where the walks led

-- a scene whose walks watch for an object
abbrev pub watching : Stand → Scene → Scene
watching object scene = record scene { course = record scene.course { watch = Some (object.at.pfs, object.at.object) } }

-- The walks led to an object by its name, and, while they watched for it, to a directory for the new name. This is in a
-- master whose elements are older than `i`, and is read as of the last id.
pub record IsMovable (parts more : List Part) (i : ℕ) (old_name name : List ℕ) (found : Moving) (scene : Scene) : Type 0 where
  pub taken : IsTakenName scene parts old_name found.from found.object
  pub place : IsNewPlace (watching found.object scene) more name found.to
  pub master : slave_check scene.volume found.to.at.pfs.0 ≡ None
  pub below : AreBelow found.to.at.pfs.0 i scene.elements
  pub last : found.to.as_of ≡ scene.course.last

-- what is moved is the object, with the kind that its inode tells
pub record TellsMoved (found : Moving) : Type 0 where
  pub obj : found.moved.obj ≡ found.object.at.object
  pub kind : (1 ≤ found.moved.kind) × (found.moved.kind ≤ 4)
  pub kind_is : IsKindOf found.moved.kind found.object.inode

-- the object, and the directory of its new name
abbrev pub seen_of : Moving → Linked
seen_of found = record { object = found.object; directory = found.to }

-- ---- the checks after the walks, by where these led

-- the number that a new name leads to
abbrev pub leads_to : Scene → Stand → List ℕ → Option Obj
leads_to scene to name = named_in (tree_at scene to) to.at.object name

-- the object with a number in the tree in which another one is seen
abbrev pub object_beside : Scene → Stand → Obj → Option Object
object_beside scene object number = object_in (scene.view object.at.pfs.0 (when_of object.at.when)) number

-- where it leads to one: that the object there gives way, and room unless it is the moved one
abbrev pub over_checks : Call → Scene → Stand → Obj → (ℕ → ℕ) → ℕ → List Check
over_checks call scene object number room free =
    (if option_map_or (λ there. option_map_or (λ moved. gives_way call moved there) (object_at scene.view (place_of object.at)) false)
    (object_beside scene object number) false then None else Some Exists)
    ∷ space_for (if number.0 == object.at.object.0 then [] else names_zones) 4 room free ∷ []

-- where it leads to none: that its hash has fewer than 1,024 names, and room
abbrev pub beside_checks : (List ℕ → ℕ) → (ℕ → ℕ) → ℕ → List ℕ → Stand → Scene → List Check
beside_checks hash room free name to scene = full_check hash scene to name ∷ space_for names_zones 4 room free ∷ []

abbrev pub end_checks : (List ℕ → ℕ) → (ℕ → ℕ) → ℕ → List ℕ → Stand → Stand → Call → Scene → Option Obj → List Check
end_checks hash room free name object to call scene None = beside_checks hash room free name to scene
end_checks hash room free name object to call scene (Some number) = over_checks call scene object number room free

abbrev pub move_checks : (List ℕ → ℕ) → (ℕ → ℕ) → ℕ → List ℕ → Stand → Stand → Stand → Call → Scene → List Check
move_checks hash room free name from object to call scene =
    (if from.at.pfs.0 == to.at.pfs.0 then None else Some CrossPfs) ∷ refuse_if to.passed IntoItself
    ∷ end_checks hash room free name object to call scene (leads_to scene to name)

-- ---- what the move comes to

-- a spot for a name that leads nowhere yet
pub record HasSpot (hash : List ℕ → ℕ) (name : List ℕ) (found : Moving) (spot : Spot) (scene : Scene) : Type 0 where
  pub fresh : leads_to scene found.to name ≡ None
  pub spot_is : IsSpot (Counts scene.elements found.to.as_of.0) found.to.at.pfs.0 found.to.at.object (first_key (hash name)) spot

-- a number that it leads to, by the key of its entry
pub record LeadsBy (name : List ℕ) (found : Moving) (key : ℕ) (number : Obj) (scene : Scene) : Type 0 where
  pub leads : leads_to scene found.to name ≡ Some number
  pub entry : HasEntry (Counts scene.elements found.to.as_of.0) found.to.at.pfs.0 found.to.at.object key name number

-- another object that it leads to so, with its links
pub record LeadsToOther (name : List ℕ) (found : Moving) (there : Replaced) (scene : Scene) : Type 0 where
  pub by : LeadsBy name found there.key there.obj scene
  pub other : there.obj.0 ≢ found.object.at.object.0
  pub links : (o : Object) → object_beside scene found.object there.obj ≡ Some o → o.links ≡ there.links

abbrev pub IsMoveOf : (List ℕ → ℕ) → List ℕ → Moving → Move → Scene → Type 0
IsMoveOf hash name found Itself scene = (number : Obj) × (leads_to scene found.to name ≡ Some number) × (number.0 ≡ found.object.at.object.0)
IsMoveOf hash name found (Beside spot) scene = HasSpot hash name found spot scene
IsMoveOf hash name found (Over there) scene = LeadsToOther name found there scene

-- ---- what it writes

-- where it writes, the zones 8 and 9 have their reserves
abbrev pub HasRoomToMove : Move → (ℕ → ℕ) → Type 0
HasRoomToMove Itself room = Unit {0}
HasRoomToMove (Beside spot) room = HasReserves room
HasRoomToMove (Over there) room = HasReserves room

-- the name of what is moved gives way to a new one, or takes the place of another object's
abbrev pub WritesMove : (List ℕ → ℕ) → Place → Place → ℕ → Moved → Move → List FullElement → List FullElement → Type 0
WritesMove hash old new i moved Itself es es' = es' ≡ es
WritesMove hash old new i moved (Beside spot) es es' = Renames hash old new spot i moved.obj moved.kind es es'
WritesMove hash old new i moved (Over there) es es' = ReplacesName hash old new there.key i moved.obj moved.kind there.obj there.links es es'
