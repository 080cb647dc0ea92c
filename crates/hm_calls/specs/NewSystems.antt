-- The calls that make a pseudo file system: what they are asked, and what an accepted one does.
use Rattle.std.specs.Prelude.{◌≡◌, ◌||◌, ℕ, ◌<◌, eqb, List, [], ◌∷◌, None, Some, Option, Result, Ok, Err, false, length, map}
use Rattle.std.specs.Bool.{nat_le}
use Rattle.std.specs.List.{All, IsDistinct}
use Rattle.hm_types.specs.Elements.{FullElement, Key}
use Rattle.hm_types.specs.declared.id.Pfs.{Pfs}
use Rattle.hm_types.specs.declared.limits.TheConstants.{MOST_PFS}
use Rattle.hm_path.specs.declared.part.Part.{Part}
use Rattle.hm_key.specs.Extents.{Extent}
use Rattle.hm_key.specs.Stores.{Same}
use Rattle.hm_key.specs.declared.element.Element.{Element}
use Rattle.hm_cursor.specs.Write.{Writes}
use Rattle.hm_model.specs.Call.{Call, own_id}
use Rattle.hm_model.specs.Caused.{on_a_name}
use Rattle.hm_model.specs.Due.{Check, good_path, has_id, new_pfs, no_future, refuse_if}
use Rattle.hm_model.specs.Needs.{names_zones}
use Rattle.hm_model.specs.Sites.{MakesName, Parts}
use Rattle.hm_model.specs.Volume.{PseudoFileSystem, Volume}
use Rattle.hm_model.specs.declared.command.Command.{Command}
use Rattle.hm_model.specs.declared.command.Command.TheVariants.{PfsMaster, PfsSlave}
use Rattle.hm_model.specs.declared.reply.Reply.{Reply}
use Rattle.hm_model.specs.declared.reply.Reply.TheVariants.{MadePfs, PfsFull, ReadOnly}
use Rattle.hm_records.specs.View.{IsViewOf}
use Rattle.hm_volume.specs.Records.{AreOfSystems}
use Rattle.hm_objects.specs.Objects.{pfs_link_of}
use Rattle.hm_dirs.specs.Walk.{Scene}
use Rattle.hm_dirs.specs.declared.position.Stand.{Stand}
use Rattle.hm_dirs.specs.declared.spot.Spot.{Spot}
use Rattle.hm_pfs.specs.Systems.{AddsMaster, AddsSlave, PutsMaster, PutsSlave}
use Rattle.hm_calls.specs.Call.{IsCall, OnCalls}
use Rattle.hm_calls.specs.Changes.{ChangesTree, HasSystem}
use Rattle.hm_calls.specs.Due.{due_over, refusal_over, space_for}
use Rattle.hm_calls.specs.Known.{AreBelow}
use Rattle.hm_calls.specs.Scenes.{IsNewPlace, full_check, new_check, slave_check, tree_at}
use Rattle.hm_calls.specs.Writes.{Place, PutsObject}
use Rattle.hm_calls.specs.declared.new_systems.NewSystem.{NewSystem}
use Rattle.hm_calls.specs.declared.new_systems.NewSystem.TheVariants.{Master, Slave}
use Rattle.hm_calls.specs.declared.stop.Stop.{Stop}
use Rattle.hm_calls.specs.declared.stop.Stop.TheVariants.{Failed, Refused}

-- the command that makes it at a path
abbrev pub system_command : NewSystem → List ℕ → ℕ → Command
system_command Master path shared = PfsMaster path shared
system_command Slave path shared = PfsSlave path shared

-- What is known of a volume where a number is looked for from one on: all numbers below that are used, no two of its pseudo
-- file systems have one, and each element is of one of them.
pub record HasKnownNumbers (numbers : ℕ) (es : List FullElement) (volume : Volume) : Type 0 where
  pub used : (n : ℕ) → n < numbers → HasSystem volume n
  pub apart : IsDistinct eqb (map (λ (s : PseudoFileSystem). s.number) volume.systems)
  pub few : All (λ (s : PseudoFileSystem). s.number < MOST_PFS) volume.systems
  pub of_systems : AreOfSystems es volume

-- ---- its checks

-- what its path is asked before the walk
abbrev pub name_checks : ℕ → List Part → List Check
name_checks last parts =
    good_path MakesName (Parts parts) ∷ no_future last (Parts parts) ∷ None ∷ refuse_if (has_id (Parts parts) || false) ReadOnly ∷ []

-- whether a number is left
abbrev pub pfs_check : Volume → Check
pfs_check volume = refuse_if (nat_le MOST_PFS (length volume.systems)) PfsFull

-- the checks after the walk, by where it led
abbrev pub system_checks : (List ℕ → ℕ) → (ℕ → ℕ) → ℕ → List ℕ → Stand → Scene → List Check
system_checks hash room free name directory scene =
    new_check scene directory name ∷ pfs_check scene.volume ∷ full_check hash scene directory name ∷ space_for names_zones 4 room free ∷ []

-- the numbers of the replies of a call that passed its words
abbrev pub on_a_system : List ℕ
on_a_system = 107 ∷ 14 ∷ on_a_name

-- The walk led to a directory for the link's name, in a master whose elements are older than `i`; it is read as of the last id.
pub record IsNewThere (parts : List Part) (i : ℕ) (name : List ℕ) (directory : Stand) (scene : Scene) : Type 0 where
  pub place : IsNewPlace scene parts name directory
  pub master : slave_check scene.volume directory.at.pfs.0 ≡ None
  pub below : AreBelow directory.at.pfs.0 i scene.elements
  pub last : directory.as_of ≡ scene.course.last

-- the tree of the directory is read, and the volume has its pseudo file system
pub record IsReadThere (directory : Stand) (scene : Scene) : Type 0 where
  pub tree : IsViewOf scene.elements directory.at.pfs.0 directory.as_of.0 (tree_at scene directory)
  pub system : HasSystem scene.volume directory.at.pfs.0

-- ---- what it does

-- one master or one slave more, and the elements of it
abbrev pub AddsNew : NewSystem → ℕ → ℕ → ℕ → List FullElement → List FullElement → Type 0
AddsNew Master = AddsMaster
AddsNew Slave = AddsSlave

abbrev pub PutsNewSystem : NewSystem → ℕ → ℕ → ℕ → List FullElement → List FullElement → Type 0
PutsNewSystem Master = PutsMaster
PutsNewSystem Slave = PutsSlave

-- a link with its object and its name, and then what it leads to
pub record PutsLinked (hash : List ℕ → ℕ) (place : Place) (spot : Spot) (i : ℕ) (new : NewSystem) (pfs : Pfs) (shared : ℕ)
    (es es' : List FullElement) : Type 0 where
  pub between : List FullElement
  pub link : PutsObject hash place spot i (pfs_link_of (record { 0 = i }) pfs) es between
  pub system : PutsNewSystem new pfs.0 shared i between es'

-- An accepted call adds the link to the tree in which its walk ends, which leaves all else as any call on trees does, and then
-- the pseudo file system with the least unused number, which leaves all else again.
pub record MakesSystem (new : NewSystem) (shared : ℕ) (call : Call) (es es' : List FullElement) : Type 0 where
  pub between : List FullElement
  pub tree : ChangesTree call es between
  pub system : AddsNew new (new_pfs call.volume) shared (own_id call) between es'

-- each call by this id of this command makes it so, where its volume is counted from a number on
abbrev pub MakesSystems : (List ℕ → ℕ) → ℕ → ℕ → NewSystem → List ℕ → ℕ → List FullElement → List FullElement → Type 0
MakesSystems hash id numbers new path shared es es' =
    (call : Call) → IsCall hash id es call → call.command ≡ system_command new path shared → HasKnownNumbers numbers es call.volume
    → MakesSystem new shared call es es'

-- the reply is the one that such a call is due
abbrev pub IsDueTo : (List ℕ → ℕ) → ℕ → ℕ → Command → Option (List Element) → Option (List Extent) → (ℕ → ℕ) → ℕ → Reply → Type 0
IsDueTo hash id numbers command es xs room free reply =
    OnCalls hash id es xs (λ list call. call.command ≡ command → HasKnownNumbers numbers list call.volume → reply ≡ due_over call room free)

-- each such call refuses so
abbrev pub IsRefusedTo : (List ℕ → ℕ) → ℕ → ℕ → Command → Option (List Element) → Option (List Extent) → (ℕ → ℕ) → ℕ → Reply → Type 0
IsRefusedTo hash id numbers command es xs room free reply =
    OnCalls hash id es xs (λ list call. call.command ≡ command → HasKnownNumbers numbers list call.volume → refusal_over call room free ≡ Some reply)

module _ {S : Type 0} (elements_of : S → Option (List Element)) (mark_of : S → Key → ℕ) (extents_of : S → Option (List Extent))
    (room_of : S → ℕ → ℕ) (free_of : S → ℕ) where
  -- a call makes a pseudo file system with this number, or is refused and leaves the store as it was
  abbrev pub Founds : (List ℕ → ℕ) → ℕ → ℕ → NewSystem → List ℕ → ℕ → S → S → Result Pfs Stop → Type 0
  Founds hash id numbers new path shared old now (Ok pfs) =
      IsDueTo hash id numbers (system_command new path shared) (elements_of old) (extents_of old) (room_of old) (free_of old) (MadePfs pfs)
      × Writes elements_of extents_of (MakesSystems hash id numbers new path shared) old now
  Founds hash id numbers new path shared old now (Err (Refused reply)) =
      IsRefusedTo hash id numbers (system_command new path shared) (elements_of old) (extents_of old) (room_of old) (free_of old) reply
      × Same elements_of mark_of extents_of room_of free_of old now
  Founds hash id numbers new path shared old now (Err (Failed fault)) = Unit {0}

  -- the same of its reply, and of the number that it took, if it is accepted
  abbrev pub IsFounded : (List ℕ → ℕ) → ℕ → ℕ → NewSystem → List ℕ → ℕ → S → S → Reply × Option Pfs → Type 0
  IsFounded hash id numbers new path shared old now (reply, Some pfs) =
      (reply ≡ MadePfs pfs) × Founds hash id numbers new path shared old now (Ok pfs)
  IsFounded hash id numbers new path shared old now (reply, None) = Founds hash id numbers new path shared old now (Err (Refused reply))
