-- Where the paths of a call lead: the same as in the model.
use Rattle.std.specs.Prelude.{◌≡◌, ◌==◌, ◌&&◌, ◌||◌, ℕ, ◌≤◌, List, Option, IfSome, Result, None, Some, Ok, Err, Bool, false, true, if◌then◌else◌}
use Rattle.std.specs.Option.{option_map_or}
use Rattle.hm_types.specs.declared.object.Object.{Object}
use Rattle.hm_types.specs.declared.object.Kind.{Kind}
use Rattle.hm_model.specs.Due.{Check, refuse_if}
use Rattle.hm_model.specs.Sites.{At, Located, Nowhere, Site}
use Rattle.hm_model.specs.Walk.{Follow as Mode, Follows as follows, Stays as stays, Passed, Reaches, Refuses, Walked}
use Rattle.hm_model.specs.declared.reply.Reply.{Reply}
use Rattle.hm_model.specs.declared.reply.Reply.TheVariants.{BadPath}
use Rattle.hm_path.specs.Path.{IsBadPlace}
use Rattle.hm_records.specs.declared.inode.Inode.{Inode}
use Rattle.hm_records.specs.declared.kind.TheConstants.{DIRECTORY, PFS_LINK}
use Rattle.hm_dirs.specs.Walk.{EndsAt, Scene}
use Rattle.hm_dirs.specs.declared.position.Stand.{Stand}
use Rattle.hm_calls.specs.declared.stop.Stop.{Stop}
use Rattle.hm_calls.specs.declared.stop.Stop.TheVariants.{Refused, Failed}

-- a reply tells that a word is no path, and where
abbrev pub IsBadPath : List ℕ → Reply → Type 0
IsBadPath word reply = (place : ℕ) × (reply ≡ BadPath place) × IsBadPlace word place

-- a walk to its end comes out as that of the model
abbrev pub IsReached : Scene → Mode → Walked → Result Stand Stop → Type 0
IsReached scene mode (Reaches here passed) (Ok stand) = EndsAt scene mode here passed stand
IsReached scene mode (Refuses refusal passed) (Ok stand) = ⊥
IsReached scene mode (Reaches here passed) (Err (Refused reply)) = ⊥
IsReached scene mode (Refuses refusal passed) (Err (Refused reply)) = reply ≡ refusal
IsReached scene mode walked (Err (Failed fault)) = Unit {0}

-- a site of this name in the directory of a stand, which the walk to it passed so
pub record IsSiteOf (scene : Scene) (name : List ℕ) (site : Site) (stand : Stand) : Type 0 where
  pub directory : EndsAt scene follows site.directory site.passed stand
  pub name_is : site.name ≡ name

-- the place of a new name is found as in the model
abbrev pub IsPlaced : Scene → List ℕ → Located → Result Stand Stop → Type 0
IsPlaced scene name (At site) (Ok stand) = IsSiteOf scene name site stand × (site.at ≡ site.directory)
IsPlaced scene name (Nowhere refusal passed) (Ok stand) = ⊥
IsPlaced scene name (At site) (Err (Refused reply)) = ⊥
IsPlaced scene name (Nowhere refusal passed) (Err (Refused reply)) = reply ≡ refusal
IsPlaced scene name located (Err (Failed fault)) = Unit {0}

-- a name that stands there is found as in the model: its directory, and what it leads to
abbrev pub IsNamed : Scene → List ℕ → Located → Result (Stand × Stand) Stop → Type 0
IsNamed scene name (At site) (Ok pair) =
    IsSiteOf scene name site pair.0 × ((passed : Passed) × EndsAt scene stays site.at passed pair.1)
IsNamed scene name (Nowhere refusal passed) (Ok pair) = ⊥
IsNamed scene name (At site) (Err (Refused reply)) = ⊥
IsNamed scene name (Nowhere refusal passed) (Err (Refused reply)) = reply ≡ refusal
IsNamed scene name located (Err (Failed fault)) = Unit {0}

-- the check that refuses an object of some kinds, and the one that asks for them
abbrev pub refuse_kind : (Kind → Bool) → Reply → Option Object → Check
refuse_kind test refusal object = refuse_if (option_map_or (λ (o : Object). test o.kind) object false) refusal

abbrev pub ask_kind : (Kind → Bool) → Reply → Option Object → Check
ask_kind test refusal object = if option_map_or (λ (o : Object). test o.kind) object false then None else Some refusal

-- a number is that of the kind that an inode tells
abbrev pub IsKindOf : ℕ → Option Inode → Type 0
IsKindOf number inode = IfSome inode (λ inode. 1 ≤ inode.kind → inode.kind ≤ 4 → number ≡ inode.kind)

-- whether an object gives way to one that is moved to its name, by both inodes, and by whether the two are one: it does
-- where they are, or where it is neither a directory nor a PFS link and the moved one is no directory
abbrev pub gives_way_by : Option Inode → Option Inode → Bool → Bool
gives_way_by None there same = false
gives_way_by (Some moved) None same = false
gives_way_by (Some moved) (Some there) same =
    same
    || ((if (there.kind == DIRECTORY) || (there.kind == PFS_LINK) then false else true) && (if moved.kind == DIRECTORY then false else true))
