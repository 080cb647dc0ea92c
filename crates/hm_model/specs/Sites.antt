-- What a call does with its paths, and where they lead.
use Rattle.std.specs.Prelude.{ℕ, List, [], ◌∷◌, Bool, true, false, Option, Some, None, if◌then◌else◌}
use Rattle.std.specs.List.{AllZip}
use Rattle.std.specs.Option.{option_map_or}
use Rattle.hm_path.specs.Path.{IsPath, IsBadPlace}
use Rattle.hm_path.specs.declared.part.Part.{Part}
use Rattle.hm_model.specs.declared.command.Command.{Command}
use Rattle.hm_model.specs.declared.command.Command.TheVariants.{Mkdir, Touch, Symlink, Snapshot, Ln, Mv, Write, Fill, Truncate, Rm, Rmdir, Ls, Cat, Stat, Readlink, Prune, PruneAll, PfsMaster, PfsSlave, PfsStatus, PfsUpgrade, MirrorRead, MirrorWrite, MirrorCopy, Df, Progress, End, Reblock, Sync, Synctid}
use Rattle.hm_model.specs.declared.reply.Reply.{Reply}
use Rattle.hm_model.specs.declared.reply.Reply.TheVariants.{NotDir}
use Rattle.hm_model.specs.Volume.{Volume}
use Rattle.hm_model.specs.View.{View, Position, object_at}
use Rattle.hm_model.specs.Walk.{Follow, Stays, Follows, TakesPfs, Walked, Reaches, Refuses, Passed, walk, start, is_directory}

-- a path word: it is a path of these parts, or is bad at this place
pub data Parsed : Type 0 where
  Parts : List Part → Parsed
  BadAt : ℕ → Parsed

-- the word is read so
abbrev pub IsParsed : List ℕ → Parsed → Type 0
IsParsed word (Parts parts) = IsPath word parts
IsParsed word (BadAt place) = IsBadPlace word place

-- what a call does with a path: it makes its last name; it takes away or moves what has its last name; or
-- it walks to its end
pub data Use : Type 0 where
  MakesName : Use
  TakesName : Use
  Walks : Follow → Use

-- the path words of a command from left to right, each with its use
abbrev pub uses_of : Command → List (Use × List ℕ)
uses_of (Mkdir path) = (MakesName, path) ∷ []
uses_of (Touch path) = (MakesName, path) ∷ []
uses_of (Symlink target path) = (MakesName, path) ∷ []
uses_of (Snapshot path) = (MakesName, path) ∷ []
uses_of (Ln old new) = (Walks Stays, old) ∷ (MakesName, new) ∷ []
uses_of (Mv old new) = (TakesName, old) ∷ (MakesName, new) ∷ []
uses_of (Write path offset bytes) = (Walks Follows, path) ∷ []
uses_of (Fill path offset count byte) = (Walks Follows, path) ∷ []
uses_of (Truncate path size) = (Walks Follows, path) ∷ []
uses_of (Rm path) = (TakesName, path) ∷ []
uses_of (Rmdir path) = (TakesName, path) ∷ []
uses_of (Ls path) = (Walks Follows, path) ∷ []
uses_of (Cat path offset count) = (Walks Follows, path) ∷ []
uses_of (Stat path) = (Walks Stays, path) ∷ []
uses_of (Readlink path) = (Walks Stays, path) ∷ []
uses_of (Prune path) = (Walks Follows, path) ∷ []
uses_of (PruneAll path) = (Walks TakesPfs, path) ∷ []
uses_of (PfsMaster path shared) = (MakesName, path) ∷ []
uses_of (PfsSlave path shared) = (MakesName, path) ∷ []
uses_of (PfsStatus path) = (Walks TakesPfs, path) ∷ []
uses_of (PfsUpgrade path) = (Walks TakesPfs, path) ∷ []
uses_of (MirrorRead path begin) = (Walks TakesPfs, path) ∷ []
uses_of (MirrorWrite path) = (Walks TakesPfs, path) ∷ []
uses_of (MirrorCopy master slave limit) = (Walks TakesPfs, master) ∷ (Walks TakesPfs, slave) ∷ []
uses_of Sync = []
uses_of Synctid = []
uses_of (Reblock fill) = []
uses_of Df = []
uses_of Progress = []
uses_of (End opening) = []

-- the path words of a command are read so
abbrev pub ReadsWords : Command → List Parsed → Type 0
ReadsWords command paths = AllZip (λ u path. IsParsed u.1 path) (uses_of command) paths

-- all parts but the last
abbrev pub front_of : List Part → List Part
front_of [] = []
front_of (part ∷ []) = []
front_of (part ∷ next ∷ parts) = part ∷ front_of (next ∷ parts)

-- the name of the last part, if it has one
abbrev pub last_name : List Part → Option (List ℕ)
last_name [] = None
last_name (part ∷ []) = part.name
last_name (part ∷ next ∷ parts) = last_name (next ∷ parts)

-- Where a path leads: the end of its walk, and for a use of its last name the directory and the name too.
-- What was passed is what the walk to that directory passed, or else the walk to the end.
pub record Site : Type 0 where
  pub at : Position
  pub directory : Position
  pub name : List ℕ
  pub passed : Passed

-- a site, or the refusal of the walk with what it passed
pub data Located : Type 0 where
  At : Site → Located
  Nowhere : Reply → Passed → Located

-- the end of a walk as a site
abbrev pub at_end : Walked → Located
at_end (Reaches here passed) = At (record { at = here; directory = here; name = []; passed = passed })
at_end (Refuses reply passed) = Nowhere reply passed

-- the place of a new name: the walk before it must end in a directory
abbrev pub in_directory : View → Option (List ℕ) → Walked → Located
in_directory view None walked = at_end walked
in_directory view (Some name) (Refuses reply passed) = Nowhere reply passed
in_directory view (Some name) (Reaches here passed) =
    if option_map_or is_directory (object_at view here) false
    then At (record { at = here; directory = here; name = name; passed = passed })
    else Nowhere NotDir passed

-- a name that stands there: its directory, and the object that it leads to
abbrev pub standing_name : Option (List ℕ) → Walked → Walked → Located
standing_name None before whole = at_end whole
standing_name (Some name) (Refuses reply passed) whole = Nowhere reply passed
standing_name (Some name) (Reaches directory passed) (Refuses reply more) = Nowhere reply more
standing_name (Some name) (Reaches directory passed) (Reaches here more) =
    At (record { at = here; directory = directory; name = name; passed = passed })

-- where a path leads, by its use
abbrev pub locate : Volume → View → Use → List Part → Located
locate volume view MakesName parts = in_directory view (last_name parts) (walk volume view Follows (front_of parts))
locate volume view TakesName parts =
    standing_name (last_name parts) (walk volume view Follows (front_of parts)) (walk volume view Stays parts)
locate volume view (Walks mode) parts = at_end (walk volume view mode parts)

-- a site where there is none
abbrev pub no_site : Site
no_site = record { at = start; directory = start; name = []; passed = [] }

-- what a walk passed
abbrev pub passed_by : Located → Passed
passed_by (At site) = site.passed
passed_by (Nowhere reply passed) = passed
