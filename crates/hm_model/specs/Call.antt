-- A call as it is asked: what it finds, and where its paths lead.
use Rattle.std.specs.Prelude.{ℕ, ◌+◌, List, [], ◌∷◌, Option, Some, None}
use Rattle.std.specs.Option.{option_map_or}
use Rattle.hm_types.specs.declared.id.Obj.{Obj}
use Rattle.hm_model.specs.declared.command.Command.{Command}
use Rattle.hm_types.specs.declared.object.Object.{Object}
use Rattle.hm_types.specs.Tree.{FileTree, object_in, named_in}
use Rattle.hm_model.specs.Volume.{Volume, PseudoFileSystem, system_of, shown_id}
use Rattle.hm_model.specs.View.{View, Position, object_at}
use Rattle.hm_model.specs.Sites.{Use, Parsed, Parts, BadAt, Site, Located, At, Nowhere, locate, no_site, uses_of}

-- A call: the volume and the trees that it finds, the opening id of the mirror or upgrade call that is
-- open, the hash of names, its command, and how its path words are read.
pub record Call : Type 0 where
  pub volume : Volume
  pub view : View
  pub busy : Option ℕ
  pub hash : List ℕ → ℕ
  pub command : Command
  pub paths : List Parsed

-- the id that the call draws
abbrev pub own_id : Call → ℕ
own_id call = call.volume.last + 1

-- where a path that is read so leads
abbrev pub located : Call → Use → Parsed → Located
located call u (Parts parts) = locate call.volume call.view u parts
located call u (BadAt place) = At no_site

-- where the paths lead, by their uses
abbrev pub each_located : Call → List (Use × List ℕ) → List Parsed → List Located
each_located call [] paths = []
each_located call (u ∷ uses) [] = []
each_located call (u ∷ uses) (path ∷ paths) = located call u.0 path ∷ each_located call uses paths

abbrev pub all_located : Call → List Located
all_located call = each_located call (uses_of call.command) call.paths

-- the site, where there is one
abbrev pub site_in : Located → Site
site_in (At site) = site
site_in (Nowhere reply passed) = no_site

-- where the first path leads, and where the second one does
abbrev pub first_of : List Located → Site
first_of [] = no_site
first_of (l ∷ ls) = site_in l

abbrev pub second_of : List Located → Site
second_of [] = no_site
second_of (l ∷ ls) = first_of ls

abbrev pub first_site : Call → Site
first_site call = first_of (all_located call)

abbrev pub second_site : Call → Site
second_site call = second_of (all_located call)

-- the object at the end of a site
abbrev pub site_object : Call → Site → Option Object
site_object call site = object_at call.view site.at

-- the tree of a site's directory, in which its name is looked up
abbrev pub site_tree : Call → Site → FileTree
site_tree call site = call.view site.directory.pfs site.directory.when

-- the object that stands under a site's name already
abbrev pub standing : Call → Site → Option Object
standing call site =
    option_map_or (λ number. object_in (site_tree call site) number)
    (named_in (site_tree call site) site.directory.object site.name) None

-- the PFS in which a site lies
abbrev pub site_system : Call → Site → Option PseudoFileSystem
site_system call site = system_of call.volume site.at.pfs

-- the shown id of a PFS for a call of its own: its own id for a master, the sync end for a slave
abbrev pub call_shown : Call → PseudoFileSystem → ℕ
call_shown call s = shown_id (own_id call) s
