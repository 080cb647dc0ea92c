-- The checks of calls on one tree, by the places to which their paths lead.
use Rattle.std.specs.Prelude.{ℕ, ◌+◌, List, [], ◌∷◌, Bool, false, Option, Some, None, ◌==◌, if◌then◌else◌, length}
use Rattle.std.specs.Option.{option_map_or}
use Rattle.hm_model.specs.declared.command.Command.{Command}
use Rattle.hm_model.specs.declared.command.Command.TheVariants.{Mkdir, Touch, Symlink, Snapshot, Ln, Mv, Write, Fill, Truncate, Rm, Rmdir, Ls, Cat, Readlink, Sync, Stat, Synctid, Prune, PruneAll, Reblock, PfsMaster, PfsSlave, PfsStatus, PfsUpgrade, MirrorRead, MirrorWrite, MirrorCopy, Df, Progress, End}
use Rattle.hm_types.specs.declared.object.Object.{Object}
use Rattle.hm_model.specs.declared.reply.Reply.{Reply}
use Rattle.hm_model.specs.declared.reply.Reply.TheVariants.{CrossPfs, Exists, IntoItself, HashFull, NotFound}
use Rattle.hm_model.specs.Answer.{answer_at}
use Rattle.hm_types.specs.Tree.{FileTree, named_in}
use Rattle.hm_model.specs.Sites.{Site}
use Rattle.hm_model.specs.Call.{Call, site_object, site_tree, standing}
use Rattle.hm_model.specs.Due.{Check, a_dir, a_file, a_link, fits_file, gives_way, hash_is_full, is_empty, is_passed, links_left, name_is_new, no_dir, refuse_if}
use Rattle.hm_model.specs.PlainCall.{inner_call}

-- a call that finds this tree
abbrev pub finds : FileTree → Call
finds tree = inner_call 0 0 tree Sync []

-- the checks that look at both places
abbrev pub one_pfs_at : Site → Site → Check
one_pfs_at a b = if a.at.pfs == b.at.pfs then None else Some CrossPfs

abbrev pub not_into_itself_at : Site → Site → Check
not_into_itself_at a b = refuse_if (is_passed a b) IntoItself

abbrev pub is_way_free_at : FileTree → Site → Site → Bool
is_way_free_at tree a b =
    option_map_or (λ (there : Object). option_map_or (λ (moved : Object). gives_way (finds tree) moved there) (site_object (finds tree) a) false)
    (standing (finds tree) b) false

abbrev pub way_at : FileTree → Site → Site → Check
way_at tree a b =
    option_map_or (λ number. if is_way_free_at tree a b then None else Some Exists)
    (named_in (site_tree (finds tree) b) b.directory.object b.name) None

-- a command's own checks
abbrev pub own_at : FileTree → Command → Site → Site → List Check
own_at tree command a b = elim command [
  | Mkdir path ↦ name_is_new (finds tree) a ∷ []
  | Touch path ↦ name_is_new (finds tree) a ∷ []
  | Symlink target path ↦ name_is_new (finds tree) a ∷ []
  | Snapshot path ↦ name_is_new (finds tree) a ∷ []
  | Ln old new ↦
      no_dir (finds tree) a ∷ a_file (finds tree) a ∷ one_pfs_at a b ∷ name_is_new (finds tree) b
      ∷ links_left (finds tree) a ∷ []
  | Write path offset bytes ↦ no_dir (finds tree) a ∷ a_file (finds tree) a ∷ fits_file (offset + length bytes) ∷ []
  | Fill path offset count byte ↦ no_dir (finds tree) a ∷ a_file (finds tree) a ∷ fits_file (offset + count) ∷ []
  | Truncate path size ↦ no_dir (finds tree) a ∷ a_file (finds tree) a ∷ fits_file size ∷ []
  | Rm path ↦ no_dir (finds tree) a ∷ []
  | Rmdir path ↦ a_dir (finds tree) a ∷ is_empty (finds tree) a ∷ []
  | Mv old new ↦ one_pfs_at a b ∷ not_into_itself_at a b ∷ way_at tree a b ∷ []
  | Ls path ↦ a_dir (finds tree) a ∷ []
  | Cat path offset count ↦ no_dir (finds tree) a ∷ a_file (finds tree) a ∷ []
  | Readlink path ↦ a_link (finds tree) a ∷ []
  | Stat path ↦ []
  | Sync ↦ []
  | Synctid ↦ []
  | Prune path ↦ []
  | PruneAll path ↦ []
  | Reblock fill ↦ []
  | PfsMaster path shared ↦ []
  | PfsSlave path shared ↦ []
  | PfsStatus path ↦ []
  | PfsUpgrade path ↦ []
  | MirrorRead path begin ↦ []
  | MirrorWrite path ↦ []
  | MirrorCopy master slave limit ↦ []
  | Df ↦ []
  | Progress ↦ []
  | End opening ↦ []
]

-- the check of the hashes of names where a new one is made at this place
abbrev pub hash_at : FileTree → Site → Check
hash_at tree site = refuse_if (hash_is_full (finds tree) site) HashFull

-- the same of a call, if it makes a name
abbrev pub new_hash_at : FileTree → Command → Site → Site → Check
new_hash_at tree command a b = elim command [
  | Mkdir path ↦ hash_at tree a
  | Touch path ↦ hash_at tree a
  | Symlink target path ↦ hash_at tree a
  | Snapshot path ↦ hash_at tree a
  | Ln old new ↦ hash_at tree b
  | Mv old new ↦ hash_at tree b
  | Write path offset bytes ↦ None
  | Fill path offset count byte ↦ None
  | Truncate path size ↦ None
  | Rm path ↦ None
  | Rmdir path ↦ None
  | Ls path ↦ None
  | Cat path offset count ↦ None
  | Stat path ↦ None
  | Readlink path ↦ None
  | Sync ↦ None
  | Synctid ↦ None
  | Prune path ↦ None
  | PruneAll path ↦ None
  | Reblock fill ↦ None
  | PfsMaster path shared ↦ None
  | PfsSlave path shared ↦ None
  | PfsStatus path ↦ None
  | PfsUpgrade path ↦ None
  | MirrorRead path begin ↦ None
  | MirrorWrite path ↦ None
  | MirrorCopy master slave limit ↦ None
  | Df ↦ None
  | Progress ↦ None
  | End opening ↦ None
]

-- the answer of a call that looks at what stands at this place
abbrev pub answered_at : FileTree → Command → Site → Reply
answered_at tree command a =
    option_map_or (answer_at (inner_call 0 0 tree command []) tree) (site_object (finds tree) a) NotFound
