-- What calls on one tree make of it, by the places to which their paths lead.
use Rattle.std.specs.Prelude.{ℕ, List, [], Option, None, replicate}
use Rattle.std.specs.Option.{option_map_or}
use Rattle.hm_model.specs.declared.command.Command.{Command}
use Rattle.hm_model.specs.declared.command.Command.TheVariants.{Mkdir, Touch, Symlink, Snapshot, Ln, Mv, Write, Fill, Truncate, Rm, Rmdir, Ls, Cat, Stat, Readlink, Sync, Synctid, Prune, PruneAll, Reblock, PfsMaster, PfsSlave, PfsStatus, PfsUpgrade, MirrorRead, MirrorWrite, MirrorCopy, Df, Progress, End}
use Rattle.hm_types.specs.declared.object.Kind.TheVariants.{Directory, File, Softlink}
use Rattle.hm_types.specs.declared.object.Content.TheVariants.{Nothing, File as FileBytes, Target}
use Rattle.hm_types.specs.declared.object.Object.{Object}
use Rattle.hm_model.specs.Bytes.{written}
use Rattle.hm_types.specs.Bytes.{resized}
use Rattle.hm_types.specs.Tree.{FileTree, without_entry, without_name, without_object}
use Rattle.hm_model.specs.Sites.{Site}
use Rattle.hm_model.specs.Call.{standing}
use Rattle.hm_model.specs.Change.{linked, made, moved_over, of_object, renamed, snapshot_target, with_bytes, with_made}
use Rattle.hm_model.specs.PlainChecks.{finds}

-- an object is moved
abbrev pub moved_at : FileTree → Site → Site → Object → FileTree
moved_at tree a b object =
    option_map_or (moved_over tree a b object) (standing (finds tree) b) (renamed tree a b object.number)

-- the tree after the call with this id
abbrev pub changed_at : FileTree → Command → ℕ → Site → Site → FileTree
changed_at tree command id a b = elim command [
  | Mkdir path ↦ with_made tree a (made id Directory Nothing)
  | Touch path ↦ with_made tree a (made id File (FileBytes []))
  | Symlink target path ↦ with_made tree a (made id Softlink (Target target))
  | Snapshot path ↦ with_made tree a (made id Softlink (Target (snapshot_target id)))
  | Ln old new ↦ of_object (finds tree) a tree (linked tree b)
  | Write path offset bytes ↦ of_object (finds tree) a tree (with_bytes tree (written offset bytes))
  | Fill path offset count byte ↦ of_object (finds tree) a tree (with_bytes tree (written offset (replicate count byte)))
  | Truncate path size ↦ of_object (finds tree) a tree (with_bytes tree (resized size))
  | Rm path ↦ of_object (finds tree) a tree (without_entry tree a.directory.object a.name)
  | Rmdir path ↦ without_object (without_name tree a.directory.object a.name) a.at.object
  | Mv old new ↦ of_object (finds tree) a tree (moved_at tree a b)
  | Ls path ↦ tree
  | Cat path offset count ↦ tree
  | Stat path ↦ tree
  | Readlink path ↦ tree
  | Sync ↦ tree
  | Synctid ↦ tree
  | Prune path ↦ tree
  | PruneAll path ↦ tree
  | Reblock fill ↦ tree
  | PfsMaster path shared ↦ tree
  | PfsSlave path shared ↦ tree
  | PfsStatus path ↦ tree
  | PfsUpgrade path ↦ tree
  | MirrorRead path begin ↦ tree
  | MirrorWrite path ↦ tree
  | MirrorCopy master slave limit ↦ tree
  | Df ↦ tree
  | Progress ↦ tree
  | End opening ↦ tree
]
