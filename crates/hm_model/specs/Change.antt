-- What an accepted call makes of a tree and of the volume.
use Rattle.std.specs.Prelude.{ℕ, ◌+◌, ◌-◌, List, [], ◌∷◌, ◌++◌, Bool, true, false, Option, Some, None, ◌==◌, if◌then◌else◌, codes, map, replicate}
use Rattle.std.specs.Option.{option_map_or}
use Rattle.hm_types.specs.Id.{id_text}
use Rattle.hm_types.specs.declared.id.Obj.{Obj}
use Rattle.hm_model.specs.declared.command.Command.{Command}
use Rattle.hm_model.specs.declared.command.Command.TheVariants.{Mkdir, Touch, Symlink, Snapshot, Ln, Mv, Write, Fill, Truncate, Rm, Rmdir, PfsMaster, PfsSlave, Ls, Cat, Stat, Readlink, Sync, Synctid, Prune, PruneAll, Reblock, PfsStatus, PfsUpgrade, MirrorRead, MirrorWrite, MirrorCopy, Df, Progress, End}
use Rattle.hm_types.specs.declared.object.Object.{Object}
use Rattle.hm_types.specs.declared.object.Kind.{Kind}
use Rattle.hm_types.specs.declared.object.Kind.TheVariants.{Directory, File, Softlink, PfsLink}
use Rattle.hm_types.specs.declared.object.Content.{Content}
use Rattle.hm_types.specs.declared.object.Content.TheVariants.{Nothing, File as FileBytes, Target, Linked}
use Rattle.hm_model.specs.Bytes.{written}
use Rattle.hm_types.specs.Bytes.{resized}
use Rattle.hm_types.specs.Tree.{FileTree, root_tree, with_object, with_name, without_name, without_object, without_entry, with_change, with_links, holding}
use Rattle.hm_model.specs.Volume.{Volume, PseudoFileSystem, Role, Master, Slave, Origin, Nowhere, new_master, with_version}
use Rattle.hm_model.specs.Sites.{Site}
use Rattle.hm_model.specs.View.{Now}
use Rattle.hm_model.specs.Call.{Call, first_site, own_id, second_site, site_object, standing}
use Rattle.hm_model.specs.Answer.{file_bytes}
use Rattle.hm_model.specs.Due.{new_pfs}

-- a new object, with one link
abbrev pub made : ℕ → Kind → Content → Object
made id kind content = record { number = record { 0 = id }; kind = kind; content = content; links = 1 }

-- the tree with a new object under a site's name
abbrev pub with_made : FileTree → Site → Object → FileTree
with_made tree site object = with_object tree site.directory.object site.name object

-- the target of a snapshot: the id before its own
abbrev pub snapshot_target : ℕ → List ℕ
snapshot_target id = codes "@@" ++ id_text (record { 0 = id - 1 })

-- the tree with a change of the object at a site, where it is there
abbrev pub of_object : Call → Site → FileTree → (Object → FileTree) → FileTree
of_object call site tree change = option_map_or change (site_object call site) tree

-- the tree with other bytes of a file
abbrev pub with_bytes : FileTree → (List ℕ → List ℕ) → Object → FileTree
with_bytes tree change object =
    with_change tree object.number (holding (FileBytes (change (file_bytes object.content))))

-- a second name for an object
abbrev pub linked : FileTree → Site → Object → FileTree
linked tree site object =
    with_name (with_change tree object.number (with_links (object.links + 1)))
    site.directory.object site.name object.number

-- the tree in which an object has the new name instead of the old one
abbrev pub renamed : FileTree → Site → Site → Obj → FileTree
renamed tree old new number =
    with_name (without_name tree old.directory.object old.name) new.directory.object new.name number

-- what is moved over: nothing changes where it is the moved object itself, and else it goes first
abbrev pub moved_over : FileTree → Site → Site → Object → Object → FileTree
moved_over tree old new object there =
    if there.number.0 == object.number.0 then tree
    else renamed (without_entry tree new.directory.object new.name there) old new object.number

-- an object is moved
abbrev pub moved : Call → FileTree → Object → FileTree
moved call tree object =
    option_map_or (moved_over tree (first_site call) (second_site call) object)
    (standing call (second_site call))
    (renamed tree (first_site call) (second_site call) object.number)

-- the tree of the PFS in which the call's walk ends, after the call
abbrev pub changed : Call → FileTree → FileTree
changed call tree =
    let id : ℕ = own_id call in
    let a : Site = first_site call in
    elim call.command [
      | Mkdir path ↦ with_made tree a (made id Directory Nothing)
      | Touch path ↦ with_made tree a (made id File (FileBytes []))
      | Symlink target path ↦ with_made tree a (made id Softlink (Target target))
      | Snapshot path ↦ with_made tree a (made id Softlink (Target (snapshot_target id)))
      | PfsMaster path shared ↦
          with_made tree a (made id PfsLink (Linked (record { 0 = new_pfs call.volume })))
      | PfsSlave path shared ↦
          with_made tree a (made id PfsLink (Linked (record { 0 = new_pfs call.volume })))
      | Ln old new ↦ of_object call a tree (linked tree (second_site call))
      | Write path offset bytes ↦ of_object call a tree (with_bytes tree (written offset bytes))
      | Fill path offset count byte ↦
          of_object call a tree (with_bytes tree (written offset (replicate count byte)))
      | Truncate path size ↦ of_object call a tree (with_bytes tree (resized size))
      | Rm path ↦ of_object call a tree (without_entry tree a.directory.object a.name)
      | Rmdir path ↦
          without_object (without_name tree a.directory.object a.name) a.at.object
      | Mv old new ↦ of_object call a tree (moved call tree)
      | Ls path ↦ tree
      | Cat path offset count ↦ tree
      | Stat path ↦ tree
      | Readlink path ↦ tree
      | Sync ↦ tree
      | Synctid ↦ tree
      | Prune path ↦ tree
      | PruneAll path ↦ tree
      | Reblock fill ↦ tree
      | PfsStatus path ↦ tree
      | PfsUpgrade path ↦ tree
      | MirrorRead path begin ↦ tree
      | MirrorWrite path ↦ tree
      | MirrorCopy master slave limit ↦ tree
      | Df ↦ tree
      | Progress ↦ tree
      | End opening ↦ tree
    ]

-- a new slave: nothing was mirrored into it yet
abbrev pub new_slave : ℕ → ℕ → PseudoFileSystem
new_slave number shared = record {
  number = number;
  role = Slave;
  shared = shared;
  retention = [];
  sync_end = 0;
  versions = [];
  origin = Nowhere;
  clear = true;
}

-- the volume with one more PFS
abbrev pub with_system : Volume → PseudoFileSystem → Volume
with_system volume s = record volume { systems = volume.systems ++ s ∷ [] }

-- the PFS that a call adds, if it adds one
abbrev pub with_new_pfs : Call → Volume → Volume
with_new_pfs call volume = elim call.command [
  | PfsMaster path shared ↦
      with_system volume (new_master (new_pfs call.volume) shared ((own_id call, root_tree) ∷ []))
  | PfsSlave path shared ↦ with_system volume (new_slave (new_pfs call.volume) shared)
  | Mkdir path ↦ volume
  | Touch path ↦ volume
  | Symlink target path ↦ volume
  | Snapshot path ↦ volume
  | Ln old new ↦ volume
  | Mv old new ↦ volume
  | Write path offset bytes ↦ volume
  | Fill path offset count byte ↦ volume
  | Truncate path size ↦ volume
  | Rm path ↦ volume
  | Rmdir path ↦ volume
  | Ls path ↦ volume
  | Cat path offset count ↦ volume
  | Stat path ↦ volume
  | Readlink path ↦ volume
  | Sync ↦ volume
  | Synctid ↦ volume
  | Prune path ↦ volume
  | PruneAll path ↦ volume
  | Reblock fill ↦ volume
  | PfsStatus path ↦ volume
  | PfsUpgrade path ↦ volume
  | MirrorRead path begin ↦ volume
  | MirrorWrite path ↦ volume
  | MirrorCopy master slave limit ↦ volume
  | Df ↦ volume
  | Progress ↦ volume
  | End opening ↦ volume
]

-- the PFS in which a call's walk ends, and which it changes: that of its last path
abbrev pub changed_pfs : Call → ℕ
changed_pfs call = elim call.command [
  | Ln old new ↦ (second_site call).at.pfs
  | Mv old new ↦ (second_site call).at.pfs
  | Mkdir path ↦ (first_site call).at.pfs
  | Touch path ↦ (first_site call).at.pfs
  | Symlink target path ↦ (first_site call).at.pfs
  | Snapshot path ↦ (first_site call).at.pfs
  | Write path offset bytes ↦ (first_site call).at.pfs
  | Fill path offset count byte ↦ (first_site call).at.pfs
  | Truncate path size ↦ (first_site call).at.pfs
  | Rm path ↦ (first_site call).at.pfs
  | Rmdir path ↦ (first_site call).at.pfs
  | Ls path ↦ (first_site call).at.pfs
  | Cat path offset count ↦ (first_site call).at.pfs
  | Stat path ↦ (first_site call).at.pfs
  | Readlink path ↦ (first_site call).at.pfs
  | Sync ↦ (first_site call).at.pfs
  | Synctid ↦ (first_site call).at.pfs
  | Prune path ↦ (first_site call).at.pfs
  | PruneAll path ↦ (first_site call).at.pfs
  | Reblock fill ↦ (first_site call).at.pfs
  | PfsMaster path shared ↦ (first_site call).at.pfs
  | PfsSlave path shared ↦ (first_site call).at.pfs
  | PfsStatus path ↦ (first_site call).at.pfs
  | PfsUpgrade path ↦ (first_site call).at.pfs
  | MirrorRead path begin ↦ (first_site call).at.pfs
  | MirrorWrite path ↦ (first_site call).at.pfs
  | MirrorCopy master slave limit ↦ (first_site call).at.pfs
  | Df ↦ (first_site call).at.pfs
  | Progress ↦ (first_site call).at.pfs
  | End opening ↦ (first_site call).at.pfs
]

-- the volume after an accepted tree call: that PFS has one more version, from the call's id on
abbrev pub change : Call → Volume
change call =
    with_new_pfs call
    (with_version call.volume (changed_pfs call) (own_id call)
    (changed call (call.view (changed_pfs call) Now)))
