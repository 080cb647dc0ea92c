-- What the calls that only look answer.
use Rattle.std.specs.Prelude.{ℕ, ◌+◌, List, [], ◌∷◌, ◌++◌, Bool, true, false, Option, Some, None, codes, length, map}
use Rattle.std.specs.Option.{option_map_or}
use Rattle.hm_types.specs.Id.{id_text}
use Rattle.hm_types.specs.declared.id.Obj.{Obj}
use Rattle.hm_model.specs.declared.command.Command.{Command}
use Rattle.hm_model.specs.declared.command.Command.TheVariants.{Ls, Cat, Stat, Readlink, PfsStatus, Mkdir, Touch, Symlink, Snapshot, Ln, Mv, Write, Fill, Truncate, Rm, Rmdir, Sync, Synctid, Prune, PruneAll, Reblock, PfsMaster, PfsSlave, PfsUpgrade, MirrorRead, MirrorWrite, MirrorCopy, Df, Progress, End}
use Rattle.hm_model.specs.declared.reply.Reply.{Reply}
use Rattle.hm_model.specs.declared.reply.Reply.TheVariants.{Done, Listing, Content as Bytes, Status, Target as Text, PfsIs, NotFound}
use Rattle.hm_types.specs.declared.object.Object.{Object}
use Rattle.hm_types.specs.declared.object.Kind.{Kind}
use Rattle.hm_types.specs.declared.object.Kind.TheVariants.{Directory, File, Softlink, PfsLink}
use Rattle.hm_types.specs.declared.object.Content.{Content}
use Rattle.hm_types.specs.declared.object.Content.TheVariants.{Nothing, File as FileBytes, Target, Linked}
use Rattle.hm_model.specs.Reply.{five_digits}
use Rattle.hm_model.specs.Bytes.{read_at}
use Rattle.hm_types.specs.Tree.{FileTree, entries_in, object_in}
use Rattle.hm_model.specs.Volume.{Volume, PseudoFileSystem, Role, Master, Slave, system_of}
use Rattle.hm_model.specs.View.{Position}
use Rattle.hm_model.specs.Sites.{Site}
use Rattle.hm_model.specs.Call.{Call, first_site, site_object, site_system}

-- the number of a kind
abbrev pub kind_number : Kind → ℕ
kind_number Directory = 1
kind_number File = 2
kind_number Softlink = 3
kind_number PfsLink = 4

-- the number of the kind of the object under an entry
abbrev pub entry_kind : FileTree → Obj → ℕ
entry_kind tree number = option_map_or (λ (o : Object). kind_number o.kind) (object_in tree number) 0

-- the entries of a directory, each with its object's kind, by the bytes of their names
abbrev pub listing : FileTree → Obj → List (ℕ × List ℕ)
listing tree directory = map (λ t. (entry_kind tree t.object, t.name)) (entries_in tree directory)

-- the size of an object: a directory has its number of entries, a PFS link its number
abbrev pub size_of : FileTree → Object → ℕ
size_of tree object = elim object.content [
  | Nothing ↦ length (entries_in tree object.number)
  | FileBytes bytes ↦ length bytes
  | Target text ↦ length text
  | Linked pfs ↦ pfs.0
]

-- the bytes of a file
abbrev pub file_bytes : Content → List ℕ
file_bytes (FileBytes bytes) = bytes
file_bytes Nothing = []
file_bytes (Target text) = []
file_bytes (Linked pfs) = []

-- the id that the text of a link to this PFS begins with: a slave's is its sync end
abbrev pub link_id : PseudoFileSystem → List ℕ
link_id s = elim s.role [ Master ↦ codes "-1" | Slave ↦ id_text (record { 0 = s.sync_end }) ]

-- the text of a link to a PFS, by its record of now
abbrev pub link_text : Volume → ℕ → List ℕ
link_text volume pfs =
    codes "@@" ++ (option_map_or link_id (system_of volume pfs) (codes "-1") ++ (codes ":" ++ five_digits pfs))

-- the target of a link
abbrev pub target_of : Volume → Content → List ℕ
target_of volume (Target text) = text
target_of volume (Linked pfs) = link_text volume pfs.0
target_of volume Nothing = []
target_of volume (FileBytes bytes) = []

-- whether a PFS is a master
abbrev pub is_master : PseudoFileSystem → Bool
is_master s = elim s.role [ Master ↦ true | Slave ↦ false ]

-- the record of a PFS
abbrev pub record_of : PseudoFileSystem → Reply
record_of s = PfsIs (is_master s) (record { 0 = s.number }) s.shared (length s.retention) (record { 0 = s.sync_end })

-- the answer of a call that finds this object at the end of its walk, in this tree
abbrev pub answer_at : Call → FileTree → Object → Reply
answer_at call tree object = elim call.command [
  | Ls path ↦ Listing (listing tree object.number)
  | Cat path offset count ↦ Bytes (read_at offset count (file_bytes object.content))
  | Stat path ↦ Status (kind_number object.kind) object.number (size_of tree object) object.links
  | Readlink path ↦ Text (target_of call.volume object.content)
  | Mkdir path ↦ Done
  | Touch path ↦ Done
  | Symlink target path ↦ Done
  | Snapshot path ↦ Done
  | Ln old new ↦ Done
  | Mv old new ↦ Done
  | Write path offset bytes ↦ Done
  | Fill path offset count byte ↦ Done
  | Truncate path size ↦ Done
  | Rm path ↦ Done
  | Rmdir path ↦ Done
  | Sync ↦ Done
  | Synctid ↦ Done
  | Prune path ↦ Done
  | PruneAll path ↦ Done
  | Reblock fill ↦ Done
  | PfsMaster path shared ↦ Done
  | PfsSlave path shared ↦ Done
  | PfsStatus path ↦ Done
  | PfsUpgrade path ↦ Done
  | MirrorRead path begin ↦ Done
  | MirrorWrite path ↦ Done
  | MirrorCopy master slave limit ↦ Done
  | Df ↦ Done
  | Progress ↦ Done
  | End opening ↦ Done
]

-- the answer of a call that looks at the object at the end of its walk
abbrev pub answer_there : Call → Reply
answer_there call =
    option_map_or (answer_at call (call.view (first_site call).at.pfs (first_site call).at.when))
    (site_object call (first_site call)) NotFound

-- the answer of a call that looks at an object, or at a PFS
abbrev pub answer : Call → Reply
answer call = elim call.command [
  | PfsStatus path ↦ option_map_or record_of (site_system call (first_site call)) NotFound
  | Mkdir path ↦ answer_there call
  | Touch path ↦ answer_there call
  | Symlink target path ↦ answer_there call
  | Snapshot path ↦ answer_there call
  | Ln old new ↦ answer_there call
  | Mv old new ↦ answer_there call
  | Write path offset bytes ↦ answer_there call
  | Fill path offset count byte ↦ answer_there call
  | Truncate path size ↦ answer_there call
  | Rm path ↦ answer_there call
  | Rmdir path ↦ answer_there call
  | Ls path ↦ answer_there call
  | Cat path offset count ↦ answer_there call
  | Stat path ↦ answer_there call
  | Readlink path ↦ answer_there call
  | Sync ↦ answer_there call
  | Synctid ↦ answer_there call
  | Prune path ↦ answer_there call
  | PruneAll path ↦ answer_there call
  | Reblock fill ↦ answer_there call
  | PfsMaster path shared ↦ answer_there call
  | PfsSlave path shared ↦ answer_there call
  | PfsUpgrade path ↦ answer_there call
  | MirrorRead path begin ↦ answer_there call
  | MirrorWrite path ↦ answer_there call
  | MirrorCopy master slave limit ↦ answer_there call
  | Df ↦ answer_there call
  | Progress ↦ answer_there call
  | End opening ↦ answer_there call
]
