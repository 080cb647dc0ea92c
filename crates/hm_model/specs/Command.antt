-- Commands: the one that ends another, and the limit of a copy.
use Rattle.std.specs.Prelude.{ℕ, Option, Some, None}
use Rattle.hm_types.specs.declared.id.Id.{Id}
use Rattle.hm_model.specs.declared.command.Command.{Command}
use Rattle.hm_model.specs.declared.command.Command.TheVariants.{Mkdir, Touch, Symlink, Snapshot, Ln, Mv, Write, Fill, Truncate, Rm, Rmdir, Ls, Cat, Stat, Readlink, Sync, Synctid, Prune, PruneAll, Reblock, PfsMaster, PfsSlave, PfsStatus, PfsUpgrade, MirrorRead, MirrorWrite, MirrorCopy, Df, Progress, End}

-- the opening id of the call that a command ends, if it ends one
abbrev pub named_opening : Command → Option Id
named_opening (Mkdir path) = None
named_opening (Touch path) = None
named_opening (Symlink target path) = None
named_opening (Snapshot path) = None
named_opening (Ln old new) = None
named_opening (Mv old new) = None
named_opening (Write path offset bytes) = None
named_opening (Fill path offset count byte) = None
named_opening (Truncate path size) = None
named_opening (Rm path) = None
named_opening (Rmdir path) = None
named_opening (Ls path) = None
named_opening (Cat path offset count) = None
named_opening (Stat path) = None
named_opening (Readlink path) = None
named_opening Sync = None
named_opening Synctid = None
named_opening (Prune path) = None
named_opening (PruneAll path) = None
named_opening (Reblock fill) = None
named_opening (PfsMaster path shared) = None
named_opening (PfsSlave path shared) = None
named_opening (PfsStatus path) = None
named_opening (PfsUpgrade path) = None
named_opening (MirrorRead path begin) = None
named_opening (MirrorWrite path) = None
named_opening (MirrorCopy master slave limit) = None
named_opening Df = None
named_opening Progress = None
named_opening (End opening) = Some opening

-- the limit of a copy, where it has one
abbrev pub limit_in : Command → Option ℕ
limit_in (MirrorCopy master slave limit) = limit
limit_in (Mkdir path) = None
limit_in (Touch path) = None
limit_in (Symlink target path) = None
limit_in (Snapshot path) = None
limit_in (Ln old new) = None
limit_in (Mv old new) = None
limit_in (Write path offset bytes) = None
limit_in (Fill path offset count byte) = None
limit_in (Truncate path size) = None
limit_in (Rm path) = None
limit_in (Rmdir path) = None
limit_in (Ls path) = None
limit_in (Cat path offset count) = None
limit_in (Stat path) = None
limit_in (Readlink path) = None
limit_in Sync = None
limit_in Synctid = None
limit_in (Prune path) = None
limit_in (PruneAll path) = None
limit_in (Reblock fill) = None
limit_in (PfsMaster path shared) = None
limit_in (PfsSlave path shared) = None
limit_in (PfsStatus path) = None
limit_in (PfsUpgrade path) = None
limit_in (MirrorRead path begin) = None
limit_in (MirrorWrite path) = None
limit_in Df = None
limit_in Progress = None
limit_in (End opening) = None
