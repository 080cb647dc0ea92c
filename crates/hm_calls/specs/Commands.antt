-- The commands that are answered, and by how much each may lower the room of a zone.
use Rattle.std.specs.Prelude.{ℕ, ◌+◌, ◌≤◌}
use Rattle.hm_model.specs.declared.command.Command.{Command}
use Rattle.hm_model.specs.declared.command.Command.TheVariants.{Mkdir, Touch, Symlink, Snapshot, Ln, Mv, Write, Fill, Truncate, Rm, Rmdir}
use Rattle.hm_model.specs.declared.command.Command.TheVariants.{Ls, Cat, Stat, Readlink, Prune, PruneAll, PfsMaster, PfsSlave, PfsStatus}
use Rattle.hm_model.specs.declared.command.Command.TheVariants.{PfsUpgrade, MirrorRead, MirrorWrite, MirrorCopy, Sync, Synctid, Reblock, Df}
use Rattle.hm_model.specs.declared.command.Command.TheVariants.{Progress, End}
use Rattle.hm_calls.specs.Edits.{all_reserves}
use Rattle.hm_calls.specs.Writes.{reserves}

-- those on names, and those on the bytes of files
abbrev pub IsOnTrees : Command → Type 0
IsOnTrees (Mkdir path) = Unit {0}
IsOnTrees (Touch path) = Unit {0}
IsOnTrees (Symlink target path) = Unit {0}
IsOnTrees (Snapshot path) = Unit {0}
IsOnTrees (Ln old new) = Unit {0}
IsOnTrees (Mv old new) = Unit {0}
IsOnTrees (Write path offset bytes) = Unit {0}
IsOnTrees (Fill path offset count byte) = Unit {0}
IsOnTrees (Truncate path size) = Unit {0}
IsOnTrees (Rm path) = Unit {0}
IsOnTrees (Rmdir path) = Unit {0}
IsOnTrees (Ls path) = Unit {0}
IsOnTrees (Cat path offset count) = Unit {0}
IsOnTrees (Stat path) = Unit {0}
IsOnTrees (Readlink path) = Unit {0}
IsOnTrees (Prune path) = ⊥
IsOnTrees (PruneAll path) = ⊥
IsOnTrees (PfsMaster path shared) = ⊥
IsOnTrees (PfsSlave path shared) = ⊥
IsOnTrees (PfsStatus path) = ⊥
IsOnTrees (PfsUpgrade path) = ⊥
IsOnTrees (MirrorRead path begin) = ⊥
IsOnTrees (MirrorWrite path) = ⊥
IsOnTrees (MirrorCopy master slave limit) = ⊥
IsOnTrees Sync = ⊥
IsOnTrees Synctid = ⊥
IsOnTrees (Reblock fill) = ⊥
IsOnTrees Df = ⊥
IsOnTrees Progress = ⊥
IsOnTrees (End opening) = ⊥

-- by how much a command may lower the room of a zone: one that gives a file other bytes by the reserve of each of the zones
-- 8, 9, 10 and 11, any other one by those of the zones 8 and 9
abbrev pub reserves_for : Command → ℕ → ℕ
reserves_for (Mkdir path) = reserves
reserves_for (Touch path) = reserves
reserves_for (Symlink target path) = reserves
reserves_for (Snapshot path) = reserves
reserves_for (Ln old new) = reserves
reserves_for (Mv old new) = reserves
reserves_for (Write path offset bytes) = all_reserves
reserves_for (Fill path offset count byte) = all_reserves
reserves_for (Truncate path size) = all_reserves
reserves_for (Rm path) = reserves
reserves_for (Rmdir path) = reserves
reserves_for (Ls path) = reserves
reserves_for (Cat path offset count) = reserves
reserves_for (Stat path) = reserves
reserves_for (Readlink path) = reserves
reserves_for (Prune path) = reserves
reserves_for (PruneAll path) = reserves
reserves_for (PfsMaster path shared) = reserves
reserves_for (PfsSlave path shared) = reserves
reserves_for (PfsStatus path) = reserves
reserves_for (PfsUpgrade path) = reserves
reserves_for (MirrorRead path begin) = reserves
reserves_for (MirrorWrite path) = reserves
reserves_for (MirrorCopy master slave limit) = reserves
reserves_for Sync = reserves
reserves_for Synctid = reserves
reserves_for (Reblock fill) = reserves
reserves_for Df = reserves
reserves_for Progress = reserves
reserves_for (End opening) = reserves

-- the room of each zone falls by at most that
abbrev pub LowersRoomFor : {S : Type 0} → Command → (S → ℕ → ℕ) → S → S → Type 0
LowersRoomFor command room_of old new = (zone : ℕ) → room_of old zone ≤ room_of new zone + reserves_for command zone
