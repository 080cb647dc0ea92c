-- The objects that calls make.
use Rattle.std.specs.Prelude.{ℕ, List}
use Rattle.hm_types.specs.Tree.{directory_of}
use Rattle.hm_types.specs.declared.object.Object.{Object}
use Rattle.hm_model.specs.Change.{snapshot_target}
use Rattle.hm_model.specs.declared.command.Command.{Command}
use Rattle.hm_model.specs.declared.command.Command.TheVariants.{Mkdir, Touch, Symlink, Snapshot as MakeSnapshot}
use Rattle.hm_records.specs.Target.{IsTarget}
use Rattle.hm_records.specs.declared.kind.TheConstants.{DIRECTORY, FILE, SOFTLINK}
use Rattle.hm_objects.specs.Objects.{file_of, softlink_of}
use Rattle.hm_calls.specs.declared.new.New.{New}
use Rattle.hm_calls.specs.declared.new.New.TheVariants.{Directory, File, Softlink, Snapshot}

-- a softlink's target has 1 to 1,023 bytes
abbrev pub IsNewObject : New → Type 0
IsNewObject Directory = Unit {0}
IsNewObject File = Unit {0}
IsNewObject (Softlink target) = IsTarget target.now
IsNewObject Snapshot = Unit {0}

abbrev pub kind_by : New → ℕ
kind_by Directory = DIRECTORY
kind_by File = FILE
kind_by (Softlink target) = SOFTLINK
kind_by Snapshot = SOFTLINK

-- the object that is made by an id
abbrev pub object_by : New → ℕ → Object
object_by Directory id = directory_of (record { 0 = id })
object_by File id = file_of (record { 0 = id })
object_by (Softlink target) id = softlink_of (record { 0 = id }) target.now
object_by Snapshot id = softlink_of (record { 0 = id }) (snapshot_target id)

-- the command that makes it at a path
abbrev pub command_by : New → List ℕ → Command
command_by Directory path = Mkdir path
command_by File path = Touch path
command_by (Softlink target) path = Symlink target.now path
command_by Snapshot path = MakeSnapshot path
