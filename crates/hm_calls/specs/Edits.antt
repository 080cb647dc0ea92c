-- What calls make of the bytes of a file.
use Rattle.std.specs.Prelude.{◌≡◌, ℕ, ◌+◌, ◌==◌, ◌≤◌, List, [], Bool, false, if◌then◌else◌, length, max, replicate}
use Rattle.hm_types.specs.Elements.{FullElement}
use Rattle.hm_types.specs.Space.{in_zone}
use Rattle.hm_types.specs.declared.limits.TheConstants.{MOST_WRITE_BYTES}
use Rattle.hm_types.specs.declared.object.Kind.TheVariants.{File}
use Rattle.hm_types.specs.declared.object.Object.{Object}
use Rattle.hm_types.specs.declared.space.TheConstants.{PAYLOAD_RESERVE, TREE_RESERVE}
use Rattle.hm_types.specs.declared.zone.TheConstants.{LARGE_ZONE, META_ZONE, SMALL_ZONE, TREE_ZONE}
use Rattle.hm_key.specs.Counts.{Counts}
use Rattle.hm_model.specs.Answer.{file_bytes}
use Rattle.hm_model.specs.Bytes.{written}
use Rattle.hm_types.specs.Bytes.{resized}
use Rattle.hm_model.specs.Change.{with_bytes}
use Rattle.hm_model.specs.Forms.{Between}
use Rattle.hm_model.specs.Needs.{bytes_zones}
use Rattle.hm_model.specs.declared.command.Command.{Command}
use Rattle.hm_model.specs.declared.command.Command.TheVariants.{Fill as FillFile, Truncate as TruncateFile, Write as WriteFile}
use Rattle.hm_cursor.specs.Views.{Shows, WritesIn}
use Rattle.hm_records.specs.Follows.{StillFollow}
use Rattle.hm_records.specs.KeysFit.{KeysFit}
use Rattle.hm_records.specs.View.{AreFileBytes, IsObject}
use Rattle.hm_files.specs.Put.{IsBytesOf, KeepOthers}
use Rattle.hm_calls.specs.Writes.{AllCame, IsNewIn, NamesNothing}
use Rattle.hm_calls.specs.declared.edit.Edit.{Edit}
use Rattle.hm_calls.specs.declared.edit.Edit.TheVariants.{Fill, Truncate, Write}

-- the command that makes it at a path
abbrev pub command_for : Edit → List ℕ → Command
command_for (Write offset bytes) path = WriteFile path offset bytes.now
command_for (Fill offset count byte) path = FillFile path offset count byte
command_for (Truncate size) path = TruncateFile path size

-- from 1 to 65,536 bytes are written
abbrev pub IsEdit : Edit → Type 0
IsEdit (Write offset bytes) = Between 1 MOST_WRITE_BYTES (length bytes.now)
IsEdit (Fill offset count byte) = Between 1 MOST_WRITE_BYTES count
IsEdit (Truncate size) = Unit {0}

-- up to where it needs a file to reach
abbrev pub end_of : Edit → ℕ
end_of (Write offset bytes) = offset + length bytes.now
end_of (Fill offset count byte) = offset + count
end_of (Truncate size) = size

-- how large a file of a size is afterwards
abbrev pub size_after : Edit → ℕ → ℕ
size_after (Write offset bytes) size = max size (offset + length bytes.now)
size_after (Fill offset count byte) size = max size (offset + count)
size_after (Truncate to) size = to

-- what becomes of its bytes
abbrev pub edited : Edit → List ℕ → List ℕ
edited (Write offset bytes) = written offset bytes.now
edited (Fill offset count byte) = written offset (replicate count byte)
edited (Truncate size) = resized size

-- whether a file of a size has it already: only a size can be one
abbrev pub is_there : Edit → ℕ → Bool
is_there (Write offset bytes) size = false
is_there (Fill offset count byte) size = false
is_there (Truncate to) size = size == to

-- the zones in which it needs room
abbrev pub zones_for : Edit → ℕ → List ℕ
zones_for edit size = if is_there edit size then [] else bytes_zones

-- the zones 8, 9, 10 and 11 have their reserves
pub record HasAllReserves (room : ℕ → ℕ) : Type 0 where
  pub tree : TREE_RESERVE ≤ room TREE_ZONE
  pub meta : PAYLOAD_RESERVE ≤ room META_ZONE
  pub large : PAYLOAD_RESERVE ≤ room LARGE_ZONE
  pub small : PAYLOAD_RESERVE ≤ room SMALL_ZONE

-- From `i` on a file of a size has other bytes, whatever it had, and so many: its inode is as it was. For what is about none
-- of its bytes the same counts.
pub record ChangesBytes (pfs obj i size after : ℕ) (change : List ℕ → List ℕ) (es es' : List FullElement) : Type 0 where
  pub writes : WritesIn pfs i (IsBytesOf pfs obj i) es es'
  pub holds : (t : ℕ) (content : List ℕ) → i ≤ t → AreFileBytes (Counts es t) pfs obj size content
      → AreFileBytes (Counts es' t) pfs obj after (change content)
  pub others : KeepOthers pfs obj es es'
  pub follows : StillFollow es es'

-- From `i` on the file of this number, of a size, holds other bytes. The keys of entries stay fit.
pub record ChangesFile (pfs obj i size : ℕ) (change : List ℕ → List ℕ) (es es' : List FullElement) : Type 0 where
  pub writes : WritesIn pfs i (IsNewIn pfs i) es es'
  pub fits : (hash : List ℕ → ℕ) → KeysFit hash es → KeysFit hash es'
  pub shows : (o : Object) → o.number.0 ≡ obj → o.kind ≡ File → length (file_bytes o.content) ≡ size
      → ((t : ℕ) → i ≤ t → IsObject (Counts es t) pfs o) → Shows pfs i (λ tree. with_bytes tree change o) es es'
  pub names : AllCame NamesNothing es es'
  pub follows : StillFollow es es'

-- the reserves of the zones 8, 9, 10 and 11
abbrev pub all_reserves : ℕ → ℕ
all_reserves zone =
    in_zone TREE_ZONE TREE_RESERVE zone
    + (in_zone META_ZONE PAYLOAD_RESERVE zone + (in_zone LARGE_ZONE PAYLOAD_RESERVE zone + in_zone SMALL_ZONE PAYLOAD_RESERVE zone))
