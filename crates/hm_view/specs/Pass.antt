-- A pass over the names of a directory, from the greatest key of their entries down.
use Rattle.std.specs.Prelude.{◌≡◌, ◌↔◌, ℕ, ◌≤◌, List, Option, None, Some}
use Rattle.std.specs.List.{Contains}
use Rattle.hm_types.specs.Tree.{FileTree, entries_in, insert_by, is_triple_before}
use Rattle.hm_types.specs.declared.id.Obj.{Obj}
use Rattle.hm_types.specs.declared.object.Triple.{Triple}
use Rattle.hm_key.specs.Counts.{Content}
use Rattle.hm_records.specs.Laws.{triple_of}
use Rattle.hm_records.specs.View.{AreInOrder}
use Rattle.hm_records.specs.declared.entry.DirEntry.{DirEntry}
use Rattle.hm_cursor.specs.Names.{IsFirstEntry}

-- a name of a directory, whose entry leads and stands at a key or after it
pub record IsPassed (counts : Content) (pfs : ℕ) (directory : Obj) (first : ℕ) (t : Triple) : Type 0 where
  pub key : ℕ
  pub leads : IsFirstEntry counts pfs directory t.name key t.object
  pub is_of : t.directory ≡ directory
  pub from : first ≤ key

-- these are the names of a directory whose entries stand at a key or after it, in the order of the names
pub record ArePassed (counts : Content) (pfs : ℕ) (directory : Obj) (first : ℕ) (passed : List Triple) : Type 0 where
  pub rise : AreInOrder is_triple_before passed
  pub each : (t : Triple) → Contains passed t ↔ IsPassed counts pfs directory first t

-- What the name before makes of those that were passed: with it they are those from its key on. Where there is none they
-- are all that the tree has.
abbrev pub Passes : Content → ℕ → Obj → FileTree → List Triple → Option (ℕ × DirEntry) → Type 0
Passes counts pfs directory tree passed None = passed ≡ entries_in tree directory
Passes counts pfs directory tree passed (Some found) =
    ArePassed counts pfs directory found.0 (insert_by is_triple_before (triple_of directory found.1.name found.1.obj) passed)
