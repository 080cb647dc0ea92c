-- Directory entries, and the one spelling of each: 9 to 263 bytes. A number stands with its lowest byte
-- first.
use Rattle.std.specs.Prelude.{◌≡◌, ℕ, ◌^◌, ◌<◌, List, ◌++◌}
use Rattle.byteorder.specs.Endian.{little_bytes}
use Rattle.hm_types.specs.Name.{IsName}
use Rattle.hm_types.specs.declared.id.Obj.{Obj}
use Rattle.hm_records.specs.declared.entry.DirEntry.{DirEntry}

-- an entry with a name that a directory's entry may have, of any object
pub record IsEntry (entry : DirEntry) : Type 0 where
  pub obj : entry.obj.0 < 2 ^ 64
  pub name : IsName entry.name

-- the bytes of an entry: the object's number, and the name after it
unfoldable pub entry_bytes : DirEntry → List ℕ
entry_bytes entry = little_bytes 8 entry.obj.0 ++ entry.name

-- some bytes spell an entry with this object and this name
abbrev pub IsSpelled : List ℕ → Obj → List ℕ → Type 0
IsSpelled bytes obj name =
    IsEntry (record { obj = obj; name = name }) × (bytes ≡ entry_bytes (record { obj = obj; name = name }))
