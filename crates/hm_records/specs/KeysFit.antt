-- That the keys of directory entries are made of their names.
use Rattle.std.specs.Prelude.{◌≡◌, ℕ, List}
use Rattle.std.specs.List.{Contains}
use Rattle.hm_types.specs.Elements.{FullElement}
use Rattle.hm_key.specs.declared.rec_type.TheConstants.{DIRECTORY_ENTRY}
use Rattle.hm_records.specs.declared.entry.DirEntry.{DirEntry}
use Rattle.hm_records.specs.Entry.{IsEntry, entry_bytes}
use Rattle.hm_records.specs.Payload.{KeyFits}

-- each directory entry of a list has a key that fits its name, whatever its low 16 bits are
abbrev pub KeysFit : (List ℕ → ℕ) → List FullElement → Type 0
KeysFit hash es =
    (e : FullElement) (entry : DirEntry) → Contains es e → e.key.rec_type ≡ DIRECTORY_ENTRY → IsEntry entry
    → e.bytes ≡ entry_bytes entry → KeyFits hash e.key.key entry.name
