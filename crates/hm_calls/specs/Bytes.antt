-- The bytes of files, as calls find them.
use Rattle.std.specs.Prelude.{◌≡◌, ℕ, List}
use Rattle.hm_key.specs.Counts.{Counts}
use Rattle.hm_model.specs.Bytes.{read_at}
use Rattle.hm_records.specs.View.{AreFileBytes}
use Rattle.hm_cursor.specs.Told.{Lists, fulls}
use Rattle.hm_dirs.specs.declared.position.Stand.{Stand}

-- of whatever bytes the file has that a walk came to, these are the ones from an offset on, at most so many
abbrev pub AreAsked : Stand → ℕ → ℕ → ℕ → List ℕ → Lists → Type 0
AreAsked file size offset count bytes lists =
    (content : List ℕ) → AreFileBytes (Counts (fulls lists) file.as_of.0) file.at.pfs.0 file.at.object.0 size content
    → bytes ≡ read_at offset count content
