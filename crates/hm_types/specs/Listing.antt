-- The entries of a directory's listing, which are pairs of a kind and a name.
use Rattle.std.specs.Prelude.{ℕ, List}

-- the kind of an entry's object
abbrev pub kind_of : ℕ × List ℕ → ℕ
kind_of entry = entry.0

-- the name of an entry
abbrev pub name_of : ℕ × List ℕ → List ℕ
name_of entry = entry.1
