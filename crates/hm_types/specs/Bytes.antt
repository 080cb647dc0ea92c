-- The bytes of a file with another size. Bytes that were never written are zero.
use Rattle.std.specs.Prelude.{ℕ, ◌-◌, List, ◌++◌, length, take, replicate}

-- the bytes with zeros added, up to this size where they are shorter
abbrev pub extended : ℕ → List ℕ → List ℕ
extended size bytes = bytes ++ replicate (size - length bytes) 0

-- the bytes with this size: cut, or with zeros added
abbrev pub resized : ℕ → List ℕ → List ℕ
resized size bytes = take size (extended size bytes)
