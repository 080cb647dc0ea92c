-- The bytes of a file. Bytes that were never written are zero.
use Rattle.std.specs.Prelude.{ℕ, ◌+◌, List, ◌++◌, length, take, drop}
use Rattle.hm_types.specs.Bytes.{extended}

-- the bytes with these from the offset on, and zeros where the offset lies past their end
abbrev pub written : ℕ → List ℕ → List ℕ → List ℕ
written offset new bytes =
    take offset (extended offset bytes) ++ (new ++ drop (offset + length new) bytes)

-- the bytes from the offset on, at most so many
abbrev pub read_at : ℕ → ℕ → List ℕ → List ℕ
read_at offset count bytes = take count (drop offset bytes)
