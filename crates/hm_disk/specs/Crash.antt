-- What a disk holds, as plain data, and what a crash may leave of it.
use Rattle.std.specs.Prelude.{◌≡◌, ◌⊎◌, ℕ, ◌+◌, ◌<◌, ◌≤◌, Bool, true, ◌&&◌, ◌||◌, nat_lt, nat_le, List, [], ◌∷◌, length, slice_index}

-- what a disk tells: the bytes that reads give, the ranges that no sync has settled, each a place with
-- a length, and the moment, which a sync that succeeds raises, and nothing else
pub record Told : Type 0 where
  pub bytes : List ℕ
  pub unsettled : List (ℕ × ℕ)
  pub moment : ℕ

-- a byte lies in none of these ranges
abbrev pub Outside : List (ℕ × ℕ) → ℕ → Type 0
Outside [] byte = Unit {0}
Outside (range ∷ ranges) byte =
    ((byte < range.0) ⊎ (range.0 + range.1 ≤ byte)) × Outside ranges byte

-- whether a byte lies in none of these ranges
abbrev pub is_outside : List (ℕ × ℕ) → ℕ → Bool
is_outside [] byte = true
is_outside (range ∷ ranges) byte =
    (nat_lt byte range.0 || nat_le (range.0 + range.1) byte) && is_outside ranges byte

-- a crash of a disk with these bytes and these unsettled ranges may leave this image: it has the
-- disk's size, and agrees with the bytes outside the ranges
pub record MayLeave (bytes : List ℕ) (unsettled : List (ℕ × ℕ)) (image : List ℕ) : Type 0 where
  pub size : length image ≡ length bytes
  pub same : (byte : ℕ) → byte < length bytes → Outside unsettled byte
      → slice_index image byte ≡ slice_index bytes byte
