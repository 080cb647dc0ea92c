-- The fields of a page, which is the list of its bytes. A field is so many bytes from a place on, and holds
-- a number with its lowest byte first.
use Rattle.std.specs.Prelude.{ℕ, ◌+◌, ◌<◌, ◌≤◌, ◌⊎◌, List, ◌++◌, take, drop, replicate}
use Rattle.byteorder.specs.Endian.{little_bytes, little_from}
use Rattle.hm_types.specs.declared.limits.TheConstants.{PAGE_BYTES}

-- a page of zeros
unfoldable pub zero_page : List ℕ
zero_page = replicate PAGE_BYTES 0

-- the number in the field of this size
unfoldable pub get : List ℕ → ℕ → ℕ → ℕ
get page at size = little_from at size page

-- the bytes before a place. Where a list ends before it, zeros follow, since `get` reads a byte past the
-- end as 0 too: so no law of `get` and `put` has to ask how long a page is
abbrev pub before : List ℕ → ℕ → List ℕ
before page at = take at (page ++ replicate at 0)

-- the page with a number in the field of this size, and each byte before and after the field as it was
unfoldable pub put : List ℕ → ℕ → ℕ → ℕ → List ℕ
put page at size value = before page at ++ (little_bytes size value ++ drop (at + size) page)

-- two fields share no byte
abbrev pub Apart : ℕ → ℕ → ℕ → ℕ → Type 0
Apart at size at' size' = (at + size ≤ at') ⊎ (at' + size' ≤ at)

-- each byte of the list is one, as those of a page are
abbrev pub AreBytes : List ℕ → Type 0
AreBytes page = (k : ℕ) → get page k 1 < 256
