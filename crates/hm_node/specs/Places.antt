-- The places of a page: where they stand, what stands in several of them, and what is zero.
use Rattle.std.specs.Prelude.{◌≡◌, ℕ, zero, suc, ◌+◌, ◌*◌, ◌≤◌, ◌<◌, List, [], ◌∷◌, ◌++◌, length}
use Rattle.hm_types.specs.declared.limits.TheConstants.{PAGE_BYTES}
use Rattle.hm_fields.specs.Fields.{get}
use Rattle.hm_key.specs.declared.base.Base.{Base}
use Rattle.hm_node.specs.Base.{base_in}

-- where place `i` begins, in bytes from the start of the page; each has 64 bytes
abbrev pub place : ℕ → ℕ
place i = 64 + 64 * i

-- what a function gives at 0, 1, .., so many times
unfoldable pub first : {A : Type 0} → (ℕ → A) → ℕ → List A
first f zero = []
first f (suc n) = first f n ++ f n ∷ []

-- the bases of so many places
abbrev pub bases_in : List ℕ → ℕ → List Base
bases_in page n = first (λ i. base_in page (place i)) n

-- each byte from one place to before another is 0
pub record IsZero (page : List ℕ) (from to : ℕ) : Type 0 where
  pub each : (k : ℕ) → from ≤ k → k < to → get page k 1 ≡ 0

-- the bytes of the head that have no meaning, and all bytes from `end` on, are 0
pub record IsZeroOutside (page : List ℕ) (end : ℕ) : Type 0 where
  pub head : IsZero page 4 8
  pub rest_of_head : IsZero page 16 64
  pub rest : IsZero page end PAGE_BYTES

-- What a write of some values into the first places makes of a page whose places are zero: `reads` is how one
-- value stands in the first `width` bytes of a place.
pub record IsWritten {A : Type 0} (reads : List ℕ → ℕ → A) (width : ℕ) (xs : List A) (old new : List ℕ) : Type 0 where
  pub sized : length new ≡ PAGE_BYTES
  pub head : (at size : ℕ) → at + size ≤ 64 → get new at size ≡ get old at size
  pub values : first (λ i. reads new (place i)) (length xs) ≡ xs
  pub gaps : (i : ℕ) → i < length xs → IsZero new (place i + width) (place i + 64)
  pub rest : IsZero new (place (length xs)) PAGE_BYTES
