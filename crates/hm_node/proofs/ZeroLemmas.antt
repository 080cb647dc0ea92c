-- Parts of a page that are 0.
use Rattle.std.proofs.Common.{◌≡◌, ℕ, ◌+◌, ◌<◌, ◌≤◌, inl, inr, List, refl, sym, ◌∙◌, arith, ◌↔◌, IsTrue, nat_eq}
use Rattle.std.proofs.lemmas.Bool.{cases_lt, eqb-true}
use Rattle.hm_fields.specs.Fields.{get}
use Rattle.hm_fields.proofs.ByteLemmas as bytes
use Rattle.hm_node.specs.Places.{IsZero}

-- the bytes of a field that is 0
pub zero_bytes : (page : List ℕ) (at size : ℕ) → get page at size ≡ 0 → IsZero page at (at + size)
zero_bytes page at size none = record { each = bytes.zero_bytes page at size none }

-- a field of bytes that are 0
pub zero_field : (page : List ℕ) (at size : ℕ) → IsZero page at (at + size) → get page at size ≡ 0
zero_field page at size zero = bytes.zero_field page at size zero.each

-- the same for a test of the number
pub zero_test : (page : List ℕ) (at size number : ℕ) → number ≡ get page at size → IsTrue (nat_eq number 0) ↔ IsZero page at (at + size)
zero_test page at size number read =
    (λ is. zero_bytes page at size (sym read ∙ eqb-true number 0 is), λ zero. rw (read, zero_field page at size zero) refl)

-- parts that are 0, one after the other
pub zero_both : (page : List ℕ) (from between to : ℕ) → IsZero page from between → IsZero page between to → IsZero page from to
zero_both page from between to below above = record { each = at } where
  at : (k : ℕ) → from ≤ k → k < to → get page k 1 ≡ 0
  at k low high = elim (cases_lt k between) [
    | inl before ↦ below.each k low before
    | inr after ↦ above.each k after high
  ]

-- a part of what is 0
pub zero_part : (page : List ℕ) (from to low high : ℕ) → from ≤ low → high ≤ to → IsZero page from to → IsZero page low high
zero_part page from to low high a b zero = record { each = λ k c d. zero.each k (omega arith) (omega arith) }

-- nothing is 0
pub zero_none : (page : List ℕ) (from to : ℕ) → to ≤ from → IsZero page from to
zero_none page from to none = record { each = λ k low high. absurd (omega arith) }

-- two parts, one after the other, are 0 exactly where the whole is
pub zero_split : (page : List ℕ) (from between to : ℕ) → from ≤ between → between ≤ to
    → (IsZero page from between × IsZero page between to) ↔ IsZero page from to
zero_split page from between to low high = (
  λ both. zero_both page from between to both.0 both.1,
  λ zero.
      (zero_part page from to from between (omega arith) high zero, zero_part page from to between to low (omega arith) zero),
)
