-- Which bytes of a block show, and what a byte of it is then.
use Rattle.std.proofs.Common.{◌≡◌, ℕ, ◌+◌, ◌-◌, ◌*◌, ◌/◌, ◌<◌, ◌≤◌, List, length, refl, ap, subst, inl, inr, arith}
use Rattle.std.specs.Prelude.{◌↔◌, ◌⊎◌, slice_index}
use Rattle.hm_types.specs.Elements.{FullElement}
use Rattle.hm_types.specs.declared.limits.TheConstants.{BLOCK_BYTES}
use Rattle.hm_key.specs.Counts.{Content, Counts, bytes_subject}
use Rattle.hm_records.specs.View.{EndsInBlock, IsFileByte, ShowsInBlock, ShowsRather, beside, covered, none}
use Rattle.hm_records.proofs.SearchLemmas.{shown_or_none}

-- two sizes show the same of a block: they are one, or both reach its end
abbrev pub SizesAgree : ℕ → ℕ → ℕ → Type 0
SizesAgree block size size' =
    (size ≡ size') ⊎ ((block * BLOCK_BYTES + BLOCK_BYTES ≤ size) × (block * BLOCK_BYTES + BLOCK_BYTES ≤ size'))

rather_alike : (block size size' a b : ℕ) → SizesAgree block size size' → EndsInBlock block a
    → EndsInBlock block b → ShowsRather size a b → ShowsRather size' a b
rather_alike block size size' a b (inl same) here there rather = subst (λ (n : ℕ). ShowsRather n a b) same rather
rather_alike block size size' a b (inr both) here there (inl (within, inl last)) = inl (omega (arith, here.to, both.1), inl last)
rather_alike block size size' a b (inr both) here there (inl (within, inr past)) = absurd (omega (arith, past, both.0, there.to))
rather_alike block size size' a b (inr both) here there (inr past) = absurd (omega (arith, past.0, both.0, here.to))

-- the same count in a block
abbrev pub CountAlike : ℕ → ℕ → ℕ → Content → Content → Type 0
CountAlike pfs obj block C D = (n : ℕ) (bytes : List ℕ) → EndsInBlock block n → D (bytes_subject pfs obj n) bytes ↔ C (bytes_subject pfs obj n) bytes

shown_alike : (pfs obj block size size' end : ℕ) (bytes : List ℕ) (C D : Content) → SizesAgree block size size' → CountAlike pfs obj block C D
    → ShowsInBlock C pfs obj size block end bytes → ShowsInBlock D pfs obj size' block end bytes
shown_alike pfs obj block size size' end bytes C D agree same shown = record {
  there = (same end bytes shown.place).1 shown.there;
  place = shown.place;
  rather = λ other others counts place.
      rather_alike block size size' end other agree shown.place place (shown.rather other others ((same other others place).0 counts) place);
}

-- a byte is as what counts in its block
pub byte_alike : (pfs obj size size' x byte : ℕ) (C D : Content) → SizesAgree (x / BLOCK_BYTES) size size' → CountAlike pfs obj (x / BLOCK_BYTES) C D
    → IsFileByte C pfs obj size x byte → IsFileByte D pfs obj size' x byte
byte_alike pfs obj size size' x byte C D agree same (covered end bytes shown after reaches is) =
    covered end bytes (shown_alike pfs obj (x / BLOCK_BYTES) size size' end bytes C D agree same shown) after reaches is
byte_alike pfs obj size size' x byte C D agree same (beside end bytes shown out is) =
    beside end bytes (shown_alike pfs obj (x / BLOCK_BYTES) size size' end bytes C D agree same shown) out is
byte_alike pfs obj size size' x byte C D agree same (none nothing is) =
    none (λ n bytes counts place. nothing n bytes ((same n bytes place).0 counts) place) is

-- where all that counts in a byte's block ends by the byte or begins after it, the byte is zero
pub byte_zero : (es : List FullElement) (t pfs obj size x : ℕ)
    → ((n : ℕ) (bytes : List ℕ) → Counts es t (bytes_subject pfs obj n) bytes → EndsInBlock (x / BLOCK_BYTES) n → (n ≤ x) ⊎ (x + length bytes < n))
    → IsFileByte (Counts es t) pfs obj size x 0
byte_zero es t pfs obj size x out = elim (shown_or_none es t pfs obj size (x / BLOCK_BYTES)) [
  | inl nothing ↦ none nothing refl
  | inr (end, bytes, shown) ↦ beside end bytes shown (out end bytes shown.there shown.place) refl
]

-- Bytes that begin where a block begins show in it for a size that they reach up to, where whatever counts in it besides ends
-- before they do, or past the size.
module _ (pfs obj begin after : ℕ) (bytes : List ℕ) (D : Content) (some : 1 ≤ length bytes) (few : length bytes ≤ BLOCK_BYTES)
    (there : D (bytes_subject pfs obj (begin + length bytes)) bytes) (reaches : begin + length bytes ≤ after)
    (limits : (n : ℕ) (other : List ℕ) → D (bytes_subject pfs obj n) other → begin < n → n ≤ begin + BLOCK_BYTES → (n ≤ begin + length bytes) ⊎ (after < n))
  where
    put_shown : (block : ℕ) → begin ≡ block * BLOCK_BYTES → ShowsInBlock D pfs obj after block (begin + length bytes) bytes
    put_shown block start = record {
      there = there;
      place = record { from = omega (arith, start, some); to = omega (arith, start, few) };
      rather = λ other others counts place.
          elim (limits other others counts (omega (arith, place.from, start)) (omega (arith, place.to, start))) [
            | inl low ↦ inl (reaches, inl low)
            | inr past ↦ inl (reaches, inr past)
          ];
    }

    -- they are the file's
    pub byte_put : (x : ℕ) → begin ≡ x / BLOCK_BYTES * BLOCK_BYTES → x < begin + length bytes → IsFileByte D pfs obj after x (slice_index bytes (x - begin))
    byte_put x start to =
        covered (begin + length bytes) bytes (put_shown (x / BLOCK_BYTES) start) to (omega (arith, start))
        (ap (slice_index bytes) (omega (arith, start)))
