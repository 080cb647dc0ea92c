-- The append big-blocks of a header are four of its volume.
use Rattle.std.proofs.Common.{◌≡◌, ◌≢◌, ◌⊎◌, ℕ, zero, suc, ◌<◌, ◌≤◌, List, take, [], ◌∷◌, length, sym, arith, slice_index, inl, inr, ⊎_elim}
use Rattle.std.proofs.lemmas.Bool.{cases_eq, cases_lt}
use Rattle.hm_header.specs.Range.{IsAppend, IsHeader}
use Rattle.hm_header.specs.declared.header.Header.{Header}
use Rattle.hm_freemap.specs.Stand.{AreBelow, AreDistinct, AreOfPool}

pub header_below : (header : Header) → IsHeader header → AreBelow header.bigblocks header.append
header_below header is k low = (is.append k low).0.1

pub header_pool : (header : Header) → IsHeader header → AreOfPool header.bigblocks header.append
header_pool header is k low = (is.append k low).0

-- of four, each is none of those before it
away : (n : ℕ) (append : List ℕ) → length append ≡ 4 → ((k : ℕ) → k < 4 → IsAppend n (take k append) (slice_index append k))
    → (j k : ℕ) → j < k → k < 4 → slice_index append k ≢ slice_index append j
away n (a ∷ b ∷ c ∷ d ∷ []) four each zero zero less low = absurd (omega (arith, less))
away n (a ∷ b ∷ c ∷ d ∷ []) four each zero (suc zero) less low = (each 1 (omega arith)).1.0
away n (a ∷ b ∷ c ∷ d ∷ []) four each zero (suc (suc zero)) less low = (each 2 (omega arith)).1.0
away n (a ∷ b ∷ c ∷ d ∷ []) four each zero (suc (suc (suc zero))) less low = (each 3 (omega arith)).1.0
away n (a ∷ b ∷ c ∷ d ∷ []) four each (suc zero) (suc (suc zero)) less low = (each 2 (omega arith)).1.1.0
away n (a ∷ b ∷ c ∷ d ∷ []) four each (suc zero) (suc (suc (suc zero))) less low = (each 3 (omega arith)).1.1.0
away n (a ∷ b ∷ c ∷ d ∷ []) four each (suc (suc zero)) (suc (suc (suc zero))) less low = (each 3 (omega arith)).1.1.1.0
away n append four each j k less low = absurd (omega (arith, four, less, low))

pub header_distinct : (header : Header) → IsHeader header → AreDistinct header.append
header_distinct header is j k first second same =
    ⊎_elim (λ (one : j ≡ k). one) (λ apart. by_order apart (cases_lt j k)) (cases_eq j k) where
      by_order : j ≢ k → (j < k) ⊎ (k ≤ j) → j ≡ k
      by_order apart (inl less) = absurd (away header.bigblocks header.append is.four is.append j k less second (sym same))
      by_order apart (inr more) = absurd (away header.bigblocks header.append is.four is.append k j (omega (arith, more, apart)) first same)

-- what a header says of its append big-blocks
pub ruleset header_rules = (header_below, header_distinct, header_pool)
