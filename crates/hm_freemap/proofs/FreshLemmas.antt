-- A page that is filled with the entries of a new volume.
use Rattle.std.proofs.Common.{◌≡◌, ℕ, ◌+◌, ◌*◌, ◌<◌, inr, ⊎_elim, List, sym, subst, ◌∙◌, arith}
use Rattle.std.proofs.lemmas.Bool.{cases_eq}
use Rattle.hm_fields.specs.Fields.{Apart, get}
use Rattle.hm_freemap.specs.Entry.{entry_in}
use Rattle.hm_freemap.specs.Fresh.{HoldsFresh, fresh_entry}
use Rattle.hm_freemap.proofs.PutLemmas.{same_entry}

-- a further entry
pub fresh_more : (bigblocks : ℕ) (taken : List ℕ) (first i : ℕ) (old new : List ℕ) → HoldsFresh bigblocks taken first i old
    → entry_in new (i * 16) ≡ fresh_entry bigblocks taken (first + i) → get new (i * 16 + 12) 4 ≡ 0
    → ((at width : ℕ) → Apart (i * 16) 16 at width → get new at width ≡ get old at width)
    → HoldsFresh bigblocks taken first (i + 1) new
fresh_more bigblocks taken first i old new holds value zero others = record {
  entry = λ j low. ⊎_elim
      (λ (same : j ≡ i). subst (λ (x : ℕ). entry_in new (x * 16) ≡ fresh_entry bigblocks taken (first + x)) (sym same) value)
      (λ other.
      let before : j < i = omega (arith, low, other) in
      same_entry new old (j * 16) (others (j * 16) 4 (inr (omega arith))) (others (j * 16 + 4) 4 (inr (omega arith)))
      (others (j * 16 + 8) 4 (inr (omega arith)))
      ∙ holds.entry j before)
      (cases_eq j i);
  zero = λ j low. ⊎_elim
      (λ (same : j ≡ i). subst (λ (x : ℕ). get new (x * 16 + 12) 4 ≡ 0) (sym same) zero)
      (λ other.
      let before : j < i = omega (arith, low, other) in
      others (j * 16 + 12) 4 (inr (omega arith)) ∙ holds.zero j before)
      (cases_eq j i);
}
