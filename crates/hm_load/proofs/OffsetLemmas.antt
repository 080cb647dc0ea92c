-- The entries of layer 1, piece by piece.
use Rattle.std.proofs.Common.{◌≡◌, ℕ, ◌+◌, ◌-◌, ◌*◌, ◌<◌, ◌≤◌, List, nat_lt, inl, inr, refl, ap, sym, subst, ◌∙◌, arith, length, slice_index}
use Rattle.std.proofs.Common.{slice_range}
use Rattle.std.proofs.lemmas.Bool.{cases_lt, cond_both, ltb-true}
use Rattle.hm_types.specs.Layout.{layer2_blocks}
use Rattle.hm_fields.specs.Fields.{AreBytes, get}
use Rattle.hm_freemap.specs.Layer1.{HoldsLayer1, IsLayer1, layer1_bytes, layer1_of}
use Rattle.hm_freemap.proofs.SpellLemmas.{layer1_back, layer1_held, layer1_spelled}
use Rattle.hm_load.specs.Faults.{IsFirstBad}
use Rattle.hm_load.specs.Layer1.{HasLayer1Entry, HasOffset, HasThreeZeros, IsInPiece, IsLayer1Damage, layer1_page}
use Rattle.hm_load.specs.Reading.{volume_bytes}
use Rattle.hm_load.proofs.RangeLemmas.{part_read}

-- what stands in an entry
layer1_is : (bigblocks i : ℕ) → bigblocks ≤ 1048576 → IsLayer1 (layer1_of bigblocks i)
layer1_is bigblocks i size =
    let few : layer2_blocks bigblocks ≤ 2 = omega arith in
    cond_both (nat_lt i (layer2_blocks bigblocks)) _ _ IsLayer1
    (λ yes. let below = ltb-true i (layer2_blocks bigblocks) yes in
    inl (record { zone = omega arith; volume = omega arith; begin = omega arith }))
    (λ no. inr refl)

are_bytes : (bytes : List ℕ) → ((k : ℕ) → slice_index bytes k < 256) → AreBytes bytes
unfolding get
are_bytes bytes small k = omega (arith, small k)

-- bytes are an entry's exactly where their first word is its offset, and the others are zeros
module _ (bytes : List ℕ) (at bigblocks i : ℕ) (size : bigblocks ≤ 1048576) where
  pub words_of : ((k : ℕ) → slice_index bytes k < 256) → at + 32 ≤ length bytes → get bytes at 8 ≡ layer1_of bigblocks i → HasThreeZeros bytes (at + 8)
      → HasOffset bytes at bigblocks i
  words_of small long raw zeros =
      let two : get bytes (at + 16) 8 ≡ 0 = ap (λ (n : ℕ). get bytes n 8) (omega arith) ∙ zeros.1 in
      let three : get bytes (at + 24) 8 ≡ 0 = ap (λ (n : ℕ). get bytes n 8) (omega arith) ∙ zeros.2 in
      let held : HoldsLayer1 bytes at =
      record { offset = subst IsLayer1 (sym raw) (layer1_is bigblocks i size); zero = (zeros.0, two, three) } in
      layer1_spelled bytes at (are_bytes bytes small) long held ∙ ap layer1_bytes raw

  pub offset_word : HasOffset bytes at bigblocks i → get bytes at 8 ≡ layer1_of bigblocks i
  offset_word has = layer1_back bytes at (layer1_of bigblocks i) (layer1_is bigblocks i size) has

  pub zero_words : HasOffset bytes at bigblocks i → HasThreeZeros bytes (at + 8)
  zero_words has =
      let zero = (layer1_held bytes at (layer1_of bigblocks i) (layer1_is bigblocks i size) has).zero in (
        zero.0,
        ap (λ (n : ℕ). get bytes n 8) (omega arith) ∙ zero.1,
        ap (λ (n : ℕ). get bytes n 8) (omega arith) ∙ zero.2,
      )

-- a piece that was read
module _ (image bytes : List ℕ) (bigblocks piece place len : ℕ) (size : 24 ≤ bigblocks) (low : piece < 64)
    (begins : place ≡ 8388608 + piece * 131072) (long : len ≡ 131072) (same : bytes ≡ volume_bytes image bigblocks place len) where
  entry_same : (k : ℕ) → k < 4096
      → slice_range bytes (k * 32) (k * 32 + 32) ≡ slice_range image (8388608 + 32 * (piece * 4096 + k)) (8388608 + 32 * (piece * 4096 + k) + 32)
  entry_same k few =
      let at = 8388608 + 32 * (piece * 4096 + k) in
      let from : place + k * 32 ≡ at = omega arith in
      let to : place + (k * 32 + 32) ≡ at + 32 = omega arith in
      part_read image bytes bigblocks place len (k * 32) (k * 32 + 32) same (omega arith) (omega arith) (omega arith)
      ∙ (ap (λ (i : ℕ). slice_range image i (place + (k * 32 + 32))) from ∙ ap (λ (i : ℕ). slice_range image at i) to)

  to_image : (k : ℕ) → k < 4096 → IsInPiece bigblocks (piece * 4096) bytes k → HasLayer1Entry image bigblocks (piece * 4096 + k)
  to_image k few has = sym (entry_same k few) ∙ has

  -- the entries so far, where those of the piece are right
  pub entries_more : ((i : ℕ) → i < piece * 4096 → HasLayer1Entry image bigblocks i) → ((k : ℕ) → k < 4096 → IsInPiece bigblocks (piece * 4096) bytes k)
      → (i : ℕ) → i < (piece + 1) * 4096 → HasLayer1Entry image bigblocks i
  entries_more before right i below = elim (cases_lt i (piece * 4096)) [
    | inl earlier ↦ before i earlier
    | inr from ↦
        let few : i - piece * 4096 < 4096 = omega arith in
        let sum : piece * 4096 + (i - piece * 4096) ≡ i = omega arith in
        subst (λ (j : ℕ). HasLayer1Entry image bigblocks j) sum (to_image (i - piece * 4096) few (right (i - piece * 4096) few))
  ]

  -- the first damage, where one of the piece is wrong
  pub entry_damage : ((i : ℕ) → i < piece * 4096 → HasLayer1Entry image bigblocks i) → (k : ℕ) → k < 4096
      → IsFirstBad (IsInPiece bigblocks (piece * 4096) bytes) k
      → IsLayer1Damage image bigblocks (layer1_page (piece * 4096 + k)) 7
  entry_damage before k few first = record {
    i = piece * 4096 + k;
    low = omega arith;
    first = record {
      before = λ j below. elim (cases_lt j (piece * 4096)) [
        | inl earlier ↦ before j earlier
        | inr from ↦
            let less : j - piece * 4096 < k = omega arith in
            let sum : piece * 4096 + (j - piece * 4096) ≡ j = omega arith in
            subst (λ (i : ℕ). HasLayer1Entry image bigblocks i) sum (to_image (j - piece * 4096) (omega arith) (first.before (j - piece * 4096) less))
      ];
      bad = λ good. first.bad (entry_same k few ∙ good);
    };
    place = refl;
    number = refl;
  }
