-- The bytes of a block over which a piece was laid.
use Rattle.std.proofs.Common.{◌≡◌, ℕ, ◌+◌, ◌-◌, ◌<◌, ◌≤◌, List, Option, None, Some, ◌++◌, drop, length, min, refl, replicate, take, ap, sym, subst}
use Rattle.std.proofs.Common.{◌∙◌, inl, inr, arith}
use Rattle.std.specs.Prelude.{IfSome, slice_index}
use Rattle.std.proofs.lemmas.Bool.{cases_lt}
use Rattle.std.proofs.lemmas.List.{get_or-append_right, get_or-drop, get_or-replicate, get_or-take, get_or_append_left, length-replicate, length-take}
use Rattle.std.proofs.lemmas.List.{length-take-le}
use Rattle.std.proofs.Math.ListN.{get_or-eq_default}
use Rattle.hm_key.specs.Balance.{Balanced, content_of}
use Rattle.hm_key.specs.Counts.{Content}
use Rattle.hm_key.specs.Extents.{Extent}
use Rattle.hm_key.specs.declared.element.Element.{Element}
use Rattle.hm_records.specs.View.{IsFileByte}
use Rattle.hm_cursor.specs.Told.{Lists, OnBalanced}
use Rattle.hm_files.specs.Bytes.{AreBytesFrom}
use Rattle.hm_files.proofs.WriteLemmas.{IsMerged}

-- what a balanced store is known to hold
pub known_balanced : (es : Option (List Element)) (xs : Option (List Extent)) (Q : Lists → Type 0) → Balanced es xs → OnBalanced es xs Q
    → IfSome (content_of es xs) Q
known_balanced None xs Q balanced q = tt
known_balanced (Some es) None Q balanced q = tt
known_balanced (Some es) (Some xs) Q balanced q = q balanced

-- the front of zeros has zeros alone
pub zeros_front : (n m k : ℕ) → slice_index (take n (replicate m 0)) k ≡ 0
zeros_front n m k = elim (cases_lt k n) [
  | inl inside ↦ get_or-take n (replicate m 0) k 0 inside ∙ zeros m k
  | inr past' ↦ get_or-eq_default (take n (replicate m 0)) 0 (short n (replicate m 0) past')
] where
  zeros : (m k : ℕ) → slice_index (replicate m 0) k ≡ 0
  zeros m k = elim (cases_lt k m) [
    | inl inside ↦ get_or-replicate m k 0 0 inside
    | inr past' ↦
        let sized : length (replicate {A = ℕ} m 0) ≡ m = length-replicate {A = ℕ} m 0 in
        get_or-eq_default (replicate m 0) 0 (omega (arith, past', sized))
  ]

  short : (n : ℕ) (xs : List ℕ) → n ≤ k → length (take n xs) ≤ k
  short n xs past' = omega (arith, length-take n xs, past')

-- a whole block is merged as it comes
pub merged_whole : (C : Content) (pfs obj size at begin : ℕ) (piece : List ℕ) → at ≡ begin → IsMerged C pfs obj size at begin piece piece
merged_whole C pfs obj size at begin piece same = record {
  put = λ x from to. ap (λ (n : ℕ). slice_index piece (x - n)) (sym same);
  kept = λ x from below inside out. elim out [
    | inl before ↦ absurd (omega (arith, before, from, same))
    | inr after ↦ absurd (omega (arith, after, inside, same))
  ];
  zero = λ x from past' before. absurd (omega (arith, from, before, same));
}

module _ (C : Content) (pfs obj size at begin : ℕ) (piece read rest bytes : List ℕ) (from_start : begin ≤ at)
    (sized : length read ≡ min (length bytes) (size - begin))
    (laid : bytes ≡ take (at - begin) (read ++ rest) ++ (piece ++ drop (at - begin + length piece) (read ++ rest)))
    (inside : at - begin + length piece ≤ length (read ++ rest)) (zeros : (k : ℕ) → slice_index rest k ≡ 0)
    (are : AreBytesFrom C pfs obj size begin read) where
  inner : ℕ
  inner = at - begin

  front_long : length (take (at - begin) (read ++ rest)) ≡ at - begin
  front_long = length-take-le (at - begin) (read ++ rest) (omega (arith, inside))

  -- before the piece stands what was there
  early : (x : ℕ) → begin ≤ x → x < at → slice_index bytes (x - begin) ≡ slice_index (read ++ rest) (x - begin)
  early x from to =
      ap (λ (b : List ℕ). slice_index b (x - begin)) laid
      ∙ get_or_append_left (take (at - begin) (read ++ rest)) (piece ++ drop (at - begin + length piece) (read ++ rest)) 0 (x - begin)
      (omega (arith, from, to, front_long, from_start))
      ∙ get_or-take (at - begin) (read ++ rest) (x - begin) 0 (omega (arith, from, to))

  -- from it on the piece, and what comes after it
  behind : (x : ℕ) → at ≤ x → slice_index bytes (x - begin) ≡ slice_index (piece ++ drop (at - begin + length piece) (read ++ rest)) (x - at)
  behind x from =
      ap (λ (b : List ℕ). slice_index b (x - begin)) laid
      ∙ get_or-append_right (take (at - begin) (read ++ rest)) (piece ++ drop (at - begin + length piece) (read ++ rest)) (at - begin) (x - begin) 0 front_long
      (omega (arith, from, from_start))
      ∙ ap (slice_index (piece ++ drop (at - begin + length piece) (read ++ rest))) (omega (arith, from, from_start))

  later : (x : ℕ) → at + length piece ≤ x → slice_index bytes (x - begin) ≡ slice_index (read ++ rest) (x - begin)
  later x from =
      behind x (omega (arith, from))
      ∙ get_or-append_right piece (drop (at - begin + length piece) (read ++ rest)) (length piece) (x - at) 0 refl (omega (arith, from))
      ∙ get_or-drop (at - begin + length piece) (read ++ rest) (x - at - length piece) 0
      ∙ ap (slice_index (read ++ rest)) (omega (arith, from, from_start))

  shown : (x : ℕ) → begin ≤ x → x < size → x < begin + length bytes → IsFileByte C pfs obj size x (slice_index (read ++ rest) (x - begin))
  shown x from below within =
      let k : ℕ = x - begin in
      let short : k < length read = omega (arith, from, below, within, sized) in
      let place : begin + k ≡ x = omega (arith, from) in
      let byte : IsFileByte C pfs obj size x (slice_index read k) =
      subst (λ (y : ℕ). IsFileByte C pfs obj size y (slice_index read k)) place (are.each k short) in
      subst (λ (b : ℕ). IsFileByte C pfs obj size x b) (sym (get_or_append_left read rest 0 k short)) byte

  pub merged_laid : IsMerged C pfs obj size at begin piece bytes
  merged_laid = record {
    put = λ x from to. behind x from ∙ get_or_append_left piece (drop (at - begin + length piece) (read ++ rest)) 0 (x - at) (omega (arith, from, to));
    kept = λ x from below within out. elim out [
      | inl before ↦ subst (λ (b : ℕ). IsFileByte C pfs obj size x b) (sym (early x from before)) (shown x from below within)
      | inr after ↦ subst (λ (b : ℕ). IsFileByte C pfs obj size x b) (sym (later x after)) (shown x from below within)
    ];
    zero = λ x from past' before.
        early x from before
        ∙ get_or-append_right read rest (length read) (x - begin) 0 refl (omega (arith, sized, from, past'))
        ∙ zeros (x - begin - length read);
  }
