-- Bytes that were moved within a page.
use Rattle.std.proofs.Common.{◌≡◌, ℕ, zero, suc, ◌+◌, ◌-◌, ◌<◌, ◌≤◌, List, ◌++◌, length, take, drop, replicate, refl, sym, ap, ◌∙◌, arith}
use Rattle.std.specs.Prelude.{slice_index}
use Rattle.std.specs.List.{CopiedTo, SameBelow, SameFrom}
use Rattle.std.proofs.lemmas.List.{length-replicate, length-take-le, get_or-take, get_or-drop, get_or_append_left, get_or-append_right}
use Rattle.byteorder.specs.Endian.{little_from}
use Rattle.hm_types.specs.declared.limits.TheConstants.{PAGE_BYTES}
use Rattle.hm_fields.specs.Fields.{get}
use Rattle.hm_fields.specs.Moves.{HasCleared, HasMoved}
use Rattle.hm_fields.proofs.FieldLemmas.{index_zeros, little_from-zeros}

-- two numbers whose bytes are the same, wherever they stand
same_number : (i j n : ℕ) (xs ys : List ℕ) → ((k : ℕ) → k < n → slice_index xs (i + k) ≡ slice_index ys (j + k))
    → little_from i n xs ≡ little_from j n ys
same_number i j zero xs ys same = refl
same_number i j (suc n) xs ys same =
    let byte : slice_index xs i ≡ slice_index ys j =
    ap (slice_index xs) (omega arith) ∙ same 0 (omega arith) ∙ ap (slice_index ys) (omega arith) in
    let rest = same_number (suc i) (suc j) n xs ys (λ k low.
    ap (slice_index xs) (omega arith) ∙ same (suc k) (omega arith) ∙ ap (slice_index ys) (omega arith)) in
    rw (byte, rest) refl

-- what a copy of bytes within a page makes of its fields
pub bytes_moved : (old new : List ℕ) (from to dest : ℕ) → length new ≡ PAGE_BYTES → CopiedTo old new from dest (to - from)
    → SameBelow old new dest → SameFrom old new (dest + (to - from)) → HasMoved from to dest old new
unfolding get
bytes_moved old new from to dest sized copied below above = record {
  sized = sized;
  moved = λ at size low high. same_number (dest + (at - from)) at size new old (λ k less.
      copied (dest + (at - from) + k) 0 (omega arith) (omega arith) ∙ ap (slice_index old) (omega arith));
  below = λ at size high. same_number at at size new old (λ k less. below (at + k) 0 (omega arith));
  above = λ at size low. same_number at at size new old (λ k less. above (at + k) 0 (omega arith));
}

-- bytes that were cleared, by the list of all
module _ (page new : List ℕ) (from to : ℕ) (low : from ≤ to) (high : to ≤ length page)
    (is : new ≡ take from page ++ (replicate (to - from) 0 ++ drop to page)) where
  before : (k : ℕ) → k < from → slice_index new k ≡ slice_index page k
  before k less =
      rw is (get_or_append_left (take from page) (replicate (to - from) 0 ++ drop to page) 0 k (omega (arith, length-take-le from page (omega arith)))
      ∙ get_or-take from page k 0 less)

  behind : (k : ℕ) → from ≤ k → slice_index new k ≡ slice_index (replicate (to - from) 0 ++ drop to page) (k - from)
  behind k from_k =
      rw is (get_or-append_right (take from page) (replicate (to - from) 0 ++ drop to page) from k 0 (length-take-le from page (omega arith)) from_k)

  inside : (k : ℕ) → from ≤ k → k < to → slice_index new k ≡ 0
  inside k a b =
      behind k a ∙ get_or_append_left (replicate (to - from) 0) (drop to page) 0 (k - from) (omega (arith, length-replicate {A = ℕ} (to - from) 0))
      ∙ index_zeros (to - from) (k - from)

  after : (k : ℕ) → to ≤ k → slice_index new k ≡ slice_index page k
  after k a =
      behind k (omega arith)
      ∙ get_or-append_right (replicate (to - from) 0) (drop to page) (to - from) (k - from) 0 (length-replicate {A = ℕ} (to - from) 0) (omega arith)
      ∙ get_or-drop to page (k - from - (to - from)) 0 ∙ ap (slice_index page) (omega arith)

  pub bytes_cleared : length new ≡ PAGE_BYTES → HasCleared from to page new
  unfolding get
  bytes_cleared sized = record {
    sized = sized;
    zero = λ at size a b. same_number at at size new (replicate (at + size) 0) (λ k less. inside (at + k) (omega arith) (omega arith)
        ∙ sym (index_zeros (at + size) (at + k))) ∙ little_from-zeros at size (at + size);
    below = λ at size a. same_number at at size new page (λ k less. before (at + k) (omega arith));
    above = λ at size a. same_number at at size new page (λ k less. after (at + k) (omega arith));
  }
