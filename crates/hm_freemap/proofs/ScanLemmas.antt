-- What a look for free big-blocks finds, as it goes on.
use Rattle.std.proofs.Common.{◌≡◌, Bool, true, false, ℕ, zero, suc, ◌+◌, ◌-◌, ◌<◌, ◌≤◌, ⊎_elim, List, [], ◌∷◌, ◌++◌, length, slice_index, refl, sym}
use Rattle.std.proofs.Common.{ap, ◌∙◌, arith, append-nil, subst}
use Rattle.std.specs.Prelude.{filter, count_by}
use Rattle.std.specs.List.{range_with_len}
use Rattle.std.proofs.lemmas.Bool.{cases_lt}
use Rattle.std.proofs.lemmas.List.{get_or_append_left}
use Rattle.std.proofs.lemmas.List.Elements.{filter-append}
use Rattle.std.proofs.lemmas.List.Sums.{length-filter}
use Rattle.std.proofs.Math.Seq.{get_or-append_seam}
use Rattle.hm_freemap.proofs.CountLemmas.{count-append}
use Rattle.hm_freemap.specs.Scan.{Finds}
use Rattle.hm_freemap.specs.declared.scan.Found.{Found}

-- a further big-block that is free
pub finds_one : (free : ℕ → Bool) (limit : ℕ) (blocks : List ℕ) (block : ℕ) (old : Found) (first : List ℕ)
    → free block ≡ true → old.count < limit
    → ((i : ℕ) → i < old.count → i < 4 → slice_index first i ≡ slice_index old.first i)
    → (old.count < 4 → slice_index first old.count ≡ block)
    → Finds free limit blocks old → Finds free limit (blocks ++ block ∷ []) (record { count = old.count + 1; first = first })
finds_one free limit blocks block old first is below same here finds =
    let one : count_by free (block ∷ []) ≡ 1 = rw is refl in
    let all = count-append free blocks (block ∷ []) in
    let sized = length-filter free blocks in
    let filtered : filter free (blocks ++ block ∷ []) ≡ filter free blocks ++ block ∷ [] = filter-append free blocks (block ∷ []) ∙ rw is refl in
    record {
      count = omega (arith, finds.count, one, all);
      first = λ i low few. ⊎_elim
          (λ (before : i < old.count).
          same i before few ∙ finds.first i before few
          ∙ rw filtered (sym (get_or_append_left (filter free blocks) (block ∷ []) 0 i (omega (arith, sized, finds.count)))))
          (λ past.
          let at : i ≡ old.count = omega arith in
          let end : length (filter free blocks) ≡ old.count = omega (arith, sized, finds.count) in
          rw (at, here (omega arith), filtered, ← end) (sym (get_or-append_seam (filter free blocks) block [] 0)))
          (cases_lt i old.count);
    }

-- a further big-block that is not
pub finds_none : (free : ℕ → Bool) (limit : ℕ) (blocks : List ℕ) (block : ℕ) (found : Found) → free block ≡ false
    → Finds free limit blocks found → Finds free limit (blocks ++ block ∷ []) found
finds_none free limit blocks block found is finds =
    let one : count_by free (block ∷ []) ≡ 0 = rw is refl in
    let all = count-append free blocks (block ∷ []) in
    let filtered : filter free (blocks ++ block ∷ []) ≡ filter free blocks = filter-append free blocks (block ∷ []) ∙ rw is (append-nil (filter free blocks)) in
    record {
      count = omega (arith, finds.count, one, all);
      first = λ i low few. rw filtered (finds.first i low few);
    }

-- further big-blocks, where as many were found as were asked for
pub finds_enough : (free : ℕ → Bool) (limit : ℕ) (blocks more : List ℕ) (found : Found) → limit ≤ found.count
    → Finds free limit blocks found → Finds free limit (blocks ++ more) found
finds_enough free limit blocks more found enough finds =
    let all = count-append free blocks more in
    let sized = length-filter free blocks in
    record {
      count = omega (arith, finds.count, all);
      first = λ i low few. finds.first i low few
          ∙ rw (filter-append free blocks more) (sym (get_or_append_left (filter free blocks) (filter free more) 0 i (omega (arith, sized, finds.count))));
    }

-- a range in two parts
pub range-append : (a m n : ℕ) → range_with_len a (m + n) ≡ range_with_len a m ++ range_with_len (a + m) n
range-append a zero n =
    let at : a ≡ a + 0 = omega arith in
    let none : 0 + n ≡ n = omega arith in
    ap (range_with_len a) none ∙ ap (λ (b : ℕ). range_with_len b n) at
range-append a (suc m) n =
    let rest = range-append (a + 1) m n in
    let at : a + 1 + m ≡ a + suc m = omega arith in
    let more : suc m + n ≡ suc (m + n) = omega arith in
    ap (range_with_len a) more
    ∙ ap (λ (l : List ℕ). a ∷ l) (rest ∙ ap (λ (b : ℕ). range_with_len (a + 1) m ++ range_with_len b n) at)

pub range-split : (first from to : ℕ) → first ≤ from → from ≤ to
    → range_with_len first (to - first) ≡ range_with_len first (from - first) ++ range_with_len from (to - from)
range-split first from to low high =
    let sum : to - first ≡ (from - first) + (to - from) = omega arith in
    let at : first + (from - first) ≡ from = omega arith in
    ap (range_with_len first) sum ∙ range-append first (from - first) (to - from)
    ∙ ap (λ (b : ℕ). range_with_len first (from - first) ++ range_with_len b (to - from)) at

pub range-one : (first from : ℕ) → first ≤ from → range_with_len first (from + 1 - first) ≡ range_with_len first (from - first) ++ from ∷ []
range-one first from low =
    let one : from + 1 - from ≡ 1 = omega arith in
    range-split first from (from + 1) low (omega arith) ∙ ap (λ (n : ℕ). range_with_len first (from - first) ++ range_with_len from n) one

-- a look that has found enough has looked far enough
pub finds_rest : (free : ℕ → Bool) (limit first from to : ℕ) (found : Found) → first ≤ from → from ≤ to → limit ≤ found.count
    → Finds free limit (range_with_len first (from - first)) found → Finds free limit (range_with_len first (to - first)) found
finds_rest free limit first from to found low high enough finds =
    subst (λ (l : List ℕ). Finds free limit l found) (sym (range-split first from to low high))
    (finds_enough free limit (range_with_len first (from - first)) (range_with_len from (to - from)) found enough finds)
