-- Where the first line of a script ends.
use Rattle.std.proofs.Common.{◌≡◌, ◌≢◌, ℕ, zero, suc, ◌<◌, true, false, List, [], ◌∷◌, length, get_or, take, drop, refl, arith, eqb}
use Rattle.std.proofs.lemmas.Bool.Decides.{nat_tests}
use Rattle.hm_model.specs.Lines.{line_feed, texts_of, with_first}

-- a byte that is no line feed goes to the first text
texts_of-other : (b : ℕ) (bs : List ℕ) → b ≢ line_feed → texts_of (b ∷ bs) ≡ with_first b (texts_of bs)
texts_of-other b bs other = let no : eqb b line_feed ≡ false = grind (arith, nat_tests) in rw no refl

-- the first line ends at the first line feed
pub texts_of-line : (s : List ℕ) (i : ℕ) → i < length s → get_or s i 0 ≡ line_feed → ((k : ℕ) → k < i → get_or s k 0 ≢ line_feed) →
    texts_of s ≡ take i s ∷ texts_of (drop (suc i) s)
texts_of-line [] i within here before = absurd (omega arith)
texts_of-line (b ∷ bs) zero within here before = let yes : eqb b line_feed ≡ true = grind (arith, nat_tests) in rw yes refl
texts_of-line (b ∷ bs) (suc i) within here before =
    rw (texts_of-other b bs (before 0 (omega arith)), texts_of-line bs i (omega arith) here (λ k lower. before (suc k) (omega arith))) refl

-- without a line feed there is one line
pub texts_of-last : (s : List ℕ) → 0 < length s → ((k : ℕ) → k < length s → get_or s k 0 ≢ line_feed) → texts_of s ≡ s ∷ []
texts_of-last [] some none = absurd (omega arith)
texts_of-last (b ∷ []) some none = texts_of-other b [] (none 0 (omega arith))
texts_of-last (b ∷ c ∷ bs) some none =
    rw (texts_of-other b (c ∷ bs) (none 0 (omega arith)), texts_of-last (c ∷ bs) (omega arith) (λ k lower. none (suc k) (omega arith))) refl
