-- How many lines a text has, by its line feeds.
use Rattle.std.proofs.Common.{◌≡◌, ◌≢◌, ℕ, zero, suc, ◌+◌, ◌<◌, ◌≤◌, Bool, true, false, List, [], ◌∷◌, ◌++◌}
use Rattle.std.proofs.Common.{length, get_or, refl, ◌∙◌, ap, arith, eqb, cond, length-append, if◌then◌else◌}
use Rattle.std.proofs.lemmas.Bool.Decides.{nat_tests}
use Rattle.std.proofs.lemmas.List.{get_or-append-add}
use Rattle.std.proofs.lemmas.List.Sums.{sum_by-append, sum_by-cons}
use Rattle.hm_model.specs.Lines.{line_feed, texts_of, with_first}
use Rattle.hm_shell.specs.Reading.{feeds}

-- 1 for a line feed
abbrev pub one_at : ℕ → ℕ
one_at b = cond (eqb b line_feed) 1 0

pub feeds-append : (s p : List ℕ) → feeds (s ++ p) ≡ feeds s + feeds p
feeds-append s p = sum_by-append one_at s p

feeds-cons : (b : ℕ) (bs : List ℕ) → feeds (b ∷ bs) ≡ one_at b + feeds bs
feeds-cons b bs = sum_by-cons one_at b bs

length-with_first : (b : ℕ) (texts : List (List ℕ)) → 0 < length texts → length (with_first b texts) ≡ length texts
length-with_first b [] some = absurd (omega arith)
length-with_first b (t ∷ ts) some = refl

-- a byte before a text that has a line
line_more : (x : Bool) (b : ℕ) (bs : List ℕ) → eqb b line_feed ≡ x → 0 < length (texts_of bs) → length (texts_of (b ∷ bs)) ≡ one_at b + length (texts_of bs)
line_more true b bs is some = rw is (omega arith)
line_more false b bs is some = rw is (length-with_first b (texts_of bs) some ∙ omega arith)

one_line : (x : Bool) (b : ℕ) → eqb b line_feed ≡ x → length (texts_of (b ∷ [])) ≡ 1
one_line true b is = rw is refl
one_line false b is = rw is refl

some_lines : (b : ℕ) (bs : List ℕ) → 0 < length (texts_of (b ∷ bs))
some_lines b [] = omega (arith, one_line (eqb b line_feed) b refl)
some_lines b (c ∷ cs) = omega (arith, line_more (eqb b line_feed) b (c ∷ cs) refl (some_lines c cs), some_lines c cs)

-- a text with a last byte has a line for each line feed, and one more where the last byte is none
lines_by_last : (s : List ℕ) (i d : ℕ) → suc i ≡ length s → length (texts_of s) + one_at (get_or s i d) ≡ feeds s + 1
lines_by_last [] i d is = absurd (omega (arith, is))
lines_by_last (b ∷ []) zero d is = omega (arith, one_line (eqb b line_feed) b refl, feeds-cons b [])
lines_by_last (b ∷ []) (suc i) d is = absurd (omega (arith, is))
lines_by_last (b ∷ c ∷ cs) zero d is = absurd (omega (arith, is))
lines_by_last (b ∷ c ∷ cs) (suc i) d is =
    omega (arith, lines_by_last (c ∷ cs) i d (omega (arith, is)), feeds-cons b (c ∷ cs), line_more (eqb b line_feed) b (c ∷ cs) refl (some_lines c cs))

one_at_feed : (b : ℕ) → b ≡ line_feed → one_at b ≡ 1
one_at_feed b is = let yes : eqb b line_feed ≡ true = grind (arith, nat_tests, is) in ap (λ x. cond x 1 0) yes

one_at_other : (b : ℕ) → b ≢ line_feed → one_at b ≡ 0
one_at_other b other = let no : eqb b line_feed ≡ false = grind (arith, nat_tests, other) in ap (λ x. cond x 1 0) no

-- how many lines there are after one more piece, which is not empty
pub lines_ended : (s p : List ℕ) (i d : ℕ) → suc i ≡ length p → get_or p i d ≡ line_feed → length (texts_of (s ++ p)) ≡ feeds s + feeds p
lines_ended s p i d is last =
    omega (
      arith,
      lines_by_last (s ++ p) (length s + i) d (omega (arith, is, length-append s p)),
      ap one_at (get_or-append-add s p i d),
      one_at_feed
          (get_or p i d) last,
      feeds-append s p,
    )

pub lines_open : (s p : List ℕ) (i d : ℕ) → suc i ≡ length p → get_or p i d ≢ line_feed → length (texts_of (s ++ p)) ≡ feeds s + feeds p + 1
lines_open s p i d is last =
    omega (
      arith,
      lines_by_last (s ++ p) (length s + i) d (omega (arith, is, length-append s p)),
      ap one_at (get_or-append-add s p i d),
      one_at_other
          (get_or p i d) last,
      feeds-append s p,
    )

lines_more : (x : Bool) (b : ℕ) (bs : List ℕ) (texts : List (List ℕ)) → eqb b line_feed ≡ x → length (texts_of bs) ≤ length texts → length
    (texts_of (b ∷ bs)) ≤ length (if eqb b line_feed then [] ∷ texts else with_first b texts)
lines_more true b bs texts is fewer = rw is (omega (arith, fewer))
lines_more false b bs texts is fewer = rw is (with_fewer (texts_of bs) texts fewer)
  where
    with_fewer : (ts us : List (List ℕ)) → length ts ≤ length us → length (with_first b ts) ≤ length (with_first b us)
    with_fewer [] [] fewer = omega arith
    with_fewer [] (u ∷ us) fewer = omega arith
    with_fewer (t ∷ ts) [] fewer = absurd (omega (arith, fewer))
    with_fewer (t ∷ ts) (u ∷ us) fewer = fewer

-- a front of a text has no more lines
pub lines_of_front : (s r : List ℕ) → length (texts_of s) ≤ length (texts_of (s ++ r))
lines_of_front [] r = omega arith
lines_of_front (b ∷ s) r = lines_more (eqb b line_feed) b s (texts_of (s ++ r)) refl (lines_of_front s r)
