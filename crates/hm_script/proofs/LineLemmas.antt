-- The first line of a script, from what the search for its end found.
use Rattle.std.proofs.Common.{◌≡◌, ◌≢◌, ℕ, ◌+◌, ◌-◌, ◌<◌, ◌≤◌, true, List, [], ◌∷◌, ◌++◌, length, take, drop, get_or, suc, refl, sym, ◌∙◌, ap, arith}
use Rattle.std.proofs.Common.{add-one, append_assoc, append-nil, length-append}
use Rattle.std.specs.Bool.{◌==◌}
use Rattle.std.proofs.Math.Seq.{drop-append_seam, take-add, take-append_seam, take-length}
use Rattle.std.proofs.lemmas.List.{get_or-take, get_or_append_left, length-drop, length-take-le, take-append-drop, take-append-le, take_all}
use Rattle.std.proofs.lemmas.Bool.Decides.{nat_tests}
use Rattle.memchr.specs.Find.{Passes, NoneBefore, Nowhere, is_byte}
use Rattle.hm_model.specs.Lines.{line_feed, texts_of}
use Rattle.hm_model.proofs.LineLemmas.{texts_of-line, texts_of-last}

is_feed : (x : ℕ) → is_byte line_feed x ≡ true → x ≡ line_feed
is_feed x test = grind (arith, nat_tests)

no_feed : (x : ℕ) → (is_byte line_feed x ≡ true → ⊥) → x ≢ line_feed
no_feed x test is = test (rw is refl)

-- the first line ends at the line feed that was found
pub first_line : (s : List ℕ) (i : ℕ) → NoneBefore (Passes (is_byte line_feed) s) 0 (length s) i → Passes (is_byte line_feed) s i
    → texts_of s ≡ take i s ∷ texts_of (drop (i + 1) s)
first_line s i first here =
    rw add-one (texts_of-line s i first.high (is_feed _ here) (λ k lower. no_feed _ (first.before k (omega arith) lower)))

-- where none was found there is one line
pub only_line : (s : List ℕ) → 0 < length s → Nowhere (Passes (is_byte line_feed) s) 0 (length s) → texts_of s ≡ s ∷ []
only_line s some none = texts_of-last s some (λ k lower. no_feed _ (none k (omega arith) lower))

-- the slice from i on is what follows the first i
pub rest_is : (i : ℕ) (s : List ℕ) → take (length s - i) (drop i s) ≡ drop i s
rest_is i s = rw (← length-drop i s) (take-length (drop i s))

-- what tests as empty is empty
pub none_from_test : (s : List ℕ) → (length s == 0) ≡ true → s ≡ []
none_from_test [] test = refl
none_from_test (b ∷ bs) test = absurd (grind (arith, nat_tests))

-- some whole lines: what follows them begins a line
abbrev pub IsEnded : List ℕ → Type 0
IsEnded front = (rest : List ℕ) → texts_of (front ++ rest) ≡ texts_of front ++ texts_of rest

-- a line with its line feed, and what follows it
line_then : (line more : List ℕ) (i : ℕ) → length line ≡ suc i → get_or line i 0 ≡ line_feed → ((k : ℕ) → k < i → get_or line k 0 ≢ line_feed)
    → texts_of (line ++ more) ≡ take i line ∷ texts_of more
line_then line more i long here before =
    let first =
    texts_of-line (line ++ more) i (omega (arith, long, length-append line more)) (get_or_append_left line more 0 i (omega (arith, long)) ∙ here)
    (λ k lower is. before k lower (sym (get_or_append_left line more 0 k (omega (arith, long, lower))) ∙ is)) in
    let rest : drop (suc i) (line ++ more) ≡ more = ap (λ n. drop n (line ++ more)) (sym long) ∙ drop-append_seam line more in
    rw (take-append-le i line more (omega (arith, long)), rest) at first

-- one line more, with its line feed
ended_with : (front line : List ℕ) (at : ℕ) → IsEnded front → length line ≡ suc at → get_or line at 0 ≡ line_feed
    → ((k : ℕ) → k < at → get_or line k 0 ≢ line_feed) → IsEnded (front ++ line) × (length (texts_of (front ++ line)) ≡ length (texts_of front) + 1)
ended_with front line at ended long here before =
    let one : texts_of line ≡ take at line ∷ [] = ap texts_of (sym (append-nil line)) ∙ line_then line [] at long here before in
    let both : texts_of (front ++ line) ≡ texts_of front ++ take at line ∷ [] = ended line ∙ ap (λ ts. texts_of front ++ ts) one in (
      λ more.
          ap texts_of (append_assoc front line more) ∙ (ended (line ++ more) ∙
          (ap (λ ts. texts_of front ++ ts) (line_then line more at long here before) ∙
          (sym (append_assoc (texts_of front) (take at line ∷ []) (texts_of more)) ∙ ap (λ ts. ts ++ texts_of more) (sym both)))),
      omega (arith, ap length both, length-append (texts_of front) (take at line ∷ [])),
    )

-- the line that a search found after whole ones
pub ended_more : (s : List ℕ) (end i : ℕ) → end ≤ length s → IsEnded (take end s)
    → NoneBefore (Passes (is_byte line_feed) (drop end s)) 0 (length (drop end s)) i → Passes (is_byte line_feed) (drop end s) i
    → IsEnded (take (end + (i + 1)) s) × (length (texts_of (take (end + (i + 1)) s)) ≡ length (texts_of (take end s)) + 1)
ended_more s end i within ended first here =
    let line : List ℕ = take (i + 1) (drop end s) in
    let long : length line ≡ suc i = length-take-le (i + 1) (drop end s) (omega (arith, first.high)) ∙ omega arith in
    rw (take-add end (i + 1) s) (ended_with (take end s) line i ended long (get_or-take (i + 1) (drop end s) i 0 (omega arith) ∙ is_feed _ here)
    (λ k lower. λ is. no_feed _ (first.before k (omega arith) lower) (sym (get_or-take (i + 1) (drop end s) k 0 (omega (arith, lower))) ∙ is)))

-- as many lines as there are at most
pub all_lines : (s : List ℕ) (end count left : ℕ) → IsEnded (take end s) → length (texts_of (take end s)) ≡ count - left → left ≤ count → 0 < left
    → Nowhere (Passes (is_byte line_feed) (drop end s)) 0 (length (drop end s)) → texts_of s ≡ take count (texts_of s)
all_lines s end count left ended passed fewer more none =
    let parts : texts_of s ≡ texts_of (take end s) ++ texts_of (drop end s) = ap texts_of (sym (take-append-drop end s)) ∙ ended (drop end s) in
    sym (take_all count (texts_of s) (omega (
      arith,
      ap length parts,
      length-append (texts_of (take end s)) (texts_of (drop end s)),
      passed,
      fewer,
      more,
      at_most_one (drop end s) none,
    )))
  where
    at_most_one : (s : List ℕ) → Nowhere (Passes (is_byte line_feed) s) 0 (length s) → length (texts_of s) ≤ 1
    at_most_one [] none = omega arith
    at_most_one (b ∷ bs) none = omega (arith, ap length (only_line (b ∷ bs) (omega arith) none))

-- the first lines, so many
pub first_of : (s : List ℕ) (end count left : ℕ) → IsEnded (take end s) → length (texts_of (take end s)) ≡ count - left → left ≡ 0
    → texts_of (take end s) ≡ take count (texts_of s)
first_of s end count left ended passed none =
    let parts : texts_of s ≡ texts_of (take end s) ++ texts_of (drop end s) = ap texts_of (sym (take-append-drop end s)) ∙ ended (drop end s) in
    let long : length (texts_of (take end s)) ≡ count = omega (arith, passed, none) in
    sym (ap (take count) parts ∙ (ap (λ n. take n (texts_of (take end s) ++ texts_of (drop end s))) (sym long) ∙
    take-append_seam (texts_of (take end s)) (texts_of (drop end s))))
