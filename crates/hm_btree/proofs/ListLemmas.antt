-- Lists that are cut in two, and lists of which one part changes.
use Rattle.std.proofs.Common.{◌≡◌, ℕ, suc, ◌+◌, ◌-◌, ◌<◌, ◌≤◌, List, ◌++◌, length, take, drop, insert, ap, sym, ◌∙◌, arith}
use Rattle.std.proofs.Math.Seq.{take-append-add, drop-append-add}
use Rattle.std.proofs.lemmas.List.{take-append-le, drop-append-le, take-append-drop, length-take-le, take_at, drop_at}
use Rattle.std.proofs.lemmas.List.Edits.{insert-append_left, insert-append_right, length-insert}

-- the front of two lists reaches into the second one
pub take_across : {A : Type 0} (n : ℕ) (xs ys : List A) → length xs ≤ n → take n (xs ++ ys) ≡ xs ++ take (n - length xs) ys
take_across n xs ys le =
    let same : n ≡ length xs + (n - length xs) = omega arith in
    ap (λ (k : ℕ). take k (xs ++ ys)) same ∙ take-append-add xs ys (n - length xs)

pub drop_across : {A : Type 0} (n : ℕ) (xs ys : List A) → length xs ≤ n → drop n (xs ++ ys) ≡ drop (n - length xs) ys
drop_across n xs ys le =
    let same : n ≡ length xs + (n - length xs) = omega arith in
    ap (λ (k : ℕ). drop k (xs ++ ys)) same ∙ drop-append-add xs ys (n - length xs)

-- a new value in the left part of a list that is cut behind it
pub take_insert_low : {A : Type 0} (x : A) (n at : ℕ) (xs : List A) → at < n → n ≤ suc (length xs) → take n (insert xs at x) ≡ insert (take (n - 1) xs) at x
take_insert_low x n at xs below within =
    let cut : length (take (n - 1) xs) ≡ n - 1 = length-take-le (n - 1) xs (omega arith) in
    let there : insert xs at x ≡ insert (take (n - 1) xs) at x ++ drop (n - 1) xs =
    ap (λ (l : List _). insert l at x) (sym (take-append-drop (n - 1) xs)) ∙ insert-append_left (take (n - 1) xs) (drop (n - 1) xs) at x (omega arith) in
    let long : length (insert (take (n - 1) xs) at x) ≡ n = omega (arith, length-insert (take (n - 1) xs) at x (omega arith)) in
    ap (take n) there ∙ take_at (insert (take (n - 1) xs) at x) (drop (n - 1) xs) n long

pub drop_insert_low : {A : Type 0} (x : A) (n at : ℕ) (xs : List A) → at < n → n ≤ suc (length xs) → drop n (insert xs at x) ≡ drop (n - 1) xs
drop_insert_low x n at xs below within =
    let cut : length (take (n - 1) xs) ≡ n - 1 = length-take-le (n - 1) xs (omega arith) in
    let there : insert xs at x ≡ insert (take (n - 1) xs) at x ++ drop (n - 1) xs =
    ap (λ (l : List _). insert l at x) (sym (take-append-drop (n - 1) xs)) ∙ insert-append_left (take (n - 1) xs) (drop (n - 1) xs) at x (omega arith) in
    let long : length (insert (take (n - 1) xs) at x) ≡ n = omega (arith, length-insert (take (n - 1) xs) at x (omega arith)) in
    ap (drop n) there ∙ drop_at (insert (take (n - 1) xs) at x) (drop (n - 1) xs) n long

-- a new value in the right part
pub take_insert_high : {A : Type 0} (x : A) (n at : ℕ) (xs : List A) → n ≤ at → n ≤ length xs → take n (insert xs at x) ≡ take n xs
take_insert_high x n at xs past within =
    let cut : length (take n xs) ≡ n = length-take-le n xs within in
    let there : insert xs at x ≡ take n xs ++ insert (drop n xs) (at - n) x =
    ap (λ (l : List _). insert l at x) (sym (take-append-drop n xs)) ∙ insert-append_right (take n xs) (drop n xs) n at x cut past in
    ap (take n) there ∙ take_at (take n xs) (insert (drop n xs) (at - n) x) n cut

pub drop_insert_high : {A : Type 0} (x : A) (n at : ℕ) (xs : List A) → n ≤ at → n ≤ length xs → drop n (insert xs at x) ≡ insert (drop n xs) (at - n) x
drop_insert_high x n at xs past within =
    let cut : length (take n xs) ≡ n = length-take-le n xs within in
    let there : insert xs at x ≡ take n xs ++ insert (drop n xs) (at - n) x =
    ap (λ (l : List _). insert l at x) (sym (take-append-drop n xs)) ∙ insert-append_right (take n xs) (drop n xs) n at x cut past in
    ap (drop n) there ∙ drop_at (take n xs) (insert (drop n xs) (at - n) x) n cut

pub ruleset halves = (take_across, drop_across, take_insert_low, drop_insert_low, take_insert_high, drop_insert_high, take-append-le, drop-append-le)
