-- Lists of references: parts of them, one more and one less.
use Rattle.std.proofs.Common.{◌≡◌, Bool, true, false, true≢false, ℕ, ◌+◌, ◌≤◌, List, [], ◌∷◌, ◌++◌, refl, sym, arith, cond, ◌&&◌, ◌||◌, nat_eq, eqb-true}
use Rattle.std.specs.Prelude.{count_by, All}
use Rattle.std.specs.List.{list_any}
use Rattle.std.proofs.lemmas.List.Elements.{All-head, All-tail, All-cons, All-nil, All-weaker}
use Rattle.hm_types.specs.References.{Reference, NoneOverlap, DoNotOverlap, IsOneExtent, AreFew, is_there, is_in, live_bytes}
use Rattle.hm_types.specs.Space.{rounded}
use Rattle.hm_types.specs.declared.space.TheConstants.{MOST_REFERENCES}
use Rattle.hm_freemap.specs.Extents.{is_extent, without_one}
use Rattle.hm_freemap.proofs.CountLemmas.{count-cons}

pub all_left : {X : Type 0} (P : X → Type 0) (xs ys : List X) → All P (xs ++ ys) → All P xs
all_left P [] ys each = All-nil P
all_left P (x ∷ xs) ys each = All-cons P x xs (All-head P x (xs ++ ys) each) (all_left P xs ys (All-tail P x (xs ++ ys) each))

pub all_right : {X : Type 0} (P : X → Type 0) (xs ys : List X) → All P (xs ++ ys) → All P ys
all_right P [] ys each = each
all_right P (x ∷ xs) ys each = all_right P xs ys (All-tail P x (xs ++ ys) each)

pub apart_left : (xs ys : List Reference) → NoneOverlap (xs ++ ys) → NoneOverlap xs
apart_left [] ys apart = tt
apart_left (x ∷ xs) ys apart = (all_left (DoNotOverlap x) xs ys apart.0, apart_left xs ys apart.1)

-- the list without one of its elements
pub all_without : (P : Reference → Type 0) (r : Reference) (xs ys : List Reference) → All P (xs ++ ys) → All P (without_one r xs ++ ys)
all_without P r [] ys each = each
all_without P r (x ∷ xs) ys each = by_test (is_extent r x) (All-head P x (xs ++ ys) each) (All-tail P x (xs ++ ys) each)
    (all_without P r xs ys (All-tail P x (xs ++ ys) each)) where
      by_test : (b : Bool) → P x → All P (xs ++ ys) → All P (without_one r xs ++ ys) → All P (cond b xs (x ∷ without_one r xs) ++ ys)
      by_test true first rest less = rest
      by_test false first rest less = All-cons P x (without_one r xs ++ ys) first less

pub apart_without : (r : Reference) (xs ys : List Reference) → NoneOverlap (xs ++ ys) → NoneOverlap (without_one r xs ++ ys)
apart_without r [] ys apart = apart
apart_without r (x ∷ xs) ys apart = by_test (is_extent r x) (all_without (DoNotOverlap x) r xs ys apart.0) apart.1 (apart_without r xs ys apart.1) where
  by_test : (b : Bool) → All (DoNotOverlap x) (without_one r xs ++ ys) → NoneOverlap (xs ++ ys) → NoneOverlap (without_one r xs ++ ys)
      → NoneOverlap (cond b xs (x ∷ without_one r xs) ++ ys)
  by_test true first rest less = rest
  by_test false first rest less = (first, less)

count_without : (p : Reference → Bool) (r : Reference) (xs : List Reference) → count_by p (without_one r xs) ≤ count_by p xs
count_without p r [] = omega arith
count_without p r (x ∷ xs) = by_test (is_extent r x) (count_without p r xs) where
  by_test : (b : Bool) → count_by p (without_one r xs) ≤ count_by p xs → count_by p (cond b xs (x ∷ without_one r xs)) ≤ count_by p (x ∷ xs)
  by_test true less = omega (arith, count-cons p x xs)
  by_test false less = omega (arith, count-cons p x xs, count-cons p x (without_one r xs), less)

all_alone : (P : Reference → Type 0) (r : Reference) (xs : List Reference) → All P xs → All P (without_one r xs)
all_alone P r [] each = each
all_alone P r (x ∷ xs) each = by_test (is_extent r x) (All-head P x xs each) (All-tail P x xs each) (all_alone P r xs (All-tail P x xs each)) where
  by_test : (b : Bool) → P x → All P xs → All P (without_one r xs) → All P (cond b xs (x ∷ without_one r xs))
  by_test true first rest less = rest
  by_test false first rest less = All-cons P x (without_one r xs) first less

pub few_without : (r : Reference) (xs : List Reference) → AreFew xs → AreFew (without_one r xs)
few_without r xs few =
    All-weaker (λ y. count_by (is_there y) xs ≤ MOST_REFERENCES) (λ y. count_by (is_there y) (without_one r xs) ≤ MOST_REFERENCES)
    (λ y le. omega (arith, le, count_without (is_there y) r xs)) (without_one r xs) (all_alone (λ y. count_by (is_there y) xs ≤ MOST_REFERENCES) r xs few)

-- what a reference takes of a big-block
abbrev pub size_in : ℕ → Reference → ℕ
size_in block r = cond (is_in block r) (rounded r.len) 0

pub or_second : (a b : Bool) → (a || b) ≡ true → a ≡ false → b ≡ true
or_second true b is not = absurd (true≢false not)
or_second false b is not = is

pub and_left : (a b : Bool) → (a && b) ≡ true → a ≡ true
and_left true b is = refl
and_left false b is = absurd (true≢false (sym is))

pub and_right : (a b : Bool) → (a && b) ≡ true → b ≡ true
and_right true b is = is
and_right false b is = absurd (true≢false (sym is))

pub one_extent : (r s : Reference) → is_extent r s ≡ true → IsOneExtent r s
one_extent r s is = record {
  place = sym (eqb-true s.at r.at (and_left (nat_eq s.at r.at) (nat_eq (rounded s.len) (rounded r.len)) is));
  size = sym (eqb-true (rounded s.len) (rounded r.len) (and_right (nat_eq s.at r.at) (nat_eq (rounded s.len) (rounded r.len)) is));
}

-- the live bytes without one reference
pub live_without : (block : ℕ) (r : Reference) (xs : List Reference) → list_any (is_extent r) xs ≡ true
    → live_bytes xs block ≡ cond (is_in block r) (rounded r.len) 0 + live_bytes (without_one r xs) block
live_without block r [] is = absurd (true≢false (sym is))
live_without block r (x ∷ xs) is = by_test (is_extent r x) refl (λ more. live_without block r xs more) where
  by_test : (b : Bool) → is_extent r x ≡ b → (list_any (is_extent r) xs ≡ true
      → live_bytes xs block ≡ cond (is_in block r) (rounded r.len) 0 + live_bytes (without_one r xs) block)
      → live_bytes (x ∷ xs) block ≡ cond (is_in block r) (rounded r.len) 0 + live_bytes (cond b xs (x ∷ without_one r xs)) block
  by_test true same rest =
      let one = one_extent r x same in
      rw (one.place, one.size) refl
  by_test false other rest =
      let more = rest (or_second (is_extent r x) (list_any (is_extent r) xs) is other) in
      omega (arith, more)
