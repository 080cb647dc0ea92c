-- How often a list of references refers to an extent, with one reference more or less.
use Rattle.std.proofs.Common.{◌≡◌, Bool, true, false, true≢false, ℕ, ◌+◌, ◌≤◌, ⊎_elim, List, [], ◌∷◌, refl, sym, ap, subst, arith, cond, nat_eq, eqb-true}
use Rattle.std.specs.Prelude.{All, count_by, ◌&&◌, ◌||◌}
use Rattle.std.specs.List.{list_any}
use Rattle.std.proofs.lemmas.List.Elements.{All-head, All-tail}
use Rattle.hm_types.specs.Offset.{byte_of}
use Rattle.hm_types.specs.References.{Reference, begin_of, end_of}
use Rattle.hm_types.specs.Space.{rounded}
use Rattle.hm_freemap.specs.Extents.{IsApart, is_extent, reference, without_one}
use Rattle.hm_freemap.proofs.CountLemmas.{bit, count-cons}
use Rattle.hm_stored.proofs.UseLemmas.{is_one}

-- how often an extent is referred to
abbrev pub times : ℕ → ℕ → List Reference → ℕ
times at len refs = count_by (is_extent (reference at len)) refs

pub times_more : (x l : ℕ) (r : Reference) (refs : List Reference) → times x l (r ∷ refs) ≡ is_one x l r.at r.len + times x l refs
times_more x l r refs = count-cons (is_extent (reference x l)) r refs

-- it is referred to where it is counted
pub referred_where : (r : Reference) (refs : List Reference) → 1 ≤ count_by (is_extent r) refs → list_any (is_extent r) refs ≡ true
referred_where r [] some = absurd (omega (arith, some))
referred_where r (s ∷ refs) some = by_test (is_extent r s) (λ more. referred_where r refs more)
    (subst (λ (n : ℕ). 1 ≤ n) (count-cons (is_extent r) s refs) some) where
      by_test : (b : Bool) → (1 ≤ count_by (is_extent r) refs → list_any (is_extent r) refs ≡ true) → 1 ≤ bit b + count_by (is_extent r) refs
          → (b || list_any (is_extent r) refs) ≡ true
      by_test true rest some = refl
      by_test false rest some = rest (omega (arith, some))

-- two references to one extent count alike
same_extent : (r s t : Reference) → is_extent r s ≡ true → is_extent t s ≡ is_extent t r
same_extent r s t is = by_parts (nat_eq s.at r.at) (nat_eq (rounded s.len) (rounded r.len)) refl refl is where
  by_parts : (a b : Bool) → nat_eq s.at r.at ≡ a → nat_eq (rounded s.len) (rounded r.len) ≡ b → (a && b) ≡ true → is_extent t s ≡ is_extent t r
  by_parts true true place size both =
      let there : s.at ≡ r.at = eqb-true s.at r.at place in
      let long : rounded s.len ≡ rounded r.len = eqb-true (rounded s.len) (rounded r.len) size in
      rw (there, long) refl
  by_parts true false place size both = absurd (true≢false (sym both))
  by_parts false b place size both = absurd (true≢false (sym both))

pub times_less : (x l : ℕ) (r : Reference) (refs : List Reference) → list_any (is_extent r) refs ≡ true
    → is_one x l r.at r.len + times x l (without_one r refs) ≡ times x l refs
times_less x l r [] there = absurd (true≢false (sym there))
times_less x l r (s ∷ refs) there = by_test (is_extent r s) refl there (λ rest. times_less x l r refs rest) where
  by_test : (b : Bool) → is_extent r s ≡ b → (b || list_any (is_extent r) refs) ≡ true
      → (list_any (is_extent r) refs ≡ true → is_one x l r.at r.len + times x l (without_one r refs) ≡ times x l refs)
      → is_one x l r.at r.len + times x l (cond b refs (s ∷ without_one r refs)) ≡ times x l (s ∷ refs)
  by_test true is there rest =
      let same : is_one x l s.at s.len ≡ is_one x l r.at r.len = ap bit (same_extent r s (reference x l) is) in
      omega (arith, times_more x l s refs, same)
  by_test false is there rest = omega (arith, times_more x l s refs, times_more x l s (without_one r refs), rest there)

-- where nothing refers to a byte of an extent, the extent is not referred to
pub times_none : (at len : ℕ) (refs : List Reference) → 1 ≤ len → All (IsApart (reference at len)) refs → times at len refs ≡ 0
times_none at len [] some apart = refl
times_none at len (s ∷ refs) some apart =
    by_test (is_extent (reference at len) s) refl (All-head (IsApart (reference at len)) s refs apart)
    (times_none at len refs some (All-tail (IsApart (reference at len)) s refs apart)) where
      by_test : (b : Bool) → is_extent (reference at len) s ≡ b → IsApart (reference at len) s → times at len refs ≡ 0 → times at len (s ∷ refs) ≡ 0
      by_test true is apart rest = by_parts (nat_eq s.at at) (nat_eq (rounded s.len) (rounded len)) refl refl is where
        by_parts : (a b : Bool) → nat_eq s.at at ≡ a → nat_eq (rounded s.len) (rounded len) ≡ b → (a && b) ≡ true → times at len (s ∷ refs) ≡ 0
        by_parts true true place size both =
            let there : byte_of s.at ≡ byte_of at = ap byte_of (eqb-true s.at at place) in
            let long : rounded s.len ≡ rounded len = eqb-true (rounded s.len) (rounded len) size in
            ⊎_elim (λ (low : end_of (reference at len) ≤ begin_of s). absurd (omega (arith, low, there, some)))
            (λ (high : end_of s ≤ begin_of (reference at len)). absurd (omega (arith, high, there, long, some))) apart
        by_parts true false place size both = absurd (true≢false (sym both))
        by_parts false b place size both = absurd (true≢false (sym both))
      by_test false is apart rest = omega (arith, count-cons (is_extent (reference at len)) s refs, ap bit is, rest)
