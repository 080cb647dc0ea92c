-- Writing values into the places of a page, one after the other.
use Rattle.std.proofs.Common.{◌≡◌, ℕ, suc, ◌+◌, ◌<◌, ◌≤◌, inl, inr, List, [], ◌∷◌, ◌++◌, length, refl, sym, subst, ◌∙◌, arith, length-append}
use Rattle.std.proofs.Common.{length-take-le, take}
use Rattle.std.specs.Prelude.{slice_index_or}
use Rattle.std.proofs.lemmas.Bool.{cases_lt}
use Rattle.std.proofs.lemmas.List.{take_more, take_all}
use Rattle.hm_types.specs.declared.limits.TheConstants.{PAGE_BYTES}
use Rattle.hm_fields.specs.Fields.{Apart, get}
use Rattle.hm_node.specs.Places.{place, first, IsZero, IsWritten}
use Rattle.hm_node.proofs.FieldLemmas.{AreSame}
use Rattle.hm_node.proofs.PlaceLemmas.{first_same}
use Rattle.hm_node.proofs.ZeroLemmas.{zero_part}

-- only what is apart from a part of the page is as before
pub record Elsewhere (at n : ℕ) (old new : List ℕ) : Type 0 where
  pub same : (other width : ℕ) → Apart at n other width → get new other width ≡ get old other width

pub zero_elsewhere : (at n from to : ℕ) (old new : List ℕ) → Elsewhere at n old new → IsZero old from to → at + n ≤ from → IsZero new from to
zero_elsewhere at n from to old new elsewhere none after = record { each = λ k low high. elsewhere.same k 1 (inl (omega arith)) ∙ none.each k low high }

pub zero_before : (at n from to : ℕ) (old new : List ℕ) → Elsewhere at n old new → IsZero old from to → to ≤ at → IsZero new from to
zero_before at n from to old new elsewhere none before = record { each = λ k low high. elsewhere.same k 1 (inr (omega arith)) ∙ none.each k low high }

module _ {A : Type 0} (reads : List ℕ → ℕ → A) (width : ℕ) (fits : width ≤ 64)
    (local : (p q : List ℕ) (at : ℕ) → AreSame p q at (at + width) → reads p at ≡ reads q at) where
  -- nothing is written
  pub none_written : (page : List ℕ) → length page ≡ PAGE_BYTES → IsZero page 64 PAGE_BYTES → IsWritten reads width [] page page
  unfolding first
  none_written page sized none = record {
    sized = sized;
    head = λ at size within. refl;
    values = refl;
    gaps = λ i low. absurd (omega arith);
    rest = none;
  }

  values_more : (xs : List A) (x : A) (page new : List ℕ) → Elsewhere (place (length xs)) width page new → reads new (place (length xs)) ≡ x
      → first (λ i. reads page (place i)) (length xs) ≡ xs → first (λ i. reads new (place i)) (suc (length xs)) ≡ xs ++ x ∷ []
  unfolding first
  values_more xs x page new elsewhere here before =
      let same = first_same (λ i. reads new (place i)) (λ i. reads page (place i)) (length xs)
      (λ i low. local new page (place i) (record { each = λ at size a b. elsewhere.same at size (inr (omega arith)) })) in
      rw (same, before, here) refl

  -- one more value is written
  pub more_written : (xs : List A) (x : A) (old page new : List ℕ) → length xs < 63 → IsWritten reads width xs old page
      → Elsewhere (place (length xs)) width page new → reads new (place (length xs)) ≡ x → length new ≡ PAGE_BYTES
      → IsWritten reads width (xs ++ x ∷ []) old new
  more_written xs x old page new room written elsewhere here sized =
      let n = length xs in
      let more : length (xs ++ x ∷ []) ≡ suc n = omega (arith, length-append xs (x ∷ [])) in
      record {
        sized = sized;
        head = λ at size within. elsewhere.same at size (inr (omega arith)) ∙ written.head at size within;
        values = rw more (values_more xs x page new elsewhere here written.values);
        gaps = λ i low. gap i (omega arith);
        rest = rw more (zero_elsewhere (place n) width (place (suc n)) PAGE_BYTES page new elsewhere
            (zero_part page (place n) PAGE_BYTES (place (suc n)) PAGE_BYTES (omega arith) (omega arith) written.rest) (omega arith));
      } where
        gap : (i : ℕ) → i ≤ length xs → IsZero new (place i + width) (place i + 64)
        gap i low =
            elim (cases_lt i (length xs)) [
              | inl before ↦ zero_before (place (length xs)) width (place i + width) (place i + 64) page new elsewhere (written.gaps i before) (omega arith)
              | inr last ↦ let is : i ≡ length xs = omega arith in
                  rw is (zero_elsewhere (place (length xs)) width (place (length xs) + width) (place (length xs) + 64) page new elsewhere
                  (zero_part page (place (length xs)) PAGE_BYTES _ _ (omega arith) (omega arith) written.rest) (omega arith))
            ]

  -- the value at the next place of a list is written
  pub written_next : (xs : List A) (i at : ℕ) (x : A) (old page new : List ℕ) → i < length xs → length xs ≤ 63 → x ≡ slice_index_or xs i x → at ≡ place i
      → IsWritten reads width (take i xs) old page → ((other more : ℕ) → Apart at width other more → get new other more ≡ get page other more)
      → reads new at ≡ x → length new ≡ PAGE_BYTES → IsWritten reads width (take (i + 1) xs) old new
  written_next xs i at x old page new within few is here written elsewhere read sized =
      let front : length (take i xs) ≡ i = length-take-le i xs (omega arith) in
      let more : take (i + 1) xs ≡ take i xs ++ x ∷ [] = take_more xs i x within ∙ rw (← is) refl in
      let there : at ≡ place (length (take i xs)) = rw front here in
      rw more (more_written (take i xs) x old page new (omega arith) written
      (record { same = λ other n apart. elsewhere other n (subst (λ (a : ℕ). Apart a width other n) (sym there) apart) })
      (subst (λ (a : ℕ). reads new a ≡ x) there read) sized)

  -- each value is written
  pub written_all : (xs : List A) (i : ℕ) (old new : List ℕ) → length xs ≤ i → IsWritten reads width (take i xs) old new → IsWritten reads width xs old new
  written_all xs i old new all written = subst (λ (ys : List A). IsWritten reads width ys old new) (take_all i xs all) written
