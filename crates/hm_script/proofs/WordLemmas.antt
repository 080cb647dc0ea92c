-- The words of a line, as they are cut off one by one.
use Rattle.std.proofs.Common.{◌≡◌, ℕ, ◌+◌, ◌<◌, List, [], ◌∷◌, ◌++◌, Bor, length, get_or, take, refl, sym, ◌∙◌, ap, subst, arith, length-append}
use Rattle.std.specs.Bool.{◌==◌}
use Rattle.std.specs.List.{slice_split, slice_set}
use Rattle.std.proofs.lemmas.List.{map-append, take_more_set}
use Rattle.hm_model.specs.Words.{blank, IsWord}
use Rattle.hm_script.specs.declared.words.TheConstants.{MOST_WORDS}
use Rattle.hm_script.specs.Texts.{texts, IsNoText}

-- one more word is kept
pub texts_more : (words : List (Bor (List ℕ))) (n : ℕ) (word : Bor (List ℕ)) → n < length words
    → texts (take (n + 1) (slice_set words n word)) ≡ texts (take n words) ++ word.now ∷ []
texts_more words n word within =
    ap texts (take_more_set words n word within) ∙ map-append (λ w. w.now) (take n words) (word ∷ [])

-- the element after those in front
pub element_after : (before : List (List ℕ)) (bad : List ℕ) (after : List (List ℕ)) → get_or (before ++ bad ∷ after) (length before) [] ≡ bad
element_after [] bad after = refl
element_after (word ∷ before) bad after = element_after before bad after

-- a text has no words where one piece between blanks is none
pub no_text-bad : (text : List ℕ) (before : List (List ℕ)) (bad : List ℕ) (after : List (List ℕ))
    → slice_split (λ b. b == blank) text ≡ before ++ bad ∷ after → (IsWord bad → ⊥) → IsNoText text
no_text-bad text before bad after split none words are few =
    let same : before ++ bad ∷ after ≡ words = sym split ∙ are.split in
    let within : length before < length words = omega (arith, ap length same, length-append before (bad ∷ after)) in
    let here : get_or words (length before) [] ≡ bad = ap (λ ws. get_or ws (length before) []) (sym same) ∙ element_after before bad after in
    none (subst IsWord here (are.each (length before) [] within))

-- a text has too many words where so many stand before another
pub no_text-many : (text : List ℕ) (before : List (List ℕ)) (bad : List ℕ) (after : List (List ℕ))
    → slice_split (λ b. b == blank) text ≡ before ++ bad ∷ after → length before ≡ MOST_WORDS → IsNoText text
no_text-many text before bad after split many words are few =
    let same : before ++ bad ∷ after ≡ words = sym split ∙ are.split in
    absurd (omega (arith, ap length same, length-append before (bad ∷ after), few))
