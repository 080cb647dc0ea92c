-- The components of a text that is read from the front.
use Rattle.std.proofs.Common.{◌≡◌, ℕ, suc, ◌+◌, ◌<◌, ◌≤◌, ◌⊎◌, Bool, true, false, List, [], ◌∷◌, ◌++◌, Option, None, Some, Bor, length, get_or, take}
use Rattle.std.proofs.Common.{drop, map, refl, sym, ◌∙◌, ap, arith, drop-cons, length-append}
use Rattle.std.specs.Iterator.{Yields}
use Rattle.std.specs.List.{AllZip, slice_split, onto_first}
use Rattle.std.proofs.lemmas.Iterator.{YieldsList}
use Rattle.std.proofs.lemmas.Iterator.Consumers.{YieldsList-so_far, YieldsList-turn, YieldsList-end}
use Rattle.std.proofs.lemmas.List.{take-append-drop}
use Rattle.std.proofs.lemmas.List.Splits.{slice_split-cons_yes, slice_split-cons_no, length-slice_split}
use Rattle.hm_types.specs.declared.limits.TheConstants.{MOST_PATH_PARTS}
use Rattle.hm_path.specs.declared.part.Part.{Part}
use Rattle.hm_path.specs.Component.{IsComponent, IsNoComponent}
use Rattle.hm_path.specs.Path.{slash, component_texts, SpellsParts, offset_after, IsFirstBad}
use Rattle.std.specs.Bool.{◌==◌}

-- the item that an iterator gives next, and what it has left
pub next_item : {S : Type 0} {steps : S → Option (Bor (List ℕ)) → S → Type 0} {s : S} {all : List (List ℕ)} (xs : List (Bor (List ℕ))) (t : S)
    (y : Yields steps s xs t) (r : Option (Bor (List ℕ))) (u : S) (x : Bor (List ℕ)) → r ≡ Some x → steps t r u → YieldsList steps (λ t. t.now) s all
    → (after : List (List ℕ)) × (all ≡ map (λ t. t.now) xs ++ x.now ∷ after)
next_item {all = all} xs t y r u x some step road =
    let n : ℕ = length xs in
    let so_far : map (λ t. t.now) xs ≡ take n all = YieldsList-so_far road xs t y in
    let turn = YieldsList-turn road xs t y r u x some step in
    let within : n < length all = turn.0 in
    let last : drop n all ≡ get_or all n x.now ∷ drop (suc n) all = drop-cons all n x.now within in
    (drop (suc n) all, sym (take-append-drop n all) ∙ rw (last, ← turn.1, so_far) refl)

-- the items of an iterator that has none left
pub no_item : {S : Type 0} {steps : S → Option (Bor (List ℕ)) → S → Type 0} {s : S} {all : List (List ℕ)} (xs : List (Bor (List ℕ))) (t : S)
    (y : Yields steps s xs t) (r : Option (Bor (List ℕ))) (u : S) → r ≡ None → steps t r u → YieldsList steps (λ t. t.now) s all → map (λ t. t.now) xs ≡ all
no_item xs t y r u none step road = (YieldsList-end road xs t y r u none step).0

-- the components after a first slash, where some byte follows it
pub texts_are : (rest : List ℕ) → 0 < length rest → component_texts rest ≡ slice_split (λ x. x == slash) rest
texts_are [] some = absurd (omega arith)
texts_are (b ∷ bs) some = refl

-- one more component and its part
zip_push : (texts : List (List ℕ)) (parts : List Part) (text : List ℕ) (part : Part) → AllZip IsComponent texts parts → IsComponent text part
    → AllZip IsComponent (texts ++ text ∷ []) (parts ++ part ∷ [])
zip_push [] [] text part all is = (is, tt)
zip_push [] (p ∷ parts) text part all is = absurd all
zip_push (t ∷ texts) [] text part all is = absurd all
zip_push (t ∷ texts) (p ∷ parts) text part all is = (all.0, zip_push texts parts text part all.1 is)

-- the same, where there is room for it
pub spells_more : (texts : List (List ℕ)) (parts : List Part) (text : List ℕ) (part : Part) → SpellsParts texts parts → length parts < MOST_PATH_PARTS
    → IsComponent text part → SpellsParts (texts ++ text ∷ []) (parts ++ part ∷ [])
spells_more texts parts text part good room is = record {
  each = zip_push texts parts text part good.each is;
  few = rw length-append (omega (arith, room));
}

-- the offset after one more component
pub offset_more : (texts : List (List ℕ)) (text : List ℕ) → offset_after (texts ++ text ∷ []) ≡ offset_after texts + (length text + 1)
offset_more [] text = omega arith
offset_more (t ∷ texts) text = omega (arith, offset_more texts text)

-- a component begins after the first slash
offset_some : (texts : List (List ℕ)) → 1 ≤ offset_after texts
offset_some [] = omega arith
offset_some (t ∷ texts) = omega (arith, offset_some texts)

-- offsets rise
offset_front : (before : List (List ℕ)) (text : List ℕ) (after : List (List ℕ))
    → offset_after before + (length text + 1) ≤ offset_after (before ++ text ∷ after)
offset_front [] text after = omega (arith, offset_some after)
offset_front (t ∷ before) text after = omega (arith, offset_front before text after)

-- one more byte in the first component
offset_onto : (x : ℕ) (texts : List (List ℕ)) → 0 < length texts → offset_after (onto_first x texts) ≡ suc (offset_after texts)
offset_onto x [] some = absurd (omega arith)
offset_onto x (text ∷ texts) some = omega arith

-- one more byte of the text, a slash or not
offset_step : (p : ℕ → Bool) (x : ℕ) (xs : List ℕ) (b : Bool) → p x ≡ b → offset_after (slice_split p xs) ≡ length xs + 2
    → offset_after (slice_split p (x ∷ xs)) ≡ length (x ∷ xs) + 2
offset_step p x xs true passes so_far = rw (slice_split-cons_yes p x xs passes) (omega (arith, so_far))
offset_step p x xs false other so_far =
    let some : 0 < length (slice_split p xs) = rw length-slice_split (omega arith) in
    rw (slice_split-cons_no p x xs other, offset_onto x (slice_split p xs) some) (omega (arith, so_far))

-- the offset past all components and a slash after them
offset_all : (p : ℕ → Bool) (xs : List ℕ) → offset_after (slice_split p xs) ≡ length xs + 2
offset_all p [] = refl
offset_all p (x ∷ xs) = offset_step p x xs (p x) refl (offset_all p xs)

-- a component ends within the text
pub place_within : (p : ℕ → Bool) (rest : List ℕ) (before : List (List ℕ)) (text : List ℕ) (after : List (List ℕ))
    → slice_split p rest ≡ before ++ text ∷ after → offset_after before + (length text + 1) ≤ length rest + 2
place_within p rest before text after parted =
    omega (arith, offset_front before text after, ap offset_after parted, offset_all p rest)

-- the component at hand is the first that is bad
pub bad_here : (rest : List ℕ) (before : List (List ℕ)) (bad : List ℕ) (after : List (List ℕ)) (parts : List Part) (place : ℕ) → 0 < length rest
    → slice_split (λ x. x == slash) rest ≡ before ++ bad ∷ after → SpellsParts before parts → place ≡ offset_after before
    → IsNoComponent bad ⊎ (length before ≡ MOST_PATH_PARTS) → IsFirstBad (component_texts rest) place
bad_here rest before bad after parts place some parted good place_is cause = record {
  before = before;
  bad = bad;
  rest = after;
  texts_are = texts_are rest some ∙ parted;
  parts = parts;
  good = good;
  cause = cause;
  place_is = place_is;
}
