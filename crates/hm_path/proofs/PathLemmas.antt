-- Paths and the places of bad ones.
use Rattle.std.proofs.Common.{◌≡◌, ◌⊎◌, inl, inr, ℕ, suc, ◌-◌, ◌≤◌, List, [], ◌∷◌, ◌++◌, length, drop, refl, sym, ◌∙◌, ap, arith, length-append}
use Rattle.std.specs.List.{AllZip}
use Rattle.hm_types.specs.declared.limits.TheConstants.{MOST_PATH_PARTS}
use Rattle.hm_path.specs.declared.part.Part.{Part}
use Rattle.hm_path.specs.Component.{IsComponent, IsNoComponent}
use Rattle.hm_path.specs.Path.{component_texts, SpellsParts, IsPath, offset_after, IsFirstBad, IsBadPlace}
use Rattle.hm_path.proofs.ComponentLemmas.{component_is_one}

-- as many parts as components
pub length_parts : (texts : List (List ℕ)) (parts : List Part) → AllZip IsComponent texts parts → length texts ≡ length parts
length_parts [] [] all = refl
length_parts [] (part ∷ parts) all = absurd all
length_parts (text ∷ texts) [] all = absurd all
length_parts (text ∷ texts) (part ∷ parts) all = ap suc (length_parts texts parts all.1)

-- components say one list of parts only
all_are_one : (texts : List (List ℕ)) (a b : List Part) → AllZip IsComponent texts a → AllZip IsComponent texts b → a ≡ b
all_are_one [] [] [] p q = refl
all_are_one [] [] (y ∷ b) p q = absurd q
all_are_one [] (x ∷ a) b p q = absurd p
all_are_one (text ∷ texts) [] b p q = absurd p
all_are_one (text ∷ texts) (x ∷ a) [] p q = absurd q
all_are_one (text ∷ texts) (x ∷ a) (y ∷ b) p q =
    cc (component_is_one text x y p.0 q.0, all_are_one texts a b p.1 q.1)

-- a text is one path only
pub path_is_one : (text : List ℕ) (a b : List Part) → IsPath text a → IsPath text b → a ≡ b
path_is_one text a b p q = all_are_one (component_texts (drop 1 text)) a b p.spelled.each q.spelled.each

-- the component after those in front says a part too
component_after : (before : List (List ℕ)) (bad : List ℕ) (rest : List (List ℕ)) (parts : List Part) → AllZip IsComponent (before ++ bad ∷ rest) parts
    → (part : Part) × IsComponent bad part
component_after [] bad rest [] all = absurd all
component_after [] bad rest (part ∷ parts) all = (part, all.0)
component_after (text ∷ texts) bad rest [] all = absurd all
component_after (text ∷ texts) bad rest (part ∷ parts) all = component_after texts bad rest parts all.1

-- components that say parts have none that is bad, and none too many
no_first_bad : (texts : List (List ℕ)) (parts : List Part) (place : ℕ) → SpellsParts texts parts → IsFirstBad texts place → ⊥
no_first_bad texts parts place good first =
    let all : AllZip IsComponent (first.before ++ first.bad ∷ first.rest) parts = rw first.texts_are at good.each in
    elim first.cause [
      | inl none ↦ let found = component_after first.before first.bad first.rest parts all in none found.0 found.1
      | inr many ↦ absurd (omega (
        arith,
        length_parts (first.before ++ first.bad ∷ first.rest) parts all,
        length-append first.before (first.bad ∷ first.rest),
        good.few,
        many,
      ))
    ]

-- a path has no bad place
pub no_bad_path : (text : List ℕ) (parts : List Part) (place : ℕ) → IsPath text parts → IsBadPlace text place → ⊥
no_bad_path text parts place path (inl long) = absurd (omega (arith, long.0, path.size))
no_bad_path text parts place path (inr (inl bare)) = bare.1 path.rooted
no_bad_path text parts place path (inr (inr first)) = no_first_bad (component_texts (drop 1 text)) parts place path.spelled first.2

-- Two fronts of the same components have one end, where each goes to the first that is bad or to the
-- greatest count.
offsets_are_one : (most : ℕ) (f g : List (List ℕ)) (x y : List ℕ) (r s : List (List ℕ)) (a b : List Part) → f ++ x ∷ r ≡ g ++ y ∷ s
    → AllZip IsComponent f a → AllZip IsComponent g b → length f ≤ most → length g ≤ most → IsNoComponent x ⊎ (length f ≡ most)
    → IsNoComponent y ⊎ (length g ≡ most) → offset_after f ≡ offset_after g
offsets_are_one most [] [] x y r s a b same p q short short' bad bad' = refl
offsets_are_one most [] (t ∷ g) x y r s a [] same p q short short' bad bad' = absurd q
offsets_are_one most [] (t ∷ g) x y r s a (part ∷ b) same p q short short' bad bad' =
    let head : t ≡ x = cc in
    elim bad [ inl none ↦ absurd (none part (rw (← head) q.0)) | inr full ↦ absurd (omega (arith, full)) ]
offsets_are_one most (t ∷ f) [] x y r s [] b same p q short short' bad bad' = absurd p
offsets_are_one most (t ∷ f) [] x y r s (part ∷ a) b same p q short short' bad bad' =
    let head : t ≡ y = cc in
    elim bad' [ inl none ↦ absurd (none part (rw (← head) p.0)) | inr full ↦ absurd (omega (arith, full)) ]
offsets_are_one most (t ∷ f) (u ∷ g) x y r s [] b same p q short short' bad bad' = absurd p
offsets_are_one most (t ∷ f) (u ∷ g) x y r s (part ∷ a) [] same p q short short' bad bad' = absurd q
offsets_are_one most (t ∷ f) (u ∷ g) x y r s (part ∷ a) (part' ∷ b) same p q short short' bad bad' =
    let head : t ≡ u = cc in
    let tail : f ++ x ∷ r ≡ g ++ y ∷ s = cc in
    let less : IsNoComponent x ⊎ (length f ≡ most - 1) = elim bad [ inl none ↦ inl none | inr full ↦ inr (omega (arith, full)) ] in
    let less' : IsNoComponent y ⊎ (length g ≡ most - 1) = elim bad' [ inl none ↦ inl none | inr full ↦ inr (omega (arith, full)) ] in
    let rest = offsets_are_one (most - 1) f g x y r s a b tail p.1 q.1 (omega arith) (omega arith) less less' in
    cc (head, rest)

-- components are bad at one place first
first_bad_is_one : (texts : List (List ℕ)) (a b : ℕ) → IsFirstBad texts a → IsFirstBad texts b → a ≡ b
first_bad_is_one texts a b p q =
    let short : length p.before ≤ MOST_PATH_PARTS = omega (arith, length_parts p.before p.parts p.good.each, p.good.few) in
    let short' : length q.before ≤ MOST_PATH_PARTS = omega (arith, length_parts q.before q.parts q.good.each, q.good.few) in
    p.place_is ∙ (offsets_are_one MOST_PATH_PARTS p.before q.before p.bad q.bad p.rest q.rest p.parts q.parts (sym p.texts_are ∙ q.texts_are)
    p.good.each q.good.each short short' p.cause q.cause ∙ sym q.place_is)

-- a text has one bad place only
pub bad_place_is_one : (text : List ℕ) (a b : ℕ) → IsBadPlace text a → IsBadPlace text b → a ≡ b
bad_place_is_one text a b (inl p) (inl q) = p.1 ∙ sym q.1
bad_place_is_one text a b (inl p) (inr (inl q)) = absurd (omega (arith, p.0, q.0))
bad_place_is_one text a b (inl p) (inr (inr q)) = absurd (omega (arith, p.0, q.0))
bad_place_is_one text a b (inr (inl p)) (inl q) = absurd (omega (arith, p.0, q.0))
bad_place_is_one text a b (inr (inr p)) (inl q) = absurd (omega (arith, p.0, q.0))
bad_place_is_one text a b (inr (inl p)) (inr (inl q)) = p.2 ∙ sym q.2
bad_place_is_one text a b (inr (inl p)) (inr (inr q)) = absurd (p.1 q.1)
bad_place_is_one text a b (inr (inr p)) (inr (inl q)) = absurd (q.1 p.1)
bad_place_is_one text a b (inr (inr p)) (inr (inr q)) = first_bad_is_one (component_texts (drop 1 text)) a b p.2 q.2
