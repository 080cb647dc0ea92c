-- The id that ends a component.
use Rattle.std.proofs.Common.{◌≡◌, ℕ, zero, suc, ◌+◌, ◌-◌, ◌^◌, ◌<◌, ◌≤◌, List, [], ◌∷◌, ◌++◌, length, get_or, take, drop, refl, sym, ◌∙◌, ap, subst}
use Rattle.std.proofs.Common.{arith, add-one, length-append}
use Rattle.std.specs.Char.{digit_value}
use Rattle.std.specs.Str.Parse.{AllDigits, digits_value}
use Rattle.std.proofs.lemmas.Int.Digits.{digits_value-lt}
use Rattle.std.proofs.Math.Seq.{take-length, drop-append_seam}
use Rattle.std.proofs.lemmas.List.{append_cancel_left, length-take, length-drop}
use Rattle.std.proofs.Math.Nat.{pow-le-pow_right}
use Rattle.hm_types.specs.declared.id.Id.{Id}
use Rattle.hm_types.specs.Name.{IsName, LacksId, at_sign}
use Rattle.hm_path.specs.Component.{IsHexId, IsIdText, IsNoIdText, EndsWithId, id_sign}

-- a digit among digits
digit_at : (digits : List ℕ) (i : ℕ) → i < length digits → AllDigits 16 digits → digit_value (get_or digits i 0) < 16
digit_at [] i within all = absurd (omega arith)
digit_at (d ∷ ds) zero within all = all.0
digit_at (d ∷ ds) (suc i) within all = digit_at ds i (omega arith) all.1

-- what follows the sign of an id is its digits
digits_are : (text digits : List ℕ) (id : Id) → text ≡ id_sign ++ digits → IsIdText text id → IsHexId digits id
digits_are text digits id written is =
    let same : is.digits ≡ digits = append_cancel_left id_sign is.digits digits (sym is.written ∙ written) in
    let P : List ℕ → Type 0 = λ ds. IsHexId ds id in
    subst P same is.spelled

-- no id has this byte among its digits
pub no_id-digit : (text digits : List ℕ) (i : ℕ) → text ≡ id_sign ++ digits → i < length digits → (digit_value (get_or digits i 0) < 16 → ⊥) → IsNoIdText text
no_id-digit text digits i written within none id is =
    none (digit_at digits i within (digits_are text digits id written is).each)

-- so few digits leave room for one more
pub room_for_digit : (digits : List ℕ) (i : ℕ) → i < 16 → i < length digits → AllDigits 16 (take i digits) → digits_value 16 (take i digits) < 2 ^ 60
room_for_digit digits i few within all =
    let below : digits_value 16 (take i digits) < 16 ^ length (take i digits) = digits_value-lt 16 (take i digits) all in
    let short : length (take i digits) ≤ 15 = omega (arith, length-take i digits) in
    omega (arith, below, pow-le-pow_right {n = 16} (omega arith) short)

-- how many bytes an id takes
pub length_id : (text : List ℕ) (id : Id) → IsIdText text id → length text ≡ 20
length_id text id is = rw (is.written, length-append id_sign is.digits, is.spelled.size) refl

-- one text has one end of a length
split_same : (f g d e : List ℕ) → f ++ d ≡ g ++ e → length d ≡ length e → (f ≡ g) × (d ≡ e)
split_same [] [] d e same long = (refl, same)
split_same [] (y ∷ g) d e same long = absurd (omega (arith, ap length same, length-append g e))
split_same (x ∷ f) [] d e same long = absurd (omega (arith, ap length same, length-append f d))
split_same (x ∷ f) (y ∷ g) d e same long =
    let head : x ≡ y = cc in
    let tail : f ++ d ≡ g ++ e = cc in
    let rest : (f ≡ g) × (d ≡ e) = split_same f g d e tail long in
    (cc, rest.1)

-- a text is one id only
pub id_is_one : (text : List ℕ) (a b : Id) → IsIdText text a → IsIdText text b → a ≡ b
id_is_one text a b is is' =
    let h : IsHexId is.digits b = digits_are text is.digits b is.written is' in
    let same : a.0 ≡ b.0 = is.spelled.value ∙ sym h.value in
    let make : ℕ → Id = λ n. record { 0 = n } in
    ap make same

-- a text ends in one id only
pub end_is_one : (text f g : List ℕ) (a b : Id) → EndsWithId text f a → EndsWithId text g b → (f ≡ g) × (a ≡ b)
end_is_one text f g a b p q =
    let same : (f ≡ g) × (p.end ≡ q.end) = split_same f g p.end q.end (sym p.text_is ∙ q.text_is) (length_id _ _ p.id_is ∙ sym (length_id _ _ q.id_is)) in
    let P : List ℕ → Type 0 = λ end. IsIdText end b in
    (same.0, id_is_one p.end a b p.id_is (subst P (sym same.1) q.id_is))

-- bytes with `@@` among them
two_signs : (front rest : List ℕ) → LacksId (front ++ at_sign ∷ at_sign ∷ rest) → ⊥
two_signs [] rest lacks = lacks 0 refl refl
two_signs (b ∷ bs) rest lacks =
    two_signs bs rest (λ k here next. lacks (suc k) here (rw add-one (rw add-one at next)))

-- no name ends in an id
pub no_id_in_name : (text front : List ℕ) (id : Id) → EndsWithId text front id → IsName text → ⊥
no_id_in_name text front id ends named =
    let is : text ≡ front ++ at_sign ∷ at_sign ∷ 0x30 ∷ 0x78 ∷ ends.id_is.digits = ends.text_is ∙ ap (λ end. front ++ end) ends.id_is.written in
    two_signs front (0x30 ∷ 0x78 ∷ ends.id_is.digits) (rw is at named.no_id)

-- no id ends a text whose last bytes are none
pub no_id_at_end : (text : List ℕ) (start : ℕ) → start + 20 ≡ length text → IsNoIdText (take (length text - start) (drop start text))
    → (front : List ℕ) (id : Id) → EndsWithId text front id → ⊥
no_id_at_end text start long none front id ends =
    let cut : length front ≡ start = omega (arith, ap length ends.text_is, length-append front ends.end, length_id ends.end id ends.id_is) in
    let end : drop start text ≡ ends.end = rw (ends.text_is, ← cut) (drop-append_seam front ends.end) in
    let last : take (length text - start) (drop start text) ≡ ends.end = rw (← length-drop start text, take-length, end) refl in
    none id (rw last ends.id_is)
