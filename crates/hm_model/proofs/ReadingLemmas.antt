-- Path words of lower-case letters and of ids, read by computing.
use Rattle.std.proofs.Common.{◌≡◌, ◌≢◌, ℕ, zero, suc, ◌+◌, ◌<◌, ◌≤◌, true, false, List, [], ◌∷◌, ◌++◌, length, drop, get_or, refl, ◌∙◌, arith}
use Rattle.std.specs.Prelude.{Bool, ◌&&◌, ◌==◌, Some, None, codes, if◌then◌else◌}
use Rattle.std.specs.Bool.{nat_le, nat_lt}
use Rattle.std.specs.List.{AllZip, list_all}
use Rattle.std.specs.Char.{digit_value}
use Rattle.std.specs.Str.Parse.{AllDigits, digits_value}
use Rattle.std.proofs.lemmas.Bool.Decides.{nat_tests}
use Rattle.hm_types.specs.declared.limits.TheConstants.{MOST_PATH_BYTES, MOST_PATH_PARTS}
use Rattle.hm_types.specs.Name.{IsName}
use Rattle.hm_path.specs.declared.part.Part.{Part}
use Rattle.hm_path.specs.Component.{IsComponent, id_sign}
use Rattle.hm_path.specs.Path.{IsPath, component_texts}

both_true : (a b : Bool) → (a && b) ≡ true → (a ≡ true) × (b ≡ true)
both_true true b is = (refl, is)
both_true false b is = absurd (cc)

-- a lower-case letter
abbrev pub is_letter : ℕ → Bool
is_letter b = nat_le 0x61 b && nat_le b 0x7A

-- each byte of such letters is one
letter_at : (name : List ℕ) (k d : ℕ) → list_all is_letter name ≡ true → k < length name → (0x61 ≤ get_or name k d) × (get_or name k d ≤ 0x7A)
letter_at [] k d all within = absurd (omega arith)
letter_at (b ∷ bs) zero d all within =
    let here = both_true (nat_le 0x61 b) (nat_le b 0x7A) (both_true (is_letter b) (list_all is_letter bs) all).0 in
    let from : 0x61 ≤ b = grind (arith, nat_tests, here.0) in
    let to : b ≤ 0x7A = grind (arith, nat_tests, here.1) in
    (from, to)
letter_at (b ∷ bs) (suc k) d all within = letter_at bs k d (both_true (is_letter b) (list_all is_letter bs) all).1 (omega arith)

-- no byte of them is `@`, within or past their end
no_sign : (name : List ℕ) (k : ℕ) → list_all is_letter name ≡ true → get_or name k 0 ≡ 0x40 → ⊥
no_sign [] k all is = omega (arith, is)
no_sign (b ∷ bs) zero all is = let both = letter_at (b ∷ bs) zero 0 all (omega arith) in omega (arith, both.0, is)
no_sign (b ∷ bs) (suc k) all is = no_sign bs k (both_true (is_letter b) (list_all is_letter bs) all).1 is

-- some letters, of which there are not too many, are a name
abbrev pub is_plain : List ℕ → Bool
is_plain name = nat_lt 0 (length name) && (nat_le (length name) 255 && list_all is_letter name)

pub IsName-plain : (name : List ℕ) → is_plain name ≡ true → IsName name
IsName-plain name plain =
    let some = both_true (nat_lt 0 (length name)) (nat_le (length name) 255 && list_all is_letter name) plain in
    let few = both_true (nat_le (length name) 255) (list_all is_letter name) some.1 in
    let least : 1 ≤ length name = grind (arith, nat_tests, some.0) in
    let most : length name ≤ 255 = grind (arith, nat_tests, few.0) in
    record {
      size = (least, most);
      each = λ k d within. let both = letter_at name k d few.1 within in (omega (arith, both.0), omega (arith, both.0, both.1), omega (arith, both.1));
      no_id = λ k sign. absurd (no_sign name k few.1 sign);
      no_dot = (
        λ is. let dot : list_all is_letter (codes ".") ≡ true = rw is at few.1 in absurd (cc),
        λ is. let dots : list_all is_letter (codes "..") ≡ true = rw is at few.1 in absurd (cc),
      );
    }

-- a component that is a name of letters
pub named : (name : List ℕ) → is_plain name ≡ true → IsComponent name (record { name = Some name; as_of = None })
named name plain = (refl, IsName-plain name plain)

-- hexadecimal digits are told by a test
pub digits_are : (digits : List ℕ) → list_all (λ b. nat_lt (digit_value b) 16) digits ≡ true → AllDigits 16 digits
digits_are [] all = tt
digits_are (b ∷ bs) all =
    let both = both_true (nat_lt (digit_value b) 16) (list_all (λ c. nat_lt (digit_value c) 16) bs) all in
    let here : digit_value b < 16 = grind (arith, nat_tests, both.0) in
    (here, digits_are bs both.1)

-- a component that is an id
pub dated : (digits : List ℕ) → length digits ≡ 16 → list_all (λ b. nat_lt (digit_value b) 16) digits ≡ true →
    IsComponent (id_sign ++ digits) (record { name = None; as_of = Some (record { 0 = digits_value 16 digits }) })
dated digits size each = record { digits = digits; written = refl; spelled = record { size = size; each = digits_are digits each; value = refl } }

-- a word is a path of parts, where its components are written as they are
pub path : (word : List ℕ) (parts : List Part) → nat_le (length word) MOST_PATH_BYTES ≡ true → get_or word 0 0 ≡ 0x2F →
    nat_le (length parts) MOST_PATH_PARTS ≡ true → AllZip IsComponent (component_texts (drop 1 word)) parts → IsPath word parts
path word parts size rooted few each =
    let within : length word ≤ MOST_PATH_BYTES = grind (arith, nat_tests, size) in
    let count : length parts ≤ MOST_PATH_PARTS = grind (arith, nat_tests, few) in
    record { size = within; rooted = rooted; spelled = record { each = each; few = count } }
