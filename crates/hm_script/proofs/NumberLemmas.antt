-- Digits and the numbers that they spell.
use Rattle.std.proofs.Common.{◌≡◌, ℕ, zero, suc, ◌*◌, ◌^◌, ◌<◌, ◌≤◌, List, [], ◌∷◌, length, get_or, take, refl, sym, ◌∙◌, ap, arith, codes}
use Rattle.std.specs.Char.{digit_value}
use Rattle.std.specs.Str.Parse.{AllDigits, digits_value}
use Rattle.std.proofs.lemmas.Str.Parse.{IsNumeralModel, numerals_by_value, tells_digits, digits_value-take-le}
use Rattle.std.proofs.lemmas.Int.Digits.{digits_value-lt}
use Rattle.std.proofs.lemmas.Fmt.{decimal_digit, decimal-digits_value, digits_decimal, digits_value-decimal, decimal_nonempty, first_decimal, decimal_injective}
use Rattle.std.proofs.lemmas.List.{append_cancel_left, length-take}
use Rattle.std.proofs.Math.Nat.{pow-le-pow_right}
use Rattle.hex.proofs.HexLemmas.{decode_of-ok}
use Rattle.hm_model.specs.Words.{IsNumber, IsHexNumber, IsIdWord, IsHexBytes}
use Rattle.hm_script.specs.Values.{IsNoNumber, IsNoHexNumber}

-- the words of std for decimal digits and their value
own : IsNumeralModel (AllDigits 10) (digits_value 10)
own = numerals_by_value (AllDigits 10) tells_digits

-- a digit among digits
digit_at : (radix : ℕ) (digits : List ℕ) (i : ℕ) → i < length digits → AllDigits radix digits → digit_value (get_or digits i 0) < radix
digit_at radix [] i within all = absurd (omega arith)
digit_at radix (d ∷ ds) zero within all = all.0
digit_at radix (d ∷ ds) (suc i) within all = digit_at radix ds i (omega arith) all.1

-- the digits of a number
digits_of_number : (word : List ℕ) (number : ℕ) → IsNumber word number → AllDigits 10 word
digits_of_number word number is = rw is.written (digits_decimal own number is.bounded)

-- the value of its digits
value_of_number : (word : List ℕ) (number : ℕ) → IsNumber word number → digits_value 10 word ≡ number
value_of_number word number is = rw is.written (digits_value-decimal own number is.bounded)

-- a number has a digit
pub no_number-empty : (word : List ℕ) → length word ≡ 0 → IsNoNumber word
no_number-empty word none number is = absurd (omega (arith, ap length is.written, decimal_nonempty number is.bounded))

-- a number has no leading zero
pub no_number-zero : (word : List ℕ) → get_or word 0 0 ≡ 48 → 1 < length word → IsNoNumber word
no_number-zero word first more zero is = absurd (omega (arith, ap length (is.written ∙ decimal_digit 0 (omega arith))))
no_number-zero word first more (suc n) is =
    absurd (omega (arith, first_decimal (suc n) (omega arith) is.bounded, ap (λ ds. get_or ds 0 0) is.written))

-- a number has no other byte
pub no_number-digit : (word : List ℕ) (i : ℕ) → i < length word → (digit_value (get_or word i 0) < 10 → ⊥) → IsNoNumber word
no_number-digit word i within none number is = none (digit_at 10 word i within (digits_of_number word number is))

-- a number is no less than its first digits
pub no_number-large : (word : List ℕ) (i value : ℕ) → value ≡ digits_value 10 (take i word) → 2 ^ 64 ≤ value → IsNoNumber word
no_number-large word i value is_value large number is =
    absurd (omega (arith, digits_value-take-le 10 word i (omega arith), value_of_number word number is, is.bounded))

-- digits without a leading zero spell their number
pub number_of_digits : (word : List ℕ) (number : ℕ) → AllDigits 10 word → 0 < length word → (get_or word 0 0 ≡ 48 → length word ≡ 1)
    → number ≡ digits_value 10 word → number < 2 ^ 64 → IsNumber word number
number_of_digits word number all some plain value small = record {
  written = rw value (sym (decimal-digits_value own word all some plain (rw value at small)));
  bounded = small;
}

-- a word is one number only
pub number_is_one : (word : List ℕ) (a b : ℕ) → IsNumber word a → IsNumber word b → a ≡ b
number_is_one word a b p q = decimal_injective a b p.bounded q.bounded (sym p.written ∙ q.written)

-- a hexadecimal number has no other byte
pub no_hex-digit : (size : ℕ) (word : List ℕ) (i : ℕ) → i < length word → (digit_value (get_or word i 0) < 16 → ⊥) → IsNoHexNumber size word
no_hex-digit size word i within none number is = none (digit_at 16 word i within is.each)

-- so few digits leave room for one more
pub room_for_digit : (digits : List ℕ) (i : ℕ) → i < 16 → i < length digits → AllDigits 16 (take i digits) → digits_value 16 (take i digits) < 2 ^ 60
room_for_digit digits i few within all =
    let below : digits_value 16 (take i digits) < 16 ^ length (take i digits) = digits_value-lt 16 (take i digits) all in
    let short : length (take i digits) ≤ 15 = omega (arith, length-take i digits) in
    omega (arith, below, pow-le-pow_right {n = 16} (omega arith) short)

-- a word is one hexadecimal number only
pub hex_number_is_one : (size : ℕ) (word : List ℕ) (a b : ℕ) → IsHexNumber size word a → IsHexNumber size word b → a ≡ b
hex_number_is_one size word a b p q = p.value ∙ sym q.value

-- two hexadecimal digits spell a byte
pub byte_of_digits : (word : List ℕ) (number : ℕ) → IsHexNumber 2 word number → number < 256
byte_of_digits word number is =
    let below : digits_value 16 word < 16 ^ length word = digits_value-lt 16 word is.each in
    let two : 16 ^ length word ≡ 256 = rw is.size_is refl in
    omega (arith, below, two, is.value)

-- as many bytes as half the digits
pub length_bytes : (word bytes : List ℕ) → IsHexBytes word bytes → length word ≡ 2 * length bytes
length_bytes word bytes is = (decode_of-ok word bytes is).2

-- a word is one id only
pub id_is_one : (word : List ℕ) (a b : ℕ) → IsIdWord word a → IsIdWord word b → a ≡ b
id_is_one word a b p q =
    let same : p.digits ≡ q.digits = append_cancel_left (codes "0x") p.digits q.digits (sym p.written ∙ q.written) in
    hex_number_is_one 16 p.digits a b p.spelled (rw same q.spelled)
