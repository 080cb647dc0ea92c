-- The words of a script's line, and the values that they spell.
use Rattle.std.specs.Prelude.{◌≡◌, ◌⊎◌, ℕ, ◌<◌, ◌≤◌, ◌^◌, List, ◌++◌, ◌==◌, All, Ok, codes, decimal, length}
use Rattle.std.specs.List.{slice_split}
use Rattle.std.specs.Str.Parse.{AllDigits, digits_value}
use Rattle.hex.specs.Hex.{decode_of}
use Rattle.hm_types.specs.declared.limits.TheConstants.{MOST_LANES}

-- what separates two words
abbrev pub blank : ℕ
blank = 0x20

-- a byte that may stand in a word: no blank, no control byte and no delete
abbrev pub IsWordByte : ℕ → Type 0
IsWordByte b = ((0x21 ≤ b) × (b ≤ 0x7E)) ⊎ (0x80 ≤ b)

-- one or more such bytes
pub record IsWord (word : List ℕ) : Type 0 where
  pub some : 1 ≤ length word
  pub each : All IsWordByte word

-- the text is these words, with one blank between two of them
pub record AreWords (text : List ℕ) (words : List (List ℕ)) : Type 0 where
  pub split : slice_split (λ b. b == blank) text ≡ words
  pub each : All IsWord words

-- a number is written in decimal digits as it is printed, so without a sign or a leading zero
pub record IsNumber (word : List ℕ) (number : ℕ) : Type 0 where
  pub written : word ≡ decimal number
  pub bounded : number < 2 ^ 64

-- so many hexadecimal digits, of either case
pub record IsHexNumber (size : ℕ) (word : List ℕ) (number : ℕ) : Type 0 where
  pub size_is : length word ≡ size
  pub each : AllDigits 16 word
  pub value : number ≡ digits_value 16 word

-- an id is written as `0x` and sixteen hexadecimal digits
pub record IsIdWord (word : List ℕ) (id : ℕ) : Type 0 where
  pub digits : List ℕ
  pub written : word ≡ codes "0x" ++ digits
  pub spelled : IsHexNumber 16 digits id

-- bytes are written as two hexadecimal digits each
abbrev pub IsHexBytes : List ℕ → List ℕ → Type 0
IsHexBytes word bytes = decode_of word ≡ Ok bytes

-- the first word of a line that has a lane: its number and a colon
pub record IsLaneWord (word : List ℕ) (lane : ℕ) : Type 0 where
  pub written : word ≡ decimal lane ++ codes ":"
  pub least : 1 ≤ lane
  pub most : lane ≤ MOST_LANES
