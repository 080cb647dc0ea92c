-- Words that spell no value.
use Rattle.std.specs.Prelude.{ℕ, List, Option, Some, None, length}
use Rattle.hm_types.specs.declared.limits.TheConstants.{MOST_WRITE_BYTES}
use Rattle.hm_model.specs.Words.{IsNumber, IsHexNumber, IsIdWord, IsHexBytes}
use Rattle.hm_model.specs.Forms.{Between}

-- no number is written so
abbrev pub IsNoNumber : List ℕ → Type 0
IsNoNumber word = (number : ℕ) → IsNumber word number → ⊥

-- the word is this number, which lies between these two
abbrev pub IsNumberBetween : ℕ → ℕ → List ℕ → ℕ → Type 0
IsNumberBetween least most word number = IsNumber word number × Between least most number

-- no number between these two is written so
abbrev pub IsNoNumberBetween : ℕ → ℕ → List ℕ → Type 0
IsNoNumberBetween least most word = (number : ℕ) → IsNumber word number → Between least most number → ⊥

-- no number of so many hexadecimal digits is written so
abbrev pub IsNoHexNumber : ℕ → List ℕ → Type 0
IsNoHexNumber size word = (number : ℕ) → IsHexNumber size word number → ⊥

-- no id is written so
abbrev pub IsNoIdWord : List ℕ → Type 0
IsNoIdWord word = (id : ℕ) → IsIdWord word id → ⊥

-- the word spells these bytes, as many as a `write` puts, or no such bytes
abbrev pub ReadsBytes : List ℕ → Option (List ℕ) → Type 0
ReadsBytes word (Some bytes) = IsHexBytes word bytes × Between 1 MOST_WRITE_BYTES (length bytes)
ReadsBytes word None = (bytes : List ℕ) → IsHexBytes word bytes → Between 1 MOST_WRITE_BYTES (length bytes) → ⊥
