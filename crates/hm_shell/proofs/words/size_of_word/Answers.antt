use Rattle.std.proofs.Common.{◌≡◌, ℕ, List, ◌∙◌, arith, Result, Ok, true, inl, inr}
use Rattle.std.specs.Str.Parse.{ParsesUnsigned}
use Rattle.std.proofs.lemmas.Fmt.{parse-decimal}
use Rattle.std.proofs.lemmas.Slice.Eq.{bytes_eq-Decides}
use Rattle.hm_shell.specs.Words.{SpellsSize}
use Rattle.hm_shell.proofs.words.size_of_word.Goals as goal

-- a word that spells a size parses to that size
parses_size : {E : Type 0} (word : List ℕ) (r : Result ℕ E) (n : ℕ) → ParsesUnsigned 32 10 word r → SpellsSize word n → r ≡ Ok n
parses_size word r n p s = parse-decimal 32 n word r (omega arith) (omega arith) s.digits p

pub returns-in_default : goal.returns-in_default
returns-in_default c = λ n s. c.in_default.not-Ok n (parses_size _ _ n c.parse.ensures.value.0 s)

pub returns-else-is_plain : goal.returns-else-is_plain
returns-else-is_plain c = λ n s.
    let same : c.in-Ok.size ≡ n = let e = parses_size _ _ n c.parse.ensures.value.0 s in cc in
    let text : c.format.result.now ≡ c.args.word.now = cc in
    let plain : c.eq-is_plain.result ≡ true = c.eq-is_plain.ensures ∙ (bytes_eq-Decides _ _).1 text in
    elim c.else-is_plain.either [ inl w ↦ omega arith | inr (inl w) ↦ omega arith | inr (inr w) ↦ cc ]
