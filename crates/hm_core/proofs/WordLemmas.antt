-- The path words of every command are read.
use Rattle.std.proofs.Common.{⊎_elim, ℕ, List, [], ◌∷◌}
use Rattle.std.specs.List.{AllZip}
use Rattle.hm_path.proofs.ReadLemmas.{every_text}
use Rattle.hm_model.specs.Sites.{BadAt, IsParsed, Parsed, Parts, ReadsWords, Use, uses_of}
use Rattle.hm_model.specs.declared.command.Command.{Command}

read_word : (word : List ℕ) → (path : Parsed) × IsParsed word path
read_word word = ⊎_elim (λ h. (Parts h.0, h.1)) (λ h. (BadAt h.0, h.1)) (every_text word)

read_uses : (uses : List (Use × List ℕ)) → (paths : List Parsed) × AllZip (λ (u : Use × List ℕ) (path : Parsed). IsParsed u.1 path) uses paths
read_uses [] = ([], tt)
read_uses (u ∷ uses) =
    let word = read_word u.1 in
    let rest = read_uses uses in
    (word.0 ∷ rest.0, (word.1, rest.1))

pub words_are_read : (command : Command) → (paths : List Parsed) × ReadsWords command paths
words_are_read command = read_uses (uses_of command)
