-- The versions of a tree that goes on.
use Rattle.std.proofs.Common.{◌≡◌, ℕ, ◌≤◌, true, List, [], ◌∷◌, ◌++◌, refl, arith}
use Rattle.std.specs.Prelude.{if◌then◌else◌}
use Rattle.std.specs.Bool.{nat_le}
use Rattle.std.specs.List.{AllByRecursion}
use Rattle.std.proofs.lemmas.Bool.Decides.{nat_tests}
use Rattle.hm_types.specs.Tree.{FileTree}
use Rattle.hm_model.specs.Volume.{as_of}

-- the newest version is shown from its first id on
pub as_of-push : (t : ℕ) (tree : FileTree) (versions : List (ℕ × FileTree)) (first : ℕ) (new : FileTree) → first ≤ t →
    as_of t tree (versions ++ (first, new) ∷ []) ≡ new
as_of-push t tree [] first new by = let yes : nat_le first t ≡ true = grind (arith, nat_tests) in rw yes refl
as_of-push t tree (v ∷ vs) first new by = as_of-push t (if nat_le v.0 t then v.1 else tree) vs first new by

-- later than all versions the same one is shown
pub as_of-later : (t u : ℕ) (tree : FileTree) (versions : List (ℕ × FileTree)) → AllByRecursion (λ v. v.0 ≤ t) versions → t ≤ u →
    as_of u tree versions ≡ as_of t tree versions
as_of-later t u tree [] by later = refl
as_of-later t u tree (v ∷ vs) by later =
    let now : nat_le v.0 t ≡ true = grind (arith, nat_tests, by.0) in
    let after : nat_le v.0 u ≡ true = grind (arith, nat_tests, by.0) in
    rw (now, after) (as_of-later t u v.1 vs by.1 later)

-- all versions begin by a later id too
pub by_later : (t u : ℕ) (versions : List (ℕ × FileTree)) → AllByRecursion (λ v. v.0 ≤ t) versions → t ≤ u → AllByRecursion (λ v. v.0 ≤ u) versions
by_later t u [] by later = tt
by_later t u (v ∷ vs) by later = (omega (arith, by.0), by_later t u vs by.1 later)

-- one more version that begins by then
pub by_push : (t : ℕ) (versions : List (ℕ × FileTree)) (first : ℕ) (new : FileTree) → AllByRecursion (λ v. v.0 ≤ t) versions → first ≤ t →
    AllByRecursion (λ v. v.0 ≤ t) (versions ++ (first, new) ∷ [])
by_push t [] first new by here = (here, tt)
by_push t (v ∷ vs) first new by here = (by.0, by_push t vs first new by.1 here)
