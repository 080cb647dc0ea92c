-- The own checks of a call on one tree.
use Rattle.std.proofs.Common.{◌≡◌, ℕ, List, [], ◌∷◌, Option, Some, None, refl, ap}
use Rattle.std.specs.Prelude.{IfSome, ◌==◌, ◌&&◌, ◌||◌}
use Rattle.std.specs.List.{list_any}
use Rattle.std.specs.Option.{option_or}
use Rattle.hm_types.specs.declared.id.Obj.{Obj}
use Rattle.hm_model.specs.declared.command.Command.{Command}
use Rattle.hm_model.specs.declared.command.Command.TheVariants.{Mkdir, Touch, Symlink, Snapshot, Ln, Mv, Write, Fill, Truncate, Rm, Rmdir, Ls, Cat}
use Rattle.hm_model.specs.declared.command.Command.TheVariants.{Stat, Readlink}
use Rattle.hm_model.specs.declared.reply.Reply.{Reply}
use Rattle.hm_types.specs.Tree.{FileTree}
use Rattle.hm_model.specs.Sites.{Parsed}
use Rattle.hm_model.specs.Call.{first_site, second_site}
use Rattle.hm_model.specs.Due.{Check, first_refusal, own_checks}
use Rattle.hm_model.specs.Plain.{pairs}
use Rattle.hm_model.specs.PlainCall.{IsServed, inner_call}
use Rattle.hm_model.specs.PlainChecks.{own_at}

-- they are the same whatever the volume's size and last id
pub own_same : (size last : ℕ) (tree : FileTree) (command : Command) (paths : List Parsed) → IsServed command →
    own_checks (inner_call size last tree command paths) ≡ own_at tree command (first_site (inner_call size last tree command paths))
    (second_site (inner_call size last tree command paths))
own_same size last tree (Mkdir path) paths served = refl
own_same size last tree (Touch path) paths served = refl
own_same size last tree (Symlink target path) paths served = refl
own_same size last tree (Snapshot path) paths served = refl
own_same size last tree (Ln old new) paths served = refl
own_same size last tree (Mv old new) paths served = refl
own_same size last tree (Write path offset bytes) paths served = refl
own_same size last tree (Fill path offset count byte) paths served = refl
own_same size last tree (Truncate path n) paths served = refl
own_same size last tree (Rm path) paths served = refl
own_same size last tree (Rmdir path) paths served = refl
own_same size last tree (Ls path) paths served = refl
own_same size last tree (Cat path offset count) paths served = refl
own_same size last tree (Stat path) paths served = refl
own_same size last tree (Readlink path) paths served = refl
own_same size last tree other paths served = absurd served

-- what is said of the refusals of two checks is said of the first of them
pub some_or : (P : Reply → Type 0) (a b : Check) → IfSome a P → IfSome b P → IfSome (option_or a b) P
some_or P (Some x) b first second = first
some_or P None b first second = second

-- two checks, three, and four with one between them that passes
pub two_checks : (a b : Check) → option_or a b ≡ first_refusal (a ∷ b ∷ [])
two_checks (Some x) b = refl
two_checks None (Some y) = refl
two_checks None None = refl

pub three_checks : (a b c : Check) → option_or (option_or a b) c ≡ first_refusal (a ∷ b ∷ c ∷ [])
three_checks (Some x) b c = refl
three_checks None (Some y) c = refl
three_checks None None (Some z) = refl
three_checks None None None = refl

pub four_checks : (a b c d : Check) → option_or (option_or (option_or a b) c) d ≡ first_refusal (a ∷ b ∷ None ∷ c ∷ d ∷ [])
four_checks (Some x) b c d = refl
four_checks None (Some y) c d = refl
four_checks None None (Some z) d = refl
four_checks None None None (Some w) = refl
four_checks None None None None = refl

-- an object that was passed
pub passed_pairs : (objects : List Obj) (number : ℕ) → list_any (λ (p : ℕ × ℕ). (p.0 == 0) && (p.1 == number)) (pairs objects) ≡ list_any
    (λ (o : Obj). o.0 == number) objects
passed_pairs [] number = refl
passed_pairs (o ∷ os) number = ap (λ rest. (o.0 == number) || rest) (passed_pairs os number)

-- a check before one that passes
pub pass_last : (check : Check) → first_refusal (check ∷ None ∷ []) ≡ check
pass_last None = refl
pass_last (Some reply) = refl
