-- The checks of calls on one tree, in their order.
use Rattle.std.proofs.Common.{◌≡◌, ℕ, ◌<◌, List, [], ◌∷◌, ◌++◌, Bool, true, false, Option, Some, None, map, refl, ◌∙◌, sym, ap, subst, arith}
use Rattle.std.specs.Prelude.{◌||◌, ◌&&◌, if◌then◌else◌}
use Rattle.std.specs.Bool.{nat_le, nat_lt}
use Rattle.std.specs.List.{AllZip, list_any}
use Rattle.std.specs.Option.{option_map_or}
use Rattle.std.proofs.lemmas.Bool.Decides.{nat_tests}
use Rattle.hm_types.specs.declared.id.Id.{Id}
use Rattle.hm_types.specs.declared.limits.TheConstants.{GREATEST_ID}
use Rattle.hm_path.specs.declared.part.Part.{Part}
use Rattle.hm_model.specs.declared.command.Command.{Command}
use Rattle.hm_model.specs.declared.command.Command.TheVariants.{MirrorRead}
use Rattle.hm_model.specs.declared.reply.Reply.{Reply}
use Rattle.hm_model.specs.declared.reply.Reply.TheVariants.{Busy, Future, IdsSpent, ReadOnly}
use Rattle.hm_types.specs.Tree.{FileTree}
use Rattle.hm_model.specs.Sites.{Parsed, Parts, BadAt, IsParsed, Use, uses_of}
use Rattle.hm_model.specs.Due.{Check, early_checks, first_refusal, good_paths, has_id, ids_left, is_above, is_pass, is_pfs_call, is_tree_call}
use Rattle.hm_model.specs.Due.{no_future, no_future_begin, none_open, past_stays, refuse_if}
use Rattle.hm_model.specs.PlainCall.{IsServed, inner_call}

-- where the first checks pass, the next decide, and where one fails, they do not
pub first_none : (xs ys : List Check) → first_refusal xs ≡ None → first_refusal (xs ++ ys) ≡ first_refusal ys
first_none [] ys none = refl
first_none (None ∷ xs) ys none = first_none xs ys none
first_none (Some reply ∷ xs) ys none = absurd (cc)

pub first_some : (xs ys : List Check) (reply : Reply) → first_refusal xs ≡ Some reply → first_refusal (xs ++ ys) ≡ Some reply
first_some [] ys reply some = absurd (cc)
first_some (None ∷ xs) ys reply some = first_some xs ys reply some
first_some (Some other ∷ xs) ys reply some = some

-- an id is left
pub ids_are_left : (last : ℕ) → last < GREATEST_ID → refuse_if (nat_le GREATEST_ID last) IdsSpent ≡ None
ids_are_left last less = let no : nat_le GREATEST_ID last ≡ false = grind (arith, nat_tests) in rw no refl

-- nothing else is open
if_same : {X : Type 0} (test : Bool) (x : X) → (if test then x else x) ≡ x
if_same true x = refl
if_same false x = refl

pub none_is_open : (command : Command) → none_open None command ≡ None
none_is_open command = if_same (is_pass command) None

-- a path without ids has none above the last one
any_above : (last : ℕ) (id : Option Id) → option_map_or (λ (i : Id). true) id false ≡ false → option_map_or (λ (i : Id). nat_lt last i.0) id false ≡ false
any_above last None none = refl
any_above last (Some i) none = absurd (cc)

pub or_false : (a b : Bool) → (a || b) ≡ false → (a ≡ false) × (b ≡ false)
or_false false b none = (refl, none)
or_false true b none = absurd (cc)

parts_above : (last : ℕ) (parts : List Part) → list_any (λ (part : Part). option_map_or (λ (i : Id). true) part.as_of false) parts ≡ false →
    list_any (is_above last) parts ≡ false
parts_above last [] none = refl
parts_above last (part ∷ parts) none =
    let both = or_false (option_map_or (λ (i : Id). true) part.as_of false) (list_any (λ (p : Part). option_map_or (λ (i : Id). true) p.as_of false) parts)
    none in
    rw (any_above last part.as_of both.0, parts_above last parts both.1) refl

no_future_now : (last : ℕ) (path : Parsed) → has_id path ≡ false → no_future last path ≡ None
no_future_now last (Parts parts) none = rw (parts_above last parts none) refl
no_future_now last (BadAt place) none = refl

pub no_futures : (last : ℕ) (paths : List Parsed) → list_any has_id paths ≡ false → first_refusal (map (no_future last) paths) ≡ None
no_futures last [] none = refl
no_futures last (path ∷ paths) none =
    let both = or_false (has_id path) (list_any has_id paths) none in
    rw (no_future_now last path both.0) (no_futures last paths both.1)

no_begin : (last : ℕ) (command : Command) → IsServed command → no_future_begin last command ≡ None
no_begin last (MirrorRead path begin) served = absurd served
no_begin last other served = refl

pub and_false : (a : Bool) → (a && false) ≡ false
and_false true = refl
and_false false = refl

past_is_new : (command : Command) (paths : List Parsed) → list_any has_id paths ≡ false → past_stays command paths ≡ None
past_is_new command paths none = rw (none, and_false (is_tree_call command || is_pfs_call command)) refl

-- all checks before the walks pass where the paths are good
pub early_pass : (size last : ℕ) (tree : FileTree) (command : Command) (paths : List Parsed) → IsServed command → last < GREATEST_ID →
    list_any has_id paths ≡ false → first_refusal (good_paths (uses_of command) paths) ≡ None →
    first_refusal (ids_left (inner_call size last tree command paths) ∷ early_checks last None command paths) ≡ None
early_pass size last tree command paths served less none good =
    rw (ids_are_left last less, none_is_open command)
    (first_none (good_paths (uses_of command) paths ++ map (no_future last) paths) (no_future_begin last command ∷ past_stays command paths ∷ [])
    (first_none (good_paths (uses_of command) paths) (map (no_future last) paths) good ∙ no_futures last paths none)
    ∙ (rw (no_begin last command served, past_is_new command paths none) refl))

-- and the first bad path is told where one is bad
pub early_fail : (size last : ℕ) (tree : FileTree) (command : Command) (paths : List Parsed) (reply : Reply) → last < GREATEST_ID →
    first_refusal (good_paths (uses_of command) paths) ≡ Some reply →
    first_refusal (ids_left (inner_call size last tree command paths) ∷ early_checks last None command paths) ≡ Some reply
early_fail size last tree command paths reply less bad =
    rw (ids_are_left last less, none_is_open command)
    (first_some (good_paths (uses_of command) paths ++ map (no_future last) paths) (no_future_begin last command ∷ past_stays command paths ∷ []) reply
    (first_some (good_paths (uses_of command) paths) (map (no_future last) paths) reply bad))
