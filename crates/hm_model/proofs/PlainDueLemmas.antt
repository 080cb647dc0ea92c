-- The replies that calls on one tree are due.
use Rattle.std.proofs.Common.{◌≡◌, ℕ, ◌<◌, List, [], ◌∷◌, ◌++◌, Bool, true, false, Option, Some, None, map, refl, ◌∙◌, sym, ap, subst, arith}
use Rattle.std.specs.Prelude.{◌&&◌, ◌==◌, if◌then◌else◌}
use Rattle.std.specs.Bool.{nat_le}
use Rattle.std.specs.List.{list_any}
use Rattle.std.specs.Option.{option_map_or}
use Rattle.std.proofs.lemmas.Bool.Decides.{nat_tests}
use mathlib.Core.Path.{fun_ext}
use Rattle.hm_types.specs.declared.limits.TheConstants.{GREATEST_ID}
use Rattle.hm_model.specs.declared.command.Command.{Command}
use Rattle.hm_model.specs.declared.command.Command.TheVariants.{Ls, Cat, Stat, Readlink}
use Rattle.hm_model.specs.declared.place.Place.{Place}
use Rattle.hm_model.specs.declared.reply.Reply.{Reply}
use Rattle.hm_model.specs.declared.reply.Reply.TheVariants.{ReadOnly}
use Rattle.hm_types.specs.Tree.{FileTree, no_tree}
use Rattle.hm_model.specs.Volume.{PseudoFileSystem, as_of, fresh_with, new_master, shown_id}
use Rattle.hm_model.specs.View.{View, When, Now, AsOf, is_clear, own_tree, substituted, view_of}
use Rattle.hm_model.specs.Sites.{Use, Parsed, Site, At, uses_of}
use Rattle.hm_model.specs.Call.{Call, all_located, first_of, first_site, second_of, second_site}
use Rattle.hm_model.specs.Due.{Check, accepted, checks, due, early_checks, first_refusal, hash_left, ids_left, intervals_left, is_in_slave}
use Rattle.hm_model.specs.Due.{is_tree_call, own_checks, refusal, slaves_stay, walks}
use Rattle.hm_model.specs.Plain.{plain_view, site_of}
use Rattle.hm_model.specs.PlainCall.{IsDueRefusal, IsLook, IsLooked, IsPlaced, IsServed, ReadsNow, call_on, inner_call, located_at, plain_call}
use Rattle.hm_model.specs.PlainChecks.{answered_at, own_at}
use Rattle.hm_model.proofs.PlainCheckLemmas.{and_false, first_none, first_some}
use Rattle.hm_model.proofs.OwnLemmas.{own_same}

-- what the volume shows is the tree, in PFS 0
both_ways : {X : Type 0} (test : Bool) (x y z : X) → x ≡ z → y ≡ z → (if test then x else y) ≡ z
both_ways true x y z first second = first
both_ways false x y z first second = second

found_at : (zero : Bool) (tree : FileTree) (m : PseudoFileSystem) (f : PseudoFileSystem → FileTree) → f m ≡ tree →
    option_map_or f (if zero then Some m else None) no_tree ≡ (if zero then tree else no_tree)
found_at true tree m f same = same
found_at false tree m f same = refl

always : (t : ℕ) (tree : FileTree) → (if nat_le 0 t then tree else no_tree) ≡ tree
always t tree = let yes : nat_le 0 t ≡ true = grind (arith, nat_tests) in rw yes refl

own_shown : (size last : ℕ) (tree : FileTree) (pfs : ℕ) (when : When) → own_tree (fresh_with size last tree) pfs when ≡ plain_view tree pfs when
own_shown size last tree pfs Now =
    found_at (0 == pfs) tree (new_master 0 0 ((0, tree) ∷ [])) (λ (s : PseudoFileSystem). as_of (shown_id last s) no_tree s.versions) (always last tree)
own_shown size last tree pfs (AsOf t) =
    found_at (0 == pfs) tree (new_master 0 0 ((0, tree) ∷ [])) (λ (s : PseudoFileSystem). as_of t no_tree s.versions) (always t tree)

view_same : (size last : ℕ) (tree : FileTree) → view_of (fresh_with size last tree) [] ≡ plain_view tree
view_same size last tree =
    fun_ext (λ pfs. fun_ext (λ when. both_ways (is_clear (fresh_with size last tree) pfs) (own_tree (fresh_with size last tree) pfs when)
    (own_tree (fresh_with size last tree) pfs when) (plain_view tree pfs when) (own_shown size last tree pfs when) (own_shown size last tree pfs when)))

-- so calls see a table
pub call_same : (size last : ℕ) (tree : FileTree) (command : Command) (paths : List Parsed) →
    plain_call size last tree command paths ≡ inner_call size last tree command paths
call_same size last tree command paths = ap (λ (view : View). call_on size last tree view command paths) (view_same size last tree)

-- the places of a call pass all that is asked of them before its own checks
located_walk : (uses : List (Use × List ℕ)) (a b : Site) → first_refusal (map walks (located_at uses a b)) ≡ None
located_walk [] a b = refl
located_walk (u ∷ []) a b = refl
located_walk (u ∷ v ∷ uses) a b = refl

located_stay : (call : Call) (uses : List (Use × List ℕ)) (a b : Site) → is_in_slave call (At a) ≡ false → is_in_slave call (At b) ≡ false →
    list_any (is_in_slave call) (located_at uses a b) ≡ false
located_stay call [] a b first second = refl
located_stay call (u ∷ []) a b first second = rw first refl
located_stay call (u ∷ v ∷ uses) a b first second = rw (first, second) refl

stays : (size last : ℕ) (tree : FileTree) (command : Command) (paths : List Parsed) (a b : Place) → IsPlaced tree command a b → ReadsNow command paths →
    slaves_stay (inner_call size last tree command paths) ≡ None
stays size last tree command paths a b placed reads =
    let none : list_any (is_in_slave (inner_call size last tree command paths)) (all_located (inner_call size last tree command paths)) ≡ false =
    ap (λ l. list_any (is_in_slave (inner_call size last tree command paths)) l) (placed.located size last paths reads)
    ∙ located_stay (inner_call size last tree command paths) (uses_of command) (site_of a) (site_of b) refl refl in
    rw (none, and_false (is_tree_call command)) refl

pub first_same : (size last : ℕ) (tree : FileTree) (command : Command) (paths : List Parsed) (a b : Place) → IsPlaced tree command a b →
    ReadsNow command paths → first_site (inner_call size last tree command paths) ≡ site_of a
first_same size last tree command paths a b placed reads = ap first_of (placed.located size last paths reads) ∙ placed.first

pub second_same : (size last : ℕ) (tree : FileTree) (command : Command) (paths : List Parsed) (a b : Place) → IsPlaced tree command a b →
    ReadsNow command paths → second_site (inner_call size last tree command paths) ≡ site_of b
second_same size last tree command paths a b placed reads = ap second_of (placed.located size last paths reads) ∙ placed.second

own_is : (size last : ℕ) (tree : FileTree) (command : Command) (paths : List Parsed) (a b : Place) → IsPlaced tree command a b → IsServed command →
    ReadsNow command paths → own_checks (inner_call size last tree command paths) ≡ own_at tree command (site_of a) (site_of b)
own_is size last tree command paths a b placed served reads =
    own_same size last tree command paths served ∙ ap (λ (s : Site). own_at tree command s (second_site (inner_call size last tree command paths)))
    (first_same size last tree command paths a b placed reads) ∙ ap (λ (s : Site). own_at tree command (site_of a) s)
    (second_same size last tree command paths a b placed reads)

-- the checks up to the walks, all passed
before_own : (size last : ℕ) (tree : FileTree) (command : Command) (paths : List Parsed) (a b : Place) → IsPlaced tree command a b → IsServed command →
    last < GREATEST_ID → ReadsNow command paths → first_refusal
    ((ids_left (inner_call size last tree command paths) ∷ early_checks last None command paths)
    ++ map walks (all_located (inner_call size last tree command paths))) ≡ None
before_own size last tree command paths a b placed served less reads =
    first_none (ids_left (inner_call size last tree command paths) ∷ early_checks last None command paths)
    (map walks (all_located (inner_call size last tree command paths))) (placed.early size last paths served less reads)
    ∙ ap (λ l. first_refusal (map walks l)) (placed.located size last paths reads) ∙ located_walk (uses_of command) (site_of a) (site_of b)

to_own : (size last : ℕ) (tree : FileTree) (command : Command) (paths : List Parsed) (a b : Place) → IsPlaced tree command a b → IsServed command →
    last < GREATEST_ID → ReadsNow command paths → first_refusal
    (((ids_left (inner_call size last tree command paths) ∷ early_checks last None command paths)
    ++ map walks (all_located (inner_call size last tree command paths))) ++ slaves_stay (inner_call size last tree command paths)
    ∷ own_checks (inner_call size last tree command paths)) ≡ first_refusal (own_at tree command (site_of a) (site_of b))
to_own size last tree command paths a b placed served less reads =
    first_none ((ids_left (inner_call size last tree command paths) ∷ early_checks last None command paths)
    ++ map walks (all_located (inner_call size last tree command paths)))
    (slaves_stay (inner_call size last tree command paths) ∷ own_checks (inner_call size last tree command paths))
    (before_own size last tree command paths a b placed served less reads)
    ∙ ap (λ c. first_refusal (c ∷ own_checks (inner_call size last tree command paths))) (stays size last tree command paths a b placed reads)
    ∙ ap (λ cs. first_refusal cs) (own_is size last tree command paths a b placed served reads)

-- one of its own checks refuses it
pub own_refuses : (tree : FileTree) (command : Command) (a b : Place) (reply : Reply) → IsPlaced tree command a b →
    first_refusal (own_at tree command (site_of a) (site_of b)) ≡ Some reply → IsDueRefusal tree command reply
own_refuses tree command a b reply placed own = record {
  refused = λ size last paths served less reads.
      first_some (((ids_left (inner_call size last tree command paths) ∷ early_checks last None command paths)
      ++ map walks (all_located (inner_call size last tree command paths))) ++ slaves_stay (inner_call size last tree command paths)
      ∷ own_checks (inner_call size last tree command paths))
      (hash_left (inner_call size last tree command paths) ∷ intervals_left (inner_call size last tree command paths) ∷ []) reply
      (to_own size last tree command paths a b placed served less reads ∙ own);
}

-- all of them pass
pub own_pass : (size last : ℕ) (tree : FileTree) (command : Command) (paths : List Parsed) (a b : Place) → IsPlaced tree command a b →
    first_refusal (own_at tree command (site_of a) (site_of b)) ≡ None → IsServed command → last < GREATEST_ID → ReadsNow command paths →
    refusal (inner_call size last tree command paths) ≡ first_refusal
    (hash_left (inner_call size last tree command paths) ∷ intervals_left (inner_call size last tree command paths) ∷ [])
own_pass size last tree command paths a b placed own served less reads =
    first_none (((ids_left (inner_call size last tree command paths) ∷ early_checks last None command paths)
    ++ map walks (all_located (inner_call size last tree command paths))) ++ slaves_stay (inner_call size last tree command paths)
    ∷ own_checks (inner_call size last tree command paths))
    (hash_left (inner_call size last tree command paths) ∷ intervals_left (inner_call size last tree command paths) ∷ [])
    (to_own size last tree command paths a b placed served less reads ∙ own)

-- looks
served_look : (command : Command) → IsLook command → IsServed command
served_look (Ls path) look = tt
served_look (Cat path offset count) look = tt
served_look (Stat path) look = tt
served_look (Readlink path) look = tt
served_look other look = absurd look

no_hash_look : (size last : ℕ) (tree : FileTree) (command : Command) (paths : List Parsed) (a b : Place) → IsPlaced tree command a b →
    ReadsNow command paths → IsLook command → first_refusal
    (hash_left (inner_call size last tree command paths) ∷ intervals_left (inner_call size last tree command paths) ∷ []) ≡ None
no_hash_look size last tree (Ls path) paths a b placed reads look = rw (placed.located size last paths reads) refl
no_hash_look size last tree (Cat path offset count) paths a b placed reads look = rw (placed.located size last paths reads) refl
no_hash_look size last tree (Stat path) paths a b placed reads look = rw (placed.located size last paths reads) refl
no_hash_look size last tree (Readlink path) paths a b placed reads look = rw (placed.located size last paths reads) refl
no_hash_look size last tree other paths a b placed reads look = absurd look

look_answer : (size last : ℕ) (tree : FileTree) (command : Command) (paths : List Parsed) (a : Place) →
    first_site (inner_call size last tree command paths) ≡ site_of a → IsLook command →
    accepted (inner_call size last tree command paths) ≡ answered_at tree command (site_of a)
look_answer size last tree (Ls path) paths a same look = rw same refl
look_answer size last tree (Cat path offset count) paths a same look = rw same refl
look_answer size last tree (Stat path) paths a same look = rw same refl
look_answer size last tree (Readlink path) paths a same look = rw same refl
look_answer size last tree other paths a same look = absurd look

pub refused_is : (call : Call) (reply : Reply) → refusal call ≡ Some reply → reply ≡ due call
refused_is call reply refused = sym (ap (λ r. option_map_or (λ (x : Reply). x) r (accepted call)) refused)

pub accepted_is : (call : Call) (reply : Reply) → refusal call ≡ None → accepted call ≡ reply → reply ≡ due call
accepted_is call reply none same = sym (ap (λ r. option_map_or (λ (x : Reply). x) r (accepted call)) none ∙ same)

pub look_refused : (tree : FileTree) (command : Command) (reply : Reply) → IsDueRefusal tree command reply → IsLooked tree command reply
look_refused tree command reply due_one = record {
  reply_is = λ size last paths look less reads.
      refused_is (inner_call size last tree command paths) reply (due_one.refused size last paths (served_look command look) less reads)
      ∙ ap due (sym (call_same size last tree command paths));
}

pub look_answered : (tree : FileTree) (command : Command) (a b : Place) (reply : Reply) → IsPlaced tree command a b →
    first_refusal (own_at tree command (site_of a) (site_of b)) ≡ None → reply ≡ answered_at tree command (site_of a) → IsLooked tree command reply
look_answered tree command a b reply placed own answers = record {
  reply_is = λ size last paths look less reads.
      accepted_is (inner_call size last tree command paths) reply
      (own_pass size last tree command paths a b placed own (served_look command look) less reads
      ∙ no_hash_look size last tree command paths a b placed reads look)
      (look_answer size last tree command paths a (first_same size last tree command paths a b placed reads) look ∙ sym answers)
      ∙ ap due (sym (call_same size last tree command paths));
}
