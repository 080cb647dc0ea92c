-- The answer to a call of any kind, from what the call promises that serves its command.
use Rattle.std.proofs.Common.{◌≡◌, ℕ, ◌^◌, ◌<◌, Bool, true, false, List, Option, Some, None, refl, sym, ap, subst, ◌∙◌}
use Rattle.std.specs.Prelude.{◌&&◌, ◌||◌, IsFalse, IsTrue, if◌then◌else◌}
use Rattle.std.specs.Option.{option_map_or}
use Rattle.std.proofs.lemmas.Bool.{false≢true}
use Rattle.hm_types.specs.Elements.{FullElement, Key}
use Rattle.hm_types.specs.declared.id.Pfs.{Pfs}
use Rattle.hm_key.specs.Balance.{Balanced, content_of}
use Rattle.hm_key.specs.Extents.{Extent}
use Rattle.hm_key.specs.Stores.{Same}
use Rattle.hm_key.specs.declared.element.Element.{Element}
use Rattle.hm_cursor.specs.Told.{Lists, fulls}
use Rattle.hm_cursor.proofs.CallLemmas.{known_both, unknown, writes_none, writes_so}
use Rattle.hm_model.specs.Call.{Call}
use Rattle.hm_model.specs.Due.{Check, accepted, is_tree_call}
use Rattle.hm_model.specs.Reply.{is_refusal}
use Rattle.hm_model.specs.declared.command.Command.{Command}
use Rattle.hm_model.specs.declared.command.Command.TheVariants.{PfsMaster, PfsSlave, PfsStatus, Prune, PruneAll}
use Rattle.hm_model.specs.declared.reply.Reply.{Reply}
use Rattle.hm_model.specs.declared.reply.Reply.TheVariants.{MadePfs}
use Rattle.hm_calls.specs.Answered.{AnswersCall, AreNumbers, AsksBeside, Does, EachDoes, IsAnswerable, answered_by, is_effect, is_prune, reply_in}
use Rattle.hm_calls.specs.Call.{IsCall, OnCalls}
use Rattle.hm_calls.specs.Changes.{Changes, ChangesTree}
use Rattle.hm_calls.specs.Commands.{IsOnTrees}
use Rattle.hm_calls.specs.Due.{due_over, refusal_over}
use Rattle.hm_calls.specs.NewSystems.{HasKnownNumbers, IsFounded, MakesSystem, MakesSystems, system_command}
use Rattle.hm_calls.specs.Prunes.{Cuts, CutsEach, HasRefusal, OpensPrune, command_of, reply_of}
use Rattle.hm_calls.specs.Replies.{Asks, Replies, is_change}
use Rattle.hm_calls.specs.Stop.{TellsRefusal}
use Rattle.hm_calls.specs.declared.answered.Answered.{Answered}
use Rattle.hm_calls.specs.declared.answered.Answered.TheVariants.{Opened, Replied}
use Rattle.hm_calls.specs.declared.answered.Beside.{Beside}
use Rattle.hm_calls.specs.declared.new_systems.NewSystem.{NewSystem}
use Rattle.hm_calls.specs.declared.new_systems.NewSystem.TheVariants.{Master, Slave}
use Rattle.hm_calls.specs.declared.pruning.Led.{Led}
use Rattle.hm_calls.specs.declared.pruning.Opened.{Opened as Became}
use Rattle.hm_calls.specs.declared.pruning.Opened.TheVariants as became
use Rattle.hm_calls.specs.declared.pruning.Pruning.{Pruning}
use Rattle.hm_calls.specs.declared.pruning.Pruning.TheVariants.{Present, Snapshots}
use Rattle.hm_calls.proofs.AnswerLemmas.{over_refuses}

-- ---- the kinds of commands

pub data KindOf : Command → Type 0 where
  on_trees : (command : Command) → IsOnTrees command → KindOf command
  tells : (path : List ℕ) → KindOf (PfsStatus path)
  makes : (new : NewSystem) (path : List ℕ) (shared : ℕ) → KindOf (system_command new path shared)
  opens : (pruning : Pruning) (path : List ℕ) → KindOf (command_of pruning path)

pub kind_of : (command : Command) → IsAnswerable command → KindOf command
kind_of (Prune path) answers = opens Snapshots path
kind_of (PruneAll path) answers = opens Present path
kind_of (PfsMaster path shared) answers = makes Master path shared
kind_of (PfsSlave path shared) answers = makes Slave path shared
kind_of (PfsStatus path) answers = tells path
kind_of other answers = on_trees other answers

-- what is answered and none of the others is on trees
pub on_trees_else : (command : Command) → IsAnswerable command → ((path : List ℕ) → command ≡ Prune path → ⊥)
    → ((path : List ℕ) → command ≡ PruneAll path → ⊥) → ((path : List ℕ) (shared : ℕ) → command ≡ PfsMaster path shared → ⊥)
    → ((path : List ℕ) (shared : ℕ) → command ≡ PfsSlave path shared → ⊥) → ((path : List ℕ) → command ≡ PfsStatus path → ⊥) → IsOnTrees command
on_trees_else (Prune path) answers prune all master slave status = absurd (prune path refl)
on_trees_else (PruneAll path) answers prune all master slave status = absurd (all path refl)
on_trees_else (PfsMaster path shared) answers prune all master slave status = absurd (master path shared refl)
on_trees_else (PfsSlave path shared) answers prune all master slave status = absurd (slave path shared refl)
on_trees_else (PfsStatus path) answers prune all master slave status = absurd (status path refl)
on_trees_else other answers prune all master slave status = answers

-- a call on trees is answered, is no prune, and is told of no numbers
pub on_trees_answered : (command : Command) → IsOnTrees command → IsAnswerable command
on_trees_answered (Prune path) of_trees = tt
on_trees_answered (PruneAll path) of_trees = tt
on_trees_answered (PfsMaster path shared) of_trees = tt
on_trees_answered (PfsSlave path shared) of_trees = tt
on_trees_answered (PfsStatus path) of_trees = tt
on_trees_answered other of_trees = of_trees

pub on_trees_no_prune : (command : Command) → IsOnTrees command → is_prune command ≡ false
on_trees_no_prune (Prune path) of_trees = absurd of_trees
on_trees_no_prune (PruneAll path) of_trees = absurd of_trees
on_trees_no_prune other of_trees = refl

pub on_trees_numbers : (command : Command) (numbers : ℕ) (call : Call) (es : List FullElement) → IsOnTrees command
    → AreNumbers command numbers es call.volume
on_trees_numbers (PfsMaster path shared) numbers call es of_trees = absurd of_trees
on_trees_numbers (PfsSlave path shared) numbers call es of_trees = absurd of_trees
on_trees_numbers other numbers call es of_trees = tt

pub trees_ask : (command : Command) (beside : Beside) (es : List FullElement) (call : Call) → IsOnTrees command → Asks command beside.busy call
    → AsksBeside command beside es call
trees_ask command beside es call of_trees asks = record { asks = asks; numbers = on_trees_numbers command beside.numbers call es of_trees }

-- what they do is what they do to trees
pub on_trees_do : (command : Command) (call : Call) (answered : Answered) (es es' : List FullElement) → IsOnTrees command
    → Does command call answered es es' → ChangesTree call es es'
on_trees_do (Prune path) call answered es es' of_trees does = absurd of_trees
on_trees_do (PruneAll path) call answered es es' of_trees does = absurd of_trees
on_trees_do (PfsMaster path shared) call answered es es' of_trees does = absurd of_trees
on_trees_do (PfsSlave path shared) call answered es es' of_trees does = absurd of_trees
on_trees_do other call answered es es' of_trees does = does

trees_do : (command : Command) (call : Call) (answered : Answered) (es es' : List FullElement) → IsOnTrees command
    → ChangesTree call es es' → Does command call answered es es'
trees_do (Prune path) call answered es es' of_trees does = absurd of_trees
trees_do (PruneAll path) call answered es es' of_trees does = absurd of_trees
trees_do (PfsMaster path shared) call answered es es' of_trees does = absurd of_trees
trees_do (PfsSlave path shared) call answered es es' of_trees does = absurd of_trees
trees_do other call answered es es' of_trees does = does

-- where nothing is opened, what has an effect changes a tree
pub effect_is_change : (command : Command) (reply : Reply) → is_prune command ≡ false → is_effect command reply ≡ is_change command reply
effect_is_change command reply none = ap (λ (b : Bool). b && (if is_refusal reply then false else true))
    (by (is_tree_call command) (is_prune command) none) where
      by : (tree prune : Bool) → prune ≡ false → (tree || prune) ≡ tree
      by true prune is = refl
      by false prune is = is

-- a refusal has none
pub no_effect : (command : Command) (reply : Reply) → is_refusal reply ≡ true → is_effect command reply ≡ false
no_effect command reply refuses = by (is_tree_call command || is_prune command) (is_refusal reply) refuses where
  by : (acts refused : Bool) → refused ≡ true → (acts && (if refused then false else true)) ≡ false
  by true true is = refl
  by true false is = absurd (false≢true is)
  by false refused is = refl

not_true : (b : Bool) → b ≡ false → IsTrue b → ⊥
not_true b is holds = false≢true (sym is ∙ holds)

not_false : (b : Bool) → b ≡ true → IsFalse b → ⊥
not_false b is fails = false≢true (sym fails ∙ is)

-- ---- what is due

refused_due : (call : Call) (room : ℕ → ℕ) (free : ℕ) (reply : Reply) → refusal_over call room free ≡ Some reply → reply ≡ due_over call room free
refused_due call room free reply some = subst (λ (check : Check). reply ≡ option_map_or (λ r. r) check (accepted call)) (sym some) refl

-- what holds of each call that is asked something holds of each one that is asked more
calls_so : (hash : List ℕ → ℕ) (id : ℕ) (es : Option (List Element)) (xs : Option (List Extent)) (P Q : List FullElement → Call → Type 0)
    → ((list : List FullElement) (call : Call) → P list call → Q list call) → OnCalls hash id es xs P → OnCalls hash id es xs Q
calls_so hash id None xs P Q step told = tt
calls_so hash id (Some es) None P Q step told = tt
calls_so hash id (Some es) (Some xs) P Q step told = λ balanced call is. step (fulls (es, xs)) call (told balanced call is)

numbers_of : (new : NewSystem) (path : List ℕ) (shared : ℕ) (beside : Beside) (es : List FullElement) (call : Call)
    → AsksBeside (system_command new path shared) beside es call → HasKnownNumbers beside.numbers es call.volume
numbers_of Master path shared beside es call asked = asked.numbers
numbers_of Slave path shared beside es call asked = asked.numbers

module _ {S : Type 0} (elements_of : S → Option (List Element)) (mark_of : S → Key → ℕ) (extents_of : S → Option (List Extent))
    (room_of : S → ℕ → ℕ) (free_of : S → ℕ) (hash : List ℕ → ℕ) (id : ℕ) (beside : Beside) (old new : S) where
  abbrev Answers : Command → Answered → Type 0
  Answers command answered = AnswersCall elements_of mark_of extents_of room_of free_of hash id command beside old new answered

  abbrev IsDueFor : Command → Reply → Type 0
  IsDueFor command reply =
      OnCalls hash id (elements_of old) (extents_of old) (λ es call. AsksBeside command beside es call → reply ≡ due_over call (room_of old) (free_of old))

  abbrev Stays : Type 0
  Stays = Same elements_of mark_of extents_of room_of free_of old new

  -- each such call is refused
  abbrev AllRefuse : Command → Reply → Lists → Type 0
  AllRefuse command reply was =
      (call : Call) → IsCall hash id (fulls was) call → AsksBeside command beside (fulls was) call
      → refusal_over call (room_of old) (free_of old) ≡ Some reply

  abbrev IsRefusedFor : Command → Reply → Type 0
  IsRefusedFor command reply =
      OnCalls hash id (elements_of old) (extents_of old)
      (λ es call. AsksBeside command beside es call → refusal_over call (room_of old) (free_of old) ≡ Some reply)

  -- a call that was refused
  refused : (command : Command) (reply : Reply) → (IsTrue (is_prune command) → TellsRefusal reply) → Balanced (elements_of old) (extents_of old)
      → IsRefusedFor command reply → Stays → Answers command (Replied reply)
  refused command reply form balanced told same = record {
    form = form;
    due = calls_so hash id (elements_of old) (extents_of old)
        (λ es call. AsksBeside command beside es call → refusal_over call (room_of old) (free_of old) ≡ Some reply)
        (λ es call. AsksBeside command beside es call → reply ≡ due_over call (room_of old) (free_of old))
        (λ es call refuses asked. refused_due call (room_of old) (free_of old) reply (refuses asked)) told;
    stays = λ _. same;
    does = λ holds. writes_none elements_of extents_of (EachDoes hash id command beside (Replied reply)) (AllRefuse command reply) old new
        same.elements same.extents
        (known_both (content_of (elements_of old) (extents_of old)) (λ lists is refuses. refuses is) balanced told)
        (λ was known call called asked.
        absurd (not_true (is_effect command reply)
        (no_effect command reply (over_refuses call (room_of old) (free_of old) reply (known call called asked))) holds));
  }

  -- ---- by the kind of the command

  -- a call on trees
  pub of_trees : (command : Command) (reply : Reply) → IsOnTrees command
      → Replies elements_of mark_of extents_of room_of free_of hash id (Asks command beside.busy) command old new reply → Answers command (Replied reply)
  of_trees command reply is replies = record {
    form = λ prunes. absurd (not_true (is_prune command) (on_trees_no_prune command is) prunes);
    due = calls_so hash id (elements_of old) (extents_of old)
        (λ es call. Asks command beside.busy call → reply ≡ due_over call (room_of old) (free_of old))
        (λ es call. AsksBeside command beside es call → reply ≡ due_over call (room_of old) (free_of old))
        (λ es call due asked. due asked.asks) replies.due;
    stays = λ no. replies.stays (sym same ∙ no);
    does = λ so. writes_so elements_of extents_of (Changes hash id (Asks command beside.busy)) (EachDoes hash id command beside (Replied reply))
        (λ _. Unit {0}) old new (unknown elements_of extents_of old)
        (λ was es' known changes call called asked.
        trees_do command call (Replied reply) (fulls was) es' is (changes call called asked.asks)) (replies.changes (sym same ∙ so));
  } where
    same : is_effect command reply ≡ is_change command reply
    same = effect_is_change command reply (on_trees_no_prune command is)

  -- one that tells of a pseudo file system
  pub of_status : (path : List ℕ) (reply : Reply)
      → OnCalls hash id (elements_of old) (extents_of old)
      (λ _ call. call.command ≡ PfsStatus path → reply ≡ due_over call (room_of old) (free_of old))
      → Stays → Answers (PfsStatus path) (Replied reply)
  of_status path reply due same = record {
    form = λ prunes. absurd (false≢true prunes);
    due = calls_so hash id (elements_of old) (extents_of old)
        (λ es call. call.command ≡ PfsStatus path → reply ≡ due_over call (room_of old) (free_of old))
        (λ es call. AsksBeside (PfsStatus path) beside es call → reply ≡ due_over call (room_of old) (free_of old))
        (λ es call due asked. due asked.asks.command_is) due;
    stays = λ _. same;
    does = λ so. absurd (false≢true so);
  }

  -- one that makes a pseudo file system
  does_make : (new : NewSystem) (path : List ℕ) (shared : ℕ) (answered : Answered) (call : Call) (es es' : List FullElement) → shared < 2 ^ 64
      → MakesSystem new shared call es es' → Does (system_command new path shared) call answered es es'
  does_make Master path shared answered call es es' small made = (small, made)
  does_make Slave path shared answered call es es' small made = (small, made)

  made_acts : (new : NewSystem) (path : List ℕ) (shared : ℕ) (pfs : Pfs) → is_effect (system_command new path shared) (MadePfs pfs) ≡ true
  made_acts Master path shared pfs = refl
  made_acts Slave path shared pfs = refl

  no_system_opens : (new : NewSystem) (path : List ℕ) (shared : ℕ) → IsTrue (is_prune (system_command new path shared)) → ⊥
  no_system_opens Master path shared prunes = false≢true prunes
  no_system_opens Slave path shared prunes = false≢true prunes

  pub of_system : (n : NewSystem) (path : List ℕ) (shared : ℕ) (told : Reply × Option Pfs) → shared < 2 ^ 64
      → Balanced (elements_of old) (extents_of old)
      → IsFounded elements_of mark_of extents_of room_of free_of hash id beside.numbers n path shared old new told
      → Answers (system_command n path shared) (Replied told.0)
  of_system n path shared (reply, None) small balanced founds =
      refused (system_command n path shared) reply (λ prunes. absurd (no_system_opens n path shared prunes)) balanced
      (calls_so hash id (elements_of old) (extents_of old)
      (λ es call. call.command ≡ system_command n path shared → HasKnownNumbers beside.numbers es call.volume
      → refusal_over call (room_of old) (free_of old) ≡ Some reply)
      (λ es call. AsksBeside (system_command n path shared) beside es call → refusal_over call (room_of old) (free_of old) ≡ Some reply)
      (λ es call refuses asked. refuses asked.asks.command_is (numbers_of n path shared beside es call asked)) founds.0)
      founds.1
  of_system n path shared (reply, Some pfs) small balanced (is, founds) =
      subst (λ (r : Reply). Answers (system_command n path shared) (Replied r)) (sym is) (record {
        form = λ prunes. absurd (no_system_opens n path shared prunes);
        due = calls_so hash id (elements_of old) (extents_of old)
            (λ es call. call.command ≡ system_command n path shared → HasKnownNumbers beside.numbers es call.volume
            → MadePfs pfs ≡ due_over call (room_of old) (free_of old))
            (λ es call. AsksBeside (system_command n path shared) beside es call → MadePfs pfs ≡ due_over call (room_of old) (free_of old))
            (λ es call due asked. due asked.asks.command_is (numbers_of n path shared beside es call asked)) founds.0;
        stays = λ no. absurd (not_false (is_effect (system_command n path shared) (MadePfs pfs)) (made_acts n path shared pfs) no);
        does = λ so. writes_so elements_of extents_of (MakesSystems hash id beside.numbers n path shared)
            (EachDoes hash id (system_command n path shared) beside (Replied (MadePfs pfs))) (λ _. Unit {0}) old new
            (unknown elements_of extents_of old)
            (λ was es' known made call called asked.
            does_make n path shared (Replied (MadePfs pfs)) call (fulls was) es' small
            (made call called asked.asks.command_is (numbers_of n path shared beside (fulls was) call asked))) founds.1;
      })

  -- the opening of a prune
  does_open : (pruning : Pruning) (path : List ℕ) (led : Led) (call : Call) (es es' : List FullElement) → Cuts pruning call led es es'
      → Does (command_of pruning path) call (Opened led) es es'
  does_open Snapshots path led call es es' cuts = cuts
  does_open Present path led call es es' cuts = cuts

  opened_form : (pruning : Pruning) (path : List ℕ) → is_prune (command_of pruning path) ≡ true
  opened_form Snapshots path = refl
  opened_form Present path = refl

  opened_acts : (pruning : Pruning) (path : List ℕ) (led : Led) → is_effect (command_of pruning path) (reply_in (Opened led)) ≡ true
  opened_acts Snapshots path led = refl
  opened_acts Present path led = refl

  pub of_prune : (pruning : Pruning) (path : List ℕ) (told : Became) → Balanced (elements_of old) (extents_of old)
      → OpensPrune elements_of mark_of extents_of room_of free_of hash id pruning path old new told → HasRefusal told
      → Answers (command_of pruning path) (answered_by told)
  of_prune pruning path (became.Refused reply) balanced done refuses =
      refused (command_of pruning path) reply (λ _. refuses) balanced
      (calls_so hash id (elements_of old) (extents_of old)
      (λ es call. call.command ≡ command_of pruning path → refusal_over call (room_of old) (free_of old) ≡ Some reply)
      (λ es call. AsksBeside (command_of pruning path) beside es call → refusal_over call (room_of old) (free_of old) ≡ Some reply)
      (λ es call refuses asked. refuses asked.asks.command_is) done.ends.0)
      done.ends.1
  of_prune pruning path (became.Led led) balanced done refuses = record {
    form = opened_form pruning path;
    due = calls_so hash id (elements_of old) (extents_of old)
        (λ es call. call.command ≡ command_of pruning path → reply_in (Opened led) ≡ due_over call (room_of old) (free_of old))
        (λ es call. AsksBeside (command_of pruning path) beside es call → reply_in (Opened led) ≡ due_over call (room_of old) (free_of old))
        (λ es call due asked. due asked.asks.command_is) done.due;
    stays = λ no. absurd (not_false (is_effect (command_of pruning path) (reply_in (Opened led))) (opened_acts pruning path led) no);
    does = λ so. writes_so elements_of extents_of (CutsEach elements_of mark_of extents_of room_of free_of hash id pruning path led)
        (EachDoes hash id (command_of pruning path) beside (Opened led)) (λ _. Unit {0}) old new (unknown elements_of extents_of old)
        (λ was es' known cuts call called asked.
        does_open pruning path led call (fulls was) es' (cuts call called asked.asks.command_is)) done.ends.1;
  }

-- the reply in the answer to an opening
pub opened_reply : (told : Became) → reply_of told ≡ reply_in (answered_by told)
opened_reply (became.Refused reply) = refl
opened_reply (became.Led led) = refl
