-- The calls of every kind that is answered: which they are, and what is promised of the answer.
use Rattle.std.specs.Prelude.{◌≡◌, ℕ, ◌^◌, ◌<◌, ◌&&◌, ◌||◌, List, Bool, Option, IsTrue, IsFalse, true, false, if◌then◌else◌}
use Rattle.hm_types.specs.Elements.{FullElement, Key}
use Rattle.hm_key.specs.Extents.{Extent}
use Rattle.hm_key.specs.Stores.{Same}
use Rattle.hm_key.specs.declared.element.Element.{Element}
use Rattle.hm_cursor.specs.Write.{Writes}
use Rattle.hm_model.specs.Call.{Call}
use Rattle.hm_model.specs.Due.{is_tree_call}
use Rattle.hm_model.specs.Reply.{is_refusal}
use Rattle.hm_model.specs.Volume.{Volume}
use Rattle.hm_model.specs.declared.command.Command.{Command}
use Rattle.hm_model.specs.declared.command.Command.TheVariants.{PfsMaster, PfsSlave, PfsStatus, Prune, PruneAll}
use Rattle.hm_model.specs.declared.reply.Reply.{Reply}
use Rattle.hm_model.specs.declared.reply.Reply.TheVariants.{Done}
use Rattle.hm_calls.specs.Call.{IsCall, OnCalls}
use Rattle.hm_calls.specs.Changes.{ChangesTree}
use Rattle.hm_calls.specs.Commands.{IsOnTrees}
use Rattle.hm_calls.specs.Due.{due_over}
use Rattle.hm_calls.specs.NewSystems.{HasKnownNumbers, MakesSystem}
use Rattle.hm_calls.specs.Prunes.{Cuts}
use Rattle.hm_calls.specs.Replies.{Asks}
use Rattle.hm_calls.specs.Stop.{TellsRefusal}
use Rattle.hm_calls.specs.declared.answered.Answered.{Answered}
use Rattle.hm_calls.specs.declared.answered.Answered.TheVariants.{Opened, Replied}
use Rattle.hm_calls.specs.declared.answered.Beside.{Beside}
use Rattle.hm_calls.specs.declared.new_systems.NewSystem.TheVariants.{Master, Slave}
use Rattle.hm_calls.specs.declared.pruning.Opened.{Opened as Became}
use Rattle.hm_calls.specs.declared.pruning.Opened.TheVariants as became
use Rattle.hm_calls.specs.declared.pruning.Pruning.{Pruning}
use Rattle.hm_calls.specs.declared.pruning.Pruning.TheVariants.{Present, Snapshots}

-- ---- the commands

-- those on trees, those that tell of a pseudo file system or make one, and those that open a prune
abbrev pub IsAnswerable : Command → Type 0
IsAnswerable (Prune path) = Unit {0}
IsAnswerable (PruneAll path) = Unit {0}
IsAnswerable (PfsMaster path shared) = Unit {0}
IsAnswerable (PfsSlave path shared) = Unit {0}
IsAnswerable (PfsStatus path) = Unit {0}
IsAnswerable other = IsOnTrees other

-- whether a command opens a prune
abbrev pub is_prune : Command → Bool
is_prune (Prune path) = true
is_prune (PruneAll path) = true
is_prune other = false

-- whether a call with this reply changes a tree or a record
abbrev pub is_effect : Command → Reply → Bool
is_effect command reply = (is_tree_call command || is_prune command) && (if is_refusal reply then false else true)

-- ---- what is asked

-- what a call that makes a pseudo file system is told of the numbers is so
abbrev pub AreNumbers : Command → ℕ → List FullElement → Volume → Type 0
AreNumbers (PfsMaster path shared) = HasKnownNumbers
AreNumbers (PfsSlave path shared) = HasKnownNumbers
AreNumbers other = λ numbers es volume. Unit {0}

-- the call is of this command, and what is told beside the store is so
pub record AsksBeside (command : Command) (beside : Beside) (es : List FullElement) (call : Call) : Type 0 where
  pub asks : Asks command beside.busy call
  pub numbers : AreNumbers command beside.numbers es call.volume

-- ---- the answer

abbrev pub reply_in : Answered → Reply
reply_in (Replied reply) = reply
reply_in (Opened led) = Done

-- what became of the opening of a prune
abbrev pub answered_by : Became → Answered
answered_by (became.Refused reply) = Replied reply
answered_by (became.Led led) = Opened led

-- only a prune is opened, and where one is not, its reply is a refusal
abbrev pub IsFormOf : Command → Answered → Type 0
IsFormOf command (Replied reply) = IsTrue (is_prune command) → TellsRefusal reply
IsFormOf command (Opened led) = IsTrue (is_prune command)

-- what an accepted opening does
abbrev pub OpensTo : Pruning → Call → Answered → List FullElement → List FullElement → Type 0
OpensTo pruning call (Opened led) es es' = Cuts pruning call led es es'
OpensTo pruning call (Replied reply) es es' = ⊥

-- what an accepted call does to the elements, by its command
abbrev pub Does : Command → Call → Answered → List FullElement → List FullElement → Type 0
Does (Prune path) call answered es es' = OpensTo Snapshots call answered es es'
Does (PruneAll path) call answered es es' = OpensTo Present call answered es es'
Does (PfsMaster path shared) call answered es es' = (shared < 2 ^ 64) × MakesSystem Master shared call es es'
Does (PfsSlave path shared) call answered es es' = (shared < 2 ^ 64) × MakesSystem Slave shared call es es'
Does other call answered es es' = ChangesTree call es es'

-- each such call by this id does so
abbrev pub EachDoes : (List ℕ → ℕ) → ℕ → Command → Beside → Answered → List FullElement → List FullElement → Type 0
EachDoes hash id command beside answered es es' =
    (call : Call) → IsCall hash id es call → AsksBeside command beside es call → Does command call answered es es'

module _ {S : Type 0} (elements_of : S → Option (List Element)) (mark_of : S → Key → ℕ) (extents_of : S → Option (List Extent))
    (room_of : S → ℕ → ℕ) (free_of : S → ℕ) where
  -- The reply of a call is the one that it is due, where what is told beside the store is so. What is accepted does what the
  -- model says, and all else leaves the store as it was.
  pub record AnswersCall (hash : List ℕ → ℕ) (id : ℕ) (command : Command) (beside : Beside) (old new : S) (answered : Answered) : Type 0 where
    pub form : IsFormOf command answered
    pub due : OnCalls hash id (elements_of old) (extents_of old)
        (λ es call. AsksBeside command beside es call → reply_in answered ≡ due_over call (room_of old) (free_of old))
    pub stays : IsFalse (is_effect command (reply_in answered)) → Same elements_of mark_of extents_of room_of free_of old new
    pub does : IsTrue (is_effect command (reply_in answered)) → Writes elements_of extents_of (EachDoes hash id command beside answered) old new
