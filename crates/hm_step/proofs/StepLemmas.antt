-- One step: what a call that was served makes of the state of a history.
use Rattle.std.proofs.Common.{◌≡◌, ℕ, ◌^◌, ◌<◌, Bool, true, false, List, refl, sym, ap, subst, ◌∙◌}
use Rattle.std.specs.Prelude.{◌&&◌, ◌||◌, None, if◌then◌else◌}
use Rattle.std.proofs.lemmas.Bool.{false≢true}
use Rattle.hm_types.specs.Elements.{FullElement}
use Rattle.hm_types.specs.Hash.{name_hash}
use Rattle.hm_types.specs.declared.limits.TheConstants.{GREATEST_ID}
use Rattle.hm_model.specs.After.{Event, State, after_event, call_of, first_pfs, on_volume, with_opened}
use Rattle.hm_model.specs.Call.{Call, own_id}
use Rattle.hm_model.specs.Change.{changed_pfs}
use Rattle.hm_model.specs.Due.{ReadsPaths, is_tree_call}
use Rattle.hm_model.specs.Foreign.{no_feed}
use Rattle.hm_model.specs.Laws.{adds_pfs}
use Rattle.hm_model.specs.Legal.{Lands}
use Rattle.hm_model.specs.Reply.{is_refusal, passed_ids}
use Rattle.hm_model.specs.Volume.{Volume}
use Rattle.hm_model.specs.declared.command.Command.{Command}
use Rattle.hm_model.specs.declared.command.Command.TheVariants.{Cat, Fill, Ln, Ls, Mkdir, Mv, Readlink, Rm, Rmdir, Snapshot, Stat, Symlink, Touch}
use Rattle.hm_model.specs.declared.command.Command.TheVariants.{Truncate, Write}
use Rattle.hm_volume.specs.Shown.{ShowsAs}
use Rattle.hm_image.specs.StandFor.{StandFor}
use Rattle.hm_calls.specs.Answered.{Does, IsAnswerable, IsFormOf, OpensTo, is_effect, is_prune, reply_in}
use Rattle.hm_calls.specs.Changes.{ChangesTree, HasSystem}
use Rattle.hm_calls.specs.Commands.{IsOnTrees}
use Rattle.hm_calls.specs.NewSystems.{MakesSystem, system_command}
use Rattle.hm_calls.specs.Prunes.{command_of}
use Rattle.hm_calls.specs.Replies.{is_change}
use Rattle.hm_calls.specs.declared.answered.Answered.{Answered}
use Rattle.hm_calls.specs.declared.answered.Answered.TheVariants.{Opened, Replied}
use Rattle.hm_calls.specs.declared.new_systems.NewSystem.{NewSystem}
use Rattle.hm_calls.specs.declared.new_systems.NewSystem.TheVariants.{Master, Slave}
use Rattle.hm_calls.specs.declared.pruning.Pruning.{Pruning}
use Rattle.hm_calls.specs.declared.pruning.Pruning.TheVariants.{Present, Snapshots}
use Rattle.hm_calls.proofs.AnsweredLemmas.{KindOf, kind_of, makes, no_effect, on_trees, on_trees_do, on_trees_no_prune, opens, tells}
use Rattle.hm_step.specs.Next.{IsLedIfOpened, opened_after}
use Rattle.hm_step.specs.Pruned.{StillKeeps}
use Rattle.hm_step.specs.Served.{IsServed}
use Rattle.hm_step.specs.Step.{AreHeld, after_call}
use Rattle.hm_step.proofs.ChangedLemmas.{stand_changed}
use Rattle.hm_step.proofs.EventLemmas.{state_after, state_opened, state_refused}
use Rattle.hm_step.proofs.FoundedLemmas.{founded_keeps, founded_stands}
use Rattle.hm_step.proofs.JobLemmas.{keeps_after}
use Rattle.hm_step.proofs.LandLemmas.{HasMaster, lands_in_master}
use Rattle.hm_step.proofs.NextLemmas.{after_next}
use Rattle.hm_step.proofs.OpenedLemmas.{after_opening, opens_to}
use Rattle.hm_step.proofs.ReplyLemmas.{none_refuses}

-- a call on trees adds no PFS
served_add_none : (command : Command) → IsOnTrees command → adds_pfs command ≡ false
served_add_none (Mkdir path) of_trees = refl
served_add_none (Touch path) of_trees = refl
served_add_none (Symlink target path) of_trees = refl
served_add_none (Snapshot path) of_trees = refl
served_add_none (Ln old new) of_trees = refl
served_add_none (Mv old new) of_trees = refl
served_add_none (Write path offset bytes) of_trees = refl
served_add_none (Fill path offset count byte) of_trees = refl
served_add_none (Truncate path size) of_trees = refl
served_add_none (Rm path) of_trees = refl
served_add_none (Rmdir path) of_trees = refl
served_add_none (Ls path) of_trees = refl
served_add_none (Cat path offset count) of_trees = refl
served_add_none (Stat path) of_trees = refl
served_add_none (Readlink path) of_trees = refl
served_add_none other of_trees = absurd of_trees

-- what a command does that makes a PFS, and what one does that opens a prune
does_make : (new : NewSystem) (path : List ℕ) (shared : ℕ) (call : Call) (answered : Answered) (es es' : List FullElement)
    → Does (system_command new path shared) call answered es es' → (shared < 2 ^ 64) × MakesSystem new shared call es es'
does_make Master path shared call answered es es' does = does
does_make Slave path shared call answered es es' does = does

does_open : (pruning : Pruning) (path : List ℕ) (call : Call) (answered : Answered) (es es' : List FullElement)
    → Does (command_of pruning path) call answered es es' → OpensTo pruning call answered es es'
does_open Snapshots path call answered es es' does = does
does_open Present path call answered es es' does = does

make_acts : (new : NewSystem) (path : List ℕ) (shared : ℕ) → is_tree_call (system_command new path shared) ≡ true
make_acts Master path shared = refl
make_acts Slave path shared = refl

make_opens_none : (new : NewSystem) (path : List ℕ) (shared : ℕ) → is_prune (system_command new path shared) ≡ false
make_opens_none Master path shared = refl
make_opens_none Slave path shared = refl

open_acts : (pruning : Pruning) (path : List ℕ) → is_prune (command_of pruning path) ≡ true
open_acts Snapshots path = refl
open_acts Present path = refl

-- a state after a call: for what its elements stand, what jobs keep, and what is open
pub record Leaves (es' : List FullElement) (state after : State) (call : Call) (answered : Answered) : Type 0 where
  pub stands : AreHeld es' → StandFor es' after.volume
  pub jobs : StillKeeps state.volume after.volume
  pub opened : after.opened ≡ opened_after state call answered
  pub leads : IsLedIfOpened after.volume answered

module _ (state : State) (event : Event) (room : ℕ → ℕ) (free : ℕ) (es es' : List FullElement) (answered : Answered)
    (stand : StandFor es state.volume) (shows : ShowsAs es state.volume (call_of name_hash state event).view)
    (answers : IsAnswerable event.entry.call) (reads : ReadsPaths (call_of name_hash state event)) (left : state.volume.last < GREATEST_ID)
    (own : event.entry.id.0 ≡ own_id (call_of name_hash state event)) (tells_none : passed_ids event.entry.reply ≡ None)
    (reply_is : event.entry.reply ≡ reply_in answered) (served : IsServed (call_of name_hash state event) room free es es' answered) where
  abbrev call : Call
  call = call_of name_hash state event

  abbrev Leaving : State → Type 0
  Leaving after = Leaves es' state after call answered

  -- ---- where nothing is opened

  closed : (a : Answered) → IsFormOf call.command a → is_prune call.command ≡ false → state.opened ≡ opened_after state call a
  closed (Replied reply) form none = refl
  closed (Opened led) form none = absurd (false≢true (sym none ∙ form))

  leads_none : (a : Answered) (volume : Volume) → IsFormOf call.command a → is_prune call.command ≡ false → IsLedIfOpened volume a
  leads_none (Replied reply) volume form none = tt
  leads_none (Opened led) volume form none = absurd (false≢true (sym none ∙ form))

  -- what is answered without an effect draws an id alone
  leaves_same : es' ≡ es → state.opened ≡ opened_after state call answered → ((volume : Volume) → IsLedIfOpened volume answered)
      → Leaving (on_volume state (after_call false call))
  leaves_same same none leads =
      let next = after_next es state.volume stand left in
      record {
        stands = λ held. subst (λ (list : List FullElement). StandFor list (after_call false call)) (sym same) next.stand;
        jobs = next.jobs;
        opened = none;
        leads = leads (after_call false call);
      }

  leaves_refused : is_refusal event.entry.reply ≡ true → Leaving (after_event state event)
  leaves_refused refuses =
      subst Leaving (sym (state_refused state event answers tells_none own refuses))
      (leaves_same (served.stays (no_effect call.command (reply_in answered) refuses_so)) (by answered refuses_so).0 (by answered refuses_so).1)
    where
      refuses_so : is_refusal (reply_in answered) ≡ true
      refuses_so = ap is_refusal (sym reply_is) ∙ refuses

      by : (a : Answered) → is_refusal (reply_in a) ≡ true → (state.opened ≡ opened_after state call a) × ((volume : Volume) → IsLedIfOpened volume a)
      by (Replied reply) is = (refl, λ volume. tt)
      by (Opened led) is = absurd (false≢true is)

  module _ (accepts : is_refusal event.entry.reply ≡ false) (lands : Lands call event.entry.reply) where
    accepts_so : is_refusal (reply_in answered) ≡ false
    accepts_so = ap is_refusal (sym reply_is) ∙ accepts

    -- an accepted call has the effect of its command
    acts : (is_tree_call call.command || is_prune call.command) ≡ true → is_effect call.command (reply_in answered) ≡ true
    acts so =
        ap (λ (b : Bool). b && (if is_refusal (reply_in answered) then false else true)) so
        ∙ ap (λ (refused : Bool). if refused then false else true) accepts_so

    by_tree : is_tree_call call.command ≡ true → (is_tree_call call.command || is_prune call.command) ≡ true
    by_tree tree = ap (λ (b : Bool). b || is_prune call.command) tree

    changes_so : is_tree_call call.command ≡ true → is_change call.command event.entry.reply ≡ true
    changes_so tree =
        ap (λ (b : Bool). b && (if is_refusal event.entry.reply then false else true)) tree
        ∙ ap (λ (refused : Bool). if refused then false else true) accepts

    master : is_tree_call call.command ≡ true → (there : HasSystem call.volume (changed_pfs call)) → HasMaster call (changed_pfs call)
    master tree there =
        lands_in_master call answers tree reads (none_refuses call room free event.entry.reply (reply_is ∙ served.due) accepts) there

    -- ---- a call that opens nothing

    leaves_unopened : (changes : Bool) → is_prune call.command ≡ false → is_change call.command event.entry.reply ≡ changes
        → (AreHeld es' → StandFor es' (after_call changes call)) → StillKeeps state.volume (after_call changes call)
        → Leaving (after_event state event)
    leaves_unopened changes none is stands jobs =
        subst Leaving (sym (state_after state event answers tells_none own none ∙ ap (λ (test : Bool). on_volume state (after_call test call)) is))
        (record {
          stands = stands;
          jobs = jobs;
          opened = closed answered served.form none;
          leads = leads_none answered (after_call changes call) served.form none;
        })

    leaves_looking : is_prune call.command ≡ false → is_tree_call call.command ≡ false → Leaving (after_event state event)
    leaves_looking none looks =
        let next = after_next es state.volume stand left in
        leaves_unopened false none (ap (λ (tree : Bool). tree && (if is_refusal event.entry.reply then false else true)) looks)
        (λ held. subst (λ (list : List FullElement). StandFor list (after_call false call)) (sym (served.stays idle)) next.stand)
        next.jobs
      where
        idle : is_effect call.command (reply_in answered) ≡ false
        idle =
            ap (λ (b : Bool). (b || is_prune call.command) && (if is_refusal (reply_in answered) then false else true)) looks
            ∙ ap (λ (b : Bool). b && (if is_refusal (reply_in answered) then false else true)) none

    -- on trees
    leaves_tree : IsOnTrees call.command → is_tree_call call.command ≡ true → Leaving (after_event state event)
    leaves_tree of_trees tree =
        let none : is_prune call.command ≡ false = on_trees_no_prune call.command of_trees in
        let adds : adds_pfs call.command ≡ false = served_add_none call.command of_trees in
        let changes : ChangesTree call es es' = on_trees_do call.command call answered es es' of_trees (served.does (acts (by_tree tree))) in
        let (s, found, role) = master tree changes.there in
        leaves_unopened true none (changes_so tree)
        (λ held. stand_changed call es es' stand shows changes s found role adds left refl held.keys held.fit)
        (keeps_after true call adds)

    leaves_trees : IsOnTrees call.command → Leaving (after_event state event)
    leaves_trees of_trees = by (is_tree_call call.command) refl where
      by : (tree : Bool) → is_tree_call call.command ≡ tree → Leaving (after_event state event)
      by true tree = leaves_tree of_trees tree
      by false looks = leaves_looking (on_trees_no_prune call.command of_trees) looks

    -- one that makes a PFS
    leaves_made : (new : NewSystem) (path : List ℕ) (shared : ℕ) → call.command ≡ system_command new path shared → Leaving (after_event state event)
    leaves_made new path shared is =
        let tree : is_tree_call call.command ≡ true = ap is_tree_call is ∙ make_acts new path shared in
        let none : is_prune call.command ≡ false = ap is_prune is ∙ make_opens_none new path shared in
        let made = does_make new path shared call answered es es'
        (subst (λ (command : Command). Does command call answered es es') is (served.does (acts (by_tree tree)))) in
        leaves_unopened true none (changes_so tree)
        (λ held. founded_stands call new path shared is es es' stand shows refl left (master tree made.1.tree.there) lands.records made.0 made.1 held)
        (founded_keeps call new path shared is)

    -- ---- the opening of a prune

    leaves_opened : (pruning : Pruning) (path : List ℕ) → call.command ≡ command_of pruning path → Leaving (after_event state event)
    leaves_opened pruning path is =
        subst Leaving (sym (state_opened state event answers tells_none own pruning path is accepts))
        (by answered (does_open pruning path call answered es es'
        (subst (λ (command : Command). Does command call answered es es') is (served.does (acts (or_true (is_tree_call call.command) prunes))))))
      where
        prunes : is_prune call.command ≡ true
        prunes = ap is_prune is ∙ open_acts pruning path

        or_true : (a : Bool) {b : Bool} → b ≡ true → (a || b) ≡ true
        or_true true so = refl
        or_true false so = so

        after : State
        after =
            on_volume (with_opened state call (first_pfs call) (first_pfs call) no_feed) (after_opening call pruning)

        by : (a : Answered) → OpensTo pruning call a es es' → Leaves es' state after call a
        by (Replied reply) does = absurd does
        by (Opened led) cuts =
            let to = opens_to call es es' path stand left lands.fits pruning is led cuts in
            record {
              stands = λ held. to.stands;
              jobs = to.jobs;
              opened = ap (λ (n : ℕ). (with_opened state call n n no_feed).opened) (sym cuts.pfs);
              leads = to.led_to;
            }

    by_kind : (command : Command) → call.command ≡ command → KindOf command → Leaving (after_event state event)
    by_kind _ is (on_trees command of_trees) = leaves_trees (subst IsOnTrees (sym is) of_trees)
    by_kind _ is (tells path) = leaves_looking (ap is_prune is) (ap is_tree_call is)
    by_kind _ is (makes new path shared) = leaves_made new path shared is
    by_kind _ is (opens pruning path) = leaves_opened pruning path is

    leaves_accepted : Leaving (after_event state event)
    leaves_accepted = by_kind call.command refl (kind_of call.command answers)

  pub leaves : (is_refusal event.entry.reply ≡ false → Lands call event.entry.reply) → Leaving (after_event state event)
  leaves lands = by (is_refusal event.entry.reply) refl where
    by : (refuses : Bool) → is_refusal event.entry.reply ≡ refuses → Leaving (after_event state event)
    by true refuses = leaves_refused refuses
    by false accepts = leaves_accepted accepts (lands accepts)
