-- What a call that ends no other one leaves of a state: the size of its volume, its last id, and which calls are open.
use Rattle.std.proofs.Common.{◌≡◌, ◌≢◌, ℕ, ◌+◌, ◌<◌, ◌≤◌, Bool, true, false, List, [], ◌∷◌, ◌++◌, None, Some, refl, sym, ap, subst, ◌∙◌, arith, eqb}
use Rattle.std.proofs.Common.{eqb-true, nat_eq}
use Rattle.std.specs.Prelude.{IsTrue, if◌then◌else◌}
use Rattle.std.proofs.lemmas.Bool.{eq-eqb, false≢true}
use Rattle.hm_types.specs.Elements.{FullElement}
use Rattle.hm_types.specs.Hash.{name_hash}
use Rattle.hm_types.specs.Tree.{root_tree}
use Rattle.hm_model.specs.After.{Event, OpenCall, State, after_event, busy_in, call_of, on_volume, opened_with, opening_state, origin_of, with_opened}
use Rattle.hm_model.specs.Call.{Call, own_id}
use Rattle.hm_model.specs.Change.{change, new_slave, with_system}
use Rattle.hm_model.specs.Due.{is_pass, new_pfs}
use Rattle.hm_model.specs.Foreign.{no_feed}
use Rattle.hm_model.specs.Legal.{IsAllowed, Setting, call_after, floor_after, state_after}
use Rattle.hm_model.specs.Reply.{is_refusal, passed_ids}
use Rattle.hm_model.specs.Volume.{Volume, new_master}
use Rattle.hm_model.specs.declared.command.Command.{Command}
use Rattle.hm_model.specs.declared.command.Command.TheVariants.{PfsMaster, PfsSlave, Prune, PruneAll, Reblock}
use Rattle.hm_model.specs.declared.entry.Entry.{Entry}
use Rattle.hm_model.proofs.ChangeLemmas.{versioned}
use Rattle.hm_model.proofs.EventLemmas.{after_events-push}
use Rattle.hm_calls.specs.Answered.{IsAnswerable, is_prune}
use Rattle.hm_calls.specs.Prunes.{command_of}
use Rattle.hm_calls.specs.Replies.{is_change}
use Rattle.hm_calls.specs.declared.new_systems.NewSystem.TheVariants.{Master, Slave}
use Rattle.hm_calls.specs.declared.pruning.Pruning.{Pruning}
use Rattle.hm_calls.proofs.AnsweredLemmas.{KindOf, kind_of, makes, on_trees, on_trees_no_prune, opens as of_prune, tells as of_status}
use Rattle.hm_image.specs.StandFor.{StandFor}
use Rattle.hm_stored.specs.Heap.{Heap}
use Rattle.hm_stored.specs.Standing.{Holds}
use Rattle.hm_prune.specs.Dead.{keeps_in}
use Rattle.hm_search.proofs.ListLemmas.{each_append, each_so}
use Rattle.hm_step.specs.Pruned.{KeepsEnough, StillKeeps}
use Rattle.hm_step.specs.Step.{after_call}
use Rattle.hm_step.proofs.EventLemmas.{served_no_opening, state_after as state_unopened, state_opened, state_refused}
use Rattle.hm_core.specs.Answer.{job_of}
use Rattle.hm_core.specs.History.{HoldsState}
use Rattle.hm_core.specs.Open.{AreOpen, IsWorkOn, IsOpenIn, IsOpenedBy, IsPrune, ids_kept_by}
use Rattle.hm_core.specs.State.{OpenJob, OpenWork, pruning as to_prune, reblocking}
use Rattle.hm_core.proofs.ReplyLemmas.{reply_allowed, tells_no_pass}

-- a call that changes a volume leaves its size
changed_size : (call : Call) → (change call).bigblocks ≡ call.volume.bigblocks
changed_size call = by call.command where
  by : (command : Command) → (elim command as (λ c. Volume) [
    | PfsMaster path shared ↦ with_system (versioned call) (new_master (new_pfs call.volume) shared ((own_id call, root_tree) ∷ []))
    | PfsSlave path shared ↦ with_system (versioned call) (new_slave (new_pfs call.volume) shared)
    | other ↦ versioned call
  ]).bigblocks ≡ call.volume.bigblocks
  by (PfsMaster path shared) = refl
  by (PfsSlave path shared) = refl
  by other = refl

pub size_after : (test : Bool) (call : Call) → (after_call test call).bigblocks ≡ call.volume.bigblocks
size_after true call = changed_size call
size_after false call = refl

-- a state is of a volume as large as that of a call, with the call's id as its last one
pub record IsNextTo (call : Call) (after : State) : Type 0 where
  pub size : after.volume.bigblocks ≡ call.volume.bigblocks
  pub last : after.volume.last ≡ own_id call

module _ (state : State) (event : Event) (answers : IsAnswerable event.entry.call) (tells : passed_ids event.entry.reply ≡ None)
    (own : event.entry.id.0 ≡ own_id (call_of name_hash state event)) where
  abbrev the_call : Call
  the_call = call_of name_hash state event

  abbrev ComesNext : State → Type 0
  ComesNext after = IsNextTo the_call after

  refused : is_refusal event.entry.reply ≡ true → ComesNext (after_event state event)
  refused refuses = subst ComesNext (sym (state_refused state event answers tells own refuses)) (record { size = refl; last = refl })

  unopened : is_prune event.entry.call ≡ false → ComesNext (after_event state event)
  unopened none =
      subst ComesNext (sym (state_unopened state event answers tells own none))
      (record { size = size_after (is_change event.entry.call event.entry.reply) the_call; last = refl })

  opened : (pruning : Pruning) (path : List ℕ) → event.entry.call ≡ command_of pruning path → is_refusal event.entry.reply ≡ false
      → ComesNext (after_event state event)
  opened pruning path is accepts =
      subst ComesNext (sym (state_opened state event answers tells own pruning path is accepts)) (record { size = refl; last = refl })

  pub next_to : ComesNext (after_event state event)
  next_to = by (is_refusal event.entry.reply) refl where
    of_kind : (command : Command) → KindOf command → event.entry.call ≡ command → is_refusal event.entry.reply ≡ false
        → ComesNext (after_event state event)
    of_kind _ (on_trees command of_trees) is accepts = unopened (ap is_prune is ∙ on_trees_no_prune command of_trees)
    of_kind _ (of_status path) is accepts = unopened (ap is_prune is)
    of_kind _ (makes Master path shared) is accepts = unopened (ap is_prune is)
    of_kind _ (makes Slave path shared) is accepts = unopened (ap is_prune is)
    of_kind _ (of_prune pruning path) is accepts = opened pruning path is accepts

    by : (refuses : Bool) → is_refusal event.entry.reply ≡ refuses → ComesNext (after_event state event)
    by true is = refused is
    by false is = of_kind event.entry.call (kind_of event.entry.call answers) refl is

-- the state of a history after a call that is served, whatever it was answered
pub served_next : (run : Setting) (before : List Event) (event : Event) → IsAnswerable event.entry.call
    → event.entry.id.0 ≡ own_id (call_after run before event) → IsAllowed run before event
    → IsNextTo (call_after run before event) (state_after run (before ++ event ∷ []))
served_next run before event served own allowed =
    subst (IsNextTo (call_after run before event)) (sym (after_events-push (opening_state run.opening run.foreigners) before event))
    (next_to (state_after run before) event served
    (tells_no_pass (floor_after run before) (call_after run before event) event.entry.reply
    (reply_allowed run before event (served_no_opening event.entry.call served) allowed)) own)

-- ---- which calls are open

-- those that are open in a state are so in one with the same open calls, for whose volume is enough what was so before
pub open_same : (running : List OpenJob) (state after : State) → after.opened ≡ state.opened → StillKeeps state.volume after.volume
    → state.volume.last ≤ after.volume.last → AreOpen running state → AreOpen running after
open_same running state after same keeps later opened = record {
  each = each_so (IsOpenIn state) (IsOpenIn after) running (λ p was. record {
    call = was.call;
    found = ap (opened_with p.opening) same ∙ was.found;
    opened = was.opened;
    on = was.on;
    enough = keeps (ids_kept_by p.work) was.enough;
    drawn = (let drawn = was.drawn in omega (arith, drawn, later));
  }) opened.each;
  idle = ap busy_in same ∙ opened.idle;
}

pub apart : (a b : ℕ) → b < a → eqb a b ≡ false
apart a b less = by (eqb a b) refl where
  by : (test : Bool) → eqb a b ≡ test → test ≡ false
  by true is = absurd (let same = eqb-true a b is in omega (arith, same, less))
  by false is = refl

pub prune_is : (command : Command) → IsTrue (is_prune command) → IsPrune command
prune_is (Prune path) is = tt
prune_is (PruneAll path) is = tt
prune_is other is = absurd (false≢true is)

no_pass : (command : Command) (work : OpenWork) → IsOpenedBy command work → is_pass command ≡ false
no_pass (Prune path) work is = refl
no_pass (PruneAll path) work is = refl
no_pass (Reblock fill) work is = refl
no_pass other (to_prune pfs kept) is = absurd is
no_pass other reblocking is = absurd is

-- what a prune keeps is told of its own pseudo file system alone
pub kept_there : (pfs : ℕ) (kept : List (ℕ × ℕ)) → keeps_in pfs kept pfs ≡ Some kept
kept_there pfs kept = rw (eq-eqb pfs pfs refl) refl

pub kept_elsewhere : (pfs : ℕ) (kept : List (ℕ × ℕ)) (other : ℕ) → other ≢ pfs → keeps_in pfs kept other ≡ None
kept_elsewhere pfs kept other differs = by (nat_eq other pfs) refl where
  by : (test : Bool) → nat_eq other pfs ≡ test → (if test then Some kept else None) ≡ None
  by true is = absurd (differs (eqb-true other pfs is))
  by false is = refl

-- a reblock tells nothing to keep
pub none_kept : (volume : Volume) → KeepsEnough (ids_kept_by reblocking) volume
none_kept volume = record { within = λ pfs s found. tt; of_systems = λ pfs. tt }

-- with what an entry opened by the id of its call: such work on a PFS, for which it keeps enough
module _ (running : List OpenJob) (state after : State) (call : Call) (entry : Entry) (work : OpenWork) (pfs : ℕ)
    (opens : IsOpenedBy call.command work) (there : IsWorkOn pfs work)
    (here : call.volume ≡ state.volume) (own : entry.id.0 ≡ own_id call) (last : after.volume.last ≡ own_id call)
    (same : after.opened ≡ (with_opened state call pfs pfs no_feed).opened) (enough : KeepsEnough (ids_kept_by work) after.volume)
    (keeps : StillKeeps state.volume after.volume) (opened : AreOpen running state) where
  abbrev all_open : List OpenCall
  all_open = (with_opened state call pfs pfs no_feed).opened

  own_next : own_id call ≡ state.volume.last + 1
  own_next = ap (λ (v : Volume). v.last + 1) here

  old_one : (p : OpenJob) → IsOpenIn state p → IsOpenIn after p
  old_one p was = record {
    call = was.call;
    found = ap (opened_with p.opening) same ∙ (rw (apart (own_id call) p.opening (let drawn = was.drawn in omega (arith, drawn, own_next))) was.found);
    opened = was.opened;
    on = was.on;
    enough = keeps (ids_kept_by p.work) was.enough;
    drawn = (let drawn = was.drawn in omega (arith, drawn, own_next, last));
  }

  new_one : IsOpenIn after (job_of entry work)
  new_one = record {
    call = record {
      opening = own_id call;
      command = call.command;
      pfs = pfs;
      master = pfs;
      origin = origin_of state.volume pfs;
      stream = no_feed;
    };
    found = ap (opened_with entry.id.0) same ∙ rw (eq-eqb (own_id call) entry.id.0 (sym own)) refl;
    opened = opens;
    on = there;
    enough = enough;
    drawn = omega (arith, own, last);
  }

  pub open_more : AreOpen (running ++ job_of entry work ∷ []) after
  open_more = record {
    each = each_append (IsOpenIn after) running (job_of entry work ∷ []) (each_so (IsOpenIn state) (IsOpenIn after) running old_one opened.each)
        (new_one, tt);
    idle = ap busy_in same ∙ (rw (no_pass call.command work opens) opened.idle);
  }

-- a space holds the state after a call, in which these calls are open
pub holds_after : (h h' : Heap) (root root' last : ℕ) (running running' : List OpenJob) (state after : State) (call : Call) (es : List FullElement)
    → HoldsState h root last running state → call.volume ≡ state.volume → IsNextTo call after → h'.bigblocks ≡ h.bigblocks → Holds h' root' es
    → StandFor es after.volume → AreOpen running' after → HoldsState h' root' (last + 1) running' after
holds_after h h' root root' last running running' state after call es held of_state next same holds stand opened = record {
  holds = record {
    bigblocks = same ∙ held.holds.bigblocks ∙ ap (λ (v : Volume). v.bigblocks) (sym of_state) ∙ sym next.size;
    last_is = ap (λ (n : ℕ). n + 1) (held.holds.last_is ∙ ap (λ (v : Volume). v.last) (sym of_state)) ∙ sym next.last;
    elements = (es, holds, stand);
  };
  opened = opened;
}

-- the same after a call that drew its id alone
pub holds_drawn : (h h' : Heap) (root root' last : ℕ) (running : List OpenJob) (state after : State) (call : Call) (es : List FullElement)
    → HoldsState h root last running state → call.volume ≡ state.volume → after ≡ on_volume state (after_call false call) → h'.bigblocks ≡ h.bigblocks
    → Holds h' root' es → StandFor es after.volume → HoldsState h' root' (last + 1) running after
holds_drawn h h' root root' last running state after call es held of_state is same holds stand =
    let next : IsNextTo call after = subst (IsNextTo call) (sym is) (record { size = refl; last = refl }) in
    holds_after h h' root root' last running running state after call es held of_state next same holds stand
    (subst (AreOpen running) (sym is)
    (open_same running state (on_volume state (after_call false call)) refl
    (subst (λ (v : Volume). StillKeeps v (after_call false call)) of_state
    (λ kept enough. record { within = enough.within; of_systems = enough.of_systems }))
    (let drawn : own_id call ≡ state.volume.last + 1 = ap (λ (v : Volume). v.last + 1) of_state in omega (arith, drawn)) held.opened))
