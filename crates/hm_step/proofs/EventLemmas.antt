-- The state of a history after a call that was answered.
use Rattle.std.proofs.Common.{◌≡◌, ℕ, Bool, true, false, List, max, refl, ap, ◌∙◌, arith}
use Rattle.std.specs.Prelude.{◌&&◌, Option, None, if◌then◌else◌}
use Rattle.std.specs.Option.{option_map_or}
use Rattle.hm_types.specs.Hash.{name_hash}
use Rattle.hm_types.specs.declared.id.Id.{Id}
use Rattle.hm_model.specs.After.{Event, State, accepted_effect, accepted_effect_of, after_event, call_of, end_id, ended, first_pfs, last_after}
use Rattle.hm_model.specs.After.{no_hash, of_pfs, on_volume, opened_with_change, with_opened}
use Rattle.hm_model.specs.Call.{Call, own_id}
use Rattle.hm_model.specs.Change.{change}
use Rattle.hm_model.specs.Command.{named_opening}
use Rattle.hm_model.specs.Due.{is_tree_call}
use Rattle.hm_model.specs.Foreign.{no_feed}
use Rattle.hm_model.specs.Reply.{is_refusal, passed_ids}
use Rattle.hm_model.specs.declared.command.Command.{Command}
use Rattle.hm_model.specs.declared.command.Command.TheVariants.{Cat, Fill, Ln, Ls, Mkdir, Mv, Readlink, Rm, Rmdir, Snapshot, Stat, Symlink, Touch}
use Rattle.hm_model.specs.declared.command.Command.TheVariants.{Truncate, Write, PfsMaster, PfsSlave, PfsStatus, Prune, PruneAll}
use Rattle.hm_model.specs.declared.reply.Reply.{Reply}
use Rattle.hm_step.specs.Step.{after_call, drawn}
use Rattle.hm_calls.specs.Answered.{IsAnswerable, is_prune}
use Rattle.hm_calls.specs.Prunes.{command_of, system_after}
use Rattle.hm_calls.specs.Replies.{is_change}
use Rattle.hm_calls.specs.declared.pruning.Pruning.{Pruning}
use Rattle.hm_calls.specs.declared.pruning.Pruning.TheVariants.{Present, Snapshots}

-- a reply tells no end id
abbrev TellsNone : Reply → Type 0
TellsNone reply = passed_ids reply ≡ None

-- ---- the state afterwards

-- what an accepted call does that opens nothing, by its command
effect_is : (state : State) (call : Call) (command : Command) → IsAnswerable command → is_prune command ≡ false
    → accepted_effect_of state call command ≡ (if is_tree_call command then on_volume state (change call) else state)
effect_is state call (Mkdir path) answers none = refl
effect_is state call (Touch path) answers none = refl
effect_is state call (Symlink target path) answers none = refl
effect_is state call (Snapshot path) answers none = refl
effect_is state call (Ln old new) answers none = refl
effect_is state call (Mv old new) answers none = refl
effect_is state call (Write path offset bytes) answers none = refl
effect_is state call (Fill path offset count byte) answers none = refl
effect_is state call (Truncate path size) answers none = refl
effect_is state call (Rm path) answers none = refl
effect_is state call (Rmdir path) answers none = refl
effect_is state call (Ls path) answers none = refl
effect_is state call (Cat path offset count) answers none = refl
effect_is state call (Stat path) answers none = refl
effect_is state call (Readlink path) answers none = refl
effect_is state call (PfsMaster path shared) answers none = refl
effect_is state call (PfsSlave path shared) answers none = refl
effect_is state call (PfsStatus path) answers none = refl
effect_is state call (Prune path) answers none = absurd (cc)
effect_is state call (PruneAll path) answers none = absurd (cc)
effect_is state call other answers none = absurd answers

-- what an accepted opening does
opened_is : (state : State) (call : Call) (pruning : Pruning) (path : List ℕ)
    → accepted_effect_of state call (command_of pruning path) ≡ opened_with_change state call (system_after pruning call)
opened_is state call Snapshots path = refl
opened_is state call Present path = refl

pub served_no_opening : (command : Command) → IsAnswerable command → named_opening command ≡ None
served_no_opening (Mkdir path) answers = refl
served_no_opening (Touch path) answers = refl
served_no_opening (Symlink target path) answers = refl
served_no_opening (Snapshot path) answers = refl
served_no_opening (Ln old new) answers = refl
served_no_opening (Mv old new) answers = refl
served_no_opening (Write path offset bytes) answers = refl
served_no_opening (Fill path offset count byte) answers = refl
served_no_opening (Truncate path size) answers = refl
served_no_opening (Rm path) answers = refl
served_no_opening (Rmdir path) answers = refl
served_no_opening (Ls path) answers = refl
served_no_opening (Cat path offset count) answers = refl
served_no_opening (Stat path) answers = refl
served_no_opening (Readlink path) answers = refl
served_no_opening (Prune path) answers = refl
served_no_opening (PruneAll path) answers = refl
served_no_opening (PfsMaster path shared) answers = refl
served_no_opening (PfsSlave path shared) answers = refl
served_no_opening (PfsStatus path) answers = refl
served_no_opening other answers = absurd answers

module _ (state : State) (event : Event) (answers : IsAnswerable event.entry.call) (tells : TellsNone event.entry.reply)
    (own : event.entry.id.0 ≡ own_id (call_of name_hash state event)) where
  abbrev the_call : Call
  the_call = call_of name_hash state event

  abbrev changes : Bool
  changes = is_change event.entry.call event.entry.reply

  last_is : last_after event.entry ≡ own_id the_call
  last_is =
      let none : end_id event.entry.reply ≡ 0 = rw tells refl in
      ap (λ (end : ℕ). max event.entry.id.0 end) none ∙ (omega (arith) ∙ own)

  -- effects do not look at hashes
  abbrev plain_call : Call
  plain_call = call_of no_hash state event

  -- an effect, with the id drawn
  abbrev with_own : State → State
  with_own next = on_volume next (drawn (own_id the_call) next.volume)

  after_is : after_event state event ≡ with_own (if is_refusal event.entry.reply then state else accepted_effect state plain_call)
  after_is =
      ap (λ (next : State). on_volume next (drawn (last_after event.entry) next.volume))
      (ap (λ (o : Option Id). option_map_or (λ (opening : Id). ended state opening.0 event.entry.reply) o
      (if is_refusal event.entry.reply then state else accepted_effect state plain_call)) (served_no_opening event.entry.call answers))
      ∙ ap (λ (last : ℕ). drawn_by last) last_is
    where
      drawn_by : ℕ → State
      drawn_by last =
          let next : State = if is_refusal event.entry.reply then state else accepted_effect state plain_call in
          on_volume next (drawn last next.volume)

  -- a refusal draws its id alone
  pub state_refused : is_refusal event.entry.reply ≡ true → after_event state event ≡ on_volume state (after_call false the_call)
  state_refused refuses =
      after_is ∙ ap (λ (test : Bool). with_own (if test then state else accepted_effect state plain_call)) refuses

  -- a call that opens nothing changes a tree, or none
  pub state_after : is_prune event.entry.call ≡ false → after_event state event ≡ on_volume state (after_call changes the_call)
  state_after none =
      after_is ∙ by (is_refusal event.entry.reply) (is_tree_call event.entry.call) (effect_is state plain_call event.entry.call answers none)
    where
      by : (refuses tree : Bool) → accepted_effect state plain_call ≡ (if tree then on_volume state (change plain_call) else state)
          → with_own (if refuses then state else accepted_effect state plain_call)
          ≡ on_volume state (after_call (tree && (if refuses then false else true)) the_call)
      by true true is = refl
      by true false is = refl
      by false true is = ap with_own is
      by false false is = ap with_own is

  -- an opening that was accepted is open, and cuts a retention
  pub state_opened : (pruning : Pruning) (path : List ℕ) → event.entry.call ≡ command_of pruning path → is_refusal event.entry.reply ≡ false
      → after_event state event
      ≡ on_volume (with_opened state the_call (first_pfs the_call) (first_pfs the_call) no_feed)
      (drawn (own_id the_call) (of_pfs state.volume (first_pfs the_call) (system_after pruning the_call)))
  state_opened pruning path is accepts =
      after_is
      ∙ (ap (λ (test : Bool). with_own (if test then state else accepted_effect state plain_call)) accepts
      ∙ ap with_own (ap (accepted_effect_of state plain_call) is ∙ (opened_is state plain_call pruning path ∙ by pruning)))
    where
      by : (p : Pruning) → opened_with_change state plain_call (system_after p plain_call) ≡ opened_with_change state the_call (system_after p the_call)
      by Snapshots = refl
      by Present = refl
