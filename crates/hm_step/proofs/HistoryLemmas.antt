-- A call that was served, as the next one of a history.
use Rattle.std.proofs.Common.{◌≡◌, ℕ, false, true, inl, inr, List, [], ◌∷◌, ◌++◌, refl, sym, ap, subst, ◌∙◌}
use Rattle.std.specs.Prelude.{Option, None, Some}
use Rattle.hm_types.specs.Elements.{FullElement}
use Rattle.hm_types.specs.declared.id.Id.{Id}
use Rattle.hm_model.specs.After.{Event, OpenCall, State, on_volume, opened_with, opening_state}
use Rattle.hm_model.specs.Call.{Call}
use Rattle.hm_model.specs.Command.{named_opening}
use Rattle.hm_model.specs.Legal.{IsAllowed, IsEnding, IsException, IsReply, Lands, Setting, call_after, floor_after, state_after}
use Rattle.hm_model.specs.Reply.{is_refusal, passed_ids}
use Rattle.hm_model.specs.declared.reply.Reply.{Reply}
use Rattle.hm_model.specs.declared.reply.Reply.TheVariants.{Passed}
use Rattle.hm_model.proofs.EventLemmas.{after_events-push}
use Rattle.hm_model.proofs.LandLemmas.{lands_accepted}
use Rattle.hm_volume.specs.Shown.{ShowsAs}
use Rattle.hm_image.specs.StandFor.{StandFor}
use Rattle.hm_calls.specs.Answered.{reply_in}
use Rattle.hm_calls.specs.Due.{due_over}
use Rattle.hm_calls.specs.declared.answered.Answered.{Answered}
use Rattle.hm_step.specs.Pruned.{StandAfter, StillKeeps}
use Rattle.hm_step.specs.Served.{IsServed}
use Rattle.hm_step.specs.Step.{IsFailure, IsNext, after_call}
use Rattle.hm_step.proofs.CausedLemmas.{possible_is}
use Rattle.hm_step.proofs.EventLemmas.{served_no_opening, state_refused}
use Rattle.hm_step.proofs.GivenLemmas.{IsPlain}
use Rattle.hm_step.proofs.NextLemmas.{after_next}
use Rattle.hm_step.proofs.ReplyLemmas.{reply_is_allowed}
use Rattle.hm_step.proofs.SeenLemmas.{shows_as}
use Rattle.hm_step.proofs.StepLemmas.{Leaves, leaves}

-- a plain reply tells no end id
pub plain_tells : (reply : Reply) → IsPlain reply → passed_ids reply ≡ None
plain_tells (Passed begin end) is = absurd is
plain_tells other is = refl

module _ (run : Setting) (before : List Event) (event : Event) (room : ℕ → ℕ) (free : ℕ) (es es' : List FullElement) (answered : Answered)
    (next : IsNext run before event free es) (reply_same : event.entry.reply ≡ reply_in answered)
    (served : IsServed (call_after run before event) room free es es' answered) where
  abbrev state : State
  state = state_after run before

  abbrev call : Call
  call = call_after run before event

  shows : ShowsAs es call.volume call.view
  shows = shows_as es state.volume event.substitutes next.stand next.given

  pub due : event.entry.reply ≡ due_over call room free
  due = reply_same ∙ served.due

  reply_is : IsReply (floor_after run before) call event.entry.reply
  reply_is = reply_is_allowed call room free (floor_after run before) event.entry.reply next.served next.least due

  pub allowed : IsAllowed run before event
  allowed = by (named_opening event.entry.call) (served_no_opening event.entry.call next.served) where
    by : (o : Option Id) → o ≡ None → elim o as (λ x. Type 0) [
      | Some opening ↦ (c : OpenCall) × (opened_with opening.0 state.opened ≡ Some c)
          × IsEnding (floor_after run before) state.volume c event.entry.id.0 event.entry.reply
      | None ↦ IsReply (floor_after run before) call event.entry.reply
    ]
    by None is = reply_is
    by (Some opening) is = absurd (cc)

  pub lands : is_refusal event.entry.reply ≡ false → Lands call event.entry.reply
  lands accepts = lands_accepted (floor_after run before) call event.entry.reply reply_is accepts

  -- the state afterwards
  pub left_so : Leaves es' state (state_after run (before ++ event ∷ [])) call answered
  left_so =
      let tells = plain_tells event.entry.reply (possible_is call next.served next.left room free event.entry.reply due).1 in
      subst (λ (after : State). Leaves es' state after call answered)
      (sym (after_events-push (opening_state run.opening run.foreigners) before event))
      (leaves state event room free es es' answered next.stand shows next.served next.reads next.left next.own tells reply_same served lands)

-- ---- a call in which a device failed, or memory was refused

-- such a reply refuses, and tells no end id
pub failure_refuses : (reply : Reply) → IsFailure reply → (is_refusal reply ≡ true) × (passed_ids reply ≡ None)
failure_refuses reply (inl (before, after, is)) = (ap is_refusal is, ap passed_ids is)
failure_refuses reply (inr is) = (ap is_refusal is, ap passed_ids is)

module _ (run : Setting) (before : List Event) (event : Event) (free : ℕ) (es : List FullElement) (next : IsNext run before event free es)
    (fails : IsFailure event.entry.reply) where
  failed_state : state_after run (before ++ event ∷ []) ≡ on_volume (state_after run before) (after_call false (call_after run before event))
  failed_state =
      let refuses = failure_refuses event.entry.reply fails in
      after_events-push (opening_state run.opening run.foreigners) before event
      ∙ state_refused (state_after run before) event next.served refuses.1 next.own refuses.0

  failed_next : StandAfter (state_after run before).volume es (after_call false (call_after run before event))
  failed_next = after_next es (state_after run before).volume next.stand next.left

  pub keeps_failed : StillKeeps (state_after run before).volume (state_after run (before ++ event ∷ [])).volume
  keeps_failed = subst (λ (s : State). StillKeeps (state_after run before).volume s.volume) (sym failed_state) failed_next.jobs

  pub stands_failed : StandFor es (state_after run (before ++ event ∷ [])).volume
  stands_failed = subst (λ (s : State). StandFor es s.volume) (sym failed_state) failed_next.stand

  pub opened_failed : (state_after run (before ++ event ∷ [])).opened ≡ (state_after run before).opened
  opened_failed = ap (λ (s : State). s.opened) failed_state

  pub allowed_failed : IsAllowed run before event
  allowed_failed = by (named_opening event.entry.call) (served_no_opening event.entry.call next.served) where
    excepted : IsException (floor_after run before) (call_after run before event) event.entry.reply
    excepted = elim fails [
      | inl (b, a, is) ↦ subst (IsException (floor_after run before) (call_after run before event)) (sym is) tt
      | inr is ↦ subst (IsException (floor_after run before) (call_after run before event)) (sym is) tt
    ]

    by : (o : Option Id) → o ≡ None → elim o as (λ x. Type 0) [
      | Some opening ↦ (c : OpenCall) × (opened_with opening.0 (state_after run before).opened ≡ Some c)
          × IsEnding (floor_after run before) (state_after run before).volume c event.entry.id.0 event.entry.reply
      | None ↦ IsReply (floor_after run before) (call_after run before event) event.entry.reply
    ]
    by None is = inr excepted
    by (Some opening) is = absurd (cc)
