-- A legal history goes on legally by a call that was served.
use Rattle.std.proofs.Common.{◌≡◌, ℕ, ◌+◌, Bool, true, false, List, refl, sym, ap, subst, ◌∙◌, inl, inr, arith}
use Rattle.std.specs.Prelude.{if◌then◌else◌}
use Rattle.hm_types.specs.Elements.{FullElement}
use Rattle.hm_model.specs.After.{Event, opening_state}
use Rattle.hm_model.specs.Call.{Call}
use Rattle.hm_model.specs.Caused.{HasNumbers, IsCaused, IsPossible, Known, known_after, known_at, known_busy, possible, possible_for, takes_stream}
use Rattle.hm_model.specs.Due.{early_checks, first_refusal}
use Rattle.hm_model.specs.Legal.{IsUndamaged, MayFollow, Setting, call_after, state_after}
use Rattle.hm_model.specs.Reply.{is_refusal}
use Rattle.hm_model.specs.declared.command.Command.{Command}
use Rattle.hm_model.specs.declared.command.Command.TheVariants.{Cat, Fill, Ln, Ls, MirrorWrite, Mkdir, Mv, Readlink, Rm, Rmdir, Snapshot, Stat}
use Rattle.hm_model.specs.declared.command.Command.TheVariants.{Symlink, Touch, Truncate, Write, PfsMaster, PfsSlave, PfsStatus, Prune, PruneAll}
use Rattle.hm_model.specs.declared.reply.Reply.{Reply}
use Rattle.hm_model.specs.declared.reply.Reply.TheVariants.{Damaged}
use Rattle.hm_model.proofs.MadeLemmas.{last_known}
use Rattle.hm_calls.specs.Answered.{IsAnswerable, reply_in}
use Rattle.hm_calls.specs.declared.answered.Answered.{Answered}
use Rattle.hm_step.specs.Served.{IsServed}
use Rattle.hm_step.specs.Step.{IsFailure, IsNext}
use Rattle.hm_step.proofs.GivenLemmas.{IsPlain, failure_possible}
use Rattle.hm_step.proofs.CauseLemmas.{plain_numbers, served_mind_none}
use Rattle.hm_step.proofs.CausedLemmas.{possible_is}
use Rattle.hm_step.proofs.EventLemmas.{served_no_opening}
use Rattle.hm_step.proofs.HistoryLemmas.{allowed, allowed_failed, failure_refuses, lands}

-- such a call takes no stream
served_take_none : (event : Event) → IsAnswerable event.entry.call → takes_stream event.entry ≡ true → ⊥
served_take_none event answers takes = by event.entry.call answers takes where
  by : (command : Command) → IsAnswerable command → (elim command as (λ c. Bool) [
    | MirrorWrite path ↦ if is_refusal event.entry.reply then false else true
    | other ↦ false
  ]) ≡ true → ⊥
  by (Mkdir path) answers is = cc
  by (Touch path) answers is = cc
  by (Symlink target path) answers is = cc
  by (Snapshot path) answers is = cc
  by (Ln old new) answers is = cc
  by (Mv old new) answers is = cc
  by (Write path offset bytes) answers is = cc
  by (Fill path offset count byte) answers is = cc
  by (Truncate path size) answers is = cc
  by (Rm path) answers is = cc
  by (Rmdir path) answers is = cc
  by (Ls path) answers is = cc
  by (Cat path offset count) answers is = cc
  by (Stat path) answers is = cc
  by (Readlink path) answers is = cc
  by (Prune path) answers is = cc
  by (PruneAll path) answers is = cc
  by (PfsMaster path shared) answers is = cc
  by (PfsSlave path shared) answers is = cc
  by (PfsStatus path) answers is = cc
  by other answers is = answers

plain_undamaged : (reply : Reply) → IsPlain reply → IsUndamaged reply
plain_undamaged (Damaged at kind) is = absurd is
plain_undamaged other is = tt

failure_undamaged : (reply : Reply) → IsFailure reply → IsUndamaged reply
failure_undamaged reply (inl (before, after, is)) = subst IsUndamaged (sym is) tt
failure_undamaged reply (inr is) = subst IsUndamaged (sym is) tt

-- a call that is the next one of a history, by what is known before it
module _ (run : Setting) (before : List Event) (event : Event) (free : ℕ) (es : List FullElement) (next : IsNext run before event free es) where
  abbrev call : Call
  call = call_after run before event

  abbrev known : Known
  known = known_after (known_at run.opening.last run.start) before

  last_same : known.last ≡ (state_after run before).volume.last
  last_same = last_known (known_at run.opening.last run.start) (opening_state run.opening run.foreigners) before refl

  -- the early checks are the same
  early_same : first_refusal (early_checks known.last (known_busy known.opened) event.entry.call event.paths)
      ≡ first_refusal (early_checks call.volume.last call.busy call.command call.paths)
  early_same =
      rw (last_same, served_mind_none (known_busy known.opened) event.entry.call next.served, served_mind_none call.busy event.entry.call next.served) refl

  numbers_same : possible_for known event ≡ possible event.entry.call event.paths
  numbers_same = rw (served_no_opening event.entry.call next.served) refl

  caused : IsPossible (first_refusal (early_checks call.volume.last call.busy call.command call.paths)) (possible call.command call.paths)
      event.entry.reply → HasNumbers run.now known event.entry → IsCaused run.now (known_at run.opening.last run.start) before event
  caused possible_reply numbers = record {
    id = next.own ∙ ap (λ (n : ℕ). n + 1) (sym last_same);
    drawn = omega (arith, next.own, next.left);
    read = next.reads;
    possible = rw (early_same, numbers_same) possible_reply;
    numbers = numbers;
  }

  module _ (room : ℕ → ℕ) (es' : List FullElement) (answered : Answered) (reply_same : event.entry.reply ≡ reply_in answered)
      (served : IsServed (call_after run before event) room free es es' answered) where
    due_is : IsPossible (first_refusal (early_checks call.volume.last call.busy call.command call.paths)) (possible call.command call.paths)
        event.entry.reply × IsPlain event.entry.reply
    due_is = possible_is call next.served next.left room free event.entry.reply (reply_same ∙ served.due)

    pub may_follow : MayFollow run before event
    may_follow = record {
      caused = caused due_is.0 (plain_numbers run.now known event.entry due_is.1);
      allowed = λ certain. allowed run before event room free es es' answered next reply_same served;
      lands = lands run before event room free es es' answered next reply_same served;
      fed = λ takes. absurd (served_take_none event next.served takes);
      undamaged = plain_undamaged event.entry.reply due_is.1;
    }

  module _ (fails : IsFailure event.entry.reply) (numbers : HasNumbers run.now known event.entry) where
    pub may_follow_failed : MayFollow run before event
    may_follow_failed =
        let refuses : is_refusal event.entry.reply ≡ true = (failure_refuses event.entry.reply fails).0 in
        record {
          caused = caused (failure_possible event.entry.call event.paths _ event.entry.reply next.served fails) numbers;
          allowed = λ certain. allowed_failed run before event free es next fails;
          lands = λ accepts. absurd (let no_way : true ≡ false = sym refuses ∙ accepts in cc);
          fed = λ takes. absurd (served_take_none event next.served takes);
          undamaged = failure_undamaged event.entry.reply fails;
        }
