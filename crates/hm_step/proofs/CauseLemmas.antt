-- A reply of a call on names or on the bytes of files has its cause, by what is known before it.
use Rattle.std.proofs.Common.{◌≡◌, ℕ, ◌<◌, ◌≤◌, max, Bool, refl, arith}
use Rattle.std.specs.Prelude.{Option, None}
use Rattle.hm_types.specs.Faults.{IsMedia}
use Rattle.hm_model.specs.After.{Event}
use Rattle.hm_model.specs.Caused.{Counts, HasCause, HasNumbers, IsCutAt, IsPossible, Known, counts_after, ended_command, is_output, known_busy}
use Rattle.hm_model.specs.Caused.{possible, possible_for, stream_count, stream_told}
use Rattle.hm_model.specs.Due.{early_checks, first_refusal, none_open}
use Rattle.hm_model.specs.Reply.{passed_ids}
use Rattle.hm_model.specs.declared.command.Command.{Command}
use Rattle.hm_model.specs.declared.command.Command.TheVariants.{Cat, Fill, Ln, Ls, Mkdir, Mv, Readlink, Rm, Rmdir, Snapshot, Stat, Symlink, Touch}
use Rattle.hm_model.specs.declared.command.Command.TheVariants.{Truncate, Write, PfsMaster, PfsSlave, PfsStatus, Prune, PruneAll}
use Rattle.hm_model.specs.declared.entry.Entry.{Entry}
use Rattle.hm_model.specs.declared.reply.Reply.{Reply}
use Rattle.hm_model.specs.declared.reply.Reply.TheVariants.{Cut, Media, StreamFault, Synced}
use Rattle.hm_calls.specs.Answered.{IsAnswerable}
use Rattle.hm_calls.specs.Possible.{MayReply}
use Rattle.hm_step.specs.Causes.{IsNextOf, TellsFault}
use Rattle.hm_step.proofs.EarlyLemmas.{may_plain}
use Rattle.hm_step.proofs.EventLemmas.{served_no_opening}
use Rattle.hm_step.proofs.GivenLemmas.{IsPlain, fault_possible}
use Rattle.hm_step.proofs.HistoryLemmas.{plain_tells}

-- such a call minds no open pass
pub served_mind_none : (busy : Option ℕ) (command : Command) → IsAnswerable command → none_open busy command ≡ None
served_mind_none busy (Mkdir path) answers = refl
served_mind_none busy (Touch path) answers = refl
served_mind_none busy (Symlink target path) answers = refl
served_mind_none busy (Snapshot path) answers = refl
served_mind_none busy (Ln old new) answers = refl
served_mind_none busy (Mv old new) answers = refl
served_mind_none busy (Write path offset bytes) answers = refl
served_mind_none busy (Fill path offset count byte) answers = refl
served_mind_none busy (Truncate path size) answers = refl
served_mind_none busy (Rm path) answers = refl
served_mind_none busy (Rmdir path) answers = refl
served_mind_none busy (Ls path) answers = refl
served_mind_none busy (Cat path offset count) answers = refl
served_mind_none busy (Stat path) answers = refl
served_mind_none busy (Readlink path) answers = refl
served_mind_none busy (Prune path) answers = refl
served_mind_none busy (PruneAll path) answers = refl
served_mind_none busy (PfsMaster path shared) answers = refl
served_mind_none busy (PfsSlave path shared) answers = refl
served_mind_none busy (PfsStatus path) answers = refl
served_mind_none busy other answers = absurd answers

-- a plain reply has no numbers of its own
pub plain_numbers : (now : Counts) (known : Known) (e : Entry) → IsPlain e.reply → HasNumbers now known e
plain_numbers now known e plain = by e.reply plain where
  by : (reply : Reply) → IsPlain reply → (elim reply as (λ r. Type 0) [
    | Synced boundary ↦ (known.boundary ≤ boundary.0) × (boundary.0 < e.id.0)
    | Media before after ↦ IsMedia known.counts.disk now.disk before after
    | StreamFault before after ↦
        let output : Bool = is_output known.opened e.call in
        IsMedia (stream_count output known.counts) (stream_count output now) before after
    | Cut items ↦ IsCutAt (ended_command known.opened e.call) items
    | other ↦ Unit {0}
  ])
  by (Synced boundary) is = absurd is
  by (Media before after) is = absurd is
  by (StreamFault before after) is = absurd is
  by (Cut items) is = absurd is
  by other is = tt

-- and tells no faults
plain_counts : (known : Known) (e : Entry) → IsPlain e.reply → counts_after known e ≡ known.counts
plain_counts known e plain = by e.reply plain where
  by : (reply : Reply) → IsPlain reply → (elim reply as (λ r. Counts) [
    | Media before after ↦ record known.counts { disk = max known.counts.disk after }
    | StreamFault before after ↦ stream_told (is_output known.opened e.call) after known.counts
    | other ↦ known.counts
  ]) ≡ known.counts
  by (Media before after) is = absurd is
  by (StreamFault before after) is = absurd is
  by other is = refl

module _ (known : Known) (event : Event) (next : IsNextOf known event) where
  -- the early checks are the same, whatever pass is open
  early_same : (busy : Option ℕ) → first_refusal (early_checks known.last (known_busy known.opened) event.entry.call event.paths)
      ≡ first_refusal (early_checks known.last busy event.entry.call event.paths)
  early_same busy =
      rw (served_mind_none (known_busy known.opened) event.entry.call next.served, served_mind_none busy event.entry.call next.served) refl

  numbers_same : possible_for known event ≡ possible event.entry.call event.paths
  numbers_same = rw (served_no_opening event.entry.call next.served) refl

  with_cause : (now : Counts) (busy : Option ℕ)
      → IsPossible (first_refusal (early_checks known.last busy event.entry.call event.paths)) (possible event.entry.call event.paths) event.entry.reply
      → HasNumbers now known event.entry → HasCause now known event
  with_cause now busy possible_reply numbers = record {
    id = next.own;
    drawn = omega (arith, next.own, next.left);
    read = next.reads;
    possible = rw (early_same busy, numbers_same) possible_reply;
    numbers = numbers;
  }

  -- one that tells a fault
  pub fault_cause : (now : Counts) → TellsFault event.entry.reply → HasNumbers now known event.entry → HasCause now known event
  fault_cause now tells numbers =
      with_cause now None (fault_possible event.entry.call event.paths _ event.entry.reply next.served tells) numbers

  -- one that the call may have by its words
  module _ (busy : Option ℕ) (may : MayReply known.last busy event.entry.call event.entry.reply) where
    plain : IsPlain event.entry.reply
    plain = may_plain known.last busy event.entry.call event.paths event.entry.reply next.served next.reads may

    pub may_cause : (now : Counts) → HasCause now known event
    may_cause now = with_cause now busy (may.listed event.paths next.reads) (plain_numbers now known event.entry plain)

    pub may_counts : counts_after known event.entry ≡ known.counts
    may_counts = plain_counts known event.entry plain

    pub may_end : passed_ids event.entry.reply ≡ None
    may_end = plain_tells event.entry.reply plain
