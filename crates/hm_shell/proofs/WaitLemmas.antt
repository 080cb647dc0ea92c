-- A core that waits for a flush, and is then entered.
use Rattle.std.proofs.Common.{◌≡◌, ◌⊎◌, ℕ, ◌+◌, ◌<◌, length, [], ◌∷◌, ◌++◌, sym, ◌∙◌}
use Rattle.std.proofs.Common.{ap, subst, inl, inr, arith}
use Rattle.hm_types.specs.declared.limits.TheConstants.{GREATEST_ID}
use Rattle.hm_disk.specs.Moments.{LeftSince}
use Rattle.hm_flush.specs.declared.flush.Flush.{Flush}
use Rattle.hm_model.specs.declared.command.Command.{Command}
use Rattle.hm_core.specs.Core.{EndsAtOnce, Enters, Follows, KeepsStreams, OpensJob, Steps, Waits}
use Rattle.hm_core.specs.Staged.{MakesStage, Stages}
use Rattle.hm_core.specs.declared.staged.Staged.TheVariants.{More, Refused}
use Rattle.hm_core.specs.declared.step.Step.TheVariants.{Answered, MustFlush, Opened as opened_step}
use Rattle.hm_core.specs.declared.ticket.Ticket.{Ticket}
use Rattle.hm_core.specs.State.{CoreDevices, CoreState}
use Rattle.hm_shell.specs.declared.serve.Called.TheVariants.{Closed, Opened}
use Rattle.hm_shell.specs.Serving.{CallsLine, KeepsSize, Waited}
use Rattle.hm_shell.proofs.FlushLemmas.{stages_fall, stages_left, waiting_open}

-- two steps keep the streams where each does
pub streams_more : {D I O : Type 0} (a b c : CoreDevices D I O) → KeepsStreams a b → KeepsStreams b c → KeepsStreams a c
streams_more a b c first second = record { input = second.input ∙ first.input; output = second.output ∙ first.output }

pub waits_more : (a b c : CoreState) → Waits a b → Waits b c → Waits a c
waits_more a b c first second = record {
  history = second.history ∙ first.history;
  last = second.last ∙ first.last;
  running = second.running ∙ first.running;
  spare = second.spare ∙ first.spare;
}

-- what was waited for so far, and one stage more
pub waited_more : (a b c : CoreState) → Waited a b → b.last < GREATEST_ID → Waits b c → Waited a c
waited_more a b c (inl same) left waits =
    inr (subst (λ (x : CoreState). Waits x c) same waits, subst (λ (x : CoreState). x.last < GREATEST_ID) same left)
waited_more a b c (inr waited) left waits = inr (waits_more a b c waited.0 waits, waited.1)

waited_last : (a b : CoreState) → Waited a b → b.last ≡ a.last
waited_last a b (inl same) = ap (λ (x : CoreState). x.last) same
waited_last a b (inr waited) = waited.0.last

waited_length : (a b : CoreState) → Waited a b → length b.history ≡ length a.history
waited_length a b (inl same) = ap (λ (x : CoreState). length x.history) same
waited_length a b (inr waited) = ap length waited.0.history

module _ (lane line since : ℕ) (command : Command) where
  pub waits_enters : (a b c : CoreState) → Waits a b → Enters b c lane line since command → Enters a c lane line since command
  waits_enters a b c waits enters =
      let same = waits.last in
      record {
        left = (let below = enters.left in omega (arith, same, below));
        entry = enters.entry;
        history = enters.history ∙ ap (λ h. h ++ enters.entry ∷ []) waits.history;
        of_line = enters.of_line;
        told = enters.told;
        id = (enters.id.0 ∙ ap (λ n. n + 1) same, enters.id.1 ∙ ap (λ n. n + 1) same);
        before = enters.before;
        spare =
            (let was = waits.spare in let open_is = ap length waits.running in let least = enters.spare in omega (arith, was, open_is, least));
      }

  -- the same of a call that is at its end, and of an opening of housekeeping
  waited_ends : (a b c : CoreState) → Waited a b → EndsAtOnce b c lane line since command → EndsAtOnce a c lane line since command
  unfolding waits_enters
  waited_ends a b c (inl same) ends = subst (λ (x : CoreState). EndsAtOnce x c lane line since command) same ends
  waited_ends a b c (inr waited) ends = record {
    enters = waits_enters a b c waited.0 ends.enters;
    closed = ends.closed;
    running = ends.running ∙ waited.0.running;
  }

  waited_opens : (opening : ℕ) (past now : LeftSince) (a b c : CoreState) → Follows past now a b → Waited a b
      → OpensJob b c lane line since command opening → OpensJob a c lane line since command opening
  unfolding waits_enters
  waited_opens opening past now a b c follows (inl same) job = subst (λ (x : CoreState). OpensJob x c lane line since command opening) same job
  waited_opens opening past now a b c follows (inr waited) job = record {
    enters = waits_enters a b c waited.0 job.enters;
    accepted = job.accepted;
    job = job.job;
    own = job.own;
    does = job.does;
    named = job.named;
    running = job.running ∙ ap (λ ps. ps ++ job.job ∷ []) waited.0.running;
    found = job.found;
    keeps = λ began foreigners events stands.
        let on = follows.goes_on began foreigners events stands in
        job.keeps began foreigners (events ++ on.more) on.stands;
  }

module _ (old mid : CoreState) (lane number since : ℕ) (command waiting : Command) (waited : Waited old mid) (since_is : since ≡ old.last)
    (command_is : waiting ≡ command) where
  -- the call was answered, after what it had waited for
  closed_after : (new : CoreState) (place : ℕ) → place ≡ length mid.history → EndsAtOnce mid new lane number since waiting
      → CallsLine old new lane number command (Closed place)
  closed_after new place there ends = (
    there ∙ waited_length old mid waited,
    subst (λ (s : ℕ). EndsAtOnce old new lane number s command) since_is
        (subst (λ (c : Command). EndsAtOnce old new lane number since c) command_is (waited_ends lane number since waiting old mid new waited ends)),
  )

  pub answered_after : (new : CoreState) (place : ℕ) → Steps mid new lane number since waiting (Answered place)
      → CallsLine old new lane number command (Closed place)
  answered_after new place steps = closed_after new place steps.0 steps.1

  pub size_answered : (new : CoreState) (place : ℕ) → Steps mid new lane number since waiting (Answered place) → KeepsSize old mid → KeepsSize old new
  size_answered new place steps size = ap (λ (f : Flush). f.header.bigblocks) steps.2 ∙ size

  -- it opened a call of housekeeping
  pub opened_after : (past now : LeftSince) → Follows past now old mid → (new : CoreState) (place : ℕ) (ticket : Ticket)
      → Steps mid new lane number since waiting (opened_step place ticket) → CallsLine old new lane number command (Opened place ticket)
  opened_after past now follows new place ticket steps = (
    steps.0 ∙ waited_length old mid waited,
    subst (λ (s : ℕ). OpensJob old new lane number s command ticket.opening.0) since_is
        (subst (λ (c : Command). OpensJob old new lane number since c ticket.opening.0) command_is
        (waited_opens lane number since waiting ticket.opening.0 past now old mid new follows waited steps.1)),
  )

  pub size_opened : (new : CoreState) (place : ℕ) (ticket : Ticket) → Steps mid new lane number since waiting (opened_step place ticket)
      → KeepsSize old mid → KeepsSize old new
  size_opened new place ticket steps size = ap (λ (f : Flush). f.header.bigblocks) steps.2 ∙ size

  -- it waits for a stage
  module _ (same new : CoreState) (back : Command) (must : Steps mid same lane number since waiting (MustFlush back)) where
    -- which failed
    pub size_refused : (place : ℕ) → Stages same new lane number back (Refused place) → KeepsSize old mid → KeepsSize old new
    size_refused place stages size = stages.1.failed.volume ∙ ap (λ (x : CoreState). x.flush.header.bigblocks) must.1 ∙ size

    pub refused_after : (place : ℕ) → Stages same new lane number back (Refused place) → CallsLine old new lane number command (Closed place)
    refused_after place stages =
        let ends : EndsAtOnce mid new lane number mid.last waiting =
        subst (λ (c : Command). EndsAtOnce mid new lane number mid.last c) must.0
        (subst (λ (x : CoreState). EndsAtOnce x new lane number x.last back) must.1 stages.1.ends) in
        closed_after new place (stages.0 ∙ ap (λ (x : CoreState). length x.history) must.1)
        (subst (λ (s : ℕ). EndsAtOnce mid new lane number s waiting) (waited_last old mid waited ∙ sym since_is) ends)

    -- or was made
    made : (again : Command) → Stages same new lane number back (More again) → MakesStage mid new
    made again stages = subst (λ (x : CoreState). MakesStage x new) must.1 stages.1

    pub waited_after : (again : Command) → Stages same new lane number back (More again) → Waited old new
    waited_after again stages = waited_more old mid new waited must.2 (made again stages).waits

    pub size_after : (again : Command) → Stages same new lane number back (More again) → KeepsSize old mid → KeepsSize old new
    size_after again stages size = (made again stages).made.volume ∙ size

    pub again_is : (again : Command) → Stages same new lane number back (More again) → again ≡ command
    again_is again stages = stages.0 ∙ must.0 ∙ command_is

    pub falls_after : (again : Command) → Stages same new lane number back (More again) → mid.boundary ≡ mid.flush.header.last.0
        → stages_left new < stages_left mid
    falls_after again stages boundary_is =
        stages_fall mid new (made again stages)
        (waiting_open mid boundary_is since waiting (since_is ∙ sym (waited_last old mid waited)) must.3)
