-- A stage that failed refuses the call for which it was made.
use Rattle.std.proofs.Common.{◌≡◌, ◌≢◌, inl, ℕ, ◌+◌, ◌<◌, ◌≤◌, List, [], ◌∷◌, ◌++◌, length, refl, sym, ap, subst, ◌∙◌, arith}
use Rattle.std.specs.Prelude.{Err}
use Rattle.std.proofs.Math.Logic.{∥∥₁_map}
use Rattle.hm_types.specs.declared.fault.Fault.{Fault}
use Rattle.hm_types.specs.declared.limits.TheConstants.{GREATEST_ID}
use Rattle.hm_disk.specs.Moments.{LeftSince}
use Rattle.hm_flush.specs.declared.stage.Stage.{Stage}
use Rattle.hm_flush.specs.Calls.{HasStageCause}
use Rattle.hm_model.specs.declared.command.Command.{Command}
use Rattle.hm_model.specs.declared.entry.Entry.{Entry}
use Rattle.hm_model.specs.declared.reply.Reply.{Reply}
use Rattle.hm_core.specs.Caused.{IsCausedWith}
use Rattle.hm_core.specs.Core.{Follows, GoesOnOverEach, IsSoundCore}
use Rattle.hm_core.specs.History.{IsLegalOver}
use Rattle.hm_core.specs.Inside.{IsInOrder}
use Rattle.hm_core.specs.Served.{IsServed}
use Rattle.hm_core.specs.Staged.{FailsStage, Refuses}
use Rattle.hm_core.specs.State.{CoreState, Mounted, OpenJob}
use Rattle.hm_core.specs.Told.{reply_to}
use Rattle.hm_core.proofs.CausedLemmas.{fault_closed, refused_goes_on as caused_refused}
use Rattle.hm_core.proofs.CoreLemmas.{goes_on_further}
use Rattle.hm_core.proofs.EnterLemmas.{entered_by}
use Rattle.hm_core.proofs.RefusedLemmas.{refused_call}
use Rattle.hm_core.proofs.StepLemmas.{IsStageFault, boundary_drawn, entry_of, fault_untold, greatest_drawn}
use Rattle.hm_core.proofs.StepLemmas.{ordered_refused, stage_failure, target_drawn, untold_since}

-- each reply of a core has its cause, and what is open is known to be
abbrev pub IsCausedOpen : CoreState → Type 0
IsCausedOpen core = ∥ IsCausedWith core.mounted.first core.mounted.counts core.counts core.last core.running core.history ∥₁

-- A stage made of the one core the other, and failed, and the call is entered with its fault.
module _ (past since : LeftSince) (old mid : CoreState) (fails : FailsStage old mid) (follows : Follows past since old mid) (fault : Fault)
    (cause : HasStageCause {T = Stage} old.flush.at old.counts.disk mid.counts.disk (Err fault))
    (ordered : ∥ IsInOrder mid.flush mid.last mid.mounted.free mid.heap mid.history ∥₁) (more : mid.last ≢ GREATEST_ID)
    (lane line : ℕ) (command : Command) (served : IsServed command) (reply : Reply) (told : reply ≡ reply_to fault)
    (history : List Entry) (entered : history ≡ mid.history ++ entry_of (mid.last + 1) lane line command reply ∷ []) where
  abbrev entry : Entry
  entry = entry_of (mid.last + 1) lane line command reply

  left : mid.last < GREATEST_ID
  left = (let most = greatest_drawn mid.flush mid.last mid.mounted.free mid.heap mid.history ordered in omega (arith, most, more))

  failure : IsStageFault old.counts.disk mid.counts.disk fault reply
  failure = stage_failure old.flush.at old.counts.disk mid.counts.disk (Err fault) fault reply refl cause told

  history_is : history ≡ old.history ++ entry ∷ []
  history_is = entered ∙ ap (λ (l : List Entry). l ++ entry ∷ []) fails.waits.history

  last_is : mid.last + 1 ≡ old.last + 1
  last_is = ap (λ (n : ℕ). n + 1) fails.waits.last

  pub refused_ordered : ∥ IsInOrder mid.flush (mid.last + 1) mid.mounted.free mid.heap history ∥₁
  refused_ordered = ∥∥₁_map ordered (λ o.
      subst (λ (l : List Entry). IsInOrder mid.flush (mid.last + 1) mid.mounted.free mid.heap l) (sym entered)
      (ordered_refused mid.flush mid.last mid.mounted.free mid.heap mid.history entry left refl (fault_untold mid.flush.header.last.0 fault reply told) o))

  module _ (spare : ℕ) where
    -- the core with the entry
    abbrev pub new : CoreState
    new = record mid { history = history; spare = spare; last = mid.last + 1 }

    pub refused_caused : IsCausedOpen old → IsCausedOpen new
    refused_caused run = ∥∥₁_map run (λ from.
        subst (λ (x : Mounted × ℕ × List OpenJob × List Entry). IsCausedWith x.0.first x.0.counts mid.counts x.1 x.2 x.3)
        (λ i. (sym follows.mounted i, sym last_is i, sym fails.waits.running i, sym history_is i))
        (caused_refused old.mounted.first old.mounted.counts old.counts mid.counts old.last old.running old.history from follows.never_falls entry
        (subst (λ (n : ℕ). n < GREATEST_ID) fails.waits.last left) last_is served fault told failure.caused))

    module _ (is : mid.boundary ≡ mid.flush.header.last.0) where
      later : mid.flush.header.last.0 ≤ mid.last
      later = boundary_drawn mid.flush mid.last mid.mounted.free mid.heap mid.history ordered

      pub refuses : old.spare ≤ spare + 1 → Refuses old new lane line command
      refuses room = record {
        failed = fails.failed;
        ends = record {
          enters = record {
            left = subst (λ (n : ℕ). n < GREATEST_ID) fails.waits.last left;
            entry = entry;
            history = history_is;
            of_line = (refl, refl, refl);
            told = untold_since old.last mid.boundary fault reply told;
            id = (last_is, last_is);
            before = omega (arith, is, later);
            spare = (let same = ap length fails.waits.running in omega (arith, room, same));
          };
          closed = fault_closed entry fault told;
          running = fails.waits.running;
        };
        cause = failure.told;
      }

      -- By the count of before the fault was not told yet, so the call may tell it.
      abbrev uncounted : CoreState
      uncounted = record mid { counts = old.counts }

      enters : GoesOnOverEach since since uncounted new
      enters opening foreigners events stands =
          let next = refused_call mid.mounted.free mid.mounted.counts old.counts mid.counts mid.history mid.heap mid.root mid.last mid.running opening
          foreigners events stands.legal follows.never_falls left entry served refl mid.heap mid.root
          (record { told = failure.told; holds = λ es there. there; size = refl }) in
          entered_by since since uncounted new entry entered refl refl opening foreigners events stands (
            next.0,
            subst (λ (l : List Entry). IsLegalOver mid.mounted.free mid.mounted.counts mid.counts l mid.heap mid.root (mid.last + 1) mid.running
                opening foreigners (events ++ next.0)) (sym entered) next.1,
          )
          later (λ flies. (target_drawn mid.flush mid.last mid.mounted.free mid.heap mid.history ordered flies).1) stands.read (λ was. was)
          (λ was moment image before. inl before)

      pub refused_follows : GoesOnOverEach past since old uncounted → IsSoundCore new → Follows past since old new
      refused_follows staged sound = record {
        mounted = follows.mounted;
        history = (entry ∷ [], history_is);
        last = omega (arith, last_is);
        boundary = follows.boundary;
        never_falls = follows.never_falls;
        sound = sound;
        goes_on = goes_on_further past since since old uncounted new follows.last (omega arith) follows.boundary staged enters;
      }
