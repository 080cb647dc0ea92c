-- A core goes on with the ending of an open call, or spends it where no id is left.
use Rattle.std.proofs.Common.{◌≡◌, ◌≢◌, inl, inr, ℕ, ◌+◌, ◌<◌, ◌≤◌, List, [], ◌∷◌, ◌++◌, length, refl, sym, ap, subst, ◌∙◌, arith}
use Rattle.std.specs.Prelude.{◌⊎◌, IsSome, Some}
use Rattle.std.specs.List.{AllByRecursion}
use Rattle.std.proofs.Math.Logic.{∥∥₁_map}
use Rattle.hm_types.specs.Faults.{IsCaused}
use Rattle.hm_types.specs.declared.fault.Fault.{Fault}
use Rattle.hm_types.specs.declared.fault.Fault.TheVariants.{Damaged, Media, NoMemory}
use Rattle.hm_types.specs.declared.fault.SpaceFault.TheVariants.{Fault as of_store, NoSpace as no_space}
use Rattle.hm_types.specs.declared.id.Id.{Id}
use Rattle.hm_types.specs.declared.limits.TheConstants.{GREATEST_ID}
use Rattle.hm_disk.specs.Moments.{LeftSince}
use Rattle.hm_model.specs.After.{Event, State}
use Rattle.hm_model.specs.Caused.{Known, boundary_in, known_after, known_at}
use Rattle.hm_model.specs.Foreign.{Foreigners}
use Rattle.hm_model.specs.Legal.{state_after}
use Rattle.hm_model.specs.Volume.{Volume}
use Rattle.hm_model.specs.declared.command.Command.TheVariants.{End}
use Rattle.hm_model.specs.declared.entry.Entry.{Entry}
use Rattle.hm_model.specs.declared.reply.Reply.{Reply}
use Rattle.hm_model.specs.declared.reply.Reply.TheVariants.{Finished, NoSpace}
use Rattle.hm_model.specs.Needs.{floor}
use Rattle.hm_flush.specs.declared.flush.Flush.{Flush}
use Rattle.hm_stored.specs.Heap.{Heap, free_of}
use Rattle.hm_state.specs.Volume.{HoldsVolume}
use Rattle.hm_core.specs.Caused.{IsCausedWith}
use Rattle.hm_core.specs.Core.{Follows, GoesOnOverEach, IsSoundCore, TellsBoundary, Waits}
use Rattle.hm_core.specs.History.{IsLegalOver, setting_of}
use Rattle.hm_core.specs.Inside.{IsInOrder}
use Rattle.hm_core.specs.Jobs.{EndsJob, EndsWith, TellsEnd}
use Rattle.hm_core.specs.Open.{IsKnownOpen, IsOpenIn}
use Rattle.hm_core.specs.State.{CoreState, Mounted, OpenJob, OpenWork, job_with, jobs_beside}
use Rattle.hm_core.specs.Told.{TellsFailure, reply_to}
use Rattle.hm_core.specs.Unit.{IsReblocking}
use Rattle.hm_core.proofs.CoreLemmas.{goes_on_by_none, goes_on_by_two}
use Rattle.hm_core.proofs.EndedLemmas.{ended_call, ended_caused}
use Rattle.hm_core.proofs.EnterLemmas.{entered_by}
use Rattle.hm_core.proofs.RefusalLemmas.{IsCausedOpen}
use Rattle.hm_core.proofs.RunningLemmas.{all_beside}
use Rattle.hm_core.proofs.StepLemmas.{boundary_drawn, entry_of, fault_untold, greatest_drawn, least_left, ordered_refused, target_drawn, untold_since}

-- an ending tells no boundary
end_untold : (work : OpenWork) (old new : CoreState) (boundary : ℕ) (reply : Reply) → TellsEnd work old new reply → boundary_in reply ≤ boundary
end_untold work old new boundary reply (inl is) = subst (λ (r : Reply). boundary_in r ≤ boundary) (sym is) (omega arith)
end_untold work old new boundary reply (inr (of_store fault, is, fails)) = fault_untold boundary fault reply is
end_untold work old new boundary reply (inr (no_space free needed, is, lacks)) = subst (λ (r : Reply). boundary_in r ≤ boundary) (sym is) (omega arith)

end_since : (work : OpenWork) (old new : CoreState) (since boundary : ℕ) (reply : Reply) → TellsEnd work old new reply
    → TellsBoundary since boundary reply
end_since work old new since boundary reply (inl is) = subst (TellsBoundary since boundary) (sym is) tt
end_since work old new since boundary reply (inr (of_store fault, is, fails)) = untold_since since boundary fault reply is
end_since work old new since boundary reply (inr (no_space free needed, is, lacks)) = subst (TellsBoundary since boundary) (sym is) tt

-- a reblock ends with how many big-blocks are free, which are none, and no fewer than this least
abbrev EndsLacking : OpenWork → ℕ → Reply → Type 0
EndsLacking work least reply =
    (spare : ℕ) × (needed : ℕ) × (reply ≡ NoSpace spare needed) × IsReblocking work × (spare ≡ 0) × (needed ≡ 1) × (least ≤ spare)

-- where the space held a volume, a fault that it tells is one of the device or of memory
end_fails : (work : OpenWork) (old new : CoreState) (least : ℕ) (reply : Reply) (volume : Volume) → HoldsVolume old.heap old.root old.last volume
    → least ≤ free_of old.heap → TellsEnd work old new reply
    → (reply ≡ Finished) ⊎ (TellsFailure old.counts.disk new.counts.disk reply ⊎ EndsLacking work least reply)
end_fails work old new least reply volume holds enough (inl is) = inl is
end_fails work old new least reply volume holds enough (inr (of_store (Media before after), is, fails)) =
    inr (inl (inl (before, after, is, fails.caused)))
end_fails work old new least reply volume holds enough (inr (of_store (Damaged at kind), is, fails)) = absurd (fails.undamaged volume holds)
end_fails work old new least reply volume holds enough (inr (of_store NoMemory, is, fails)) = inr (inl (inr is))
end_fails work old new least reply volume holds enough (inr (no_space free needed, is, lacks)) =
    let counted = lacks.1.free_is.0 in
    inr (inr (free, needed, is, lacks.0, lacks.1.free_is.1, lacks.1.needed_is, omega (arith, enough, counted)))

-- what is open stays so while nothing is entered
pub still_open : (old mid : CoreState) → Waits old mid → (id : ℕ) → IsSome (job_with id old.running) → IsSome (job_with id mid.running)
still_open old mid waits id runs = subst (λ (ps : List OpenJob). IsSome (job_with id ps)) (sym waits.running) runs

-- and was so before
pub found_before : (old mid : CoreState) → Waits old mid → (id : ℕ) (p : OpenJob) → job_with id mid.running ≡ Some p → job_with id old.running ≡ Some p
found_before old mid waits id p found = subst (λ (ps : List OpenJob). job_with id ps ≡ Some p) waits.running found

-- no fewer big-blocks were free then than the least of the history, which is the same
pub least_before : (f : Flush) (last free : ℕ) (h : Heap) (history history' : List Entry) {free' : ℕ} → free' ≡ free → history' ≡ history
    → ∥ IsInOrder f last free h history ∥₁ → floor free' history' ≤ free_of h
least_before f last free h history history' same entries ordered =
    subst (λ (x : ℕ × List Entry). floor x.0 x.1 ≤ free_of h) (λ i. (sym same i, sym entries i)) (least_left f last free h history ordered)

-- A unit, or a stage in its place, made of the one core the other, and the ending with this reply is due.
module _ (past since : LeftSince) (old mid : CoreState) (waits : Waits old mid) (follows : Follows past since old mid) (id : Id) (p : OpenJob)
    (found : job_with id.0 mid.running ≡ Some p) (running : List OpenJob) (closed : running ≡ jobs_beside id.0 mid.running)
    (ordered : ∥ IsInOrder mid.flush mid.last mid.mounted.free mid.heap mid.history ∥₁) where
  abbrev reached : Volume → Foreigners → List Event → State
  reached opening foreigners events = state_after (setting_of mid.mounted.free mid.mounted.counts mid.counts opening foreigners) events

  abbrev told : List Event → Known
  told events = known_after (known_at mid.mounted.first mid.mounted.counts) events

  -- no id is left for it
  module _ (spare : ℕ) where
    abbrev spent : CoreState
    spent = record mid { running = running; spare = spare }

    spends : GoesOnOverEach since since mid spent
    spends opening foreigners events stands =
        goes_on_by_none since since mid spent opening foreigners events (record {
          legal = record {
            entries = stands.legal.entries;
            legal = stands.legal.legal;
            counted = stands.legal.counted;
            held = record {
              holds = stands.legal.held.holds;
              opened = record {
                each = subst (λ (ps : List OpenJob). AllByRecursion (IsOpenIn (reached opening foreigners events)) ps) (sym closed)
                    (all_beside (IsOpenIn (reached opening foreigners events)) (IsOpenIn (reached opening foreigners events)) id.0 (λ q differs was. was)
                    mid.running stands.legal.held.opened.each);
                idle = stands.legal.held.opened.idle;
              };
            };
          };
          read = stands.read;
        }) (λ was. was) (λ was moment image left. inl left)

    pub spent_follows : IsSoundCore spent → Follows past since old spent
    spent_follows sound = record {
      mounted = follows.mounted;
      history = follows.history;
      last = follows.last;
      boundary = follows.boundary;
      never_falls = follows.never_falls;
      sound = sound;
      goes_on = λ opening foreigners events stands.
          let half = follows.goes_on opening foreigners events stands in
          goes_on_by_two past since since old mid spent follows.last (omega arith) follows.boundary opening foreigners events half
          (spends opening foreigners (events ++ half.more) half.stands);
    }

  pub spent_caused : IsCausedOpen mid → ∥ IsCausedWith mid.mounted.first mid.mounted.counts mid.counts mid.last running mid.history ∥₁
  spent_caused known = ∥∥₁_map known (λ so_far. record {
    causes = so_far.causes;
    opened = subst (λ (ps : List OpenJob). AllByRecursion (IsKnownOpen (told so_far.causes.events)) ps) (sym closed)
        (all_beside (IsKnownOpen (told so_far.causes.events)) (IsKnownOpen (told so_far.causes.events)) id.0 (λ q differs was. was) mid.running so_far.opened);
  })

  -- it is entered
  module _ (more : mid.last ≢ GREATEST_ID) (reply : Reply) (tells : TellsEnd p.work old mid reply) (history : List Entry) where
    abbrev entry : Entry
    entry = entry_of (mid.last + 1) p.lane p.line (End id) reply

    module _ (entered : history ≡ mid.history ++ entry ∷ []) where
      left : mid.last < GREATEST_ID
      left = (let most = greatest_drawn mid.flush mid.last mid.mounted.free mid.heap mid.history ordered in omega (arith, most, more))

      history_is : history ≡ old.history ++ entry ∷ []
      history_is = entered ∙ ap (λ (l : List Entry). l ++ entry ∷ []) waits.history

      last_is : mid.last + 1 ≡ old.last + 1
      last_is = ap (λ (n : ℕ). n + 1) waits.last

      pub ended_ordered : ∥ IsInOrder mid.flush (mid.last + 1) mid.mounted.free mid.heap history ∥₁
      ended_ordered = ∥∥₁_map ordered (λ o.
          subst (λ (l : List Entry). IsInOrder mid.flush (mid.last + 1) mid.mounted.free mid.heap l) (sym entered)
          (ordered_refused mid.flush mid.last mid.mounted.free mid.heap mid.history entry left refl
          (end_untold p.work old mid mid.flush.header.last.0 reply tells) o))

      fault_so : TellsEnd p.work old mid reply
          → (reply ≡ Finished) ⊎ (((fault : Fault) × (reply ≡ reply_to fault) × IsCaused old.counts.disk mid.counts.disk fault)
          ⊎ ((free : ℕ) × (needed : ℕ) × (reply ≡ NoSpace free needed) × IsReblocking p.work))
      fault_so (inl is) = inl is
      fault_so (inr (of_store fault, is, fails)) = inr (inl (fault, is, fails.caused))
      fault_so (inr (no_space free needed, is, lacks)) = inr (inr (free, needed, is, lacks.0))

      module _ (spare : ℕ) where
        -- the core with the ending
        abbrev pub new : CoreState
        new = record mid { history = history; running = running; spare = spare; last = mid.last + 1 }

        pub ended_known : IsCausedOpen old → IsCausedOpen new
        ended_known known = ∥∥₁_map known (λ from.
            subst (λ (x : Mounted × ℕ × List OpenJob × List Entry). IsCausedWith x.0.first x.0.counts mid.counts x.1 x.2 x.3)
            (λ i. (sym follows.mounted i, sym last_is i, sym (closed ∙ ap (jobs_beside id.0) waits.running) i, sym history_is i))
            (subst (λ (n : ℕ). IsCausedWith old.mounted.first old.mounted.counts mid.counts (old.last + 1) (jobs_beside id.0 old.running)
            (old.history ++ entry_of n p.lane p.line (End id) reply ∷ [])) (sym last_is)
            (ended_caused old.mounted.first old.mounted.counts old.counts mid.counts old.last old.running old.history from follows.never_falls
            (subst (λ (n : ℕ). n < GREATEST_ID) waits.last left) id p
            (subst (λ (ps : List OpenJob). job_with id.0 ps ≡ Some p) waits.running found) p.lane p.line reply (fault_so tells))))

        module _ (is : mid.boundary ≡ mid.flush.header.last.0) where
          later : mid.flush.header.last.0 ≤ mid.last
          later = boundary_drawn mid.flush mid.last mid.mounted.free mid.heap mid.history ordered

          -- By the count of before no fault of this step was told yet, so the ending may tell one.
          abbrev uncounted : CoreState
          uncounted = record mid { counts = old.counts }

          enters : (reply ≡ Finished) ⊎ (TellsFailure old.counts.disk mid.counts.disk reply ⊎ EndsLacking p.work (floor mid.mounted.free mid.history) reply)
              → GoesOnOverEach since since uncounted new
          enters told opening foreigners events stands =
              let next = ended_call mid.mounted.free mid.mounted.counts old.counts mid.counts mid.history mid.heap mid.root mid.last mid.running opening
              foreigners events stands.legal follows.never_falls left id p found p.lane p.line reply told in
              entered_by since since uncounted new entry entered refl refl opening foreigners events stands (
                next.0,
                subst (λ (x : List Entry × List OpenJob). IsLegalOver mid.mounted.free mid.mounted.counts mid.counts x.0 mid.heap mid.root (mid.last + 1)
                    x.1 opening foreigners (events ++ next.0)) (λ i. (sym entered i, sym closed i)) next.1,
              )
              later (λ flies. (target_drawn mid.flush mid.last mid.mounted.free mid.heap mid.history ordered flies).1) stands.read (λ was. was)
              (λ was moment image before. inl before)

          pub ended_follows : floor mid.mounted.free mid.history ≤ free_of old.heap → GoesOnOverEach past since old uncounted → IsSoundCore new
              → Follows past since old new
          ended_follows enough staged sound = record {
            mounted = follows.mounted;
            history = (entry ∷ [], history_is);
            last = omega (arith, last_is);
            boundary = follows.boundary;
            never_falls = follows.never_falls;
            sound = sound;
            goes_on = λ opening foreigners events stands.
                let half = staged opening foreigners events stands in
                goes_on_by_two past since since old uncounted new follows.last (omega arith) follows.boundary opening foreigners events half
                (enters (end_fails p.work old mid (floor mid.mounted.free mid.history) reply _ stands.legal.held.holds enough tells) opening foreigners
                (events ++ half.more) half.stands);
          }

          pub ends_job : EndsWith id.0 old mid reply → old.spare + length old.running ≤ spare + length running + 1 → old.spare ≤ spare → EndsJob id.0 old new
          ends_job ends room keeps =
              let found_old = subst (λ (ps : List OpenJob). job_with id.0 ps ≡ Some p) waits.running found in
              record {
                job = p;
                found = found_old;
                enters = record {
                  left = subst (λ (n : ℕ). n < GREATEST_ID) waits.last left;
                  entry = entry;
                  history = history_is;
                  of_line = (refl, refl, refl);
                  told = end_since p.work old mid old.last mid.boundary reply tells;
                  id = (last_is, last_is);
                  before = omega (arith, is, later);
                  spare = room;
                };
                closes = record { running = closed ∙ ap (jobs_beside id.0) waits.running; room = keeps };
                tells = tells_new tells;
                finished = λ done. ends.finished done p found_old;
              } where
                tells_new : TellsEnd p.work old mid reply → TellsEnd p.work old new reply
                tells_new (inl done) = inl done
                tells_new (inr (of_store fault, told, fails)) =
                    inr (of_store fault, told, record { caused = fails.caused; undamaged = fails.undamaged })
                tells_new (inr (no_space free needed, told, lacks)) = inr (no_space free needed, told, lacks)
