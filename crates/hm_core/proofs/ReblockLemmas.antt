-- The opening of a reblock, as the next event of a history.
use Rattle.std.proofs.Common.{◌≡◌, ℕ, ◌+◌, ◌<◌, inr, List, [], ◌∷◌, ◌++◌, refl, sym, ap, subst, ◌∙◌, arith}
use Rattle.hm_types.specs.declared.limits.TheConstants.{GREATEST_ID}
use Rattle.hm_model.specs.After.{Event, State, last_after, on_volume, opening_state, with_opened}
use Rattle.hm_model.specs.Call.{Call}
use Rattle.hm_model.specs.Caused.{Counts, IsCaused, Known, known_after, known_at}
use Rattle.hm_model.specs.Foreign.{Foreigners, no_feed}
use Rattle.hm_model.specs.Legal.{MayFollow, Setting, call_after, state_after}
use Rattle.hm_model.specs.Volume.{Volume}
use Rattle.hm_model.specs.declared.command.Command.{Command}
use Rattle.hm_model.specs.declared.command.Command.TheVariants.{Reblock}
use Rattle.hm_model.specs.declared.entry.Entry.{Entry}
use Rattle.hm_model.specs.declared.reply.Reply.{Reply}
use Rattle.hm_model.specs.declared.reply.Reply.TheVariants.{Done}
use Rattle.hm_model.proofs.EventLemmas.{after_events-push}
use Rattle.hm_model.proofs.MadeLemmas.{last_known}
use Rattle.hm_stored.specs.Heap.{Heap}
use Rattle.hm_step.proofs.NextLemmas.{stand_next}
use Rattle.hm_core.specs.Answer.{job_of}
use Rattle.hm_core.specs.Counts.{AreLater}
use Rattle.hm_core.specs.History.{HoldsState, IsLegalBeyond, IsLegalOver, setting_of}
use Rattle.hm_core.specs.State.{OpenJob, reblocking}
use Rattle.hm_core.proofs.CallLemmas.{drawn_next, goes_on, left_next}
use Rattle.hm_core.proofs.PathlessLemmas.{done_listed, event_of, pathless_accepted, pathless_allowed, pathless_cause, pathless_feeds, pathless_lands}
use Rattle.hm_core.proofs.StateLemmas.{holds_after, none_kept, open_more}

module _ (free : ℕ) (start faults faults' : Counts) (history : List Entry) (h : Heap) (root last : ℕ) (running : List OpenJob) (opening : Volume)
    (foreigners : Foreigners) (events : List Event) (so_far : IsLegalOver free start faults history h root last running opening foreigners events)
    (counted : AreLater faults faults') (left : last < GREATEST_ID) (fill : ℕ) where
  abbrev run : Setting
  run = setting_of free start faults' opening foreigners

  abbrev state : State
  state = state_after run events

  abbrev known : Known
  known = known_after (known_at opening.last start) events

  low : state.volume.last < GREATEST_ID
  low = left_next free start faults faults' history h root last running opening foreigners events so_far counted left

  -- by an entry of the opening
  module _ (n lane line : ℕ) (own_is : n ≡ last + 1) where
    abbrev pub entry : Entry
    entry = record { id = record { 0 = n }; lane = lane; line = line; call = Reblock fill; reply = Done }

    abbrev event : Event
    event = event_of entry

    abbrev call : Call
    call = call_after run events event

    own : n ≡ state.volume.last + 1
    own = drawn_next free start faults faults' history h root last running opening foreigners events so_far counted n own_is

    is_caused : IsCaused run.now (known_at opening.last start) events event
    is_caused =
        let same : known.last ≡ state.volume.last = last_known (known_at opening.last start) (opening_state opening foreigners) events refl in
        pathless_cause faults' known entry (inr (inr tt)) (subst (λ (m : ℕ). m < GREATEST_ID) (sym same) low)
        (own ∙ ap (λ (m : ℕ). m + 1) (sym same)) (done_listed (Reblock fill) tt) tt

    follows : MayFollow run events event
    follows = record {
      caused = is_caused;
      allowed = λ certain. pathless_allowed run events entry (inr (inr tt)) (pathless_accepted run events entry (inr (inr tt)) Done low refl);
      lands = λ accepts. pathless_lands run events entry (inr (inr tt)) tt;
      fed = λ takes. (let none = pathless_feeds run events entry (inr (inr tt)) in absurd (cc));
      undamaged = tt;
    }

    -- it is open, and its id was drawn
    abbrev after : State
    after = on_volume (with_opened state call 0 0 no_feed) (record state.volume { last = state.volume.last + 1 })

    last_is : last_after entry ≡ state.volume.last + 1
    last_is = omega (arith, own)

    after_is : state_after run (events ++ event ∷ []) ≡ after
    after_is =
        after_events-push (opening_state opening foreigners) events event
        ∙ ap (λ (m : ℕ). on_volume (with_opened state call 0 0 no_feed) (record state.volume { last = m })) last_is

    held_after : HoldsState h root (last + 1) (running ++ job_of entry reblocking ∷ []) after
    held_after =
        let elements = so_far.held.holds.elements in
        holds_after h h root root last running (running ++ job_of entry reblocking ∷ []) state after call elements.0 so_far.held refl
        (record { size = refl; last = refl }) refl elements.1 (stand_next elements.0 state.volume elements.2 low)
        (open_more running state after call entry reblocking 0 tt tt refl own refl refl (none_kept after.volume)
        (λ kept enough. record { within = enough.within; of_systems = enough.of_systems }) so_far.held.opened)

    opened_so : IsLegalBeyond free start faults' (history ++ entry ∷ []) h root (last + 1) (running ++ job_of entry reblocking ∷ []) opening foreigners
        events
    opened_so = (
      event ∷ [],
      goes_on free start faults faults' history h root last running opening foreigners events so_far counted event h root
          (running ++ job_of entry reblocking ∷ []) follows
          (subst (HoldsState h root (last + 1) (running ++ job_of entry reblocking ∷ [])) (sym after_is) held_after),
    )

  pub reblock_opened : (e : Entry) → e.call ≡ Reblock fill → e.reply ≡ Done → e.id.0 ≡ last + 1
      → IsLegalBeyond free start faults' (history ++ e ∷ []) h root (last + 1) (running ++ job_of e reblocking ∷ []) opening foreigners events
  reblock_opened e call_is reply_is own_is =
      subst (λ (x : Command × Reply). IsLegalBeyond free start faults' (history ++ record e { call = x.0; reply = x.1 } ∷ []) h root (last + 1)
      (running ++ job_of e reblocking ∷ []) opening foreigners events) (λ i. (sym call_is i, sym reply_is i)) (opened_so e.id.0 e.lane e.line own_is)
