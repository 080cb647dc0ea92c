-- A call that names no path, as the next one of a history: `df`, which tells the space, the syncs, and a reblock that is refused.
use Rattle.std.proofs.Common.{◌≡◌, ℕ, ◌+◌, ◌-◌, ◌<◌, ◌≤◌, max, false, inl, inr, List, [], ◌∷◌, ◌++◌}
use Rattle.std.proofs.Common.{refl, sym, ap, subst, ◌∙◌, arith}
use Rattle.std.specs.List.{Contains}
use Rattle.hm_types.specs.Layout.{first_pool}
use Rattle.hm_types.specs.declared.fault.Fault.TheVariants.{Media as device, NoMemory as no_memory}
use Rattle.hm_types.specs.declared.id.Id.{Id}
use Rattle.hm_types.specs.declared.limits.TheConstants.{GREATEST_ID}
use Rattle.hm_model.specs.After.{Event, State, end_id, last_after, on_volume, opening_state}
use Rattle.hm_model.specs.Call.{Call}
use Rattle.hm_model.specs.Caused.{Counts, IsCaused, Known, known_after, known_at, number_of, possible}
use Rattle.hm_model.specs.Foreign.{Foreigners}
use Rattle.hm_model.specs.Legal.{IsAccepted, IsReply, IsSpace, IsUndamaged, MayFollow, NamesAdded, Setting, call_after, floor_after, state_after}
use Rattle.hm_model.specs.Reply.{is_refusal}
use Rattle.hm_model.specs.Volume.{Volume}
use Rattle.hm_model.specs.declared.command.Command.{Command}
use Rattle.hm_model.specs.declared.command.Command.TheVariants.{Df}
use Rattle.hm_model.specs.declared.entry.Entry.{Entry}
use Rattle.hm_model.specs.declared.reply.Reply.{Reply}
use Rattle.hm_model.specs.declared.reply.Reply.TheVariants.{Space, Synced}
use Rattle.hm_model.proofs.EventLemmas.{after_events-push}
use Rattle.hm_model.proofs.MadeLemmas.{last_known}
use Rattle.hm_image.specs.StandFor.{StandFor}
use Rattle.hm_stored.specs.Heap.{Heap}
use Rattle.hm_step.specs.Step.{after_call}
use Rattle.hm_step.proofs.NextLemmas.{stand_next}
use Rattle.hm_core.specs.Calls.{Fails}
use Rattle.hm_core.specs.Counts.{AreLater}
use Rattle.hm_core.specs.History.{IsLegalBeyond, IsLegalOver, setting_of}
use Rattle.hm_core.specs.Inside.{AreUpTo}
use Rattle.hm_core.specs.Served.{IsSync}
use Rattle.hm_core.specs.State.{OpenJob}
use Rattle.hm_core.specs.Told.{HoldsSame, TellsFailure, TellsSpace}
use Rattle.hm_core.proofs.BoundaryLemmas.{boundary_known}
use Rattle.hm_core.proofs.CallLemmas.{drawn_next, floor_next, goes_on, left_next}
use Rattle.hm_core.proofs.CountLemmas.{NumbersOf}
use Rattle.hm_core.proofs.PathlessLemmas.{NamesNoPath, OpensNothing, boundary_listed, df_opens_nothing}
use Rattle.hm_core.proofs.PathlessLemmas.{event_of, fault_listed, space_listed, sync_opens_nothing}
use Rattle.hm_core.proofs.PathlessLemmas.{pathless_accepted, pathless_after, pathless_allowed, pathless_cause, pathless_feeds, pathless_lands}
use Rattle.hm_core.proofs.ReplyLemmas.{tells_no_pass}
use Rattle.hm_core.proofs.StateLemmas.{holds_drawn}

module _ (free : ℕ) (start faults faults' : Counts) (history : List Entry) (h : Heap) (root last : ℕ) (running : List OpenJob) (opening : Volume)
    (foreigners : Foreigners) (events : List Event) (so_far : IsLegalOver free start faults history h root last running opening foreigners events)
    (counted : AreLater faults faults') (left : last < GREATEST_ID) where
  -- the run with the count of now, and what it has come to
  abbrev run : Setting
  run = setting_of free start faults' opening foreigners

  abbrev state : State
  state = state_after run events

  abbrev known : Known
  known = known_after (known_at opening.last start) events

  low : state.volume.last < GREATEST_ID
  low = left_next free start faults faults' history h root last running opening foreigners events so_far counted left

  module _ (entry : Entry) (no_path : NamesNoPath entry.call) (nothing : OpensNothing entry) (own_is : entry.id.0 ≡ last + 1) where
    abbrev event : Event
    event = event_of entry

    abbrev call : Call
    call = call_after run events event

    own : entry.id.0 ≡ state.volume.last + 1
    own = drawn_next free start faults faults' history h root last running opening foreigners events so_far counted entry.id.0 own_is

    -- what is asked of its reply
    record MayTell (reply : Reply) : Type 0 where
      pub listed : Contains (possible entry.call []) (number_of reply)
      pub numbers : NumbersOf faults' known entry reply
      pub allowed : IsReply (floor_after run events) call reply
      pub names : is_refusal reply ≡ false → NamesAdded call reply
      pub undamaged : IsUndamaged reply

    module _ (may : MayTell entry.reply) where
      is_caused : IsCaused run.now (known_at opening.last start) events event
      is_caused =
          let same : known.last ≡ state.volume.last = last_known (known_at opening.last start) (opening_state opening foreigners) events refl in
          pathless_cause faults' known entry no_path (subst (λ (n : ℕ). n < GREATEST_ID) (sym same) low)
          (own ∙ ap (λ (n : ℕ). n + 1) (sym same)) may.listed may.numbers

      follows : MayFollow run events event
      follows = record {
        caused = is_caused;
        allowed = λ certain. pathless_allowed run events entry no_path may.allowed;
        lands = λ accepts. pathless_lands run events entry no_path (may.names accepts);
        fed = λ takes. (let none = pathless_feeds run events entry no_path in absurd (cc));
        undamaged = may.undamaged;
      }

      last_is : last_after entry ≡ state.volume.last + 1
      last_is =
          let none : end_id entry.reply ≡ 0 = rw (tells_no_pass (floor_after run events) call entry.reply may.allowed) refl in
          ap (λ (end : ℕ). max entry.id.0 end) none ∙ omega (arith, own)

      after_is : state_after run (events ++ event ∷ []) ≡ on_volume state (after_call false call)
      after_is =
          after_events-push (opening_state opening foreigners) events event
          ∙ (pathless_after run events entry no_path nothing ∙ ap (λ (n : ℕ). on_volume state (record state.volume { last = n })) last_is)

      -- a space holds the volume after it that holds what was held
      told_so : (h' : Heap) (root' : ℕ) → h'.bigblocks ≡ h.bigblocks → HoldsSame h root h' root'
          → IsLegalBeyond free start faults' (history ++ entry ∷ []) h' root' (last + 1) running opening foreigners events
      told_so h' root' size same =
          let elements = so_far.held.holds.elements in
          let stands : StandFor elements.0 (state_after run (events ++ event ∷ [])).volume =
          subst (λ (s : State). StandFor elements.0 s.volume) (sym after_is) (stand_next elements.0 state.volume elements.2 low) in (
            event ∷ [],
            goes_on free start faults faults' history h root last running opening foreigners events so_far counted event h' root' running follows
                (holds_drawn h h' root root' last running state (state_after run (events ++ event ∷ [])) call elements.0 so_far.held refl after_is size
                (same elements.0 elements.1) stands),
          )

      told_here : IsLegalBeyond free start faults' (history ++ entry ∷ []) h root (last + 1) running opening foreigners events
      told_here = told_so h root refl (λ es holds. holds)

    -- the device failed, or memory was refused
    refused_may : TellsFailure faults.disk faults'.disk entry.reply → MayTell entry.reply
    refused_may (inl (before, after, is, media)) = subst MayTell (sym is) (record {
      listed = fault_listed entry.call (device before after) no_path;
      numbers =
          (let begin = media.begin in let least = so_far.counted.disk in
          record { begin = omega (arith, least, begin); rose = media.rose; end = media.end });
      allowed = inr tt;
      names = λ accepts. absurd (cc);
      undamaged = tt;
    })
    refused_may (inr is) = subst MayTell (sym is) (record {
      listed = fault_listed entry.call no_memory no_path;
      numbers = tt;
      allowed = inr tt;
      names = λ accepts. absurd (cc);
      undamaged = tt;
    })

    pub pathless_refused : (h' : Heap) (root' : ℕ) → Fails faults.disk faults'.disk entry h h' root root'
        → IsLegalBeyond free start faults' (history ++ entry ∷ []) h' root' (last + 1) running opening foreigners events
    pathless_refused h' root' fails = told_so (refused_may fails.told) h' root' fails.size fails.holds

  -- a sync tells a boundary that was drawn, and no earlier one than was told
  pub sync_told : (entry : Entry) (boundary : Id) → IsSync entry.call → entry.id.0 ≡ last + 1 → entry.reply ≡ Synced boundary → boundary.0 ≤ last
      → AreUpTo boundary.0 history → IsLegalBeyond free start faults' (history ++ entry ∷ []) h root (last + 1) running opening foreigners events
  sync_told entry boundary sync own_is reply_is drawn told =
      told_here entry (inr (inl sync)) (sync_opens_nothing entry sync) own_is
      (subst (MayTell entry (inr (inl sync)) (sync_opens_nothing entry sync) own_is) (sym reply_is) (record {
        listed = boundary_listed entry.call boundary sync;
        numbers = (boundary_known opening.last boundary.0 start history events so_far.entries told, omega (arith, own_is, drawn));
        allowed = pathless_accepted run events entry (inr (inl sync)) (Synced boundary) low (accepted entry.call sync);
        names = λ accepts. tt;
        undamaged = tt;
      })) where
        accepted : (command : Command) → IsSync command
            → IsAccepted (floor_after run events) (call_after run events (event_of (record entry { call = command }))) (Synced boundary)
        accepted command (inl is) = rw is refl
        accepted command (inr is) = rw is refl

  -- a `df` tells the pool, and a number of free big-blocks that is not below the least
  pub space_told : (entry : Entry) → entry.call ≡ Df → entry.id.0 ≡ last + 1 → TellsSpace free history h entry.reply
      → IsLegalBeyond free start faults' (history ++ entry ∷ []) h root (last + 1) running opening foreigners events
  space_told entry call_is own_is (pool, spare, reply_is, pool_is, enough, most) =
      let is_space : IsSpace (floor_after run events) state.volume (Space pool spare) = (
        pool_is ∙ ap (λ (n : ℕ). n - first_pool n) so_far.held.holds.bigblocks,
        floor_next free start faults faults' history h root last running opening foreigners events so_far counted spare enough,
        most,
      ) in
      told_here entry (inl call_is) (df_opens_nothing entry call_is) own_is
      (subst (MayTell entry (inl call_is) (df_opens_nothing entry call_is) own_is) (sym reply_is) (record {
        listed = space_listed entry.call pool spare call_is;
        numbers = tt;
        allowed = pathless_accepted run events entry (inl call_is) (Space pool spare) low
            (subst (λ (c : Command). IsAccepted (floor_after run events) (call_after run events (event_of (record entry { call = c }))) (Space pool spare))
            (sym call_is) is_space);
        names = λ accepts. tt;
        undamaged = tt;
      }))
