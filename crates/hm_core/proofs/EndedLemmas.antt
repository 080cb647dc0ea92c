-- The ending of an open call, as the next event of a history.
use Rattle.std.proofs.Common.{◌≡◌, ℕ, ◌+◌, ◌<◌, ◌≤◌, max, true, false, inl, inr, List, [], ◌∷◌, ◌++◌, filter, refl, sym, ap, subst, ◌∙◌, arith, eqb}
use Rattle.std.specs.Prelude.{◌⊎◌, IsSomeAnd, None, Option, Some, find, if◌then◌else◌}
use Rattle.std.specs.List.{Contains}
use Rattle.std.specs.Option.{option_map_or}
use Rattle.hm_types.specs.Faults.{IsCaused as IsFaultCaused}
use Rattle.hm_types.specs.declared.fault.Fault.{Fault}
use Rattle.hm_types.specs.declared.fault.Fault.TheVariants.{Damaged as damage, Media as device, NoMemory as no_memory}
use Rattle.hm_types.specs.declared.id.Id.{Id}
use Rattle.hm_types.specs.declared.limits.TheConstants.{GREATEST_ID}
use Rattle.hm_model.specs.After.{Event, OpenCall, State, end_effect, end_id, last_after, opened_with, opening_state}
use Rattle.hm_model.specs.Caused.{Counts, HasCause, Known, ended_command, known_after, known_after_entry, known_at, number_of, possible_at_end}
use Rattle.hm_model.specs.Foreign.{Foreigners}
use Rattle.hm_model.specs.Legal.{IsEnding, IsLegal, IsUndamaged, MayFollow, NamesAdded, Setting, call_after, floor_after, state_after}
use Rattle.hm_model.specs.Reply.{is_refusal, passed_ids}
use Rattle.hm_model.specs.Volume.{Volume}
use Rattle.hm_model.specs.declared.command.Command.{Command}
use Rattle.hm_model.specs.Needs.{MayLack, Row, floor, rows_after}
use Rattle.hm_model.specs.declared.command.Command.TheVariants.{End, Reblock}
use Rattle.hm_model.specs.declared.entry.Entry.{Entry}
use Rattle.hm_model.specs.declared.reply.Reply.{Reply}
use Rattle.hm_model.specs.declared.reply.Reply.TheVariants.{Finished, NoSpace}
use Rattle.hm_model.proofs.EventLemmas.{after_events-push, ids_follow}
use Rattle.hm_model.proofs.KnownLemmas.{Agrees}
use Rattle.hm_stored.specs.Heap.{Heap}
use Rattle.hm_step.proofs.NextLemmas.{stand_next}
use Rattle.hm_core.specs.Caused.{IsCausedWith}
use Rattle.hm_core.specs.Counts.{AreLater}
use Rattle.hm_core.specs.History.{HoldsState, IsLegalBeyond, IsLegalOver, setting_of}
use Rattle.hm_core.specs.Open.{AreKnownOpen, IsKnownOpen, IsOpenIn, IsOpenedBy}
use Rattle.hm_core.specs.State.{OpenJob, OpenWork, job_with, jobs_beside, pruning, reblocking}
use Rattle.hm_core.specs.Told.{TellsFailure, reply_to}
use Rattle.hm_core.specs.Unit.{IsReblocking}
use Rattle.hm_core.proofs.CallLemmas.{floor_next, goes_on as legal_on, left_next}
use Rattle.hm_core.proofs.CausedLemmas.{HasWork, fault_ends, fault_numbers, goes_on as caused_on, known as known_so}
use Rattle.hm_core.proofs.CountLemmas.{NumbersOf, legal_later}
use Rattle.hm_core.proofs.PathlessLemmas.{event_of, fault_after}
use Rattle.hm_core.proofs.RunningLemmas.{IsFoundWith, agrees_after, all_beside, found_has, found_known, found_still, idle_beside, job_ends, job_possible}
use Rattle.hm_core.proofs.RunningLemmas.{told_at_end}
use Rattle.hm_core.proofs.StepLemmas.{entry_of}

-- ---- its cause, by what is known without trees

ending_possible : (known : Known) (work : OpenWork) (id : Id) → HasWork work id.0 known.opened
    → option_map_or possible_at_end (ended_command known.opened (End id)) [] ≡ told_at_end work
ending_possible known work id = by (find (λ (o : ℕ × Command). eqb o.0 id.0) known.opened) where
  by : (found : Option (ℕ × Command)) → IsSomeAnd found (λ o. IsOpenedBy o.1 work)
      → option_map_or possible_at_end (option_map_or (λ (o : ℕ × Command). Some o.1) found None) [] ≡ told_at_end work
  by None is = absurd is
  by (Some o) is = job_possible o.1 work is

-- the replies that an ending may have: that the work came to its end, a fault, and of a reblock that no big-block was free
finished_listed : (work : OpenWork) → Contains (told_at_end work) (number_of Finished)
finished_listed (pruning pfs kept) = (0, omega arith, refl)
finished_listed reblocking = (0, omega arith, refl)

fault_listed : (work : OpenWork) (fault : Fault) → Contains (told_at_end work) (number_of (reply_to fault))
fault_listed (pruning pfs kept) fault = fault_after 110 fault
fault_listed reblocking (device before after) = (2, omega arith, refl)
fault_listed reblocking (damage at kind) = (3, omega arith, refl)
fault_listed reblocking no_memory = (4, omega arith, refl)

space_listed : (work : OpenWork) (free needed : ℕ) → IsReblocking work → Contains (told_at_end work) (number_of (NoSpace free needed))
space_listed (pruning pfs kept) free needed is = absurd is
space_listed reblocking free needed is = (1, omega arith, refl)

ending_cause : (now : Counts) (known : Known) (work : OpenWork) (id : Id) (n lane line : ℕ) (reply : Reply) → known.last < GREATEST_ID
    → n ≡ known.last + 1 → HasWork work id.0 known.opened → Contains (told_at_end work) (number_of reply)
    → NumbersOf now known (entry_of n lane line (End id) reply) reply → HasCause now known (event_of (entry_of n lane line (End id) reply))
ending_cause now known work id n lane line reply left own there listed numbers = record {
  id = own;
  drawn = omega (arith, own, left);
  read = tt;
  possible = subst (λ (ns : List ℕ). Contains ns (number_of reply)) (sym (ending_possible known work id there)) listed;
  numbers = numbers;
}

module _ (first : ℕ) (start faults faults' : Counts) (last : ℕ) (running : List OpenJob) (history : List Entry)
    (so_known : IsCausedWith first start faults last running history) (counted : AreLater faults faults') (left : last < GREATEST_ID)
    (id : Id) (p : OpenJob) (found : job_with id.0 running ≡ Some p) (lane line : ℕ) (reply : Reply) where
  abbrev told : Known
  told = known_so first start faults faults' last running history so_known counted

  abbrev ending : Entry
  ending = entry_of (last + 1) lane line (End id) reply

  own : last + 1 ≡ told.last + 1
  own = ap (λ (n : ℕ). n + 1) (sym so_known.causes.last_is)

  there : HasWork p.work id.0 told.opened
  there =
      let open_so = found_has (IsKnownOpen told) id.0 running p found so_known.opened in
      subst (λ (n : ℕ). HasWork p.work n told.opened) open_so.id_is open_so.has.opened

  -- the others are known to be open still
  others : AreKnownOpen (known_after_entry told ending) (jobs_beside id.0 running)
  others = all_beside (IsKnownOpen told) (IsKnownOpen (known_after_entry told ending)) id.0 (λ q differs was. record {
    drawn = (let drawn = was.drawn in omega (arith, drawn, own));
    opened = subst (λ (o : Option (ℕ × Command)). IsSomeAnd o (λ x. IsOpenedBy x.1 q.work))
        (sym (found_still (λ (o : ℕ × Command). o.0) id.0 q.opening differs told.opened)) was.opened;
  }) running so_known.opened

  caused_by : Contains (told_at_end p.work) (number_of reply) → passed_ids reply ≡ None → NumbersOf faults' told ending reply
      → IsCausedWith first start faults' (last + 1) (jobs_beside id.0 running) (history ++ ending ∷ [])
  caused_by listed none numbers =
      caused_on first start faults faults' last running history so_known counted (event_of ending)
      (ending_cause faults' told p.work id (last + 1) lane line reply (subst (λ (n : ℕ). n < GREATEST_ID) (sym so_known.causes.last_is) left) own there listed
      numbers) none refl (jobs_beside id.0 running) others

  abbrev IsListed : Reply → Type 0
  IsListed r = Contains (told_at_end p.work) (number_of r)

  pub ended_caused : (reply ≡ Finished) ⊎ (((fault : Fault) × (reply ≡ reply_to fault) × IsFaultCaused faults.disk faults'.disk fault)
      ⊎ ((free : ℕ) × (needed : ℕ) × (reply ≡ NoSpace free needed) × IsReblocking p.work))
      → IsCausedWith first start faults' (last + 1) (jobs_beside id.0 running) (history ++ ending ∷ [])
  ended_caused (inl is) =
      caused_by (subst IsListed (sym is) (finished_listed p.work)) (ap passed_ids is)
      (subst (λ (r : Reply). NumbersOf faults' told ending r) (sym is) tt)
  ended_caused (inr (inl (fault, is, caused))) =
      caused_by (subst IsListed (sym is) (fault_listed p.work fault)) (ap passed_ids is ∙ fault_ends fault)
      (subst (λ (r : Reply). NumbersOf faults' told ending r) (sym is)
      (fault_numbers first start faults faults' last running history so_known counted ending fault caused))
  ended_caused (inr (inr (free, needed, is, reblocks))) =
      caused_by (subst IsListed (sym is) (space_listed p.work free needed reblocks)) (ap passed_ids is)
      (subst (λ (r : Reply). NumbersOf faults' told ending r) (sym is) tt)

-- ---- over the trees of a run

-- the rows of a reblock's units
rows_for : (command : Command) (work : OpenWork) → IsOpenedBy command work → IsReblocking work → rows_after command ≡ (1, 0) ∷ []
rows_for (Reblock fill) work is reblocks = refl
rows_for other (pruning pfs kept) is reblocks = absurd reblocks
rows_for other reblocking is reblocks = absurd is

module _ (free : ℕ) (start faults faults' : Counts) (history : List Entry) (h : Heap) (root last : ℕ) (running : List OpenJob) (opening : Volume)
    (foreigners : Foreigners) (events : List Event) (so_far : IsLegalOver free start faults history h root last running opening foreigners events)
    (counted : AreLater faults faults') (left : last < GREATEST_ID) (id : Id) (p : OpenJob) (found : job_with id.0 running ≡ Some p)
    (lane line : ℕ) (reply : Reply) where
  abbrev entry : Entry
  entry = entry_of (last + 1) lane line (End id) reply

  abbrev event : Event
  event = event_of entry

  abbrev run : Setting
  run = setting_of free start faults' opening foreigners

  abbrev state : State
  state = state_after run events

  abbrev known : Known
  known = known_after (known_at opening.last start) events

  legal : IsLegal run events
  legal = legal_later (setting_of free start faults opening foreigners) faults' events counted so_far.legal

  agrees : Agrees known state
  agrees = agrees_after (known_at opening.last start) (opening_state opening foreigners) events (record { last = refl; opened = refl })
      (ids_follow run [] events legal)

  low : state.volume.last < GREATEST_ID
  low = left_next free start faults faults' history h root last running opening foreigners events so_far counted left

  abbrev open_in : IsFoundWith (IsOpenIn state) id.0 p
  open_in = found_has (IsOpenIn state) id.0 running p found so_far.held.opened.each

  abbrev call : OpenCall
  call = open_in.has.call

  call_found : opened_with id.0 state.opened ≡ Some call
  call_found = subst (λ (n : ℕ). opened_with n state.opened ≡ Some call) open_in.id_is open_in.has.found

  known_open : HasWork p.work id.0 known.opened
  known_open =
      subst (HasWork p.work id.0) (sym agrees.opened)
      (subst (λ (o : Option (ℕ × Command)). IsSomeAnd o (λ x. IsOpenedBy x.1 p.work)) (sym (found_known id.0 state.opened call call_found))
      open_in.has.opened)

  own_next : last + 1 ≡ state.volume.last + 1
  own_next = ap (λ (n : ℕ). n + 1) so_far.held.holds.last_is

  -- what is asked of its reply
  record MayEnd (r : Reply) : Type 0 where
    pub listed : Contains (told_at_end p.work) (number_of r)
    pub numbers : NumbersOf faults' known entry r
    pub ends : IsEnding (floor_after run events) state.volume call (last + 1) r
    pub names : is_refusal r ≡ false → NamesAdded (call_after run events event) r
    pub passes : passed_ids r ≡ None
    pub undamaged : IsUndamaged r

  -- a reblock may tell how many are free, where no fewer are than the least
  abbrev pub LacksEnd : Type 0
  LacksEnd = (spare : ℕ) × (needed : ℕ) × (reply ≡ NoSpace spare needed) × IsReblocking p.work × (spare ≡ 0) × (needed ≡ 1) × (floor free history ≤ spare)

  may_end : (reply ≡ Finished) ⊎ (TellsFailure faults.disk faults'.disk reply ⊎ LacksEnd) → MayEnd reply
  may_end (inl is) = subst MayEnd (sym is) (record {
    listed = finished_listed p.work;
    numbers = tt;
    ends = tt;
    names = λ accepts. tt;
    passes = refl;
    undamaged = tt;
  })
  may_end (inr (inl (inl (before, after, is, media)))) = subst MayEnd (sym is) (record {
    listed = fault_listed p.work (device before after);
    numbers =
        (let begin = media.begin in let least = so_far.counted.disk in
        record { begin = omega (arith, least, begin); rose = media.rose; end = media.end });
    ends = tt;
    names = λ accepts. absurd (cc);
    passes = refl;
    undamaged = tt;
  })
  may_end (inr (inl (inr is))) = subst MayEnd (sym is) (record {
    listed = fault_listed p.work no_memory;
    numbers = tt;
    ends = tt;
    names = λ accepts. absurd (cc);
    passes = refl;
    undamaged = tt;
  })
  may_end (inr (inr (spare, needed, is, reblocks, none, one, enough))) = subst MayEnd (sym is) (record {
    listed = space_listed p.work spare needed reblocks;
    numbers = tt;
    ends = (
      subst (λ (rows : List Row). MayLack rows spare needed) (sym (rows_for call.command p.work open_in.has.opened reblocks))
          ((1, 0), (0, omega arith, refl), record { some = omega (arith, one); most = omega (arith, one); lack = omega (arith, none, one) }),
      floor_next free start faults faults' history h root last running opening foreigners events so_far counted spare enough,
    );
    names = λ accepts. absurd (cc);
    passes = refl;
    undamaged = tt;
  })

  module _ (may : MayEnd reply) where
    follows : MayFollow run events event
    follows = record {
      caused = ending_cause faults' known p.work id (last + 1) lane line reply (subst (λ (n : ℕ). n < GREATEST_ID) (sym agrees.last) low)
          (own_next ∙ ap (λ (n : ℕ). n + 1) (sym agrees.last)) known_open may.listed may.numbers;
      allowed = λ certain. (call, call_found, may.ends);
      lands = λ accepts. record { ends = refl; in_master = refl; records = refl; fits = refl; named = may.names accepts };
      fed = λ takes. absurd (cc);
      undamaged = may.undamaged;
    }

    -- the call is open no more, and an id was drawn
    abbrev after : State
    after = record state {
      volume = record state.volume { last = state.volume.last + 1 };
      opened = filter (λ (o : OpenCall). if eqb o.opening id.0 then false else true) state.opened;
    }

    last_is : last_after entry ≡ state.volume.last + 1
    last_is =
        let none : end_id reply ≡ 0 = rw may.passes refl in
        ap (λ (end : ℕ). max (last + 1) end) none ∙ omega (arith, own_next)

    volume_is : option_map_or (end_effect state.volume reply) (opened_with id.0 state.opened) state.volume ≡ state.volume
    volume_is = ap (λ (o : Option OpenCall). option_map_or (end_effect state.volume reply) o state.volume) call_found
        ∙ job_ends state.volume reply call call.command p.work open_in.has.opened

    after_is : state_after run (events ++ event ∷ []) ≡ after
    after_is =
        after_events-push (opening_state opening foreigners) events event
        ∙ (ap (λ (v : Volume). record after { volume = record v { last = last_after entry } }) volume_is
        ∙ ap (λ (n : ℕ). record after { volume = record state.volume { last = n } }) last_is)

    held_after : HoldsState h root (last + 1) (jobs_beside id.0 running) after
    held_after = record {
      holds = record {
        bigblocks = so_far.held.holds.bigblocks;
        last_is = own_next;
        elements = (
          so_far.held.holds.elements.0,
          so_far.held.holds.elements.1,
          stand_next so_far.held.holds.elements.0 state.volume so_far.held.holds.elements.2 low,
        );
      };
      opened = record {
        each = all_beside (IsOpenIn state) (IsOpenIn after) id.0 (λ q differs was. record {
          call = was.call;
          found = found_still (λ (o : OpenCall). o.opening) id.0 q.opening differs state.opened ∙ was.found;
          opened = was.opened;
          on = was.on;
          enough = (let enough = was.enough in record { within = enough.within; of_systems = enough.of_systems });
          drawn = (let drawn = was.drawn in omega (arith, drawn));
        }) running so_far.held.opened.each;
        idle = idle_beside id.0 state.opened so_far.held.opened.idle;
      };
    }

  pub ended_call : (reply ≡ Finished) ⊎ (TellsFailure faults.disk faults'.disk reply ⊎ LacksEnd)
      → IsLegalBeyond free start faults' (history ++ entry ∷ []) h root (last + 1) (jobs_beside id.0 running) opening foreigners events
  ended_call tells =
      let may = may_end tells in (
        event ∷ [],
        legal_on free start faults faults' history h root last running opening foreigners events so_far counted event h root (jobs_beside id.0 running)
            (follows may) (subst (HoldsState h root (last + 1) (jobs_beside id.0 running)) (sym (after_is may)) (held_after may)),
      )
