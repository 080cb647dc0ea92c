-- One call more keeps that each reply of a history has its cause, whatever the disk holds.
use Rattle.std.proofs.Common.{◌≡◌, ℕ, ◌+◌, ◌<◌, ◌≤◌, inl, inr, Bool, true, false, List, [], ◌∷◌, ◌++◌, filter, refl, sym, ap, subst, ◌∙◌, arith, eqb}
use Rattle.std.specs.Prelude.{IsSomeAnd, IsTrue, None, Option, Some, find, if◌then◌else◌}
use Rattle.std.specs.Option.{option_map_or}
use Rattle.std.specs.List.{Contains}
use Rattle.std.proofs.lemmas.Bool.{eq-eqb, false≢true}
use Rattle.std.proofs.lemmas.List.{map-append}
use Rattle.hm_types.specs.Faults.{IsCaused as IsFaultCaused}
use Rattle.hm_types.specs.declared.fault.Fault.{Fault}
use Rattle.hm_types.specs.declared.fault.Fault.TheVariants.{Damaged as damage, Media as device, NoMemory as no_memory}
use Rattle.hm_types.specs.declared.id.Id.{Id}
use Rattle.hm_types.specs.declared.limits.TheConstants.{GREATEST_ID}
use Rattle.hm_calls.specs.Answered.{IsAnswerable, IsFormOf, is_prune, reply_in}
use Rattle.hm_calls.specs.Possible.{MayReply}
use Rattle.hm_calls.specs.Stop.{TellsRefusal}
use Rattle.hm_calls.specs.declared.answered.Answered.{Answered}
use Rattle.hm_calls.specs.declared.answered.Answered.TheVariants.{Opened, Replied}
use Rattle.hm_model.specs.After.{Event, end_id}
use Rattle.hm_model.specs.Caused.{AreCaused, Counts, HasCause, IsCaused, Known, is_housekeeping, known_after, known_after_entry, known_at}
use Rattle.hm_model.specs.Caused.{number_of, opens, possible}
use Rattle.hm_model.specs.Command.{named_opening}
use Rattle.hm_model.specs.Reply.{is_refusal, passed_ids}
use Rattle.hm_model.specs.declared.command.Command.{Command}
use Rattle.hm_model.specs.declared.command.Command.TheVariants.{Df, MirrorCopy, MirrorRead, MirrorWrite, PfsUpgrade, Prune, PruneAll, Reblock}
use Rattle.hm_model.specs.declared.entry.Entry.{Entry}
use Rattle.hm_model.specs.declared.reply.Reply.{Reply}
use Rattle.hm_model.specs.declared.reply.Reply.TheVariants.{Done, Space, Synced}
use Rattle.hm_model.proofs.EventLemmas.{known_after-push}
use Rattle.hm_model.proofs.HistoryLemmas.{last_or_before, nothing_in_none}
use Rattle.hm_step.specs.Causes.{IsNextOf, TellsFault}
use Rattle.hm_search.proofs.ListLemmas.{each_append, each_so}
use Rattle.hm_step.proofs.CauseLemmas.{fault_cause, may_cause, may_end}
use Rattle.hm_step.proofs.EventLemmas.{served_no_opening}
use Rattle.hm_core.specs.Answer.{job_of, led_work, running_after}
use Rattle.hm_core.specs.Caused.{IsCausedFrom, IsCausedWith}
use Rattle.hm_core.specs.Counts.{AreLater}
use Rattle.hm_core.specs.Inside.{AreUpTo}
use Rattle.hm_core.specs.Open.{AreKnownOpen, IsKnownOpen, IsOpenedBy, IsReblock, opens_job}
use Rattle.hm_core.specs.Served.{IsServed, IsSync}
use Rattle.hm_core.specs.State.{OpenJob, OpenWork, pruning, reblocking}
use Rattle.hm_core.specs.Told.{reply_to}
use Rattle.hm_core.proofs.BoundaryLemmas.{boundary_known}
use Rattle.hm_core.proofs.CountLemmas.{NumbersOf, cause_later, later_still, told_most}
use Rattle.hm_core.proofs.PathlessLemmas.{NamesNoPath, OpensNothing, boundary_listed, df_opens_nothing, done_listed, event_of, fault_listed}
use Rattle.hm_core.proofs.PathlessLemmas.{pathless_cause, space_listed, sync_opens_nothing}
use Rattle.hm_core.proofs.StateLemmas.{apart, prune_is}
use Rattle.hm_core.proofs.WordLemmas.{words_are_read}

AreCaused-goes_on : (last : ℕ) (start now : Counts) (events : List Event) (event : Event) → AreCaused last start now events
    → IsCaused now (known_at last start) events event → AreCaused last start now (events ++ event ∷ [])
AreCaused-goes_on last start now events event caused next before e rest is =
    elim (last_or_before events event before e rest is) [
      | inl both ↦
          subst (λ (es : List Event). IsCaused now (known_at last start) es e) both.0
          (subst (λ (x : Event). IsCaused now (known_at last start) events x) both.1 next)
      | inr more ↦ caused before e more.0 more.1
    ]

-- a history with no entry
pub caused_first : (first : ℕ) (start now : Counts) (last : ℕ) (running : List OpenJob) (history : List Entry) → running ≡ [] → history ≡ []
    → AreLater start now → last ≡ first → IsCausedWith first start now last running history
caused_first first start now last running history idle none counted same =
    subst (λ (ps : List OpenJob). IsCausedWith first start now last ps history) (sym idle) (record {
      causes = record {
        events = [];
        entries = sym none;
        caused = λ before event rest is. absurd (nothing_in_none before event rest is);
        counted = counted;
        last_is = sym same;
      };
      opened = tt;
    })

-- ---- what is known to be open once a call more was entered

opened_same : (known : Known) (e : Entry) → is_housekeeping e.call ≡ false → named_opening e.call ≡ None
    → (known_after_entry known e).opened ≡ known.opened
opened_same known e = by (is_housekeeping e.call) (named_opening e.call) where
  by : (housekeeping : Bool) (o : Option Id) → housekeeping ≡ false → o ≡ None
      → (if (if housekeeping then (if is_refusal e.reply then false else true) else false) then (e.id.0, e.call) ∷ known.opened
      else option_map_or (λ (opening : Id). filter (λ (x : ℕ × Command). if eqb x.0 opening.0 then false else true) known.opened) o known.opened)
      ≡ known.opened
  by true o none names = absurd cc
  by false (Some opening) none names = absurd cc
  by false None none names = refl

closed_same : (known : Known) (e : Entry) → opens e ≡ false → named_opening e.call ≡ None → (known_after_entry known e).opened ≡ known.opened
closed_same known e = by (opens e) (named_opening e.call) where
  by : (opened : Bool) (o : Option Id) → opened ≡ false → o ≡ None
      → (if opened then (e.id.0, e.call) ∷ known.opened
      else option_map_or (λ (opening : Id). filter (λ (x : ℕ × Command). if eqb x.0 opening.0 then false else true) known.opened) o known.opened)
      ≡ known.opened
  by true o closed names = absurd cc
  by false (Some opening) closed names = absurd cc
  by false None closed names = refl

-- whether a call of such a command with such a reply opens a housekeeping call
abbrev opens_as : Command → Reply → Bool
opens_as command reply = if is_housekeeping command then (if is_refusal reply then false else true) else false

-- what a store answers opens nothing, where a prune is refused
no_opening : (command : Command) (reply : Reply) → IsAnswerable command → (IsTrue (is_prune command) → TellsRefusal reply)
    → opens_as command reply ≡ false
no_opening (Prune path) reply answers refuses = rw (refuses refl) refl
no_opening (PruneAll path) reply answers refuses = rw (refuses refl) refl
no_opening (Reblock fill) reply answers refuses = absurd answers
no_opening (PfsUpgrade path) reply answers refuses = absurd answers
no_opening (MirrorRead path begin) reply answers refuses = absurd answers
no_opening (MirrorWrite path) reply answers refuses = absurd answers
no_opening (MirrorCopy master slave limit) reply answers refuses = absurd answers
no_opening other reply answers refuses = refl

pub an_opening : (command : Command) (work : OpenWork) (reply : Reply) → IsOpenedBy command work → is_refusal reply ≡ false
    → opens_as command reply ≡ true
an_opening (Prune path) work reply does accepts = rw accepts refl
an_opening (PruneAll path) work reply does accepts = rw accepts refl
an_opening (Reblock fill) work reply does accepts = rw accepts refl
an_opening other (pruning pfs kept) reply does accepts = absurd does
an_opening other reblocking reply does accepts = absurd does

pub prune_opens : (command : Command) → IsTrue (is_prune command) → IsTrue (opens_job command)
prune_opens (Reblock fill) is = refl
prune_opens other is = is

reblock_closed : (command : Command) (reply : Reply) → IsReblock command → (IsTrue (opens_job command) → TellsRefusal reply)
    → opens_as command reply ≡ false
reblock_closed (Reblock fill) reply is refuses = rw (refuses refl) refl
reblock_closed other reply is refuses = absurd is

-- nor does any call that is asked
pub served_closed : (command : Command) (reply : Reply) → IsServed command → (IsTrue (opens_job command) → TellsRefusal reply)
    → opens_as command reply ≡ false
served_closed command reply (inl (inl answers)) refuses = no_opening command reply answers (λ prunes. refuses (prune_opens command prunes))
served_closed command reply (inl (inr (inl is))) refuses = subst (λ (c : Command). opens_as c reply ≡ false) (sym is) refl
served_closed command reply (inl (inr (inr is))) refuses = reblock_closed command reply is refuses
served_closed command reply (inr (inl is)) refuses = subst (λ (c : Command). opens_as c reply ≡ false) (sym is) refl
served_closed command reply (inr (inr is)) refuses = subst (λ (c : Command). opens_as c reply ≡ false) (sym is) refl

reblock_names : (command : Command) → IsReblock command → named_opening command ≡ None
reblock_names (Reblock fill) is = refl
reblock_names other is = absurd is

pathless_opened : (known : Known) (e : Entry) → NamesNoPath e.call → OpensNothing e → (known_after_entry known e).opened ≡ known.opened
pathless_opened known e (inl is) nothing = opened_same known e (rw is refl) (rw is refl)
pathless_opened known e (inr (inl (inl is))) nothing = opened_same known e (rw is refl) (rw is refl)
pathless_opened known e (inr (inl (inr is))) nothing = opened_same known e (rw is refl) (rw is refl)
pathless_opened known e (inr (inr is)) nothing =
    closed_same known e (reblock_closed e.call e.reply is (λ opens. nothing is)) (reblock_names e.call is)

-- a known list of open calls has one with this opening id, that does such work
abbrev pub HasWork : OpenWork → ℕ → List (ℕ × Command) → Type 0
HasWork work opening opened = IsSomeAnd (find (λ (o : ℕ × Command). eqb o.0 opening) opened) (λ o. IsOpenedBy o.1 work)

still_known : (known : Known) (e : Entry) (running : List OpenJob) → (known_after_entry known e).opened ≡ known.opened
    → e.id.0 ≡ known.last + 1 → AreKnownOpen known running → AreKnownOpen (known_after_entry known e) running
still_known known e running same own =
    each_so (IsKnownOpen known) (IsKnownOpen (known_after_entry known e)) running (λ p was. record {
      drawn = (let drawn = was.drawn in omega (arith, drawn, own));
      opened = subst (HasWork p.work p.opening) (sym same) was.opened;
    })

-- what was opened is known to be open beside those before it
known_more : (known : Known) (e : Entry) (work : OpenWork) (running : List OpenJob) → opens e ≡ true → IsOpenedBy e.call work
    → e.id.0 ≡ known.last + 1 → AreKnownOpen known running → AreKnownOpen (known_after_entry known e) (running ++ job_of e work ∷ [])
known_more known e work running opened does own was =
    let after : Known = known_after_entry known e in
    let list : after.opened ≡ (e.id.0, e.call) ∷ known.opened = rw opened refl in
    each_append (IsKnownOpen after) running (job_of e work ∷ [])
    (each_so (IsKnownOpen known) (IsKnownOpen after) running (λ p is. record {
      drawn = (let drawn = is.drawn in omega (arith, drawn, own));
      opened = subst (HasWork p.work p.opening) (sym list) (rw (apart e.id.0 p.opening (let drawn = is.drawn in omega (arith, drawn, own))) is.opened);
    }) was)
    (record { drawn = omega arith; opened = subst (HasWork work e.id.0) (sym list) (rw (eq-eqb e.id.0 e.id.0 refl) does) }, tt)

-- a fault is told by no ids of a pass
pub fault_ends : (fault : Fault) → passed_ids (reply_to fault) ≡ None
fault_ends (device before after) = refl
fault_ends (damage at kind) = refl
fault_ends no_memory = refl

fault_tells : (fault : Fault) → TellsFault (reply_to fault)
fault_tells (device before after) = tt
fault_tells (damage at kind) = tt
fault_tells no_memory = tt

-- it is a refusal
pub fault_refuses : (fault : Fault) → TellsRefusal (reply_to fault)
fault_refuses (device before after) = refl
fault_refuses (damage at kind) = refl
fault_refuses no_memory = refl

-- a call that told one opened nothing
pub fault_closed : (e : Entry) (fault : Fault) → e.reply ≡ reply_to fault → opens e ≡ false
fault_closed e fault is = by (is_housekeeping e.call) (is_refusal e.reply) (ap is_refusal is ∙ fault_refuses fault) where
  by : (housekeeping refuses : Bool) → refuses ≡ true → (if housekeeping then (if refuses then false else true) else false) ≡ false
  by true true is = refl
  by true false is = absurd (false≢true is)
  by false refuses is = refl

module _ (first : ℕ) (start faults faults' : Counts) (last : ℕ) (running : List OpenJob) (history : List Entry)
    (so_known : IsCausedWith first start faults last running history) (counted : AreLater faults faults') where
  abbrev so_far : IsCausedFrom first start faults last history
  so_far = so_known.causes

  abbrev pub known : Known
  known = known_after (known_at first start) so_far.events

  -- no more faults were told than are counted now
  told_now : AreLater known.counts faults'
  told_now = later_still known.counts faults faults' so_far.counted counted

  still : AreCaused first start faults' so_far.events
  still before event rest is =
      cause_later faults faults' (known_after (known_at first start) before) event counted (so_far.caused before event rest is)

  -- more faults are counted
  pub caused_later : IsCausedWith first start faults' last running history
  caused_later = record {
    causes = record {
      events = so_far.events;
      entries = so_far.entries;
      caused = still;
      counted = told_now;
      last_is = so_far.last_is;
    };
    opened = so_known.opened;
  }

  -- the numbers of a reply that tells a fault have their cause
  pub fault_numbers : (entry : Entry) (fault : Fault) → IsFaultCaused faults.disk faults'.disk fault
      → NumbersOf faults' known entry (reply_to fault)
  fault_numbers entry (device before after) caused =
      (let least = so_far.counted.disk in let begin = caused.begin in record { begin = omega (arith, least, begin); rose = caused.rose; end = caused.end })
  fault_numbers entry (damage at kind) caused = tt
  fault_numbers entry no_memory caused = tt

  pub goes_on : (event : Event) → HasCause faults' known event → passed_ids event.entry.reply ≡ None → event.entry.id.0 ≡ last + 1
      → (running' : List OpenJob) → AreKnownOpen (known_after_entry known event.entry) running'
      → IsCausedWith first start faults' (last + 1) running' (history ++ event.entry ∷ [])
  goes_on event cause ends own running' opened =
      let push = known_after-push (known_at first start) so_far.events event in
      let none : end_id event.entry.reply ≡ 0 = rw ends refl in
      record {
        causes = record {
          events = so_far.events ++ event ∷ [];
          entries = map-append (λ (e : Event). e.entry) so_far.events (event ∷ []) ∙ ap (λ (es : List Entry). es ++ event.entry ∷ []) so_far.entries;
          caused = AreCaused-goes_on first start faults' so_far.events event still cause;
          counted = subst (λ (k : Known). AreLater k.counts faults') (sym push) (told_most faults' known event.entry told_now cause.numbers);
          last_is = ap (λ (k : Known). k.last) push ∙ omega (arith, own, none);
        };
        opened = subst (λ (k : Known). AreKnownOpen k running') (sym push) opened;
      }

  module _ (entry : Entry) (left : last < GREATEST_ID) (own : entry.id.0 ≡ last + 1) where
    own_known : entry.id.0 ≡ known.last + 1
    own_known = own ∙ ap (λ (n : ℕ). n + 1) (sym so_far.last_is)

    left_known : known.last < GREATEST_ID
    left_known = subst (λ (n : ℕ). n < GREATEST_ID) (sym so_far.last_is) left

    -- a call that a store answers
    module _ (served : IsAnswerable entry.call) where
      abbrev event : Event
      event = record { entry = entry; paths = (words_are_read entry.call).0; substitutes = [] }

      next : IsNextOf known event
      next = record {
        served = served;
        left = left_known;
        own = own_known;
        reads = (words_are_read entry.call).1;
      }

      open_still : opens entry ≡ false → AreKnownOpen (known_after_entry known entry) running
      open_still closed =
          still_known known entry running (closed_same known entry closed (served_no_opening entry.call served)) own_known so_known.opened

      -- which was answered, and one that tells a fault
      pub answer_goes_on : (answered : Answered) → IsFormOf entry.call answered → entry.reply ≡ reply_in answered → MayReply last None entry.call entry.reply
          → IsCausedWith first start faults' (last + 1) (running_after entry (led_work answered) running) (history ++ entry ∷ [])
      answer_goes_on answered form is may =
          let here : MayReply known.last None entry.call entry.reply =
          subst (λ (n : ℕ). MayReply n None entry.call entry.reply) (sym so_far.last_is) may in
          goes_on event (may_cause known event next None here faults') (may_end known event next None here) own
          (running_after entry (led_work answered) running)
          (by answered form is) where
            by : (a : Answered) → IsFormOf entry.call a → entry.reply ≡ reply_in a
                → AreKnownOpen (known_after_entry known entry) (running_after entry (led_work a) running)
            by (Replied reply) form_is told =
                open_still (no_opening entry.call entry.reply served (λ prunes. subst TellsRefusal (sym told) (form_is prunes)))
            by (Opened led) form_is told =
                let does = prune_is entry.call form_is in
                known_more known entry (pruning led.pfs.0 led.kept) running
                (an_opening entry.call (pruning led.pfs.0 led.kept) entry.reply does (ap is_refusal told)) does own_known so_known.opened

      pub fault_goes_on : (fault : Fault) → entry.reply ≡ reply_to fault → IsFaultCaused faults.disk faults'.disk fault
          → IsCausedWith first start faults' (last + 1) running (history ++ entry ∷ [])
      fault_goes_on fault is caused =
          goes_on event
          (fault_cause known event next faults' (subst TellsFault (sym is) (fault_tells fault))
          (subst (λ (r : Reply). NumbersOf faults' known entry r) (sym is) (fault_numbers entry fault caused)))
          (ap passed_ids is ∙ fault_ends fault) own running (open_still (fault_closed entry fault is))

    -- a call that names no path, and opens nothing
    pathless_goes_on : NamesNoPath entry.call → OpensNothing entry → (reply : Reply) → entry.reply ≡ reply → Contains (possible entry.call []) (number_of reply)
        → passed_ids reply ≡ None → NumbersOf faults' known entry reply → IsCausedWith first start faults' (last + 1) running (history ++ entry ∷ [])
    pathless_goes_on no_path nothing reply is listed ends numbers =
        goes_on (event_of entry)
        (pathless_cause faults' known entry no_path left_known own_known
        (subst (λ (r : Reply). Contains (possible entry.call []) (number_of r)) (sym is) listed)
        (subst (λ (r : Reply). NumbersOf faults' known entry r) (sym is) numbers))
        (ap passed_ids is ∙ ends) own running (still_known known entry running (pathless_opened known entry no_path nothing) own_known so_known.opened)

    pathless_fault_goes_on : NamesNoPath entry.call → (fault : Fault) → entry.reply ≡ reply_to fault → IsFaultCaused faults.disk faults'.disk fault
        → IsCausedWith first start faults' (last + 1) running (history ++ entry ∷ [])
    pathless_fault_goes_on no_path fault is caused =
        pathless_goes_on no_path (λ opens. ap is_refusal is ∙ fault_refuses fault) (reply_to fault) is (fault_listed entry.call fault no_path)
        (fault_ends fault) (fault_numbers entry fault caused)

    -- a `df` tells the space
    pub space_goes_on : entry.call ≡ Df → (pool spare : ℕ) → entry.reply ≡ Space pool spare
        → IsCausedWith first start faults' (last + 1) running (history ++ entry ∷ [])
    space_goes_on call_is pool spare is =
        pathless_goes_on (inl call_is) (df_opens_nothing entry call_is) (Space pool spare) is (space_listed entry.call pool spare call_is) refl tt

    -- a reblock is opened
    pub reblock_goes_on : IsReblock entry.call → entry.reply ≡ Done
        → IsCausedWith first start faults' (last + 1) (running ++ job_of entry reblocking ∷ []) (history ++ entry ∷ [])
    reblock_goes_on reblock is =
        goes_on (event_of entry)
        (pathless_cause faults' known entry (inr (inr reblock)) left_known own_known
        (subst (λ (r : Reply). Contains (possible entry.call []) (number_of r)) (sym is) (done_listed entry.call reblock))
        (subst (λ (r : Reply). NumbersOf faults' known entry r) (sym is) tt))
        (ap passed_ids is) own (running ++ job_of entry reblocking ∷ [])
        (known_more known entry reblocking running (an_opening entry.call reblocking entry.reply reblock (ap is_refusal is)) reblock own_known
        so_known.opened)

    -- a sync tells a boundary that was drawn, and no earlier one than was told
    pub sync_goes_on : IsSync entry.call → (boundary : Id) → entry.reply ≡ Synced boundary → boundary.0 ≤ last → AreUpTo boundary.0 history
        → IsCausedWith first start faults' (last + 1) running (history ++ entry ∷ [])
    sync_goes_on sync boundary is drawn told =
        pathless_goes_on (inr (inl sync)) (sync_opens_nothing entry sync) (Synced boundary) is (boundary_listed entry.call boundary sync) refl
        (boundary_known first boundary.0 start history so_far.events so_far.entries told, omega (arith, own, drawn))

    -- a call that is asked was refused with a fault
    pub refused_goes_on : IsServed entry.call → (fault : Fault) → entry.reply ≡ reply_to fault → IsFaultCaused faults.disk faults'.disk fault
        → IsCausedWith first start faults' (last + 1) running (history ++ entry ∷ [])
    refused_goes_on (inl (inl answers)) = fault_goes_on answers
    refused_goes_on (inl (inr (inl df))) = pathless_fault_goes_on (inl df)
    refused_goes_on (inl (inr (inr reblock))) = pathless_fault_goes_on (inr (inr reblock))
    refused_goes_on (inr sync) = pathless_fault_goes_on (inr (inl sync))
