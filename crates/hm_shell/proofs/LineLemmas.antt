-- What running one line made of a core, and what of it was printed.
use Rattle.std.proofs.Common.{◌≡◌, ◌⊎◌, ℕ, ◌+◌, ◌<◌, ◌≤◌, false, List, [], ◌∷◌, ◌++◌, Some, None, length, get_or}
use Rattle.std.proofs.Common.{refl, sym, ap, subst, ◌∙◌}
use Rattle.std.proofs.Common.{inl, inr, append_assoc, arith, length-append}
use Rattle.std.specs.Prelude.{Contains, IfErr, IfSome, OnOk, Option, Result, Ok, Err, slice_get}
use Rattle.std.proofs.lemmas.List.Elements.{All-contains, All-from_recursion}
use Rattle.std.proofs.lemmas.Option.{IfSome_then, get_or_from_slice_get}
use Rattle.hm_types.specs.declared.limits.TheConstants.{GREATEST_ID}
use Rattle.hm_pipe.specs.Pipe.{Gains}
use Rattle.hm_model.specs.Caused.{opens}
use Rattle.hm_model.specs.Out.{IsOf, entry_words, printed_line}
use Rattle.hm_model.specs.Reply.{told_boundary}
use Rattle.hm_model.specs.declared.command.Command.TheVariants.{End}
use Rattle.hm_model.specs.declared.entry.Entry.{Entry}
use Rattle.hm_model.specs.declared.line.Line.{Line}
use Rattle.hm_core.specs.Core.{EndsAtOnce, Enters, OpensJob}
use Rattle.hm_core.specs.State.{CoreState, OpenJob}
use Rattle.hm_core.specs.declared.ticket.Ticket.{Ticket}
use Rattle.hm_shell.specs.declared.serve.Called.TheVariants.{Closed, Opened}
use Rattle.hm_shell.specs.declared.stop.RunStop.{RunStop}
use Rattle.hm_shell.specs.Alone.{IsEndingOf, words_of}
use Rattle.hm_shell.specs.Printing.{StoppedPrinting, ended_line, unended_line}
use Rattle.hm_shell.specs.Seen.{Seen}
use Rattle.hm_shell.specs.Serving.{CallsLine, EndsOrLacks, EntersEnding, RunsLine, ServesLine, StoppedServing}

-- a fact of one entry, or of two
of_one : (P : Entry → Type 0) (e : Entry) → P e → (x : Entry) → Contains (e ∷ []) x → P x
of_one P e one x has = All-contains P (e ∷ []) x (All-from_recursion P (e ∷ []) (one, tt)) has

of_two : (P : Entry → Type 0) (e f : Entry) → P e → P f → (x : Entry) → Contains (e ∷ f ∷ []) x → P x
of_two P e f one two x has = All-contains P (e ∷ f ∷ []) x (All-from_recursion P (e ∷ f ∷ []) (one, (two, tt))) has

-- the entry at the end of a front of a history
entry_at : (front more : List Entry) (e other : Entry) → get_or (front ++ e ∷ more) (length front) other ≡ e
entry_at [] more e other = refl
entry_at (x ∷ front) more e other = entry_at front more e other

-- what an entry that was entered is
module _ (old new : CoreState) (line : Line) where
  module _ (enters : Enters old new line.lane line.number old.last line.command) where
    own : IsOf line enters.entry
    own = record { lane = enters.of_line.0; number = enters.of_line.1; command = enters.of_line.2 }

    left : old.last ≡ GREATEST_ID → ⊥
    left is = (let below = enters.left in omega (arith, below, is))

    told_one : IfSome (told_boundary enters.entry.reply) (λ boundary. old.last ≤ boundary.0)
    told_one = IfSome_then (told_boundary enters.entry.reply) enters.told (λ boundary bounds. bounds.0)

    drawn_one : (old.last < enters.entry.id.0) × (enters.entry.id.0 ≤ new.last)
    drawn_one = (let id = enters.id.0 in let last = enters.id.1 in (omega (arith, id), omega (arith, id, last)))

    -- a line with one entry
    runs_one : (opens enters.entry ≡ false) ⊎ (new.last ≡ GREATEST_ID) → length new.running ≤ length old.running + 1
        → RunsLine old new line (enters.entry ∷ [])
    runs_one alone few = record {
      history = enters.history;
      entries = (own, alone);
      spent = λ is. absurd (left is);
      drawn = of_one _ enters.entry drawn_one;
      told = of_one _ enters.entry told_one;
      behind = λ some. enters.before;
      idle = λ none. absurd (cc);
      later = (let last = enters.id.1 in omega (arith, last));
      room = (let least = enters.spare in omega (arith, least, few));
    }

  -- it opened nothing
  module _ (ends : EndsAtOnce old new line.lane line.number old.last line.command) where
    runs_closed : RunsLine old new line (ends.enters.entry ∷ [])
    runs_closed = runs_one ends.enters (inl ends.closed) (let same = ap length ends.running in omega (arith, same))

    words_closed : printed_line (words_of (ends.enters.entry ∷ [])) ≡ printed_line (entry_words ends.enters.entry)
    words_closed = rw ends.closed refl

  -- it opened a call of housekeeping
  module _ (opening : ℕ) (job : OpensJob old new line.lane line.number old.last line.command opening) where
    running_more : length new.running ≡ length old.running + 1
    running_more = ap length job.running ∙ length-append old.running (job.job ∷ [])

    -- and no id was left for its ending
    runs_unended : new.last ≡ GREATEST_ID → RunsLine old new line (job.enters.entry ∷ [])
    runs_unended greatest = runs_one job.enters (inr greatest) (let more = running_more in omega (arith, more))

    words_unended : printed_line (words_of (job.enters.entry ∷ [])) ≡ unended_line job.enters.entry
    words_unended = rw job.accepted refl

-- it opened a call of housekeeping, and that ended
module _ (old mid new : CoreState) (line : Line) (opening : ℕ) (job : OpensJob old mid line.lane line.number old.last line.command opening)
    (ends : EntersEnding opening mid new) where
  same_job : ends.job ≡ job.job
  same_job = (let same : Some ends.job ≡ Some job.job = sym ends.found ∙ job.found in cc)

  history_two : new.history ≡ old.history ++ (job.enters.entry ∷ ends.enters.entry ∷ [])
  history_two = ends.enters.history ∙ ap (λ h. h ++ ends.enters.entry ∷ []) job.enters.history
      ∙ append_assoc old.history (job.enters.entry ∷ []) (ends.enters.entry ∷ [])

  ending_own : IsEndingOf line job.enters.entry ends.enters.entry
  ending_own = record {
    own = record {
      lane = ends.enters.of_line.0 ∙ ap (λ (p : OpenJob). p.lane) same_job ∙ job.own.1;
      number = ends.enters.of_line.1 ∙ ap (λ (p : OpenJob). p.line) same_job ∙ job.own.2;
    };
    command = ends.enters.of_line.2 ∙ ap (λ (n : ℕ). End (record { 0 = n })) (sym job.named);
  }

  runs_ended : RunsLine old new line (job.enters.entry ∷ ends.enters.entry ∷ [])
  runs_ended =
      let first = job.enters.id in
      let second = ends.enters.id in
      record {
        history = history_two;
        entries = (own old mid line job.enters, job.accepted, ending_own);
        spent = λ is. absurd (left old mid line job.enters is);
        drawn = of_two _ job.enters.entry ends.enters.entry
            (omega (arith, first.0), omega (arith, first.0, first.1, second.1))
            (omega (arith, first.1, second.0), omega (arith, second.0, second.1));
        told = of_two _ job.enters.entry ends.enters.entry (told_one old mid line job.enters)
            (IfSome_then (told_boundary ends.enters.entry.reply) ends.enters.told (λ boundary bounds.
            (let since = bounds.0 in omega (arith, since, first.1))));
        behind = λ some. ends.enters.before;
        idle = λ none. absurd (cc);
        later = omega (arith, first.1, second.1);
        room =
            (let least = job.enters.spare in let more = running_more old mid line opening job in let kept = ends.closes.room in
            omega (arith, least, more, kept));
      }

-- an entry that stands where one was entered is this one
found_there : (history more front : List Entry) (e found : Entry) (place : ℕ) → place ≡ length front → history ≡ front ++ e ∷ more
    → slice_get history place ≡ Some found → found ≡ e
found_there history more front e found place there is here =
    sym (get_or_from_slice_get (front ++ e ∷ more) (length front) found e
    (subst (λ (k : ℕ). slice_get (front ++ e ∷ more) k ≡ Some found) there (subst (λ (h : List Entry). slice_get h place ≡ Some found) is here)))
    ∙ entry_at front more e e

-- what is to be printed was printed or not
module _ (old new : CoreState) (line : Line) (more : List Entry) (runs : RunsLine old new line more) (text : List ℕ)
    (same : printed_line (words_of more) ≡ text) (r : Result (Unit {0}) RunStop) where
  serves_by : (held holds : Option (List ℕ)) → OnOk r (Gains held text holds) → OnOk r (ServesLine old new line held holds)
  serves_by held holds gained = by r gained where
    by : (r : Result (Unit {0}) RunStop) → OnOk r (Gains held text holds) → OnOk r (ServesLine old new line held holds)
    by (Ok done) gained = record { more = more; runs = runs; gained = rw same gained }
    by (Err stop) gained = tt

  stops_by : (held holds : Seen (List ℕ)) → IfErr r (StoppedPrinting text held holds) → IfErr r (StoppedServing old new line held holds)
  stops_by held holds printing = by r printing where
    by : (r : Result (Unit {0}) RunStop) → IfErr r (StoppedPrinting text held holds) → IfErr r (StoppedServing old new line held holds)
    by (Ok done) printing = tt
    by (Err stop) printing = record { more = more; runs = runs; printing = rw same printing }

-- a line that opened nothing
module _ (old new : CoreState) (line : Line) (place : ℕ) (calls : CallsLine old new line.lane line.number line.command (Closed place)) where
  module _ (e : Entry) (there : slice_get new.history place ≡ Some e) (r : Result (Unit {0}) RunStop) where
    closed_words : printed_line (words_of (calls.1.enters.entry ∷ [])) ≡ printed_line (entry_words e)
    closed_words = words_closed old new line calls.1 ∙ ap (λ (x : Entry). printed_line (entry_words x))
        (sym (found_there new.history [] old.history calls.1.enters.entry e place calls.0 calls.1.enters.history there))

    pub closed_printed : (held holds : Option (List ℕ)) → OnOk r (Gains held (printed_line (entry_words e)) holds)
        → OnOk r (ServesLine old new line held holds)
    closed_printed = serves_by old new line _ (runs_closed old new line calls.1) (printed_line (entry_words e)) closed_words r

    pub closed_stopped : (held holds : Seen (List ℕ)) → IfErr r (StoppedPrinting (printed_line (entry_words e)) held holds)
        → IfErr r (StoppedServing old new line held holds)
    closed_stopped = stops_by old new line _ (runs_closed old new line calls.1) (printed_line (entry_words e)) closed_words r

-- a line that opened a call of housekeeping
module _ (old mid new : CoreState) (line : Line) (place : ℕ) (ticket : Ticket)
    (calls : CallsLine old mid line.lane line.number line.command (Opened place ticket)) where
  -- which ended
  module _ (last : ℕ) (ended : EndsOrLacks ticket.opening.0 mid new (Some last)) where
    module _ (e f : Entry) (there : slice_get new.history place ≡ Some e) (last_there : slice_get new.history last ≡ Some f)
        (r : Result (Unit {0}) RunStop) where
      ended_words : printed_line (words_of (calls.1.enters.entry ∷ ended.1.enters.entry ∷ [])) ≡ ended_line e f
      ended_words =
          ap (λ (x : Entry). ended_line x ended.1.enters.entry) (sym (found_there new.history (ended.1.enters.entry ∷ []) old.history
          calls.1.enters.entry e place calls.0 (history_two old mid new line ticket.opening.0 calls.1 ended.1) there))
          ∙ ap (ended_line e) (sym (found_there new.history [] mid.history ended.1.enters.entry f last ended.0 ended.1.enters.history last_there))

      pub ended_printed : (held holds : Option (List ℕ)) → OnOk r (Gains held (ended_line e f) holds) → OnOk r (ServesLine old new line held holds)
      ended_printed = serves_by old new line _ (runs_ended old mid new line ticket.opening.0 calls.1 ended.1) (ended_line e f) ended_words r

      pub ended_stopped : (held holds : Seen (List ℕ)) → IfErr r (StoppedPrinting (ended_line e f) held holds)
          → IfErr r (StoppedServing old new line held holds)
      ended_stopped = stops_by old new line _ (runs_ended old mid new line ticket.opening.0 calls.1 ended.1) (ended_line e f) ended_words r

  -- or for whose ending no id was left
  module _ (lacks : EndsOrLacks ticket.opening.0 mid new None) where
    still : CallsLine old new line.lane line.number line.command (Opened place ticket)
    still = subst (λ (x : CoreState). CallsLine old x line.lane line.number line.command (Opened place ticket)) (sym lacks.1) calls

    module _ (e : Entry) (there : slice_get new.history place ≡ Some e) (r : Result (Unit {0}) RunStop) where
      greatest : new.last ≡ GREATEST_ID
      greatest = ap (λ (c : CoreState). c.last) lacks.1 ∙ lacks.0

      unended_words : printed_line (words_of (still.1.enters.entry ∷ [])) ≡ unended_line e
      unended_words = words_unended old new line ticket.opening.0 still.1 ∙ ap unended_line
          (sym (found_there new.history [] old.history still.1.enters.entry e place still.0 still.1.enters.history there))

      pub unended_printed : (held holds : Option (List ℕ)) → OnOk r (Gains held (unended_line e) holds) → OnOk r (ServesLine old new line held holds)
      unended_printed = serves_by old new line _ (runs_unended old new line ticket.opening.0 still.1 greatest) (unended_line e) unended_words r

      pub unended_stopped : (held holds : Seen (List ℕ)) → IfErr r (StoppedPrinting (unended_line e) held holds)
          → IfErr r (StoppedServing old new line held holds)
      unended_stopped = stops_by old new line _ (runs_unended old new line ticket.opening.0 still.1 greatest) (unended_line e) unended_words r
