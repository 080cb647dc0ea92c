-- A history that is legal step by step, as it can be computed: what each event finds is carried along.
use Rattle.std.proofs.Common.{◌≡◌, ℕ, zero, suc, ◌+◌, ◌<◌, ◌≤◌, true, false, List, [], ◌∷◌, ◌++◌, map, refl, ◌∙◌, sym, subst, inl, arith, append_assoc}
use Rattle.std.proofs.lemmas.List.{append-nil}
use Rattle.std.specs.Prelude.{Bool, ◌&&◌, ◌==◌, Some, None, if◌then◌else◌}
use Rattle.std.specs.Bool.{nat_le}
use Rattle.std.specs.List.{Contains, list_any}
use Rattle.std.proofs.lemmas.Bool.Decides.{nat_tests}
use Rattle.std.proofs.lemmas.Map.Views.{Contains-from_any}
use Rattle.hm_types.specs.declared.limits.TheConstants.{GREATEST_ID}
use Rattle.hm_model.specs.declared.entry.Entry.{Entry}
use Rattle.hm_model.specs.declared.reply.Reply.{Reply}
use Rattle.hm_model.specs.After.{Event, OpenCall, State, after_event, after_events, call_of, opened_with, opening_state}
use Rattle.hm_model.specs.Call.{Call, all_located}
use Rattle.hm_model.specs.Caused.{Counts, HasCause, HasNumbers, IsPossible, Known, early_refusal, known_after, known_after_entry, known_at, number_of}
use Rattle.hm_model.specs.Caused.{possible_for, takes_stream}
use Rattle.hm_model.specs.Due.{Check, first_refusal, intervals_left, record_checks, slaves_stay, walks}
use Rattle.hm_types.specs.Hash.{name_hash}
use Rattle.hm_model.specs.Legal.{HasFeed, IsEnding, IsLegal, IsReply, IsUndamaged, Lands, NamesAdded, Setting, enters_unclear, entries_of, state_after}
use Rattle.hm_model.specs.Needs.{floor}
use Rattle.hm_model.specs.Command.{named_opening}
use Rattle.hm_model.specs.Reply.{is_refusal}
use Rattle.hm_model.specs.Sites.{ReadsWords}

-- the reply of an event on a state
abbrev pub IsAllowedOn : ℕ → State → Event → Type 0
IsAllowedOn least state event = elim (named_opening event.entry.call) [
  | Some opening ↦ (o : OpenCall) × (opened_with opening.0 state.opened ≡ Some o)
      × IsEnding least state.volume o event.entry.id.0 event.entry.reply
  | None ↦ IsReply least (call_of name_hash state event) event.entry.reply
]

-- an event may follow where the run came to this
pub record CanFollow (now : Counts) (least : ℕ) (known : Known) (state : State) (event : Event) : Type 0 where
  pub caused : HasCause now known event
  pub allowed : enters_unclear (call_of name_hash state event) ≡ false → IsAllowedOn least state event
  pub lands : is_refusal event.entry.reply ≡ false → Lands (call_of name_hash state event) event.entry.reply
  pub fed : takes_stream event.entry ≡ true → HasFeed state
  pub undamaged : IsUndamaged event.entry.reply

-- each of these events may, after the entries before them
abbrev pub AllFollow : Counts → ℕ → List Entry → Known → State → List Event → Type 0
AllFollow now free done known state [] = Unit {0}
AllFollow now free done known state (e ∷ es) =
    CanFollow now (floor free done) known state e
    × AllFollow now free (done ++ e.entry ∷ []) (known_after_entry known e.entry) (after_event state e) es

-- so each finds what it needs
follows_at : (now : Counts) (free : ℕ) (done : List Entry) (known : Known) (state : State) (before : List Event) (event : Event) (rest : List Event) →
    AllFollow now free done known state (before ++ event ∷ rest) →
    CanFollow now (floor free (done ++ entries_of before)) (known_after known before) (after_events state before) event
follows_at now free done known state [] event rest all = rw append-nil all.0
follows_at now free done known state (b ∷ bs) event rest all =
    let later : CanFollow now (floor free ((done ++ b.entry ∷ []) ++ entries_of bs)) (known_after (known_after_entry known b.entry) bs)
    (after_events (after_event state b) bs) event =
    follows_at now free (done ++ b.entry ∷ []) (known_after_entry known b.entry) (after_event state b) bs event rest all.1 in
    rw append_assoc at later

pub IsLegal-steps : (run : Setting) (events : List Event) →
    AllFollow run.now run.free [] (known_at run.opening.last run.start) (opening_state run.opening run.foreigners) events → IsLegal run events
IsLegal-steps run events all before event rest is =
    let whole : AllFollow run.now run.free [] (known_at run.opening.last run.start) (opening_state run.opening run.foreigners) (before ++ event ∷ rest) =
    rw is at all in
    let step : CanFollow run.now (floor run.free (entries_of before)) (known_after (known_at run.opening.last run.start) before) (state_after run before)
    event =
    follows_at run.now run.free [] (known_at run.opening.last run.start) (opening_state run.opening run.foreigners) before event rest whole in
    record { caused = step.caused; allowed = step.allowed; lands = step.lands; fed = step.fed; undamaged = step.undamaged }

-- whether no check fails
abbrev pub passes : Check → Bool
passes None = true
passes (Some refusal) = false

passes_none : (check : Check) → passes check ≡ true → check ≡ None
passes_none None is = refl
passes_none (Some refusal) is = absurd (cc)

-- whether an accepted entry lands, but for the PFS that its reply names
abbrev pub lands_well : Call → Bool
lands_well call =
    passes (first_refusal (map walks (all_located call))) && (passes (slaves_stay call)
    && (passes (first_refusal (record_checks call)) && passes (intervals_left call)))

-- whether an event may follow, as far as that is told by tests: its id is not too great, no early check fails,
-- its reply is possible, and where it is accepted it lands
abbrev pub is_in_order : Known → State → Event → Bool
is_in_order known state event =
    nat_le event.entry.id.0 GREATEST_ID && (passes (early_refusal known event)
    && (list_any (λ n. number_of event.entry.reply == n) (possible_for known event)
    && (if is_refusal event.entry.reply then true else lands_well (call_of name_hash state event))))

both_true : (a b : Bool) → (a && b) ≡ true → (a ≡ true) × (b ≡ true)
both_true true b is = (refl, is)
both_true false b is = absurd (cc)

same_number : (a b : ℕ) → (a == b) ≡ true → a ≡ b
same_number a b is = grind (arith, nat_tests, is)

lands_so : (call : Call) (reply : Reply) → lands_well call ≡ true → NamesAdded call reply → Lands call reply
lands_so call reply well named =
    let a =
    both_true (passes (first_refusal (map walks (all_located call))))
    (passes (slaves_stay call) && (passes (first_refusal (record_checks call)) && passes (intervals_left call))) well in
    let b = both_true (passes (slaves_stay call)) (passes (first_refusal (record_checks call)) && passes (intervals_left call)) a.1 in
    let c = both_true (passes (first_refusal (record_checks call))) (passes (intervals_left call)) b.1 in
    record {
      ends = passes_none (first_refusal (map walks (all_located call))) a.0;
      in_master = passes_none (slaves_stay call) b.0;
      records = passes_none (first_refusal (record_checks call)) c.0;
      fits = passes_none (intervals_left call) c.1;
      named = named;
    }

-- An event may follow where the tests say so, its path words are read so, its reply is allowed, and its numbers
-- have their causes.
pub by_tests : (now : Counts) (least : ℕ) (known : Known) (state : State) (event : Event) → event.entry.id.0 ≡ known.last + 1 →
    is_in_order known state event ≡ true → ReadsWords event.entry.call event.paths → HasNumbers now known event.entry →
    IsAllowedOn least state event → NamesAdded (call_of name_hash state event) event.entry.reply → (takes_stream event.entry ≡ true → HasFeed state) →
    IsUndamaged event.entry.reply → CanFollow now least known state event
by_tests now least known state event id order read numbers allowed named fed undamaged =
    let call : Call = call_of name_hash state event in
    let landing : Bool = if is_refusal event.entry.reply then true else lands_well call in
    let a =
    both_true (nat_le event.entry.id.0 GREATEST_ID)
    (passes (early_refusal known event) && (list_any (λ n. number_of event.entry.reply == n) (possible_for known event) && landing)) order in
    let b = both_true (passes (early_refusal known event)) (list_any (λ n. number_of event.entry.reply == n) (possible_for known event) && landing) a.1 in
    let c = both_true (list_any (λ n. number_of event.entry.reply == n) (possible_for known event)) landing b.1 in
    let drawn : event.entry.id.0 ≤ GREATEST_ID = grind (arith, nat_tests, a.0) in
    let among : Contains (possible_for known event) (number_of event.entry.reply) =
    Contains-from_any same_number (number_of event.entry.reply) (possible_for known event) c.0 in
    let possible : IsPossible (early_refusal known event) (possible_for known event) event.entry.reply =
    subst (λ (check : Check). IsPossible check (possible_for known event) event.entry.reply) (sym (passes_none (early_refusal known event) b.0)) among in
    record {
      caused = record { id = id; drawn = drawn; read = read; possible = possible; numbers = numbers };
      allowed = λ clear. allowed;
      lands = λ accepted. lands_so call event.entry.reply (rw accepted at c.1) named;
      fed = fed;
      undamaged = undamaged;
    }

-- an event whose call an early check refuses
pub early_step : (now : Counts) (least : ℕ) (known : Known) (state : State) (event : Event) → event.entry.id.0 ≡ known.last + 1 →
    nat_le event.entry.id.0 GREATEST_ID ≡ true → early_refusal known event ≡ Some event.entry.reply → is_refusal event.entry.reply ≡ true →
    takes_stream event.entry ≡ false → ReadsWords event.entry.call event.paths → HasNumbers now known event.entry → IsAllowedOn least state event →
    IsUndamaged event.entry.reply → CanFollow now least known state event
early_step now least known state event id order early refused takes read numbers allowed undamaged =
    let drawn : event.entry.id.0 ≤ GREATEST_ID = grind (arith, nat_tests, order) in
    let possible : IsPossible (early_refusal known event) (possible_for known event) event.entry.reply =
    subst (λ (check : Check). IsPossible check (possible_for known event) event.entry.reply) (sym early) (inl refl) in
    record {
      caused = record { id = id; drawn = drawn; read = read; possible = possible; numbers = numbers };
      allowed = λ clear. allowed;
      lands = λ accepted. absurd (cc);
      fed = λ is. absurd (cc);
      undamaged = undamaged;
    }
