-- What is known without trees agrees with the state.
use Rattle.std.proofs.Common.{◌≡◌, ℕ, ◌+◌, ◌<◌, ◌≤◌, zero, suc, true, false, List, [], ◌∷◌, ◌++◌, filter, map, get_or, refl, ◌∙◌, ap, sym, subst, inl}
use Rattle.std.proofs.Common.{inr, arith, eqb}
use Rattle.std.specs.Prelude.{◌⊎◌, Bool, Option, Some, None, find, if◌then◌else◌}
use Rattle.std.specs.List.{AllByRecursion}
use Rattle.hm_types.specs.declared.id.Id.{Id}
use Rattle.hm_model.specs.declared.command.Command.{Command}
use Rattle.hm_model.specs.declared.command.Command.TheVariants.{Prune, PruneAll, Reblock, PfsUpgrade, MirrorRead, MirrorWrite, MirrorCopy, End}
use Rattle.hm_model.specs.declared.entry.Entry.{Entry}
use Rattle.hm_model.specs.declared.reply.Reply.{Reply}
use Rattle.hm_model.specs.declared.reply.Reply.TheVariants.{Done, Listing, Content, Status, Target, Synced, MadePfs, PfsIs, Space, Finished, Passed, Cut, Busy}
use Rattle.hm_model.specs.After.{Event, OpenCall, State, accepted_effect, after_event, call_of, effect, ended, no_hash, on_volume, accepted_effect_of}
use Rattle.hm_model.specs.Call.{Call, own_id}
use Rattle.hm_model.specs.Caused.{IsFree, IsPossible, Known, early_refusal, is_ending, is_housekeeping, known_after_entry, known_busy, number_of}
use Rattle.hm_model.specs.Caused.{opens, still_open}
use Rattle.hm_model.specs.Change.{change}
use Rattle.hm_model.specs.Due.{Check, first_refusal, good_paths, is_pass, is_tree_call, no_future, no_future_begin, none_open, past_stays}
use Rattle.hm_model.specs.Sites.{Use, uses_of}
use Rattle.hm_model.specs.Reply.{is_refusal}
use Rattle.hm_model.proofs.RefusalLemmas.{not_ending}

-- the open calls, each with its opening id, as they are known
abbrev pub pairs : List OpenCall → List (ℕ × Command)
pairs opened = map (λ (o : OpenCall). (o.opening, o.command)) opened

-- what is known is what the state has
pub record Agrees (known : Known) (state : State) : Type 0 where
  pub last : known.last ≡ state.volume.last
  pub opened : known.opened ≡ pairs state.opened

-- a state has one open call more, or as many
abbrev pub OpensIf : Bool → State → Call → State → Type 0
OpensIf test state call after = pairs after.opened ≡ (if test then (own_id call, call.command) ∷ pairs state.opened else pairs state.opened)

accepted_opens : (state : State) (call : Call) (command : Command) →
    OpensIf (is_housekeeping command) state call (accepted_effect_of state call command)
accepted_opens state call (Prune path) = refl
accepted_opens state call (PruneAll path) = refl
accepted_opens state call (Reblock fill) = refl
accepted_opens state call (PfsUpgrade path) = refl
accepted_opens state call (MirrorRead path begin) = refl
accepted_opens state call (MirrorWrite path) = refl
accepted_opens state call (MirrorCopy master slave limit) = refl
accepted_opens state call other = tree (is_tree_call other)
  where
    tree : (test : Bool) → pairs (if test then on_volume state (change call) else state).opened ≡ pairs state.opened
    tree true = refl
    tree false = refl

call_opens : (state after : State) (call : Call) (test refused : Bool) → OpensIf test state call after →
    pairs (if refused then state else after).opened
    ≡ (if (if test then (if refused then false else true) else false) then (own_id call, call.command) ∷ pairs state.opened else pairs state.opened)
call_opens state after call true true opens = refl
call_opens state after call true false opens = opens
call_opens state after call false true opens = refl
call_opens state after call false false opens = opens

pairs-filter : (opening : ℕ) (os : List OpenCall) → filter (λ (o : ℕ × Command). if eqb o.0 opening then false else true) (pairs os) ≡ pairs
    (filter (λ (o : OpenCall). if eqb o.opening opening then false else true) os)
pairs-filter opening [] = refl
pairs-filter opening (o ∷ os) = by (if eqb o.opening opening then false else true) (pairs-filter opening os)
  where
    by : (test : Bool) → filter (λ (x : ℕ × Command). if eqb x.0 opening then false else true) (pairs os)
        ≡ pairs (filter (λ (x : OpenCall). if eqb x.opening opening then false else true) os) →
        (if test then (o.opening, o.command) ∷ filter (λ (x : ℕ × Command). if eqb x.0 opening then false else true) (pairs os)
        else filter (λ (x : ℕ × Command). if eqb x.0 opening then false else true) (pairs os))
        ≡ pairs (if test then o ∷ filter (λ (x : OpenCall). if eqb x.opening opening then false else true) os
        else filter (λ (x : OpenCall). if eqb x.opening opening then false else true) os)
    by true rest = ap (λ (xs : List (ℕ × Command)). (o.opening, o.command) ∷ xs) rest
    by false rest = rest

-- the opening that an ending names
pub opening_of : (call : Command) → is_ending call ≡ true → (opening : Id) × (call ≡ End opening)
opening_of (End opening) is = (opening, refl)
opening_of call is = absurd (cc)

-- what is known after an event agrees with the state after it
pub Agrees-event : (known : Known) (state : State) (event : Event) → Agrees known state → event.entry.id.0 ≡ known.last + 1 →
    Agrees (known_after_entry known event.entry) (after_event state event)
Agrees-event known state event agrees id = record { last = refl; opened = by (is_ending event.entry.call) refl }
  where
    call : Call
    call = call_of no_hash state event

    by : (test : Bool) → is_ending event.entry.call ≡ test → (known_after_entry known event.entry).opened ≡ pairs (after_event state event).opened
    by true is = let named = opening_of event.entry.call is in rw (named.1, agrees.opened) (pairs-filter named.0.0 state.opened)
    by false is =
        let e : Entry = event.entry in
        let stays : still_open e known.opened ≡ known.opened =
        not_ending (λ opening. filter (λ (o : ℕ × Command). if eqb o.0 opening.0 then false else true) known.opened) known.opened e.call is in
        let goes : effect state event ≡ (if is_refusal e.reply then state else accepted_effect state call) =
        not_ending (λ opening. ended state opening.0 e.reply) (if is_refusal e.reply then state else accepted_effect state call) e.call is in
        let own : e.id.0 ≡ own_id call = id ∙ ap (λ (n : ℕ). n + 1) agrees.last in
        ap (λ (xs : List (ℕ × Command)). if opens e then (e.id.0, e.call) ∷ known.opened else xs) stays
        ∙ (ap (λ (n : ℕ). if opens e then (n, e.call) ∷ known.opened else known.opened) own
        ∙ (ap (λ (xs : List (ℕ × Command)). if opens e then (own_id call, e.call) ∷ xs else xs) agrees.opened
        ∙ (sym (call_opens state (accepted_effect state call) call (is_housekeeping e.call) (is_refusal e.reply) (accepted_opens state call e.call))
        ∙ ap (λ (s : State). pairs s.opened) (sym goes))))

-- none of these calls is one of the four of which one at a time may be open
abbrev pub NoPass : List OpenCall → Type 0
NoPass os = AllByRecursion (λ (o : OpenCall). is_pass o.command ≡ false) os

-- at most one is
abbrev pub OnePass : List OpenCall → Type 0
OnePass [] = Unit {0}
OnePass (o ∷ os) = (is_pass o.command ≡ true → NoPass os) × OnePass os

-- where no pass is known to be open, none is
pub none_busy : (os : List OpenCall) → known_busy (pairs os) ≡ None → NoPass os
none_busy [] none = tt
none_busy (o ∷ os) none = by (is_pass o.command) refl (none_busy os)
  where
    by : (test : Bool) → is_pass o.command ≡ test → (known_busy (pairs os) ≡ None → NoPass os) → (is_pass o.command ≡ false) × NoPass os
    by true is rest = absurd (let some : Some o.opening ≡ None = rw is at none in cc)
    by false is rest = (is, rest (rw is at none))

-- calls that stay open
pub still : (opening : ℕ) (os : List OpenCall) → List OpenCall
still opening os = filter (λ (o : OpenCall). if eqb o.opening opening then false else true) os

pub All-still : (P : OpenCall → Type 0) (opening : ℕ) (os : List OpenCall) → AllByRecursion P os →
    AllByRecursion P (filter (λ (o : OpenCall). if eqb o.opening opening then false else true) os)
All-still P opening [] all = tt
All-still P opening (o ∷ os) all = by (eqb o.opening opening) (All-still P opening os all.1)
  where
    by : (test : Bool) → AllByRecursion P (filter (λ (x : OpenCall). if eqb x.opening opening then false else true) os) →
        AllByRecursion P (if (if test then false else true) then o ∷ filter (λ (x : OpenCall). if eqb x.opening opening then false else true) os
        else filter (λ (x : OpenCall). if eqb x.opening opening then false else true) os)
    by true rest = rest
    by false rest = (all.0, rest)

pub OnePass-still : (opening : ℕ) (os : List OpenCall) → OnePass os → OnePass (filter (λ (o : OpenCall). if eqb o.opening opening then false else true) os)
OnePass-still opening [] one = tt
OnePass-still opening (o ∷ os) one = by (eqb o.opening opening) (OnePass-still opening os one.1)
  where
    by : (test : Bool) → OnePass (filter (λ (x : OpenCall). if eqb x.opening opening then false else true) os) →
        OnePass (if (if test then false else true) then o ∷ filter (λ (x : OpenCall). if eqb x.opening opening then false else true) os
        else filter (λ (x : OpenCall). if eqb x.opening opening then false else true) os)
    by true rest = rest
    by false rest = (λ is. All-still (λ (x : OpenCall). is_pass x.command ≡ false) opening os (one.0 is), rest)

-- what is found among calls of which none is a pass is none
found_none : (test : OpenCall → Bool) (os : List OpenCall) (o : OpenCall) → NoPass os → find test os ≡ Some o → is_pass o.command ≡ false
found_none test [] o none found = absurd (cc)
found_none test (x ∷ xs) o none found = by (test x) refl (found_none test xs o none.1)
  where
    by : (here : Bool) → test x ≡ here → (find test xs ≡ Some o → is_pass o.command ≡ false) → is_pass o.command ≡ false
    by true is rest = let same : Some x ≡ Some o = rw is at found in let one : x ≡ o = cc in rw (← one) none.0
    by false is rest = rest (rw is at found)

-- with the one pass ended, none is open
pub none_still : (opening : ℕ) (os : List OpenCall) (o : OpenCall) → OnePass os → find (λ (x : OpenCall). eqb x.opening opening) os ≡ Some o →
    is_pass o.command ≡ true → NoPass (filter (λ (x : OpenCall). if eqb x.opening opening then false else true) os)
none_still opening [] o one found pass = tt
none_still opening (x ∷ xs) o one found pass = by (eqb x.opening opening) refl (none_still opening xs o one.1)
  where
    not_first : (test : Bool) → is_pass x.command ≡ test → find (λ (y : OpenCall). eqb y.opening opening) xs ≡ Some o → is_pass x.command ≡ false
    not_first true is later = absurd (let no : is_pass o.command ≡ false = found_none (λ (y : OpenCall). eqb y.opening opening) xs o (one.0 is) later in cc)
    not_first false is later = is

    by : (test : Bool) → eqb x.opening opening ≡ test →
        (find (λ (y : OpenCall). eqb y.opening opening) xs ≡ Some o → is_pass o.command ≡ true →
        NoPass (filter (λ (y : OpenCall). if eqb y.opening opening then false else true) xs)) →
        NoPass (filter (λ (y : OpenCall). if eqb y.opening opening then false else true) (x ∷ xs))
    by true is rest =
        let same : Some x ≡ Some o = rw is at found in
        let own : x ≡ o = cc in
        let first : is_pass x.command ≡ true = rw own pass in
        rw is (All-still (λ (y : OpenCall). is_pass y.command ≡ false) opening xs (one.0 first))
    by false is rest =
        let later : find (λ (y : OpenCall). eqb y.opening opening) xs ≡ Some o = rw is at found in
        rw is (not_first (is_pass x.command) refl later, rest later pass)

-- a free reply refuses
low : (n k : ℕ) → k < 3 → get_or (21 ∷ 22 ∷ 23 ∷ []) k n ≡ n → n ≤ 23
low n zero within is = omega (arith, is)
low n (suc zero) within is = omega (arith, is)
low n (suc (suc zero)) within is = omega (arith, is)
low n (suc (suc (suc k))) within is = absurd (omega (arith, within))

free_refuses : (reply : Reply) → number_of reply ≤ 23 → is_refusal reply ≡ true
free_refuses Done le = absurd (omega (arith, le))
free_refuses (Listing names) le = absurd (omega (arith, le))
free_refuses (Content bytes) le = absurd (omega (arith, le))
free_refuses (Status kind obj size links) le = absurd (omega (arith, le))
free_refuses (Target text) le = absurd (omega (arith, le))
free_refuses (Synced boundary) le = absurd (omega (arith, le))
free_refuses (MadePfs number) le = absurd (omega (arith, le))
free_refuses (PfsIs master number shared intervals sync_end) le = absurd (omega (arith, le))
free_refuses (Space pool free) le = absurd (omega (arith, le))
free_refuses Finished le = absurd (omega (arith, le))
free_refuses (Passed begin end) le = absurd (omega (arith, le))
free_refuses (Cut items) le = absurd (omega (arith, le))
free_refuses reply le = refl

busy_first : (busy : Option ℕ) (command : Command) (opening : ℕ) (rest : List Check) → is_pass command ≡ true → busy ≡ Some opening →
    first_refusal (none_open busy command ∷ rest) ≡ Some (Busy (record { 0 = opening }))
busy_first busy command opening rest pass is = rw (pass, is) refl

-- a pass is accepted only where no other is known to be open
pub accepted_alone : (known : Known) (event : Event) (numbers : List ℕ) → IsPossible (early_refusal known event) numbers event.entry.reply →
    is_refusal event.entry.reply ≡ false → is_pass event.entry.call ≡ true → known_busy known.opened ≡ None
accepted_alone known event numbers early accepted pass = by (known_busy known.opened) refl
  where
    by : (found : Option ℕ) → known_busy known.opened ≡ found → known_busy known.opened ≡ None
    by None is = is
    by (Some opening) is =
        let uses : List (Use × List ℕ) = uses_of event.entry.call in
        let rest : List Check =
        good_paths uses event.paths ++ map (no_future known.last) event.paths ++ no_future_begin known.last event.entry.call
        ∷ past_stays event.entry.call event.paths ∷ [] in
        let first : early_refusal known event ≡ Some (Busy (record { 0 = opening })) =
        busy_first (known_busy known.opened) event.entry.call opening rest pass is in
        let either : (event.entry.reply ≡ Busy (record { 0 = opening })) ⊎ IsFree event.entry.reply =
        subst (λ (check : Check). IsPossible check numbers event.entry.reply) first early in
        let refused : is_refusal event.entry.reply ≡ true = elim either [
          | inl busy ↦ ap is_refusal busy
          | inr free ↦ free_refuses event.entry.reply (low (number_of event.entry.reply) free.0 free.1 free.2)
        ] in
        absurd (cc)
