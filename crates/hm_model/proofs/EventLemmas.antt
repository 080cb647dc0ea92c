-- Histories of events that go on, and their ids.
use Rattle.std.proofs.Common.{◌≡◌, ℕ, zero, suc, ◌+◌, ◌<◌, List, [], ◌∷◌, ◌++◌, length, get_or, refl, ◌∙◌, ap, inl, inr, arith, add-one, append_assoc}
use Rattle.hm_model.specs.After.{Event, State, after_event, after_events}
use Rattle.hm_model.specs.Caused.{Known, known_after, known_after_entry, known_at}
use Rattle.hm_model.specs.History.{IsHistory, ids_of}
use Rattle.hm_model.specs.Legal.{IsLegal, MayFollow, Setting, entries_of}
use Rattle.hm_model.proofs.HistoryLemmas.{last_or_before}

-- the state after one more event is one step on
pub after_events-push : (state : State) (events : List Event) (event : Event) →
    after_events state (events ++ event ∷ []) ≡ after_event (after_events state events) event
after_events-push state [] event = refl
after_events-push state (e ∷ es) event = after_events-push (after_event state e) es event

-- what is known after one more event is one step on
pub known_after-push : (known : Known) (events : List Event) (event : Event) →
    known_after known (events ++ event ∷ []) ≡ known_after_entry (known_after known events) event.entry
known_after-push known [] event = refl
known_after-push known (e ∷ es) event = known_after-push (known_after_entry known e.entry) es event

-- a beginning of a legal history is legal
pub IsLegal-beginning : (run : Setting) (events rest : List Event) → IsLegal run (events ++ rest) → IsLegal run events
IsLegal-beginning run events rest legal before event more is =
    legal before event (more ++ rest) (ap (λ es. es ++ rest) is ∙ append_assoc before (event ∷ more) rest)

-- a legal history goes on by an event that may follow it
pub IsLegal-goes_on : (run : Setting) (events : List Event) (event : Event) → IsLegal run events → MayFollow run events event →
    IsLegal run (events ++ event ∷ [])
IsLegal-goes_on run events event legal follows before e rest is =
    elim (last_or_before events event before e rest is) [
      | inl both ↦ let P : List Event → Event → Type 0 = MayFollow run in rw (← both.0, ← both.1) follows
      | inr more ↦ legal before e more.0 more.1
    ]

-- the last event of a legal history may follow those before it
pub MayFollow-last : (run : Setting) (events : List Event) (event : Event) → IsLegal run (events ++ event ∷ []) → MayFollow run events event
MayFollow-last run events event legal = legal events event [] refl

-- the ids of events, one after another
abbrev pub IdsFollow : Known → List Event → Type 0
IdsFollow known [] = Unit {0}
IdsFollow known (e ∷ es) = (e.entry.id.0 ≡ known.last + 1) × IdsFollow (known_after_entry known e.entry) es

pub ids_follow : (run : Setting) (before es : List Event) → IsLegal run (before ++ es) → IdsFollow (known_after (known_at run.opening.last run.start) before) es
ids_follow run before [] legal = tt
ids_follow run before (e ∷ es) legal = (
  (legal before e es refl).caused.id,
  let again : IsLegal run ((before ++ e ∷ []) ++ es) = rw (append_assoc before (e ∷ []) es) legal in
      rw (known_after-push (known_at run.opening.last run.start) before e) at (ids_follow run (before ++ e ∷ []) es again),
)

-- each id is above the one before
rise : (known : Known) (events : List Event) (k : ℕ) → IdsFollow known events → suc k < length (ids_of (entries_of events)) →
    get_or (ids_of (entries_of events)) k 0 < get_or (ids_of (entries_of events)) (suc k) 0
rise known [] k follow within = absurd (omega arith)
rise known (e ∷ []) k follow within = absurd (omega arith)
rise known (e ∷ f ∷ es) zero follow within = omega (arith, follow.1.0)
rise known (e ∷ f ∷ es) (suc k) follow within = rise (known_after_entry known e.entry) (f ∷ es) k follow.1 (omega arith)

-- the ids rise
pub IsHistory-events : (run : Setting) (events : List Event) → IsLegal run events → IsHistory (entries_of events)
IsHistory-events run events legal k within = rw add-one (rise (known_at run.opening.last run.start) events k (ids_follow run [] events legal) (omega arith))
