-- The events of a history up to an id.
use Rattle.std.proofs.Common.{◌≡◌, ℕ, ◌+◌, ◌≤◌, true, List, [], ◌∷◌, ◌++◌, refl, ap, inl, inr, arith}
use Rattle.std.specs.Bool.{nat_le}
use Rattle.std.proofs.lemmas.Bool.Decides.{nat_tests}
use Rattle.hm_retain.proofs.SetLemmas.{less_or_not}
use Rattle.hm_model.specs.After.{Event}
use Rattle.hm_model.specs.Caused.{Known, known_after_entry, known_at}
use Rattle.hm_model.specs.Laws.{events_to}
use Rattle.hm_model.specs.Legal.{IsLegal, Setting}
use Rattle.hm_model.proofs.EventLemmas.{IdsFollow, IsLegal-beginning, ids_follow}
use Rattle.hm_model.proofs.MasterLemmas.{none_to}

-- they are its beginning
begin_to : (known : Known) (es : List Event) (id : ℕ) → IdsFollow known es → (later : List Event) × (es ≡ events_to id es ++ later)
begin_to known [] id follow = ([], refl)
begin_to known (e ∷ es) id follow = elim (less_or_not id e.entry.id.0) [
  | inl less ↦
      let none : events_to id (e ∷ es) ≡ [] = none_to known (e ∷ es) id follow (omega (arith, follow.0, less)) in
      (e ∷ es, rw none refl)
  | inr from ↦
      let yes : nat_le e.entry.id.0 id ≡ true = grind (arith, nat_tests, from) in
      let rest = begin_to (known_after_entry known e.entry) es id follow.1 in
      (rest.0, rw yes (ap (λ (xs : List Event). e ∷ xs) rest.1))
]

pub events_to-begins : (run : Setting) (events : List Event) (id : ℕ) → IsLegal run events → (later : List Event) × (events ≡ events_to id events ++ later)
events_to-begins run events id legal = begin_to (known_at run.opening.last run.start) events id (ids_follow run [] events legal)

pub IsLegal-events_to : (run : Setting) (events : List Event) (id : ℕ) → IsLegal run events → IsLegal run (events_to id events)
IsLegal-events_to run events id legal =
    let begins = events_to-begins run events id legal in
    IsLegal-beginning run (events_to id events) begins.0 (rw begins.1 at legal)
