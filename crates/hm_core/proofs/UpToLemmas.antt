-- The events of a history up to an id, once a call more was entered.
use Rattle.std.proofs.Common.{◌≡◌, ℕ, ◌+◌, ◌<◌, ◌≤◌, false, true, if◌then◌else◌}
use Rattle.std.proofs.Common.{List, [], ◌∷◌, ◌++◌, refl, sym, ap, subst, ◌∙◌, arith}
use Rattle.std.specs.Bool.{nat_le}
use Rattle.std.proofs.lemmas.Bool.Decides.{nat_tests}
use Rattle.std.proofs.lemmas.List.{append_cancel_left, map-append}
use Rattle.std.proofs.lemmas.List.Elements.{Contains-append_left, Contains-append_right}
use Rattle.hm_model.specs.After.{Event}
use Rattle.hm_model.specs.Legal.{entries_of}
use Rattle.hm_model.specs.declared.entry.Entry.{Entry}
use Rattle.hm_core.specs.History.{up_to}
use Rattle.hm_core.specs.Inside.{AreDrawnBy}

-- where a history gained one entry, it gained one event
pub more_drawn : (history : List Entry) (events more : List Event) (entry : Entry) → entries_of events ≡ history
    → entries_of (events ++ more) ≡ history ++ entry ∷ [] → entries_of more ≡ entry ∷ []
more_drawn history events more entry is is_more =
    append_cancel_left history (entries_of more) (entry ∷ [])
    (ap (λ (list : List Entry). list ++ entries_of more) (sym is) ∙ sym (map-append (λ (e : Event). e.entry) events more) ∙ is_more)

-- an event past an id ends the events up to it
up_to_stops : (id : ℕ) (event : Event) (events : List Event) → id < event.entry.id.0 → up_to id (event ∷ events) ≡ []
unfolding up_to
up_to_stops id event events past = (let no : nat_le event.entry.id.0 id ≡ false = grind (arith, nat_tests, past) in rw no refl)

up_to_goes_on : (id : ℕ) (event : Event) (events : List Event) → event.entry.id.0 ≤ id → up_to id (event ∷ events) ≡ event ∷ up_to id events
unfolding up_to
up_to_goes_on id event events within = (let yes : nat_le event.entry.id.0 id ≡ true = grind (arith, nat_tests, within) in rw yes refl)

-- the one event that was gained is past each id before it
up_to_none : (id : ℕ) (more : List Event) (entry : Entry) → entries_of more ≡ entry ∷ [] → id < entry.id.0 → up_to id more ≡ []
up_to_none id [] entry is past = absurd (cc)
up_to_none id (event ∷ events) entry is past =
    let same : event.entry ≡ entry = cc in
    up_to_stops id event events (subst (λ (e : Entry). id < e.id.0) (sym same) past)

up_to_front : (id : ℕ) (events more : List Event) → up_to id more ≡ [] → up_to id (events ++ more) ≡ up_to id events
unfolding up_to
up_to_front id [] more none = none
up_to_front id (event ∷ events) more none =
    ap (λ (es : List Event). if nat_le event.entry.id.0 id then event ∷ es else []) (up_to_front id events more none)

-- so the events up to such an id are the same
pub up_to_stays : (last id : ℕ) (events more : List Event) (entry : Entry) → entries_of more ≡ entry ∷ [] → entry.id.0 ≡ last + 1 → id ≤ last
    → up_to id (events ++ more) ≡ up_to id events
up_to_stays last id events more entry is own before =
    up_to_front id events more (up_to_none id more entry is (omega (arith, own, before)))

-- up to the last id they are all
pub up_to_all : (last : ℕ) (history : List Entry) (events : List Event) → entries_of events ≡ history → AreDrawnBy last history
    → up_to last events ≡ events
unfolding up_to
up_to_all last history events is drawn = by events (subst (λ (list : List Entry). AreDrawnBy last list) (sym is) drawn) where
  by : (events : List Event) → AreDrawnBy last (entries_of events) → up_to last events ≡ events
  by [] drawn = refl
  by (event ∷ events) drawn =
      up_to_goes_on last event events (drawn event.entry (Contains-append_left (event.entry ∷ []) (entries_of events) event.entry (0, omega arith, refl)))
      ∙ ap (λ (es : List Event). event ∷ es)
      (by events (λ e has. drawn e (Contains-append_right (event.entry ∷ []) (entries_of events) e has)))
