-- The greatest boundary that a history told.
use Rattle.std.proofs.Common.{◌≡◌, ℕ, ◌≤◌, List, [], ◌∷◌, refl, sym, subst, arith}
use Rattle.std.proofs.lemmas.List.Elements.{Contains-append_left, Contains-append_right}
use Rattle.hm_model.specs.After.{Event}
use Rattle.hm_model.specs.Caused.{Counts, Known, boundary_in, known_after, known_after_entry, known_at}
use Rattle.hm_model.specs.Legal.{entries_of}
use Rattle.hm_model.specs.declared.entry.Entry.{Entry}
use Rattle.hm_core.specs.Inside.{AreUpTo}

told_up_to : (boundary : ℕ) (known : Known) (events : List Event) → known.boundary ≤ boundary → AreUpTo boundary (entries_of events)
    → (known_after known events).boundary ≤ boundary
told_up_to boundary known [] begun told = begun
told_up_to boundary known (event ∷ events) begun told =
    let here : boundary_in event.entry.reply ≤ boundary =
    told event.entry (Contains-append_left (event.entry ∷ []) (entries_of events) event.entry (0, omega arith, refl)) in
    told_up_to boundary (known_after_entry known event.entry) events (omega (arith, begun, here))
    (λ e has. told e (Contains-append_right (event.entry ∷ []) (entries_of events) e has))

-- where each one that was told is at most this, so is what is known of it after the history
pub boundary_known : (first boundary : ℕ) (start : Counts) (history : List Entry) (events : List Event) → entries_of events ≡ history
    → AreUpTo boundary history → (known_after (known_at first start) events).boundary ≤ boundary
boundary_known first boundary start history events is told =
    told_up_to boundary (known_at first start) events (omega arith) (subst (λ (list : List Entry). AreUpTo boundary list) (sym is) told)
