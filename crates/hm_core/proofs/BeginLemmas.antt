-- A core begins with the empty history.
use Rattle.std.proofs.Common.{◌≡◌, ℕ, List, [], ◌∷◌, ◌++◌, refl}
use Rattle.hm_model.specs.After.{Event, opening_state}
use Rattle.hm_model.specs.Caused.{Counts}
use Rattle.hm_model.specs.Foreign.{Foreigners}
use Rattle.hm_model.specs.Volume.{Volume}
use Rattle.hm_stored.specs.Heap.{Heap}
use Rattle.hm_core.specs.Counts.{AreLater}
use Rattle.hm_core.specs.History.{IsLegalOver}
use Rattle.hm_core.specs.Open.{AreOpen}
use Rattle.hm_state.specs.Volume.{HoldsVolume}

-- no event is one of none
none_before : (before : List Event) (event : Event) (rest : List Event) → [] ≡ before ++ event ∷ rest → ⊥
none_before [] event rest is = cc
none_before (e ∷ es) event rest is = cc

none_open : (opening : Volume) (foreigners : Foreigners) → AreOpen [] (opening_state opening foreigners)
none_open opening foreigners = record { each = tt; idle = refl }

pub first : (free : ℕ) (start faults : Counts) (h : Heap) (root last : ℕ) (opening : Volume) (foreigners : Foreigners) → AreLater start faults
    → HoldsVolume h root last opening → IsLegalOver free start faults [] h root last [] opening foreigners []
first free start faults h root last opening foreigners counted holds = record {
  entries = refl;
  legal = λ before event rest is. absurd (none_before before event rest is);
  counted = counted;
  held = record { holds = holds; opened = none_open opening foreigners };
}
