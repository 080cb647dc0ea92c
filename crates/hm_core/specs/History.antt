-- A history over the volume on which it began, and the space that has come of it.
use Rattle.std.specs.Prelude.{◌≡◌, ℕ, List, [], ◌∷◌, ◌++◌, nat_le, if◌then◌else◌}
use Rattle.hm_model.specs.After.{Event, State, after}
use Rattle.hm_model.specs.Caused.{Counts, known_after, known_at}
use Rattle.hm_model.specs.Foreign.{Foreigners}
use Rattle.hm_model.specs.Legal.{IsLegal, Setting, entries_of, state_after}
use Rattle.hm_model.specs.Volume.{Volume}
use Rattle.hm_model.specs.declared.entry.Entry.{Entry}
use Rattle.hm_stored.specs.Heap.{Heap}
use Rattle.hm_state.specs.Volume.{HoldsVolume}
use Rattle.hm_core.specs.Counts.{AreLater}
use Rattle.hm_core.specs.Open.{AreOpen}
use Rattle.hm_core.specs.State.{OpenJob}

-- What a run of a core began with, over an opening volume: so many free big-blocks, and so many faults of its devices; and
-- how many these are now.
abbrev pub setting_of : ℕ → Counts → Counts → Volume → Foreigners → Setting
setting_of free start now opening foreigners = record {
  opening = opening;
  foreigners = foreigners;
  free = free;
  start = start;
  now = now;
}

-- a space holds the volume of a state, in which these calls are open
pub record HoldsState (h : Heap) (root last : ℕ) (running : List OpenJob) (state : State) : Type 0 where
  pub holds : HoldsVolume h root last state.volume
  pub opened : AreOpen running state

-- the volume that an opening one has become by these events
abbrev pub volume_of : Volume → Foreigners → List Event → Volume
volume_of opening foreigners events = (after opening foreigners events).volume

-- the events of a history up to this id
unfoldable pub up_to : ℕ → List Event → List Event
up_to id [] = []
up_to id (event ∷ events) = if nat_le event.entry.id.0 id then event ∷ up_to id events else []

-- The entries of a history are those of these events, which are legal over an opening volume, with no more faults told than
-- were counted, and a space holds the state after them, in which these calls are open. The events say which
-- trees each entry saw of a pseudo file system whose trees are not certain.
pub record IsLegalOver (free : ℕ) (start now : Counts) (history : List Entry) (h : Heap) (root last : ℕ) (running : List OpenJob)
    (opening : Volume) (foreigners : Foreigners) (events : List Event) : Type 0 where
  pub entries : entries_of events ≡ history
  pub legal : IsLegal (setting_of free start now opening foreigners) events
  pub counted : AreLater (known_after (known_at opening.last start) events).counts now
  pub held : HoldsState h root last running (state_after (setting_of free start now opening foreigners) events)

-- the same over these events and more: what each entry before them saw stays
abbrev pub IsLegalBeyond : ℕ → Counts → Counts → List Entry → Heap → ℕ → ℕ → List OpenJob → Volume → Foreigners → List Event → Type 0
IsLegalBeyond free start now history h root last running opening foreigners events =
    (more : List Event) × IsLegalOver free start now history h root last running opening foreigners (events ++ more)
