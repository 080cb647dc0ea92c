-- The cause of each reply of a core's history, whatever its disk holds.
use Rattle.std.specs.Prelude.{◌≡◌, ℕ, List}
use Rattle.hm_model.specs.After.{Event}
use Rattle.hm_model.specs.Caused.{AreCaused, Counts, known_after, known_at}
use Rattle.hm_model.specs.Legal.{entries_of}
use Rattle.hm_model.specs.declared.entry.Entry.{Entry}
use Rattle.hm_core.specs.Counts.{AreLater}
use Rattle.hm_core.specs.Open.{AreKnownOpen}
use Rattle.hm_core.specs.State.{OpenJob}

-- Each entry of a history has its cause, with this last id and these counts of faults before it, and no more faults told
-- than are counted now. It leaves the last id.
pub record IsCausedFrom (first : ℕ) (start now : Counts) (last : ℕ) (history : List Entry) : Type 0 where
  pub events : List Event
  pub entries : entries_of events ≡ history
  pub caused : AreCaused first start now events
  pub counted : AreLater (known_after (known_at first start) events).counts now
  pub last_is : (known_after (known_at first start) events).last ≡ last

-- The same, and these calls are known to be open after it.
pub record IsCausedWith (first : ℕ) (start now : Counts) (last : ℕ) (running : List OpenJob) (history : List Entry) : Type 0 where
  pub causes : IsCausedFrom first start now last history
  pub opened : AreKnownOpen (known_after (known_at first start) causes.events) running
