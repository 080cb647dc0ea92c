-- A call over a space, as the next one of a history: it was served by a store, or it failed.
use Rattle.std.specs.Prelude.{◌≡◌, ℕ, ◌+◌, ◌<◌, ◌≤◌, List, Option}
use Rattle.hm_types.specs.declared.limits.TheConstants.{GREATEST_ID}
use Rattle.hm_key.specs.Extents.{Extent}
use Rattle.hm_key.specs.declared.element.Element.{Element}
use Rattle.hm_model.specs.declared.entry.Entry.{Entry}
use Rattle.hm_calls.specs.Answered.{IsAnswerable, reply_in}
use Rattle.hm_calls.specs.declared.answered.Answered.{Answered}
use Rattle.hm_stored.specs.Heap.{Heap}
use Rattle.hm_step.specs.Next.{IsStep}
use Rattle.hm_core.specs.Told.{HoldsSame, HoldsTold, TellsFailure, TellsHeld, told_beside}

-- an entry is that of a call which a store serves, by the id after the last one
pub record IsNextCall (last : ℕ) (entry : Entry) : Type 0 where
  pub served : IsAnswerable entry.call
  pub left : last < GREATEST_ID
  pub own : entry.id.0 ≡ last + 1

-- A store served a call over a space, while no mirror or upgrade call was open: it told what the space held, the answer is
-- its step, and the space that came of it holds what it tells now. It found no fewer free big-blocks than the least.
pub record Serves {S : Type 0} (elements_of : S → Option (List Element)) (extents_of : S → Option (List Extent)) (free_of : S → ℕ)
    (least numbers last : ℕ) (entry : Entry) (answered : Answered) (old new : S) (h h' : Heap) (root root' : ℕ) : Type 0 where
  pub told : TellsHeld (elements_of old) (extents_of old) h root
  pub found : least ≤ free_of old
  pub reply_is : entry.reply ≡ reply_in answered
  pub step : IsStep elements_of extents_of free_of (record { command = entry.call; last = last; beside = told_beside numbers }) old new answered
  pub holds : HoldsTold (elements_of new) (extents_of new) h' root'
  pub size : h'.bigblocks ≡ h.bigblocks

-- A call failed, over which the count of faults went from one to another, and the space that came of it holds all that the
-- one before held.
pub record Fails (old new : ℕ) (entry : Entry) (h h' : Heap) (root root' : ℕ) : Type 0 where
  pub told : TellsFailure old new entry.reply
  pub holds : HoldsSame h root h' root'
  pub size : h'.bigblocks ≡ h.bigblocks
