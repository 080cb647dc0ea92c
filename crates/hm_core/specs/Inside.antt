-- What always holds of a core's fields.
use Rattle.std.specs.Prelude.{◌≢◌, ℕ, ◌≤◌, IsFalse, List, length}
use Rattle.std.specs.List.{Contains, list_any}
use Rattle.hm_types.specs.declared.limits.TheConstants.{GREATEST_ID}
use Rattle.hm_flush.specs.declared.flush.Flush.{Flush}
use Rattle.hm_flush.specs.declared.flush.Position.TheVariants.{Idle}
use Rattle.hm_model.specs.Caused.{boundary_in}
use Rattle.hm_model.specs.Needs.{moved_space}
use Rattle.hm_model.specs.declared.entry.Entry.{Entry}
use Rattle.hm_stored.specs.Heap.{Heap, free_of, room_of}
use Rattle.hm_stored.specs.Flushed.{IsFlushedBy}
use Rattle.hm_core.specs.Ledger.{IsPaid}

-- each boundary that a reply of a history told is at most this one
abbrev pub AreUpTo : ℕ → List Entry → Type 0
AreUpTo boundary history = (e : Entry) → Contains history e → boundary_in e.reply ≤ boundary

-- no entry of a history has an id past this one
abbrev pub AreDrawnBy : ℕ → List Entry → Type 0
AreDrawnBy last history = (e : Entry) → Contains history e → e.id.0 ≤ last

-- No call is open, and a flush is one over this space, and stands on its disk. No reply told a boundary past the committed one; no
-- id of the history, no boundary and no target of a flush in flight is past the last id, and this is not past the greatest. Until a
-- reblock is opened, the big-blocks that zones have begun since the volume was mounted are paid for by calls.
pub record IsInOrder (f : Flush) (last free : ℕ) (h : Heap) (history : List Entry) : Type 0 where
  pub ready : IsFlushedBy f h
  pub told : AreUpTo f.header.last.0 history
  pub drawn : AreDrawnBy last history
  pub later : f.header.last.0 ≤ last
  pub target : f.at ≢ Idle → (f.header.last.0 ≤ f.target.last.0) × (f.target.last.0 ≤ last)
  pub greatest : last ≤ GREATEST_ID
  pub paid : IsFalse (list_any moved_space history) → IsPaid free (free_of h) (length history) (room_of h)
