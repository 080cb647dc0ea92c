-- That no step of a core writes over a byte that is live as it begins.
use Rattle.std.specs.Prelude.{ℕ}
use Rattle.hm_types.specs.Told.{BothTell}
use Rattle.hm_model.specs.Volume.{Volume}
use Rattle.hm_stored.specs.Heap.{Heap}
use Rattle.hm_state.specs.Live.{IsInPlace, KeepsLiveBut, NoByte}
use Rattle.hm_state.specs.Volume.{HoldsVolume}
use Rattle.hm_core.specs.State.{CoreState}

-- Where a space holds a volume, its disk tells, and so it does after the step: no byte is written, but for some, that the current tree
-- names as the step begins, the frozen one or the committed one.
abbrev pub KeepsLiveOver : (ℕ → Type 0) → ℕ → ℕ → Heap → Heap → Type 0
KeepsLiveOver Excepted root last h h' =
    (volume : Volume) → HoldsVolume h root last volume → BothTell h.disk h'.disk (KeepsLiveBut Excepted h root)

-- a call writes none
abbrev pub CallKeepsLive : CoreState → CoreState → Type 0
CallKeepsLive old new = KeepsLiveOver NoByte old.root old.last old.heap new.heap

-- A stage writes none but those of the page that it places, where one is due that places a page.
abbrev pub StageKeepsLive : CoreState → CoreState → Type 0
StageKeepsLive old new = KeepsLiveOver (IsInPlace old.flush.at old.heap.pages) old.root old.last old.heap new.heap
