-- What a crash may have left of a disk, and what that recovers to.
use Rattle.std.specs.Prelude.{◌≡◌, ◌⊎◌, ℕ, ◌-◌, ◌≤◌, true, List, Option, IfSome}
use Rattle.hm_disk.specs.Crash.{MayLeave, Told}
use Rattle.hm_disk.specs.Moments.{LeftSince}
use Rattle.hm_header.specs.OnDisk.{HasHeader}
use Rattle.hm_undo.specs.Recovered.{RecoversTo}
use Rattle.hm_flush.specs.declared.change.Change.TheVariants.{Open}
use Rattle.hm_flush.specs.declared.flush.Flush.{Flush}
use Rattle.hm_flush.specs.declared.flush.Position.TheVariants.{Arming, Committing}
use Rattle.hm_flush.specs.Flush.{header_to_write}
use Rattle.hm_image.specs.Stands.{StandsFor}
use Rattle.hm_model.specs.After.{Event}
use Rattle.hm_model.specs.Foreign.{Foreigners}
use Rattle.hm_model.specs.Volume.{Volume}
use Rattle.hm_core.specs.History.{up_to, volume_of}

-- an image recovers to one that stands for this volume
pub record StandsRecovered (image : List ℕ) (volume : Volume) : Type 0 where
  pub result : List ℕ
  pub recovers : RecoversTo image result
  pub stands : StandsFor result volume

-- An image recovers to one that stands for the volume after a prefix of these events: those up to the image's own boundary, which is
-- the last id of its header that counts. It is such a boundary.
pub record RecoversToPrefix (IsBoundary : ℕ → Type 0) (opening : Volume) (foreigners : Foreigners) (events : List Event) (image : List ℕ)
    : Type 0 where
  pub result : List ℕ
  pub recovers : RecoversTo image result
  pub boundary : IsBoundary recovers.header.last.0
  pub stands : StandsFor result (volume_of opening foreigners (up_to recovers.header.last.0 events))

-- no earlier than the one id, and no later than the other
abbrev pub IsBetween : ℕ → ℕ → ℕ → Type 0
IsBetween least most boundary = (least ≤ boundary) × (boundary ≤ most)

-- the committed boundary, or, once the last stage of a flush was tried, that of its target
abbrev pub IsLeftBoundary : Flush → ℕ → Type 0
IsLeftBoundary f boundary = (boundary ≡ f.header.last.0) ⊎ ((f.at ≡ Committing (Open true)) × (boundary ≡ f.target.last.0))

-- the last stage of a change of the header was tried, so that it may have come about
abbrev pub MayHaveChanged : Flush → Type 0
MayHaveChanged f = (f.at ≡ Arming (Open true)) ⊎ (f.at ≡ Committing (Open true))

-- Of these bytes the header of a flush counts, in its slot; or, where its change may have come about, the one that is written next, in the
-- other slot.
abbrev pub HasHeaderOf : Flush → List ℕ → Type 0
HasHeaderOf f bytes = HasHeader bytes f.header f.slot ⊎ (MayHaveChanged f × HasHeader bytes (header_to_write f) (1 - f.slot))

-- Over a step, what a crash since a moment may have left was so before the step, or it recovers to a prefix with such a boundary.
abbrev pub LeavesPrefixes : LeftSince → LeftSince → (ℕ → Type 0) → Volume → Foreigners → List Event → Type 0
LeavesPrefixes past since IsBoundary opening foreigners events =
    (moment : ℕ) (image : List ℕ) → since moment image → past moment image ⊎ RecoversToPrefix IsBoundary opening foreigners events image

-- Over a call, what a crash since a moment may have left was so before the call, or a crash now may leave it.
abbrev pub LeavesNow : LeftSince → LeftSince → Option Told → Type 0
LeavesNow past since told =
    (moment : ℕ) (image : List ℕ) → since moment image → past moment image ⊎ IfSome told (λ t. MayLeave t.bytes t.unsettled image)
