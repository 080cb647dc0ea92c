-- Elements that stand for a volume, and what a prune may take of them.
use Rattle.std.specs.Prelude.{◌≡◌, ◌⊎◌, ℕ, List, Option, Some, IfSome}
use Rattle.hm_types.specs.Elements.{FullElement}
use Rattle.hm_types.specs.Intervals.{Keeps}
use Rattle.hm_model.specs.Volume.{PseudoFileSystem, Volume, system_of}
use Rattle.hm_records.specs.Follows.{IsAbove}
use Rattle.hm_image.specs.StandFor.{OnEach, StandFor}

-- where ids are told, each id that a retention keeps is one of them, or is above them all
abbrev pub IsEnough : Option (List (ℕ × ℕ)) → List (ℕ × ℕ) → Type 0
IsEnough told retention = IfSome told (λ ids. (t : ℕ) → Keeps retention t → Keeps ids t ⊎ IsAbove ids t)

-- so it is of each PFS of a volume with the ids that a job keeps there
abbrev pub KeepsWithin : (ℕ → Option (List (ℕ × ℕ))) → Volume → Type 0
KeepsWithin kept volume = OnEach volume (λ pfs s. IsEnough (kept pfs) s.retention)

-- where ids are told there are none, or a volume has the PFS
abbrev pub HasSystemFor : Volume → ℕ → Option (List (ℕ × ℕ)) → Type 0
HasSystemFor volume pfs told = IfSome told (λ ids. (t : ℕ) → Keeps ids t → (s : PseudoFileSystem) × (system_of volume pfs ≡ Some s))

-- a job keeps enough for a volume: what this keeps is among what the job keeps, or above it, and the job keeps nothing of a
-- PFS that the volume does not have
pub record KeepsEnough (kept : ℕ → Option (List (ℕ × ℕ))) (volume : Volume) : Type 0 where
  pub within : KeepsWithin kept volume
  pub of_systems : (pfs : ℕ) → HasSystemFor volume pfs (kept pfs)

-- what a job keeps is enough for a volume, if it was for the one before
abbrev pub StillKeeps : Volume → Volume → Type 0
StillKeeps volume volume' = (kept : ℕ → Option (List (ℕ × ℕ))) → KeepsEnough kept volume → KeepsEnough kept volume'

-- elements stand for the volume that comes after one, and what a job keeps is enough for it, if it was for that one
pub record StandAfter (volume : Volume) (es' : List FullElement) (volume' : Volume) : Type 0 where
  pub stand : StandFor es' volume'
  pub jobs : StillKeeps volume volume'
