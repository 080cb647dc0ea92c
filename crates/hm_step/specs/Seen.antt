-- The trees that a call sees of elements that stand for a volume.
use Rattle.std.specs.Prelude.{◌≡◌, ℕ, ◌≤◌, false, List}
use Rattle.hm_types.specs.Elements.{FullElement}
use Rattle.hm_types.specs.Intervals.{Keeps}
use Rattle.hm_model.specs.View.{Substitute, Now, AsOf, view_of}
use Rattle.hm_model.specs.Volume.{PseudoFileSystem, Volume}
use Rattle.hm_records.specs.View.{IsViewOf}
use Rattle.hm_volume.specs.Shown.{IsTreeNow}
use Rattle.hm_image.specs.StandFor.{OnEach}

-- the trees that are given for a PFS are those of its elements
pub record IsGiven (es : List FullElement) (volume : Volume) (substitutes : List Substitute) (pfs : ℕ)
    (s : PseudoFileSystem) : Type 0 where
  pub now : IsTreeNow es volume.last pfs s (view_of volume substitutes pfs Now)
  pub kept : (t : ℕ) → Keeps s.retention t → t ≤ volume.last
      → IsViewOf es pfs t (view_of volume substitutes pfs (AsOf t))

-- each PFS whose trees are not certain is given those of its elements
abbrev pub AreGiven : List FullElement → Volume → List Substitute → Type 0
AreGiven es volume substitutes = OnEach volume (λ pfs s. s.clear ≡ false → IsGiven es volume substitutes pfs s)
