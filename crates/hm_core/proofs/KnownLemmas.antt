-- The ids of the elements that stand for a volume are known to a space.
use Rattle.std.proofs.Common.{inl, inr, IsTrue, List}
use Rattle.hm_types.specs.Elements.{FullElement}
use Rattle.hm_image.specs.StandFor.{StandFor}
use Rattle.hm_model.specs.Volume.{Volume}
use Rattle.hm_step.proofs.KnownLemmas.{known}
use Rattle.hm_stored.specs.Known.{AreKnown, is_known}
use Rattle.hm_stored.proofs.KnownLemmas.{known_from_each}

-- each pseudo file system is a slave, or its elements were drawn
pub volume_each : (es : List FullElement) (volume : Volume) → StandFor es volume → AreKnown volume.last es
volume_each es volume stand pfs = elim (known es volume stand pfs) [
  | inl slave ↦ inl slave
  | inr below ↦ inr (λ x there of_pfs. let old = below x there of_pfs in (old.made, old.closed))
]

pub volume_known : (es : List FullElement) (volume : Volume) → StandFor es volume → IsTrue (is_known volume.last es)
volume_known es volume stand = known_from_each volume.last es (volume_each es volume stand)
