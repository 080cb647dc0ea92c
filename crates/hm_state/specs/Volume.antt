-- Which volume a space holds between two calls.
use Rattle.std.specs.Prelude.{◌≡◌, ℕ, List}
use Rattle.hm_types.specs.Elements.{FullElement}
use Rattle.hm_model.specs.Volume.{Volume}
use Rattle.hm_image.specs.StandFor.{StandFor}
use Rattle.hm_stored.specs.Heap.{Heap}
use Rattle.hm_stored.specs.Standing.{Holds}

-- A space holds a volume between two calls, by the tree from a root on and with a last id: it has so many big-blocks and
-- this is the volume's last id, its books are in order, and its elements stand for the volume.
pub record HoldsVolume (h : Heap) (root last : ℕ) (volume : Volume) : Type 0 where
  pub bigblocks : h.bigblocks ≡ volume.bigblocks
  pub last_is : last ≡ volume.last
  pub elements : (es : List FullElement) × Holds h root es × StandFor es volume
