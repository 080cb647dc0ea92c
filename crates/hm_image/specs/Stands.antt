-- Which volume an image stands for.
use Rattle.std.specs.Prelude.{◌≡◌, ℕ, List}
use Rattle.hm_header.specs.declared.header.Header.{Header}
use Rattle.hm_model.specs.Volume.{Volume}
use Rattle.hm_image.specs.Image.{elements_from}
use Rattle.hm_image.specs.Sound.{IsSoundBy}
use Rattle.hm_image.specs.StandFor.{StandFor}

-- An image stands for a volume, but for what ties a slave to its master.
pub record StandsFor (image : List ℕ) (volume : Volume) : Type 0 where
  pub header : Header
  pub sound : IsSoundBy image header
  pub bigblocks : header.bigblocks ≡ volume.bigblocks
  pub last : header.last.0 ≡ volume.last
  pub elements : StandFor (elements_from image header.root) volume
