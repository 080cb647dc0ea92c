-- Each page is of the volume.
use Rattle.hm_pages.specs.Store.{contents}
use Rattle.hm_stored.specs.Heap.{heap_of}
use Rattle.hm_stored.proofs.VolumeLemmas.{volume_only}
use Rattle.hm_stored.proofs.stored.Stored.pages_are_of_volume.Goals as goal

pub returns : goal.returns
returns g c =
    let s = c.args.self.now.space in
    volume_only (heap_of (contents s.pages.store) (g.D.Disk.told s.disk) s.books) s.of_volume
