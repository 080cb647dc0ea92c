-- What changed stands where it may, and so does the root.
use Rattle.hm_pages.specs.Store.{contents}
use Rattle.hm_stored.specs.Heap.{heap_of}
use Rattle.hm_stored.proofs.RootLemmas.{closed_root}
use Rattle.hm_stored.proofs.VolumeLemmas.{volume_placed}
use Rattle.hm_stored.proofs.stored.Stored.changes_are_placed.Goals as goal

pub returns-clause-pages : goal.returns-clause-pages
returns-clause-pages g c =
    let s = c.args.self.now.space in
    volume_placed (heap_of (contents s.pages.store) (g.D.Disk.told s.disk) s.books) s.of_volume

pub returns-clause-root : goal.returns-clause-root
returns-clause-root g c =
    let s = c.args.self.now.space in
    closed_root c.args.self.now.is_open (heap_of (contents s.pages.store) (g.D.Disk.told s.disk) s.books) c.args.self.now.root c.args.self.now.rooted
