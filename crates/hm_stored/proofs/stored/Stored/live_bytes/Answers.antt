-- The live bytes of a big-block are counted.
use Rattle.hm_pages.specs.Store.{contents}
use Rattle.hm_stored.specs.Heap.{heap_of}
use Rattle.hm_stored.proofs.RootLemmas.{rooted_look}
use Rattle.hm_stored.proofs.stored.Stored.live_bytes.Goals as goal

pub invariant_of-self-clause-rooted : goal.invariant_of-self-clause-rooted
invariant_of-self-clause-rooted g c =
    let s = c.args.self.now.space in
    let new = c.live_bytes.new.self in
    rooted_look c.args.self.now.is_open (heap_of (contents s.pages.store) (g.D.Disk.told s.disk) s.books)
    (heap_of (contents new.pages.store) (g.D.Disk.told new.disk) new.books) c.args.self.now.root c.live_bytes.ensures.same c.args.self.now.rooted
