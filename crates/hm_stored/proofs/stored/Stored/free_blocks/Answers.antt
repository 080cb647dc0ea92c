-- Free big-blocks are counted.
use Rattle.hm_pages.specs.Store.{contents}
use Rattle.hm_stored.specs.Heap.{heap_of}
use Rattle.hm_stored.proofs.RootLemmas.{rooted_look}
use Rattle.hm_stored.proofs.stored.Stored.free_blocks.Goals as goal

pub invariant_of-self-clause-rooted : goal.invariant_of-self-clause-rooted
invariant_of-self-clause-rooted g c =
    let s = c.args.self.now.space in
    let new = c.free_blocks.new.self in
    rooted_look c.args.self.now.is_open (heap_of (contents s.pages.store) (g.D.Disk.told s.disk) s.books)
    (heap_of (contents new.pages.store) (g.D.Disk.told new.disk) new.books) c.args.self.now.root c.free_blocks.ensures.same c.args.self.now.rooted
