-- A call is closed, and kept.
use Rattle.hm_pages.specs.Store.{contents}
use Rattle.hm_stored.specs.Heap.{heap_of}
use Rattle.hm_stored.proofs.RootLemmas.{rooted_kept}
use Rattle.hm_stored.proofs.stored.Stored.keep.Goals as goal

pub invariant_of-self-clause-rooted : goal.invariant_of-self-clause-rooted
invariant_of-self-clause-rooted g c =
    let s = c.args.self.now.space in
    let new = c.keep.new.self in
    rooted_kept (heap_of (contents s.pages.store) (g.D.Disk.told s.disk) s.books)
    (heap_of (contents new.pages.store) (g.D.Disk.told new.disk) new.books) c.args.self.now.root c.keep.ensures.turn c.requires.keepable

pub keep-requires-clause-whole : goal.keep-requires-clause-whole
unfolding heap_of
keep-requires-clause-whole g c = c.requires.keepable.whole
