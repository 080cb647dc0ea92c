-- A store is made over a space.
use Rattle.hm_pages.specs.Store.{contents}
use Rattle.hm_stored.specs.Heap.{heap_of}
use Rattle.hm_stored.proofs.RootLemmas.{rooted_over}
use Rattle.hm_stored.proofs.stored.Stored.over.Goals as goal

pub invariant_of-result-clause-rooted : goal.invariant_of-result-clause-rooted
invariant_of-result-clause-rooted g c =
    let s = c.args.space in
    rooted_over (heap_of (contents s.pages.store) (g.D.Disk.told s.disk) s.books) c.args.root c.requires.closed c.requires.root
