-- A page is looked at as it stands.
use Rattle.hm_pages.specs.Store.{contents}
use Rattle.hm_stored.specs.Heap.{heap_of}
use Rattle.hm_stored.proofs.PageLemmas.{looked_kept, looked_told}
use Rattle.hm_stored.proofs.tree_pages.SpaceNodePages.look.Goals as goal

pub returns-clause-told : goal.returns-clause-told
unfolding heap_of
returns-clause-told g c =
    let s = c.args.self.now in
    looked_told (λ p. p.now) (heap_of (contents s.pages.store) (g.D.Disk.told s.disk) s.books) c.args.at c.look.result c.look.ensures

pub returns-clause-kept : goal.returns-clause-kept
unfolding heap_of
returns-clause-kept g c =
    let s = c.args.self.now in
    looked_kept (λ p. p.now) (heap_of (contents s.pages.store) (g.D.Disk.told s.disk) s.books) c.args.at c.look.result c.look.ensures
    c.if-not-self.false s.kept
