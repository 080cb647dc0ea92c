-- A call is closed, and dropped.
use Rattle.std.proofs.Common.{ap}
use Rattle.hm_pages.specs.Store.{contents}
use Rattle.hm_stored.specs.Heap.{Heap, heap_of}
use Rattle.hm_stored.proofs.RootLemmas.{rooted_dropped}
use Rattle.hm_stored.proofs.StandingLemmas.{dropped_held}
use Rattle.hm_stored.proofs.stored.Stored.undo.Goals as goal

pub invariant_of-self-clause-rooted : goal.invariant_of-self-clause-rooted
unfolding heap_of
invariant_of-self-clause-rooted g c =
    let s = c.args.self.now.space in
    let new = c.undo.new.self in
    rooted_dropped c.args.self.now.is_open (heap_of (contents s.pages.store) (g.D.Disk.told s.disk) s.books)
    (heap_of (contents new.pages.store) (g.D.Disk.told new.disk) new.books) c.args.self.now.root c.requires.opened c.undo.ensures.turn c.args.self.now.rooted

pub returns-clause-root : goal.returns-clause-root
unfolding heap_of
returns-clause-root g c = ap (λ (h : Heap). h.roots.current) c.undo.ensures.turn.rest

pub returns-clause-held : goal.returns-clause-held
unfolding heap_of
returns-clause-held g c =
    let s = c.args.self.now.space in
    let new = c.undo.new.self in
    dropped_held (heap_of (contents s.pages.store) (g.D.Disk.told s.disk) s.books)
    (heap_of (contents new.pages.store) (g.D.Disk.told new.disk) new.books) c.undo.ensures.turn new.books.roots.current
    (ap (λ (h : Heap). h.roots.current) c.undo.ensures.turn.rest)
