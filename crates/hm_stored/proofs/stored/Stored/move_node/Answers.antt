-- A node moves.
use Rattle.hm_pages.specs.Store.{contents}
use Rattle.hm_stored.specs.Heap.{heap_of}
use Rattle.hm_stored.proofs.RootLemmas.{rooted_moved}
use Rattle.hm_stored.proofs.stored.Stored.move_node.Goals as goal

pub invariant_of-self-clause-rooted : goal.invariant_of-self-clause-rooted
invariant_of-self-clause-rooted g c =
    let s = c.args.self.now.space in
    let new = c.move_node-moved.new.space in
    rooted_moved c.args.self.now.is_open (heap_of (contents s.pages.store) (g.D.Disk.told s.disk) s.books)
    (heap_of (contents new.pages.store) (g.D.Disk.told new.disk) new.books) c.args.self.now.root c.move_node-moved.result.0
    c.move_node-moved.ensures.writes.stays.frame c.if-not-self.false c.args.self.now.rooted
