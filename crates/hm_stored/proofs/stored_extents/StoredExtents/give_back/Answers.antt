-- A reference is given back.
use Rattle.hm_types.specs.Space.{nothing}
use Rattle.hm_pages.specs.Store.{contents}
use Rattle.hm_stored.specs.Heap.{heap_of}
use Rattle.hm_stored.proofs.RootLemmas.{rooted_ended}
use Rattle.hm_stored.proofs.StoredLemmas.{changed_tree, ended_stays}
use Rattle.hm_stored.proofs.stored_extents.StoredExtents.give_back.Goals as goal

pub invariant_of-self-clause-tree : goal.invariant_of-self-clause-tree
invariant_of-self-clause-tree g c =
    let s = c.args.self.now.space in
    let mid = c.give_back-given.new.self in
    let new = c.end_change.new.self in
    changed_tree (heap_of (contents mid.pages.store) (g.D.Disk.told mid.disk) mid.books)
    (heap_of (contents new.pages.store) (g.D.Disk.told new.disk) new.books) c.args.self.now.root c.is_ok.result c.end_change.ensures.ends
    (heap_of (contents s.pages.store) (g.D.Disk.told s.disk) s.books) _ c.give_back-given.result c.is_ok.ensures.value
    c.args.self.now.tree c.give_back-given.ensures.ok

pub invariant_of-self-clause-rooted : goal.invariant_of-self-clause-rooted
invariant_of-self-clause-rooted g c =
    let s = c.args.self.now.space in
    let mid = c.give_back-given.new.self in
    let new = c.end_change.new.self in
    rooted_ended c.args.self.now.is_open (heap_of (contents s.pages.store) (g.D.Disk.told s.disk) s.books)
    (heap_of (contents mid.pages.store) (g.D.Disk.told mid.disk) mid.books) (heap_of (contents new.pages.store) (g.D.Disk.told new.disk) new.books)
    c.args.self.now.root c.is_ok.result c.give_back-given.ensures.stays.frame c.end_change.ensures.ends c.args.self.now.rooted

pub returns-clause-space : goal.returns-clause-space
unfolding heap_of
returns-clause-space g c =
    let s = c.args.self.now.space in
    let mid = c.give_back-given.new.self in
    let new = c.end_change.new.self in
    let stays = ended_stays (nothing) (heap_of (contents s.pages.store) (g.D.Disk.told s.disk) s.books)
    (heap_of (contents mid.pages.store) (g.D.Disk.told mid.disk) mid.books) (heap_of (contents new.pages.store) (g.D.Disk.told new.disk) new.books)
    c.is_ok.result s.books.most c.give_back-given.ensures.stays c.end_change.ensures.ends in
    record { room = stays.spent.room; free = stays.spent.free }
