-- Bytes are put into a new extent.
use Rattle.std.proofs.Common.{length}
use Rattle.hm_types.specs.Space.{in_zone, rounded}
use Rattle.hm_pages.specs.Store.{contents}
use Rattle.hm_stored.specs.Heap.{heap_of}
use Rattle.hm_stored.proofs.RootLemmas.{rooted_ended}
use Rattle.hm_stored.proofs.StoredLemmas.{ended_stays, placed_tree}
use Rattle.hm_stored.proofs.stored_extents.StoredExtents.place.Goals as goal

pub invariant_of-self : goal.invariant_of-self
invariant_of-self g c =
    let s = c.args.self.now.space in
    let mid = c.place-placed.new.self in
    let new = c.end_change.new.self in
    record {
      tree = placed_tree (heap_of (contents mid.pages.store) (g.D.Disk.told mid.disk) mid.books)
          (heap_of (contents new.pages.store) (g.D.Disk.told new.disk) new.books) c.args.self.now.root c.is_ok.result c.end_change.ensures.ends
          (heap_of (contents s.pages.store) (g.D.Disk.told s.disk) s.books) c.args.zone c.args.bytes.now c.place-placed.result c.is_ok.ensures.value
          c.args.self.now.tree c.place-placed.ensures.ok;
      rooted = rooted_ended c.args.self.now.is_open (heap_of (contents s.pages.store) (g.D.Disk.told s.disk) s.books)
          (heap_of (contents mid.pages.store) (g.D.Disk.told mid.disk) mid.books) (heap_of (contents new.pages.store) (g.D.Disk.told new.disk) new.books)
          c.args.self.now.root c.is_ok.result c.place-placed.ensures.stays.frame c.end_change.ensures.ends c.args.self.now.rooted;
    }

pub returns-clause-space : goal.returns-clause-space
unfolding heap_of
returns-clause-space g c =
    let s = c.args.self.now.space in
    let mid = c.place-placed.new.self in
    let new = c.end_change.new.self in
    let stays = ended_stays (in_zone c.args.zone (rounded (length c.args.bytes.now))) (heap_of (contents s.pages.store) (g.D.Disk.told s.disk) s.books)
    (heap_of (contents mid.pages.store) (g.D.Disk.told mid.disk) mid.books) (heap_of (contents new.pages.store) (g.D.Disk.told new.disk) new.books)
    c.is_ok.result s.books.most c.place-placed.ensures.stays c.end_change.ensures.ends in
    record { room = stays.spent.room; free = stays.spent.free }
