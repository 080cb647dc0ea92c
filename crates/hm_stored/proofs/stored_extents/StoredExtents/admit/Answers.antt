-- Zones get room.
use Rattle.std.proofs.Common.{refl}
use Rattle.hm_pages.specs.Store.{contents}
use Rattle.hm_stored.specs.Heap.{heap_of}
use Rattle.hm_stored.proofs.RootLemmas.{rooted_ended}
use Rattle.hm_stored.proofs.StoredLemmas.{room_given, room_keeps, room_nodes, room_tree}
use Rattle.hm_stored.proofs.stored_extents.StoredExtents.admit.Goals as goal

pub invariant_of-self : goal.invariant_of-self
invariant_of-self g c =
    let s = c.args.self.now.space in
    let mid = c.admit-admitted.new.self in
    let new = c.end_change.new.self in
    record {
      tree = room_tree (heap_of (contents mid.pages.store) (g.D.Disk.told mid.disk) mid.books)
          (heap_of (contents new.pages.store) (g.D.Disk.told new.disk) new.books) c.args.self.now.root c.is_settled.result c.end_change.ensures.ends
          (heap_of (contents s.pages.store) (g.D.Disk.told s.disk) s.books) c.args.zones c.args.held c.admit-admitted.result c.is_settled.ensures
          c.args.self.now.tree c.admit-admitted.ensures.answers;
      rooted = rooted_ended c.args.self.now.is_open (heap_of (contents s.pages.store) (g.D.Disk.told s.disk) s.books)
          (heap_of (contents mid.pages.store) (g.D.Disk.told mid.disk) mid.books) (heap_of (contents new.pages.store) (g.D.Disk.told new.disk) new.books)
          c.args.self.now.root c.is_settled.result c.admit-admitted.ensures.answers.frame c.end_change.ensures.ends c.args.self.now.rooted;
    }

pub returns-clause-answers : goal.returns-clause-answers
unfolding heap_of
returns-clause-answers g c =
    let mid = c.admit-admitted.new.self in
    room_given (λ s. heap_of (contents s.space.pages.store) (g.D.Disk.told s.space.disk) s.space.books) (λ s. s.root) c.args.zones c.args.held
    c.args.self.now _ (heap_of (contents mid.pages.store) (g.D.Disk.told mid.disk) mid.books) c.is_settled.result refl mid.books.most c.end_change.ensures.ends
    c.admit-admitted.result c.is_settled.ensures c.admit-admitted.ensures.answers

pub returns-clause-keeps : goal.returns-clause-keeps
unfolding heap_of
returns-clause-keeps g c =
    let mid = c.admit-admitted.new.self in
    room_keeps (λ s. heap_of (contents s.space.pages.store) (g.D.Disk.told s.space.disk) s.space.books) (λ s. s.root) c.args.zones c.args.held
    c.args.self.now _ (heap_of (contents mid.pages.store) (g.D.Disk.told mid.disk) mid.books) c.is_settled.result refl mid.books.most c.end_change.ensures.ends
    c.admit-admitted.result c.is_settled.ensures c.admit-admitted.ensures.answers

pub returns-clause-nodes : goal.returns-clause-nodes
unfolding heap_of
returns-clause-nodes g c =
    let s = c.args.self.now.space in
    let mid = c.admit-admitted.new.self in
    let new = c.end_change.new.self in
    room_nodes (heap_of (contents s.pages.store) (g.D.Disk.told s.disk) s.books) (heap_of (contents mid.pages.store) (g.D.Disk.told mid.disk) mid.books)
    (heap_of (contents new.pages.store) (g.D.Disk.told new.disk) new.books) c.args.zones c.args.held c.is_settled.result c.end_change.ensures.ends
    c.admit-admitted.result c.is_settled.ensures c.admit-admitted.ensures.answers
