-- A call is opened.
use Rattle.hm_pages.specs.Store.{contents}
use Rattle.hm_stored.specs.Heap.{heap_of}
use Rattle.hm_stored.proofs.PutCallLemmas.{sized_of}
use Rattle.hm_stored.proofs.RootLemmas.{rooted_begun}
use Rattle.hm_stored.proofs.StandingLemmas.{opened_tells, opened_tree}
use Rattle.hm_stored.proofs.stored.Stored.begin.Goals as goal

pub invariant_of-self : goal.invariant_of-self
invariant_of-self g c =
    let s = c.args.self.now.space in
    let new = c.begin.new.self in
    record {
      tree = ∣ opened_tree (heap_of (contents s.pages.store) (g.D.Disk.told s.disk) s.books)
          (heap_of (contents new.pages.store) (g.D.Disk.told new.disk) new.books) c.args.self.now.root c.args.last.0 c.requires.closed c.begin.ensures.turn ∣₁;
      rooted = rooted_begun c.args.self.now.is_open (heap_of (contents s.pages.store) (g.D.Disk.told s.disk) s.books)
          (heap_of (contents new.pages.store) (g.D.Disk.told new.disk) new.books) c.args.self.now.root c.args.last.0 c.requires.closed c.begin.ensures.turn
          c.args.self.now.rooted;
    }

pub returns-clause-told : goal.returns-clause-told
unfolding heap_of
returns-clause-told g c =
    let s = c.args.self.now.space in
    let new = c.begin.new.self in
    opened_tells (heap_of (contents s.pages.store) (g.D.Disk.told s.disk) s.books)
    (heap_of (contents new.pages.store) (g.D.Disk.told new.disk) new.books) c.args.self.now.root c.args.last.0 c.requires.closed c.begin.ensures.turn
    (sized_of (contents s.pages.store) (g.D.Disk.told s.disk) s.books s.kept)
