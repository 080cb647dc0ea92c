-- A reference is given back.
use Rattle.hm_pages.specs.Store.{contents}
use Rattle.hm_stored.specs.Heap.{heap_of}
use Rattle.hm_stored.proofs.ExtentCallLemmas.{extent_cause, layer2_stays, given_kept, given_ok, given_stays}
use Rattle.hm_stored.proofs.VolumeLemmas.{volume_still}
use Rattle.hm_stored.proofs.space.Space.give_back.Goals as goal

pub invariant_of-self : goal.invariant_of-self
unfolding heap_of
invariant_of-self g c =
    let s = c.args.self.now in
    let old = contents s.pages.store in
    let new = contents c.give.new.pages.store in
    record {
      there = layer2_stays old new s.books c.give.new.books c.give.ensures.frame c.give.ensures.books.same s.there;
      kept = given_kept old new (g.D.Disk.told s.disk) s.books c.give.new.books c.give.ensures.frame c.if-not-self.false s.kept c.args.at c.args.len
          c.requires.live
          c.give.result c.give.ensures.books c.give.ensures.ok;
      of_volume = volume_still old new (g.D.Disk.told s.disk) (g.D.Disk.told s.disk) s.books c.give.new.books c.give.ensures.frame
          c.give.ensures.books.same c.give.ensures.spots s.of_volume;
    }

pub returns-clause-ok : goal.returns-clause-ok
returns-clause-ok g c =
    let s = c.args.self.now in
    given_ok (contents s.pages.store) (contents c.give.new.pages.store)
    (g.D.Disk.told s.disk) s.books c.give.new.books c.give.ensures.frame c.if-not-self.false s.kept
    c.args.at c.args.len c.requires.live c.give.result c.give.ensures.books c.give.ensures.ok

pub returns-clause-stays : goal.returns-clause-stays
returns-clause-stays g c =
    let s = c.args.self.now in
    given_stays (contents s.pages.store) (contents c.give.new.pages.store)
    (g.D.Disk.told s.disk) s.books c.give.new.books c.give.ensures.frame c.if-not-self.false s.kept
    c.args.at c.args.len c.requires.live c.give.result c.give.ensures.books c.give.ensures.ok

pub returns-clause-cause : goal.returns-clause-cause
returns-clause-cause g c =
    let s = c.args.self.now in
    extent_cause (contents s.pages.store) (g.D.Disk.told s.disk) s.books (g.D.Disk.faults s.disk) s.kept c.args.at c.args.len
    _ c.give.result (λ x is. is) c.requires.live c.give.ensures.cause
