-- An extent is shared.
use Rattle.hm_pages.specs.Store.{contents}
use Rattle.hm_stored.specs.Heap.{heap_of}
use Rattle.hm_stored.proofs.ExtentCallLemmas.{extent_cause, layer2_stays, shared_kept, shared_ok, shared_stays}
use Rattle.hm_stored.proofs.VolumeLemmas.{volume_still}
use Rattle.hm_stored.proofs.space.Space.share.Goals as goal

pub invariant_of-self : goal.invariant_of-self
unfolding heap_of
invariant_of-self g c =
    let s = c.args.self.now in
    let old = contents s.pages.store in
    let new = contents c.share.new.pages.store in
    record {
      there = layer2_stays old new s.books c.share.new.books c.share.ensures.frame c.share.ensures.books.same s.there;
      kept = shared_kept old new (g.D.Disk.told s.disk) s.books c.share.new.books c.share.ensures.frame c.if-not-self.false s.kept c.args.at c.args.len
          c.requires.live
          c.share.result c.share.ensures.books c.share.ensures.ok;
      of_volume = volume_still old new (g.D.Disk.told s.disk) (g.D.Disk.told s.disk) s.books c.share.new.books c.share.ensures.frame
          c.share.ensures.books.same c.share.ensures.spots s.of_volume;
    }

pub returns-clause-ok : goal.returns-clause-ok
returns-clause-ok g c =
    let s = c.args.self.now in
    shared_ok (contents s.pages.store) (contents c.share.new.pages.store)
    (g.D.Disk.told s.disk) s.books c.share.new.books c.share.ensures.frame c.if-not-self.false s.kept
    c.args.at c.args.len c.requires.live c.share.result c.share.ensures.books c.share.ensures.ok

pub returns-clause-stays : goal.returns-clause-stays
returns-clause-stays g c =
    let s = c.args.self.now in
    shared_stays (contents s.pages.store) (contents c.share.new.pages.store)
    (g.D.Disk.told s.disk) s.books c.share.new.books c.share.ensures.frame c.if-not-self.false s.kept
    c.args.at c.args.len c.requires.live c.share.result c.share.ensures.books c.share.ensures.ok

pub returns-clause-cause : goal.returns-clause-cause
returns-clause-cause g c =
    let s = c.args.self.now in
    extent_cause (contents s.pages.store) (g.D.Disk.told s.disk) s.books (g.D.Disk.faults s.disk) s.kept c.args.at c.args.len
    _ c.share.result (λ x is. is.0) c.requires.live c.share.ensures.cause
