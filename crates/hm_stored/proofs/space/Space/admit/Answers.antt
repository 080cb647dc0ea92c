-- Zones get room.
use Rattle.std.proofs.Common.{refl}
use Rattle.hm_pages.specs.Store.{contents}
use Rattle.hm_stored.specs.Heap.{heap_of}
use Rattle.hm_stored.proofs.AdmitCallLemmas.{answers}
use Rattle.hm_stored.proofs.CauseLemmas.{admit_caused}
use Rattle.hm_stored.proofs.ExtentCallLemmas.{layer2_stays}
use Rattle.hm_stored.proofs.VolumeLemmas.{volume_still}
use Rattle.hm_stored.proofs.space.Space.admit.Goals as goal

pub invariant_of-self : goal.invariant_of-self
invariant_of-self g c =
    let s = c.args.self.now in
    let old = contents s.pages.store in
    let new = contents c.renew.new.pages.store in
    record {
      there = layer2_stays old new s.books c.renew.new.books c.renew.ensures.frame c.renew.ensures.books s.there;
      kept = (answers old new (g.D.Disk.told s.disk) s.books c.renew.new.books c.args.zones c.args.held c.renew.ensures.frame c.renew.ensures.books
          c.if-not-self.false c.if-self.false s.kept c.renew.result c.renew.ensures.ok c.renew.ensures.err).1;
      of_volume = volume_still old new (g.D.Disk.told s.disk) (g.D.Disk.told s.disk) s.books c.renew.new.books c.renew.ensures.frame c.renew.ensures.books
          c.renew.ensures.spots s.of_volume;
    }

pub returns : goal.returns
unfolding heap_of
returns g c =
    let s = c.args.self.now in
    record {
      answers = (answers (contents s.pages.store) (contents c.renew.new.pages.store) (g.D.Disk.told s.disk) s.books c.renew.new.books c.args.zones c.args.held
          c.renew.ensures.frame c.renew.ensures.books c.if-not-self.false c.if-self.false s.kept c.renew.result c.renew.ensures.ok c.renew.ensures.err).0;
      cause = admit_caused (heap_of (contents s.pages.store) (g.D.Disk.told s.disk) s.books)
          (g.D.Disk.faults s.disk) c.renew.result s.kept c.renew.ensures.cause;
      past = refl;
    }
