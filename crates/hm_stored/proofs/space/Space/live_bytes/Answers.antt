-- The live bytes of a big-block are counted.
use Rattle.std.proofs.Common.{refl}
use Rattle.hm_pages.specs.Store.{contents}
use Rattle.hm_stored.specs.Heap.{heap_of}
use Rattle.hm_stored.proofs.LookLemmas.{live_counted, look_kept, look_layer2, looks_same}
use Rattle.hm_stored.proofs.VolumeLemmas.{volume_still}
use Rattle.hm_stored.proofs.space.Space.live_bytes.Goals as goal

pub invariant_of-self : goal.invariant_of-self
invariant_of-self g c =
    let s = c.args.self.now in
    let old = contents s.pages.store in
    let new = contents c.count_live.new.pages.store in
    record {
      there = look_layer2 old new (g.D.Disk.told s.disk) s.books c.count_live.ensures.frame c.count_live.ensures.same.0 s.there;
      kept = look_kept old new (g.D.Disk.told s.disk) s.books c.count_live.ensures.frame c.count_live.ensures.same.0 s.kept;
      of_volume = volume_still old new (g.D.Disk.told s.disk) (g.D.Disk.told s.disk) s.books s.books c.count_live.ensures.frame
          (record { bigblocks = refl; begun = refl; roots = refl; last = refl }) c.count_live.ensures.same.1 s.of_volume;
    }

pub returns-clause-ok : goal.returns-clause-ok
returns-clause-ok g c =
    let s = c.args.self.now in
    live_counted (contents s.pages.store) (g.D.Disk.told s.disk) s.books c.args.block c.count_live.result c.count_live.ensures.ok

pub returns-clause-same : goal.returns-clause-same
returns-clause-same g c =
    let s = c.args.self.now in
    looks_same (contents s.pages.store) (contents c.count_live.new.pages.store) (g.D.Disk.told s.disk) s.books c.count_live.ensures.frame
    c.count_live.ensures.same.0

pub returns-clause-cause : goal.returns-clause-cause
unfolding heap_of
returns-clause-cause g c = c.count_live.ensures.cause.damage
