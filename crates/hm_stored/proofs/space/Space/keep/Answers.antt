-- A call is closed, and kept.
use Rattle.std.proofs.Common.{refl}
use Rattle.std.proofs.Math.Logic.{∥∥₁_map}
use Rattle.hm_pages.specs.Store.{contents}
use Rattle.hm_stored.specs.Heap.{heap_of}
use Rattle.hm_stored.proofs.KeptLemmas.{keeps_content}
use Rattle.hm_stored.proofs.TurnLemmas.{keep_kept, layer2_kept}
use Rattle.hm_stored.proofs.VolumeLemmas.{volume_closed}
use Rattle.hm_stored.proofs.space.Space.keep.Goals as goal

pub keep-requires : goal.keep-requires
unfolding heap_of
keep-requires g c = record { opened = c.requires.opened }

pub invariant_of-self : goal.invariant_of-self
invariant_of-self g c =
    let s = c.args.self.now in
    record {
      there = layer2_kept (contents s.pages.store) (contents c.keep.new.self) s.books.bigblocks c.keep.ensures.flush.committed s.there;
      kept = ∥∥₁_map s.kept (keep_kept (contents s.pages.store) (contents c.keep.new.self) (g.D.Disk.told s.disk) s.books c.requires.whole c.keep.ensures);
      of_volume = ∥∥₁_map s.of_volume (λ k. volume_closed (contents s.pages.store) (contents c.keep.new.self) (g.D.Disk.told s.disk) s.books s.books refl k
          c.keep.ensures);
    }

pub returns-clause-turn : goal.returns-clause-turn
unfolding heap_of
returns-clause-turn g c = record { pages = c.keep.ensures; rest = refl }

pub returns-clause-content : goal.returns-clause-content
returns-clause-content g c = keeps_content _ _ (returns-clause-turn g c) c.args.self.now.kept
