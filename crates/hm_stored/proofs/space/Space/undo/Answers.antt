-- A call is closed, and dropped.
use Rattle.std.proofs.Common.{refl}
use Rattle.std.proofs.Math.Logic.{∥∥₁_map}
use Rattle.hm_pages.specs.Store.{contents}
use Rattle.hm_stored.specs.Heap.{heap_of}
use Rattle.hm_stored.proofs.DroppedLemmas.{drops_content}
use Rattle.hm_stored.proofs.TurnLemmas.{undo_kept, layer2_kept}
use Rattle.hm_stored.proofs.VolumeLemmas.{volume_dropped}
use Rattle.hm_stored.proofs.space.Space.undo.Goals as goal

pub undo-requires : goal.undo-requires
unfolding heap_of
undo-requires g c = record { opened = c.requires.opened }

pub invariant_of-self-3 : goal.invariant_of-self-3
invariant_of-self-3 g c =
    let s = c.args.self.now in
    record {
      there = layer2_kept (contents s.pages.store) (contents c.undo.new.self) s.books.bigblocks c.undo.ensures.flush.committed s.there;
      kept = ∥∥₁_map s.kept (undo_kept (contents s.pages.store) (contents c.undo.new.self)
          (g.D.Disk.told s.disk) s.books _ c.undo.ensures c.requires.opened refl);
      of_volume = ∥∥₁_map s.of_volume (λ k. volume_dropped (contents s.pages.store) (contents c.undo.new.self) (g.D.Disk.told s.disk) s.books _ refl k
          c.undo.ensures c.requires.opened);
    }

pub returns-clause-turn : goal.returns-clause-turn
unfolding heap_of
returns-clause-turn g c = record { pages = c.undo.ensures; rest = refl }

pub returns-clause-content : goal.returns-clause-content
returns-clause-content g c = drops_content _ _ (returns-clause-turn g c)
