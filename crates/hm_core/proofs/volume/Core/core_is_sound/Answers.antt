-- What is so of every core.
use Rattle.std.proofs.Common.{refl}
use Rattle.std.proofs.Math.Logic.{∥∥₁_map}
use Rattle.hm_pages.specs.Store.{contents}
use Rattle.hm_stored.specs.Heap.{heap_of}
use Rattle.hm_core.specs.Seen.{seen}
use Rattle.hm_core.proofs.CrashLemmas.{sound_core}
use Rattle.hm_core.proofs.StepLemmas.{boundary_drawn, boundary_told, flushed_now, target_drawn}
use Rattle.hm_core.proofs.volume.Core.core_is_sound.Goals as goal

pub returns : goal.returns
returns g c =
    let s = c.args.self.now in
    let h = heap_of (contents s.stored.space.pages.store) (g.D.Disk.told s.stored.space.disk) s.stored.space.books in
    sound_core (seen s) c.flush_is_sound.ensures refl (boundary_drawn s.flusher s.last.0 s.free h s.history.items s.ordered)
    (target_drawn s.flusher s.last.0 s.free h s.history.items s.ordered) (∥∥₁_map s.caused (λ so_far. so_far.causes))
    (boundary_told s.flusher s.last.0 s.free h s.history.items s.ordered)
    (flushed_now s.flusher s.last.0 s.free h s.history.items s.ordered) c.pages_are_sound.ensures
