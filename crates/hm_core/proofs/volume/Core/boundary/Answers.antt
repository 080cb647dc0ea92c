-- The boundary is at least each that was told.
use Rattle.std.proofs.Common.{sym, subst, ◌≤◌}
use Rattle.hm_types.specs.declared.id.Id.{Id}
use Rattle.hm_pages.specs.Store.{contents}
use Rattle.hm_stored.specs.Heap.{heap_of}
use Rattle.hm_core.specs.Inside.{AreUpTo}
use Rattle.hm_core.proofs.StepLemmas.{boundary_drawn, boundary_told}
use Rattle.hm_core.proofs.volume.Core.boundary.Goals as goal

pub returns-clause-told : goal.returns-clause-told
returns-clause-told g c =
    let s = c.args.self.now in
    subst (λ (id : Id). AreUpTo id.0 s.history.items) (sym c.boundary.ensures)
    (boundary_told s.flusher s.last.0 s.free
    (heap_of (contents s.stored.space.pages.store) (g.D.Disk.told s.stored.space.disk) s.stored.space.books) s.history.items s.ordered)

pub returns-clause-drawn : goal.returns-clause-drawn
returns-clause-drawn g c =
    let s = c.args.self.now in
    subst (λ (id : Id). id.0 ≤ s.last.0) (sym c.boundary.ensures)
    (boundary_drawn s.flusher s.last.0 s.free
    (heap_of (contents s.stored.space.pages.store) (g.D.Disk.told s.stored.space.disk) s.stored.space.books) s.history.items s.ordered)
