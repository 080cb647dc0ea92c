-- Nothing refers into the choice any more.
use Rattle.std.proofs.Common.{Option, None, Some, ap, arith}
use Rattle.std.specs.Prelude.{IfSome}
use Rattle.hm_pages.specs.Store.{contents}
use Rattle.hm_stored.specs.Heap.{heap_of}
use Rattle.hm_stored.specs.Told.{elements_told}
use Rattle.hm_stored.specs.declared.space.Space.{Space}
use Rattle.hm_relocate.proofs.relocation.Relocation.end.Goals as goal

of_nothing : {A : Type 0} (o : Option A) → IfSome o (λ _. Unit {0})
of_nothing None = tt
of_nothing (Some x) = tt

pub returns-clause-cause : goal.returns-clause-cause
returns-clause-cause g c =
    let heap = λ (s : Space g.row.D.Denot g.D.Disk). heap_of (contents s.pages.store) (g.D.Disk.told s.disk) s.books in
    let s = c.args.stored.now in
    let counted = ap g.D.Disk.faults c.are_unused.ensures.rest.1 in
    record { counted = record { never_falls = omega (arith, counted); caused = tt }; undamaged = of_nothing (elements_told (heap s.space) s.root) }
