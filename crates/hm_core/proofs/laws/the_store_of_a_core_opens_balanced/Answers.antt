use Rattle.hm_stored.specs.Heap.{heap_of}
use Rattle.hm_stored.specs.Space.{heap}
use Rattle.hm_core.proofs.StepLemmas.{closed_now}
use Rattle.hm_core.proofs.TurnLemmas.{balanced_begun}
use Rattle.hm_core.proofs.laws.the_store_of_a_core_opens_balanced.Goals as goal

pub returns : goal.returns
unfolding heap_of
returns g c = λ core s begins.
    let h = heap core.stored.space in
    balanced_begun h (heap s.space) core.stored.root s.root core.last.0
    (closed_now core.flusher core.last.0 core.free h core.history.items core.ordered) core.stored.space.kept begins.turn begins.root
