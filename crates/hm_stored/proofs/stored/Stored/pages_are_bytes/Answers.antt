-- Each page is bytes.
use Rattle.hm_fields.specs.declared.states.State.TheVariants.{Current}
use Rattle.hm_stored.specs.Heap.{heap_of}
use Rattle.hm_stored.proofs.stored.Stored.pages_are_bytes.Goals as goal

pub returns : goal.returns
unfolding heap_of
returns g c = λ at page is. c.pages_are_bytes.ensures Current at page is
