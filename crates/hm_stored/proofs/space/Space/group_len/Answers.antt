use Rattle.hm_stored.specs.Heap.{heap_of}
use Rattle.hm_stored.proofs.space.Space.group_len.Goals as goal

pub returns : goal.returns
unfolding heap_of
returns g c = c.group_len.ensures
