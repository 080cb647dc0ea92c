use Rattle.std.proofs.Common.{refl}
use Rattle.hm_stored.specs.Heap.{heap_of}
use Rattle.hm_stored.proofs.space.Space.append.Goals as goal

pub returns : goal.returns
unfolding heap_of
returns g c = refl
