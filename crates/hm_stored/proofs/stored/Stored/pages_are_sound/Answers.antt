-- What always holds of the pages.
use Rattle.hm_stored.specs.Heap.{heap_of}
use Rattle.hm_stored.proofs.stored.Stored.pages_are_sound.Goals as goal

pub returns : goal.returns
unfolding heap_of
returns g c = c.store_is_sound.ensures
