-- A call is opened.
use Rattle.std.proofs.Common.{Option, ap, is_some}
use Rattle.hm_fields.specs.Pages.{PageMap}
use Rattle.hm_stored.specs.Heap.{heap_of}
use Rattle.hm_stored_tests.proofs.tests.opened.Goals as goal

pub returns : goal.returns
unfolding heap_of
returns g c = ap (λ (o : Option PageMap). is_some o) c.begin.ensures.turn.pages.begin
