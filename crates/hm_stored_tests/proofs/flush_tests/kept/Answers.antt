-- The call is open still.
use Rattle.std.proofs.Common.{Option, ◌∙◌, ap, is_some}
use Rattle.hm_fields.specs.Pages.{PageMap}
use Rattle.hm_stored.specs.Heap.{heap_of}
use Rattle.hm_stored_tests.proofs.flush_tests.kept.Goals as goal

pub keep-requires-clause-opened : goal.keep-requires-clause-opened
unfolding heap_of
keep-requires-clause-opened c =
    ap (λ (o : Option PageMap). is_some o) (ap (λ f. f.0.pages.begin) c.add_all-all.ensures.frame ∙ c.begin.ensures.turn.pages.begin)
