-- The call is open still.
use Rattle.std.proofs.Common.{Option, IsSome, ap, subst, sym, ◌∙◌}
use Rattle.hm_fields.specs.Pages.{PageMap}
use Rattle.hm_stored.specs.Heap.{heap_of}
use Rattle.hm_stored_tests.proofs.tests.a_dropped_call_takes_no_room.Goals as goal

pub drop_call-requires : goal.drop_call-requires
unfolding heap_of
drop_call-requires g c = record {
  opened = subst (λ (o : Option PageMap). IsSome o)
      (sym (ap (λ f. f.0.pages.begin) (c.place_of-second.ensures.frame ∙ c.place_of-first.ensures.frame))) c.in_ok-store.ensures;
}
