-- A call is open at each of these.
use Rattle.std.proofs.Common.{Option, IsSome, ap, subst, sym}
use Rattle.hm_fields.specs.Pages.{PageMap}
use Rattle.hm_stored.specs.Heap.{heap_of}
use Rattle.hm_stored_tests.proofs.tests.kept_changes_stay_and_dropped_ones_go.Goals as goal

pub keep_call-requires-clause-opened : goal.keep_call-requires-clause-opened
unfolding heap_of
keep_call-requires-clause-opened g c =
    subst (λ (o : Option PageMap). IsSome o) (sym (ap (λ f. f.0.pages.begin) c.add.ensures.frame)) c.in_ok-store.ensures

pub drop_call-requires : goal.drop_call-requires
unfolding heap_of
drop_call-requires g c = record {
  opened = subst (λ (o : Option PageMap). IsSome o) (sym (ap (λ f. f.0.pages.begin) c.add-2.ensures.frame)) c.keep_call.ensures.begun;
}
