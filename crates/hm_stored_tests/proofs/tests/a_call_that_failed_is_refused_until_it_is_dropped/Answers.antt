-- The disk of a file tells nothing, and the call is open still.
use Rattle.std.proofs.Common.{Option, IsSome, ap, subst, sym, ◌∙◌}
use Rattle.hm_fields.specs.Pages.{PageMap}
use Rattle.hm_stored.specs.Heap.{heap_of}
use Rattle.hm_stored.proofs.UntoldLemmas.{untold_extents}
use Rattle.hm_stored_tests.proofs.tests.a_call_that_failed_is_refused_until_it_is_dropped.Goals as goal

pub give_back-requires : goal.give_back-requires
give_back-requires g c = record { live = untold_extents _ _ _ }

pub share-requires : goal.share-requires
share-requires g c = record { live = untold_extents _ _ _ }

pub drop_call-requires : goal.drop_call-requires
unfolding heap_of
drop_call-requires g c = record {
  opened = subst (λ (o : Option PageMap). IsSome o)
      (sym (ap (λ f. f.0.pages.begin) (c.share.ensures.frame ∙ (c.first_at_or_after.ensures.frame
      ∙ (c.admit.ensures.frame ∙ (c.give_back.ensures.frame ∙ c.put_piece.ensures.frame)))))) c.in_ok-store.ensures;
}
