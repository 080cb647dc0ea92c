-- The disk of a file tells nothing.
use Rattle.hm_stored.proofs.UntoldLemmas.{untold_extents}
use Rattle.hm_stored_tests.proofs.tests.payloads_are_read_shared_and_given_back.Goals as goal

pub fetch-requires : goal.fetch-requires
fetch-requires g c = record { live = untold_extents _ _ _ }

pub share-requires : goal.share-requires
share-requires g c = record { live = untold_extents _ _ _ }

pub give_back-requires : goal.give_back-requires
give_back-requires g c = record { live = untold_extents _ _ _ }

pub give_back-requires-2 : goal.give_back-requires-2
give_back-requires-2 g c = record { live = untold_extents _ _ _ }
