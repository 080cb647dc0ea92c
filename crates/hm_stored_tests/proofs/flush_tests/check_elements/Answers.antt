-- The disk tells nothing.
use Rattle.hm_stored.proofs.UntoldLemmas.{untold_extents}
use Rattle.hm_stored_tests.proofs.flush_tests.check_elements.Goals as goal

pub fetch-requires : goal.fetch-requires
fetch-requires g c = record { live = untold_extents _ _ _ }
