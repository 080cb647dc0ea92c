use Rattle.hm_path.proofs.PathLemmas.{bad_place_is_one}
use Rattle.hm_path.proofs.laws.bad_places_are_one.Goals as goal

pub returns : goal.returns
returns c = bad_place_is_one
