use Rattle.hm_path.proofs.PathLemmas.{no_bad_path}
use Rattle.hm_path.proofs.laws.no_path_has_a_bad_place.Goals as goal

pub returns : goal.returns
returns c = no_bad_path
