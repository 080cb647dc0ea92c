use Rattle.hm_path.proofs.PathLemmas.{path_is_one}
use Rattle.hm_path.proofs.laws.parts_are_one.Goals as goal

pub returns : goal.returns
returns c = path_is_one
