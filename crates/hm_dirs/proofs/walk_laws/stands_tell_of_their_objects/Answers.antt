use Rattle.hm_dirs.proofs.WalkOutcomeLemmas.{directory_here, link_here}
use Rattle.hm_dirs.proofs.walk_laws.stands_tell_of_their_objects.Goals as goal

pub returns-clause-directory : goal.returns-clause-directory
returns-clause-directory c = λ scene stand read. directory_here scene stand read

pub returns-clause-link : goal.returns-clause-link
returns-clause-link c = λ scene stand object read there. link_here scene stand object read there
