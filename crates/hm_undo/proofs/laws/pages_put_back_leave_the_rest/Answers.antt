use Rattle.hm_undo.proofs.PutBackLemmas.{put_back-leaves}
use Rattle.hm_undo.proofs.laws.pages_put_back_leave_the_rest.Goals as goal

pub returns : goal.returns
returns c = put_back-leaves
