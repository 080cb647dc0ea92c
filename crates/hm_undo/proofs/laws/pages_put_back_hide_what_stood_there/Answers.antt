use Rattle.hm_undo.proofs.PutBackLemmas.{put_back-hides}
use Rattle.hm_undo.proofs.laws.pages_put_back_hide_what_stood_there.Goals as goal

pub returns : goal.returns
returns c = put_back-hides
