use Rattle.hm_undo.proofs.PutBackLemmas.{put_back-first, put_back-page}
use Rattle.hm_undo.proofs.laws.the_first_page_put_back_stands.Goals as goal

pub returns-clause-byte : goal.returns-clause-byte
returns-clause-byte c = put_back-first

pub returns-clause-page : goal.returns-clause-page
returns-clause-page c = put_back-page
