use Rattle.hm_header.proofs.LayoutLemmas.{body_is_one}
use Rattle.hm_header.proofs.laws.body_has_one_header.Goals as goal

pub returns : goal.returns
returns c = body_is_one
