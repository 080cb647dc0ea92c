use Rattle.hm_path.proofs.ReadLemmas.{every_text}
use Rattle.hm_path.proofs.laws.every_text_is_read.Goals as goal

pub returns : goal.returns
returns c = every_text
