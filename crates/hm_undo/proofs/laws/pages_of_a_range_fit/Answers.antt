use Rattle.hm_undo.proofs.RecoveredLemmas.{pages-fit}
use Rattle.hm_undo.proofs.laws.pages_of_a_range_fit.Goals as goal

pub returns : goal.returns
returns c = λ image header slot olds counts range. pages-fit image header slot counts olds range
