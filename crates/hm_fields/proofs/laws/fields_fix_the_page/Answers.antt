use Rattle.hm_fields.proofs.ByteLemmas.{same_bytes, same_page}
use Rattle.hm_fields.proofs.laws.fields_fix_the_page.Goals as goal

pub returns-clause-bytes : goal.returns-clause-bytes
returns-clause-bytes c = same_bytes

pub returns-clause-page : goal.returns-clause-page
returns-clause-page c = same_page
