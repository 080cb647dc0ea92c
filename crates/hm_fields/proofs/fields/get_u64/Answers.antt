use Rattle.std.proofs.Common.{◌∙◌}
use Rattle.hm_fields.proofs.FieldLemmas.{get_is}
use Rattle.hm_fields.proofs.fields.get_u64.Goals as goal

pub returns : goal.returns
returns c = c.read_u64.ensures ∙ get_is c.page.inside.bytes c.args.page.now c.args.at 8 c.page.view_is
