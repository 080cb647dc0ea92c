use Rattle.hm_fields.proofs.FieldLemmas.{byte_is}
use Rattle.hm_fields.proofs.fields.get_u8.Goals as goal

pub returns : goal.returns
returns c = byte_is c.page.inside.bytes c.args.page.now c.args.at c.page.view_is
