use Rattle.std.proofs.Common.{refl, ◌∙◌}
use Rattle.hm_fields.proofs.FieldLemmas.{get_is}
use Rattle.hm_load.proofs.layer1.word.Goals as goal

pub returns : goal.returns
returns c = c.read_u64.ensures ∙ get_is c.args.bytes.now c.args.bytes.now c.args.at 8 refl
