use Rattle.std.proofs.Common.{◌∙◌, sym}
use Rattle.hm_model.proofs.PlaceLemmas.{has-split}
use Rattle.hm_model.proofs.read.has_last_name.Goals as goal

pub returns-in-Some : goal.returns-in-Some
returns-in-Some c = c.is_some.ensures ∙ sym (has-split c.args.parts.now c.in-Some.field-0-1.now c.in-Some.last.now c.in-Some.ensures.cases.0)
