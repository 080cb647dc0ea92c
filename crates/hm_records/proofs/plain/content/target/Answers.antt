use Rattle.std.proofs.Common.{◌∙◌, subst}
use Rattle.hm_key.specs.Counts.{Counts, Subject}
use Rattle.hm_records.specs.Changes.{CountsNothing}
use Rattle.hm_records.specs.View.{missing}
use Rattle.hm_records.proofs.plain.content.target.Goals as goal

pub returns-in-None : goal.returns-in-None
returns-in-None c =
    missing
    (subst (λ (s : Subject). CountsNothing (Counts c.args.elements.now c.args.id) s) c.target_of.ensures c.in-None.ensures)
    (c.of-in-None.ensures ∙ c.new.ensures.items)
