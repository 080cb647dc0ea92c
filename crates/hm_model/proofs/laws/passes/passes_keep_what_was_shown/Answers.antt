use Rattle.hm_model.proofs.PassEndLemmas.{at-before_pass, begin_legal, others-pass}
use Rattle.hm_model.proofs.laws.passes.passes_keep_what_was_shown.Goals as goal

pub returns-clause-views : goal.returns-clause-views
returns-clause-views c = at-before_pass

pub returns-clause-begin : goal.returns-clause-begin
returns-clause-begin c = begin_legal

pub returns-clause-others : goal.returns-clause-others
returns-clause-others c = others-pass
