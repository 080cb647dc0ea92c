use Rattle.std.proofs.Common.{rules, true, false, eqb, if◌then◌else◌}
use Rattle.std.proofs.lemmas.Fn.{filter_same}
use Rattle.hm_core_tests.specs.Tests.{is_other}
use Rattle.hm_core_tests.proofs.run.close.Goals as goal

pub returns : goal.returns
returns c = filter_same _ (is_other c.args.opening.0) _ (λ x b f' called. search rules) _ _ c.retain.ensures.filtered
