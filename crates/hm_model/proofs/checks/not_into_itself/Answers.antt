use Rattle.std.proofs.Common.{refl}
use Rattle.hm_model.proofs.OwnLemmas.{passed_pairs}
use Rattle.hm_model.proofs.checks.not_into_itself.Goals as goal

pub returns-then-has_passed-clause-check : goal.returns-then-has_passed-clause-check
returns-then-has_passed-clause-check c = rw (passed_pairs c.args.b.now.passed.items c.args.a.now.at.0, ← c.has_passed.ensures, c.if-has_passed.true) refl

pub returns-else-has_passed-clause-check : goal.returns-else-has_passed-clause-check
returns-else-has_passed-clause-check c = rw (passed_pairs c.args.b.now.passed.items c.args.a.now.at.0, ← c.has_passed.ensures, c.if-has_passed.false) refl
