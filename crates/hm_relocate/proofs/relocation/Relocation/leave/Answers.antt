-- A big-block that is not in the choice.
use Rattle.std.proofs.Common.{sym, true≢false, ◌∙◌}
use Rattle.hm_relocate.proofs.LeavingLemmas.{without_none}
use Rattle.hm_relocate.proofs.relocation.Relocation.leave.Goals as goal

pub returns-else-has-clause-choice : goal.returns-else-has-clause-choice
returns-else-has-clause-choice c =
    sym (without_none c.args.block c.args.self.now.payloads.choice (λ there. true≢false (sym (c.has.ensures.1 there) ∙ c.if-has.false)))
