use Rattle.std.proofs.Common.{⊎_elim, arith}
use Rattle.std.proofs.lemmas.Bool.{cases_eq}
use Rattle.std.proofs.lemmas.Bool.Decides.{nat_tests}
use Rattle.std.proofs.lemmas.Grind.{common_steps}
use Rattle.hm_fields.proofs.mem_pages.MemPagesPages.change.Goals as goal

pub returns-clause-ok : goal.returns-clause-ok
returns-clause-ok c other =
    let h = c.in_ok-insert.ensures.updates in
    ⊎_elim
    (λ e. grind (arith, common_steps, nat_tests, h.0 other, h.1, c.in_ok-page.ensures.ok, e))
    (λ ne. grind (arith, common_steps, nat_tests, h.0 other, h.2 other, ne)) (cases_eq other c.args.at)
