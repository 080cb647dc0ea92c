use Rattle.std.proofs.Common.{⊎_elim, arith}
use Rattle.std.proofs.lemmas.Bool.{cases_eq}
use Rattle.std.proofs.lemmas.Bool.Decides.{nat_tests}
use Rattle.std.proofs.lemmas.Grind.{common_steps}
use Rattle.hm_btree.proofs.HeldLemmas.{held_lost}
use Rattle.hm_btree.proofs.mem_space.MemSpaceNodeSpace.drop_node.Goals as goal

pub invariant_of-self : goal.invariant_of-self
invariant_of-self c = record { nodes = held_lost c.args.self.now.pages c.remove.new.self c.args.at c.args.self.now.nodes c.remove.ensures.updates }

pub returns-clause-ok : goal.returns-clause-ok
returns-clause-ok c other =
    let h = c.remove.ensures.updates in
    ⊎_elim
    (λ e. grind (arith, common_steps, nat_tests, h.0 other, h.1, e))
    (λ ne. grind (arith, common_steps, nat_tests, h.0 other, h.2 other, ne)) (cases_eq other c.args.at)
