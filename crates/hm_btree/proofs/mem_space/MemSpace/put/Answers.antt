use Rattle.std.proofs.Common.{⊎_elim, arith, ℕ, List, sym, subst}
use Rattle.std.proofs.lemmas.Bool.{cases_eq}
use Rattle.std.proofs.lemmas.Bool.Decides.{nat_tests}
use Rattle.std.proofs.lemmas.Grind.{common_steps}
use Rattle.hm_node.specs.Shape.{HoldsNode}
use Rattle.hm_btree.proofs.HeldLemmas.{held_put}
use Rattle.hm_btree.proofs.mem_space.MemSpace.put.Goals as goal

pub invariant_of-self : goal.invariant_of-self
invariant_of-self c = record {
  nodes = held_put c.args.self.now.pages c.insert.new.self c.args.at c.in_ok-page.page
      c.insert.result c.args.self.now.nodes (subst (λ (bytes : List ℕ). HoldsNode bytes) (sym c.in_ok-page.ensures.ok)
      c.requires.node) c.insert.ensures.updates c.insert.ensures.err;
}

pub returns-clause-ok : goal.returns-clause-ok
returns-clause-ok c other =
    let h = c.in_ok-insert.ensures.updates in
    ⊎_elim
    (λ e. grind (arith, common_steps, nat_tests, h.0 other, h.1, c.in_ok-page.ensures.ok, e))
    (λ ne. grind (arith, common_steps, nat_tests, h.0 other, h.2 other, ne)) (cases_eq other c.args.at)
