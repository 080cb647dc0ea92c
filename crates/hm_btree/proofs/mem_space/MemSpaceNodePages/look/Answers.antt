use Rattle.std.proofs.Common.{ℕ, List, sym, subst}
use Rattle.std.specs.Prelude.{Option, IfSome, Box}
use Rattle.std.specs.declared.alloc.Global.{Global}
use Rattle.hm_node.specs.Shape.{HoldsNode}
use Rattle.hm_btree.proofs.mem_space.MemSpaceNodePages.look.Goals as goal

pub returns-in-Some-clause-kept : goal.returns-in-Some-clause-kept
returns-in-Some-clause-kept c =
    subst (λ (bytes : List ℕ). HoldsNode bytes) (sym c.deref.ensures)
    (subst (λ (o : Option (Box (List ℕ) Global)). IfSome o (λ (p : Box (List ℕ) Global). HoldsNode p.value))
    (sym c.in-Some.ensures.value) (c.args.self.now.nodes c.args.at))
