use Rattle.std.proofs.Common.{None, subst}
use Rattle.std.specs.Prelude.{Option, IfSome}
use Rattle.hm_types.specs.Elements.{Key}
use Rattle.hm_key.specs.Key.{key_of}
use Rattle.hm_search.specs.declared.subtree.Subtree.{Subtree}
use Rattle.hm_btree.specs.Calls.Choice.{FindsFrom}
use Rattle.hm_btree.proofs.ChoiceLemmas.{found_node, no_node}
use Rattle.hm_btree.proofs.IntactLemmas.{intact_tree}
use Rattle.hm_btree.proofs.tree.BTree.node_in.Goals as goal

pub returns-in-Some-clause-ok : goal.returns-in-Some-clause-ok
returns-in-Some-clause-ok g c =
    let told = g.S.Pages.pages c.args.self.now.space in
    let root = c.args.self.now.root in
    found_node c.args.chosen.now (key_of c.least.result) told root c.in-Some.place
    (intact_tree c.args.self.now.intact told root c.in_ok-found.ensures.intact c.args.self.now.sound)
    (subst (λ (o : Option Subtree). IfSome told (λ map. FindsFrom c.args.chosen.now (key_of c.least.result) map root o)) c.in-Some.is c.in_ok-found.ensures.ok)

pub returns-in-None-clause-ok : goal.returns-in-None-clause-ok
returns-in-None-clause-ok g c =
    let told = g.S.Pages.pages c.args.self.now.space in
    let root = c.args.self.now.root in
    no_node c.args.chosen.now told root
    (intact_tree c.args.self.now.intact told root c.in_ok-found.ensures.intact c.args.self.now.sound)
    (subst (λ (k : Key). IfSome told (λ map. FindsFrom c.args.chosen.now k map root None)) c.least.ensures.key
    (subst (λ (o : Option Subtree). IfSome told (λ map. FindsFrom c.args.chosen.now (key_of c.least.result) map root o)) c.in-None.is
    c.in_ok-found.ensures.ok))
