use Rattle.std.proofs.Common.{subst}
use Rattle.hm_key.specs.Key.{key_of}
use Rattle.hm_search.specs.Descent.{HasSearchCause}
use Rattle.hm_search.specs.declared.subtree.Subtree.{Subtree}
use Rattle.hm_btree.proofs.ChoiceLemmas.{from_tree}
use Rattle.hm_btree.proofs.IntactLemmas.{intact_tree}
use Rattle.hm_btree.proofs.ReadingLemmas.{cause_in_store}
use Rattle.hm_btree.proofs.tree.BTree.node_from.Goals as goal

pub returns-clause-ok : goal.returns-clause-ok
returns-clause-ok g c =
    let told = g.S.Pages.pages c.args.self.now.space in
    from_tree c.args.chosen.now (key_of c.args.from.now) told c.args.self.now.root c.root.result c.first_in.result c.root.ensures c.requires.before
    (intact_tree c.args.self.now.intact told c.args.self.now.root c.in_ok-require_intact.ensures.ok c.args.self.now.sound) c.first_in.ensures.ok

pub returns-clause-cause : goal.returns-clause-cause
returns-clause-cause g c =
    let told = g.S.Pages.pages c.args.self.now.space in
    let old = g.S.Counted.faults c.args.self.now.space in
    let new = g.S.Counted.faults c.first_in.new.pages in
    cause_in_store c.args.self.now.intact told c.args.self.now.root old new c.first_in.result c.args.self.now.sound
    (subst (λ (s : Subtree). HasSearchCause told s old new c.first_in.result) c.root.ensures c.first_in.ensures.cause)
