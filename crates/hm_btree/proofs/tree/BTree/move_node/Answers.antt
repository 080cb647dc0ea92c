use Rattle.std.proofs.Common.{◌∙◌}
use Rattle.hm_btree.specs.Marking.{Leaves}
use Rattle.hm_btree.specs.Tree.{told_elements}
use Rattle.hm_btree.proofs.ExchangeLemmas.{told_same}
use Rattle.hm_btree.proofs.IntactLemmas.{intact_tree}
use Rattle.hm_btree.proofs.StoreLemmas.{store_changed}
use Rattle.hm_btree.proofs.ToldLemmas.{IfSome_all, IfSome_both}
use Rattle.hm_btree.proofs.tree.BTree.move_node.Goals as goal

pub move_from-requires-clause-tree : goal.move_from-requires-clause-tree
move_from-requires-clause-tree g c =
    intact_tree c.args.self.now.intact (g.S.Pages.pages c.args.self.now.space) c.args.self.now.root c.in_ok-require_intact.ensures.ok c.args.self.now.sound

pub invariant_of-self-2 : goal.invariant_of-self-2
invariant_of-self-2 g c =
    let told = g.S.Pages.pages c.args.self.now.space in
    let did = c.in_ok-root.ensures.done in
    let changed = store_changed (λ es. es) did.key Leaves (λ _. Unit {0}) c.args.self.now.intact told (g.S.Pages.pages c.move_from.new.space)
    c.args.self.now.root c.in_ok-root.root c.in_ok-require_intact.ensures.ok c.args.self.now.sound did.kept.told
    (IfSome_all (told_elements c.args.self.now.intact told c.args.self.now.root) (λ es. tt)) did.tree in
    record { sound = changed.sound }

pub returns-clause-ok : goal.returns-clause-ok
returns-clause-ok g c =
    let told = g.S.Pages.pages c.args.self.now.space in
    let did = c.in_ok-root.ensures.done in
    let changed = store_changed (λ es. es) did.key Leaves (λ _. Unit {0}) c.args.self.now.intact told (g.S.Pages.pages c.move_from.new.space)
    c.args.self.now.root c.in_ok-root.root c.in_ok-require_intact.ensures.ok c.args.self.now.sound did.kept.told
    (IfSome_all (told_elements c.args.self.now.intact told c.args.self.now.root) (λ es. tt)) did.tree in
    record {
      elements = changed.elements ∙ told_same (told_elements c.args.self.now.intact told c.args.self.now.root);
      marks = changed.mark;
      pages = IfSome_both told (intact_tree c.args.self.now.intact told c.args.self.now.root c.in_ok-require_intact.ensures.ok c.args.self.now.sound)
          did.pages (λ was tree more. more tree);
      kept = did.kept;
      top = did.top;
    }
