use Rattle.std.proofs.Common.{List, ap, subst}
use Rattle.hm_types.specs.Told.{BothTell}
use Rattle.hm_key.specs.declared.element.Element.{Element}
use Rattle.hm_node.specs.declared.node.Node.{Node}
use Rattle.hm_node.specs.declared.node.Node.TheVariants.{Leaf as leaf_node}
use Rattle.hm_btree.specs.Edits.{leaf_of}
use Rattle.hm_btree.specs.Space.{HasAdded}
use Rattle.hm_btree.proofs.EmptyLemmas.{empty_holds, empty_told, empty_marks, has_nothing}
use Rattle.hm_btree.proofs.tree.BTree.empty.Goals as goal

pub over-requires : goal.over-requires
over-requires g c =
    empty_holds c.in-Ok.root (g.S.Pages.pages c.args.space) (g.S.Pages.pages c.add_node.new.space) c.requires.pages c.in-Ok.ensures.ok.spot
    (subst (λ (n : Node). BothTell (g.S.Pages.pages c.args.space) (g.S.Pages.pages c.add_node.new.space)
    (HasAdded c.in-Ok.root n)) (ap (λ (l : List Element). leaf_node (leaf_of 0 l)) c.new.ensures) c.in-Ok.ensures.ok.told)

pub returns-in-Ok-clause-empty : goal.returns-in-Ok-clause-empty
returns-in-Ok-clause-empty g c =
    let was = g.S.Pages.pages c.args.space in
    let told = g.S.Pages.pages c.add_node.new.space in
    let added = subst (λ (n : Node). BothTell was told (HasAdded c.in-Ok.root n))
    (ap (λ (l : List Element). leaf_node (leaf_of 0 l)) c.new.ensures) c.in-Ok.ensures.ok.told in
    rw (c.over.ensures.space, c.over.ensures.root)
    (has_nothing was told c.over.result.intact c.in-Ok.root
    (empty_told c.in-Ok.root c.over.result.intact was told c.over.ensures.intact c.requires.pages c.in-Ok.ensures.ok.spot added)
    (empty_marks c.in-Ok.root was told c.requires.pages c.in-Ok.ensures.ok.spot added))
