use Rattle.hm_key.specs.Key.{key_of}
use Rattle.hm_node.specs.Leaf.{element_in}
use Rattle.hm_node.specs.Places.{place as place_at}
use Rattle.hm_node.proofs.EditLemmas.{leaf_bytes}
use Rattle.hm_btree.proofs.ShapeLemmas.{may_stand}
use Rattle.hm_btree.proofs.change.change_in_leaf.Goals as goal

pub change_at-requires-clause-element : goal.change_at-requires-clause-element
change_at-requires-clause-element c =
    let page = c.args.page.now in
    let i = c.leaf_place_in-place.result in
    let yes = c.if-not-has_element_in.false in
    may_stand c.args.change (key_of c.args.at.now) (element_in page (place_at i)) c.requires.may (c.has_element_in.ensures.here yes)
    ((leaf_bytes page c.requires.leaf).places i (c.has_element_in.ensures.within yes)).placed
