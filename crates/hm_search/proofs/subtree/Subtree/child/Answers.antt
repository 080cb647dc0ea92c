use Rattle.hm_search.proofs.ChildLemmas.{child_there}
use Rattle.hm_search.proofs.subtree.Subtree.child.Goals as goal

pub returns : goal.returns
returns c =
    child_there c.args.inner.now c.deref.result.now c.args.i c.index-deref-i.result c.right_of.result c.deref.ensures.0 c.requires c.index-deref-i.is
    c.right_of.ensures
