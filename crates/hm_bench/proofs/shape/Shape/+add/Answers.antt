use Rattle.std.proofs.Common.{◌<◌, rules}
use Rattle.hm_node.specs.Node.{level_of}
use Rattle.hm_btree.proofs.EditLemmas.{child_level_lower}
use Rattle.hm_bench.proofs.shape.Shape.+add.Goals as goal

-- a child is one level lower than its parent
pub add-requires : goal.add-requires
add-requires g t c κs within =
    let smaller : level_of c.in_ok-child-in-Inner.child < level_of c.args.node.now =
    child_level_lower c.args.node.now c.in_ok-child-in-Inner.child c.in-Inner.inner c.loop-i.i c.child.result c.in-Inner.is c.child.ensures
    c.in_ok-child-in-Inner.ensures.fits.level in
    search rules
