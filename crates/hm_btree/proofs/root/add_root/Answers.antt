use Rattle.std.proofs.Common.{arith}
use Rattle.hm_node.specs.Node.{node_in}
use Rattle.hm_btree.specs.Grow.{upper_at}
use Rattle.hm_btree.proofs.TopLemmas.{adds_top}
use Rattle.hm_btree.proofs.root.add_root.Goals as goal

pub returns-clause-ok : goal.returns-clause-ok
returns-clause-ok g c =
    adds_top g.S.Pages.pages g.S.HasRoom.extents c.args.place.now (node_in c.args.lower.now) (upper_at c.args.left c.args.upper.now)
    c.args.space.now c.add_page.new.space c.add_node.new.space c.in_ok-at.at c.top_over-top.result c.add_node.result c.top_over-top.ensures
    (omega (arith, c.level_in.ensures, c.if-level_in-ge-MOST_LEVELS.false)) c.in_ok-at.ensures.ok c.add_node.ensures.ok
