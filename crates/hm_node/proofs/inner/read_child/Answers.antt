use Rattle.hm_node.proofs.FieldLemmas.{child_read}
use Rattle.hm_node.proofs.inner.read_child.Goals as goal

pub returns : goal.returns
returns c = child_read c.args.page.now c.args.at c.read_base.result c.read_offset.result c.get_u64.result c.read_base.ensures c.read_offset.ensures
    c.get_u64.ensures
