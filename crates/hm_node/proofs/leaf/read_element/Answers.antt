use Rattle.hm_node.proofs.FieldLemmas.{element_read}
use Rattle.hm_node.proofs.leaf.read_element.Goals as goal

pub returns : goal.returns
returns c = element_read c.args.page.now c.args.at c.read_base.result c.read_offset.result c.get_u32.result c.read_base.ensures c.read_offset.ensures
    c.get_u32.ensures
