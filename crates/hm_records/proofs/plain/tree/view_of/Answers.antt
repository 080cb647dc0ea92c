use Rattle.hm_records.proofs.PlainTreeLemmas.{view_held}
use Rattle.hm_records.proofs.plain.tree.view_of.Goals as goal

pub returns : goal.returns
returns c =
    view_held c.args.elements.now c.args.id.0 c.args.pfs.0 c.in_ok-objects_of.field-0.items c.in_ok-triples_of.field-0.items
    c.in_ok-objects_of.ensures c.in_ok-triples_of.ensures
