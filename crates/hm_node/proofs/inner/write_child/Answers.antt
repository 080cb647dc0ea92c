use Rattle.std.proofs.Common.{◌∙◌, ◌+◌, arith}
use Rattle.hm_node.proofs.FieldLemmas.{child_put, apart_put, apart_base}
use Rattle.hm_node.proofs.inner.write_child.Goals as goal

pub returns-clause-value : goal.returns-clause-value
returns-clause-value c =
    child_put c.write_base.new.page c.args.at c.args.child.now c.put_u64.new.page c.put_u64-2.new.page c.raw.result
    c.write_base.ensures.value c.raw.ensures.value
    c.put_u64.ensures.change c.put_u64.ensures.held c.put_u64-2.ensures.change c.put_u64-2.ensures.held

pub returns-clause-others : goal.returns-clause-others
returns-clause-others c = λ other width apart.
    apart_put c.write_base.new.page c.put_u64.new.page c.put_u64-2.new.page c.args.at 56 (c.args.at + 40) 8 _ (c.args.at + 48) 8 _ other width
    c.put_u64.ensures.change c.put_u64-2.ensures.change (omega arith) (omega arith) (omega arith) (omega arith) apart
    ∙ c.write_base.ensures.others other width (apart_base c.args.at 56 other width (omega arith) apart)
