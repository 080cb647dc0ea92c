use Rattle.std.proofs.Common.{arith}
use Rattle.std.proofs.lemmas.Result.{err_from_is_err_and}
use Rattle.hm_header.proofs.SlotLemmas.{chosen_from, fault_from}
use Rattle.hm_header.proofs.slots.choose.Goals as goal

pub returns-in_err-header-clause-err : goal.returns-in_err-header-clause-err
returns-in_err-header-clause-err c =
    let p = err_from_is_err_and c.from_residual-in_err-header.result c.from_residual-in_err-header.ensures.1 in
    let counted = rw c.in_ok-slot.ensures.ok_part at c.counting.ensures.some in
    rw (p.1, p.2)
    (fault_from c.args.slot0.now c.args.slot1.now c.in_ok-slot.slot c.args.size c.in_ok-slot.number
    c.in_err-header.field-0.0
    counted.0 counted.1 c.in_err-header.ensures.err)

pub returns-clause-ok : goal.returns-clause-ok
returns-clause-ok c =
    let counted = rw c.in_ok-slot.ensures.ok_part at c.counting.ensures.some in
    chosen_from c.args.slot0.now c.args.slot1.now c.in_ok-slot.slot c.args.size c.in_ok-header.header
    c.in_ok-slot.number
    (λ k. omega (arith, c.type_inv.slot0 k)) (λ k. omega (arith, c.type_inv.slot1 k)) counted.0 counted.1
    c.in_ok-header.ensures.ok c.in_ok-header.ensures.in_range
