use Rattle.hm_model.proofs.edit.edit.Goals as goal

pub returns-in_ok-bytes-in-Fill : goal.returns-in_ok-bytes-in-Fill
returns-in_ok-bytes-in-Fill c = rw c.in-Fill.is (rw (c.deref.ensures.value, c.in_ok-bytes-in-Fill.ensures) at c.write-in-Fill.ensures)
