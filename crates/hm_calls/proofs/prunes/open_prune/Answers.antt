use Rattle.hm_calls.specs.Writes.{reserves}
use Rattle.hm_calls.proofs.TakeLemmas.{took_nothing}
use Rattle.hm_calls.proofs.prunes.open_prune.Goals as goal

pub returns-in-Err-Refused-clause-charges : goal.returns-in-Err-Refused-clause-charges
returns-in-Err-Refused-clause-charges g c =
    let same = (rw c.in-Err-Refused.field-0-is at c.in-Err-Refused.ensures.leads).1 in
    took_nothing g.T.HasRoom.room g.T.HasRoom.free reserves c.args.store.now c.begin_prune.new.store same.room same.free

pub returns-in-Err-Refused-clause-possible : goal.returns-in-Err-Refused-clause-possible
returns-in-Err-Refused-clause-possible g c = (rw c.in-Err-Refused.field-0-is at c.in-Err-Refused.ensures.gives).given

pub returns-in-Err-Refused-clause-refused : goal.returns-in-Err-Refused-clause-refused
returns-in-Err-Refused-clause-refused g c = (rw c.in-Err-Refused.field-0-is at c.in-Err-Refused.ensures.gives).refuses
