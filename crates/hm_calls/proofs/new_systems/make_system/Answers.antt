use Rattle.hm_calls.specs.Writes.{reserves}
use Rattle.hm_calls.proofs.KnownLemmas.{known_same}
use Rattle.hm_calls.proofs.TakeLemmas.{took_nothing}
use Rattle.hm_calls.proofs.new_systems.make_system.Goals as goal

pub returns-in-Err-Refused-clause-founded : goal.returns-in-Err-Refused-clause-founded
returns-in-Err-Refused-clause-founded g c = rw c.in-Err-Refused.field-0-is at c.in-Err-Refused.ensures.founds

pub returns-in-Err-Refused-clause-known : goal.returns-in-Err-Refused-clause-known
returns-in-Err-Refused-clause-known g c =
    let same = (rw c.in-Err-Refused.field-0-is at c.in-Err-Refused.ensures.founds).1 in
    known_same (g.T.HasElements.elements c.args.store.now) (g.T.HasElements.elements c.found_system.new.store) (g.T.HasRoom.extents c.args.store.now)
    (g.T.HasRoom.extents c.found_system.new.store) c.args.id.0 same.elements same.extents c.requires.known

pub returns-in-Err-Refused-clause-charges : goal.returns-in-Err-Refused-clause-charges
returns-in-Err-Refused-clause-charges g c =
    let same = (rw c.in-Err-Refused.field-0-is at c.in-Err-Refused.ensures.founds).1 in
    took_nothing g.T.HasRoom.room g.T.HasRoom.free reserves c.args.store.now c.found_system.new.store same.room same.free

pub returns-in-Err-Refused-clause-possible : goal.returns-in-Err-Refused-clause-possible
returns-in-Err-Refused-clause-possible g c = rw c.in-Err-Refused.field-0-is at c.in-Err-Refused.ensures.gives
