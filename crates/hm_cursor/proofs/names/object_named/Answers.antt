use Rattle.std.proofs.lemmas.Result.{err_from_is_err_and}
use Rattle.hm_cursor.proofs.EntryLemmas.{long_entry}
use Rattle.hm_cursor.proofs.names.object_named.Goals as goal

pub returns-in_err-len-clause-damage : goal.returns-in_err-len-clause-damage
returns-in_err-len-clause-damage g c =
    let p = err_from_is_err_and c.from_residual.result c.from_residual.ensures.1 in
    rw (p.1, p.2) (long_entry (g.T.HasRoom.extents c.args.store.now) c.args.entry.now c.in_err-len.field-0.0 (g.met.T.Extents.live c.args.store.now)
    c.requires.held c.in_err-len.ensures.damage)
