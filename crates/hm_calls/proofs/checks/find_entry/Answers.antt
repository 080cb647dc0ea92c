use Rattle.hm_calls.proofs.CheckLemmas.{looked_named}
use Rattle.hm_calls.proofs.checks.find_entry.Goals as goal

pub returns-clause-ok : goal.returns-clause-ok
returns-clause-ok g c =
    looked_named (g.T.HasElements.elements c.args.store.now) (g.T.HasRoom.extents c.args.store.now) (g.met.T.ElementStore.sorted c.args.store.now)
    (g.H.NameHash.hash_of c.args.hash.now) c.args.directory.now.as_of.0 c.args.directory.now.at.pfs.0 c.args.directory.now.at.object c.args.name.now
    c.look_up.result c.look_up.ensures.ok
