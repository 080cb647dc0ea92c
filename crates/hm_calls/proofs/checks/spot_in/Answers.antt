use Rattle.std.proofs.Common.{None, Some}
use Rattle.hm_calls.proofs.CheckLemmas.{spot_is, spot_passes, spot_refused, spotted}
use Rattle.hm_calls.proofs.checks.spot_in.Goals as goal

pub returns-in-Some-clause-ok : goal.returns-in-Some-clause-ok
returns-in-Some-clause-ok g c =
    spot_passes (g.T.HasElements.elements c.args.store.now) (g.T.HasRoom.extents c.args.store.now) (g.H.NameHash.hash_of c.args.hash.now)
    c.args.directory.now.as_of.0 c.args.directory.now.at.pfs.0 c.args.directory.now.at.object c.args.name.now c.in-Some.spot
    (spotted (g.T.HasElements.elements c.args.store.now) (g.T.HasRoom.extents c.args.store.now) (g.H.NameHash.hash_of c.args.hash.now)
    c.args.directory.now.as_of.0 c.args.directory.now.at.pfs.0 c.args.directory.now.at.object c.args.name.now c.bytes.result.now c.in_ok-spot.field-0
    (Some c.in-Some.spot) c.bytes.ensures c.in-Some.is c.in_ok-spot.ensures.ok)

pub returns-in-Some-clause-spot : goal.returns-in-Some-clause-spot
returns-in-Some-clause-spot g c =
    spot_is (g.T.HasElements.elements c.args.store.now) (g.T.HasRoom.extents c.args.store.now) (g.H.NameHash.hash_of c.args.hash.now)
    c.args.directory.now.as_of.0 c.args.directory.now.at.pfs.0 c.args.directory.now.at.object c.args.name.now c.in-Some.spot
    (spotted (g.T.HasElements.elements c.args.store.now) (g.T.HasRoom.extents c.args.store.now) (g.H.NameHash.hash_of c.args.hash.now)
    c.args.directory.now.as_of.0 c.args.directory.now.at.pfs.0 c.args.directory.now.at.object c.args.name.now c.bytes.result.now c.in_ok-spot.field-0
    (Some c.in-Some.spot) c.bytes.ensures c.in-Some.is c.in_ok-spot.ensures.ok)

pub returns-in-None-clause-ok : goal.returns-in-None-clause-ok
returns-in-None-clause-ok g c =
    spot_refused (g.T.HasElements.elements c.args.store.now) (g.T.HasRoom.extents c.args.store.now) (g.H.NameHash.hash_of c.args.hash.now)
    c.args.directory.now.as_of.0 c.args.directory.now.at.pfs.0 c.args.directory.now.at.object c.args.name.now
    (spotted (g.T.HasElements.elements c.args.store.now) (g.T.HasRoom.extents c.args.store.now) (g.H.NameHash.hash_of c.args.hash.now)
    c.args.directory.now.as_of.0 c.args.directory.now.at.pfs.0 c.args.directory.now.at.object c.args.name.now c.bytes.result.now c.in_ok-spot.field-0
    None c.bytes.ensures c.in-None.is c.in_ok-spot.ensures.ok)
