use Rattle.std.proofs.Common.{take}
use Rattle.std.proofs.lemmas.Result.{err_from_is_err_and}
use Rattle.hm_key.specs.Counts.{subject_of}
use Rattle.hm_key.specs.Key.{key_of}
use Rattle.hm_records.specs.Payload.{SpellsInode}
use Rattle.hm_cursor.proofs.PayloadLemmas.{searched_inode, unread_inode}
use Rattle.hm_cursor.proofs.ToldLemmas.{inode_none}
use Rattle.hm_objects.proofs.links.find_made_inode.Goals as goal

pub returns-in_err-element-clause-cause : goal.returns-in_err-element-clause-cause
returns-in_err-element-clause-cause g c =
    let p = err_from_is_err_and c.from_residual.result c.from_residual.ensures.1 in
    rw (p.1, p.2) (searched_inode (subject_of (key_of c.inode_base.result)) c.args.pfs.0 c.args.obj.0 c.in_err-element.field-0.0
    (g.met.T.Extents.live c.args.store.now) c.inode_base.ensures c.in_err-element.ensures.cause)

pub returns-in_err-inode-in-Some-clause-cause : goal.returns-in_err-inode-in-Some-clause-cause
returns-in_err-inode-in-Some-clause-cause g c =
    let p = err_from_is_err_and c.from_residual-in_err-inode-in-Some.result c.from_residual-in_err-inode-in-Some.ensures.1 in
    let read = c.in_err-inode-in-Some.ensures in
    let unspelled : SpellsInode (take c.in-Some.len c.find_payload.new.buffer) → ⊥ =
    λ spelled. absurd (let e = read.only spelled.0 spelled.1 spelled.2 in cc) in
    rw (p.1, p.2) (unread_inode (subject_of (key_of c.inode_base.result)) c.args.as_of.0 c.args.pfs.0 c.args.obj.0 c.in-Some.len
    c.find_payload.new.buffer c.in_ok-element.field-0 c.in-Some.element c.in_err-inode-in-Some.field-0.0
    (g.met.T.ElementStore.sorted c.args.store.now) c.inode_base.ensures c.in_ok-element.ensures.ok c.in-Some.is
    c.in_ok-element.ensures.cause.counted.never_falls unspelled read.err)

pub returns-in-None-clause-ok : goal.returns-in-None-clause-ok
returns-in-None-clause-ok g c =
    inode_none (g.T.HasElements.elements c.args.store.now) (g.T.HasRoom.extents c.args.store.now) (subject_of (key_of c.inode_base.result))
    c.args.as_of.0 c.args.pfs.0 c.args.obj.0 c.find_payload.new.buffer c.in_ok-element.field-0 c.inode_base.ensures c.in-None.is
    c.in_ok-element.ensures.ok
