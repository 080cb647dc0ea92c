use Rattle.std.proofs.Common.{rules}
use Rattle.std.proofs.lemmas.Result.{err_from_is_err_and}
use Rattle.hm_key.specs.Counts.{subject_of}
use Rattle.hm_key.specs.Key.{key_of}
use Rattle.hm_view.proofs.LinkLemmas.{read_target, searched_target, target_none}
use Rattle.hm_view.proofs.links.softlink_target.Goals as goal

pub returns-in_err-element-clause-cause : goal.returns-in_err-element-clause-cause
returns-in_err-element-clause-cause g c =
    let p = err_from_is_err_and c.from_residual.result c.from_residual.ensures.1 in
    rw (p.1, p.2) (searched_target (subject_of (key_of c.target_base.result)) c.args.pfs.0 c.args.object.0 c.in_err-element.field-0.0
    (g.met.T.Extents.live c.args.store.now) c.target_base.ensures c.in_err-element.ensures.cause)

pub returns-in-Some-clause-cause : goal.returns-in-Some-clause-cause
returns-in-Some-clause-cause g c =
    read_target (subject_of (key_of c.target_base.result)) c.args.as_of.0 c.args.pfs.0 c.args.object.0 c.in-Some.len c.find_payload.new.buffer
    c.in_ok-element.field-0 c.in-Some.element c.decode_target.result (g.met.T.ElementStore.sorted c.args.store.now) c.target_base.ensures
    c.in_ok-element.ensures.ok c.in-Some.is c.in_ok-element.ensures.cause.counted.never_falls c.decode_target.ensures.only c.decode_target.ensures.err

pub returns-in-None-clause-ok : goal.returns-in-None-clause-ok
returns-in-None-clause-ok g c =
    target_none (g.T.HasElements.elements c.args.store.now) (g.T.HasRoom.extents c.args.store.now) (subject_of (key_of c.target_base.result))
    c.args.as_of.0 c.args.pfs.0 c.args.object.0 c.find_payload.new.buffer c.of.result c.in_ok-element.field-0 c.target_base.ensures c.in-None.is
    (search rules) c.in_ok-element.ensures.ok
