use Rattle.hm_key.specs.Counts.{subject_of}
use Rattle.hm_key.specs.Key.{key_of}
use Rattle.hm_cursor.proofs.ToldLemmas.{searched_none, searched_some}
use Rattle.hm_cursor.proofs.find.find_payload.Goals as goal

pub returns-in_default-clause-ok : goal.returns-in_default-clause-ok
returns-in_default-clause-ok g c =
    searched_none (g.T.HasElements.elements c.args.store.now) (g.T.HasRoom.extents c.args.store.now) (subject_of (key_of c.args.at.now)) c.args.as_of.0
    c.args.buffer.now c.in_ok-element.field-0 c.in_default.is c.in_ok-element.ensures.ok

pub returns-clause-ok : goal.returns-clause-ok
returns-clause-ok g c =
    searched_some (g.T.HasElements.elements c.args.store.now) (g.T.HasRoom.extents c.args.store.now) (g.T.HasRoom.extents c.version_at.new.store)
    (subject_of (key_of c.args.at.now)) c.args.as_of.0 c.read_payload.new.buffer c.in_ok-element.field-0 c.in-Some.element c.in_ok-len.len c.in-Some.is
    c.version_at.ensures.keeps.extents c.in_ok-element.ensures.ok c.in_ok-len.ensures.ok
