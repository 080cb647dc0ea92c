use Rattle.std.proofs.Common.{◌-◌, arith}
use Rattle.std.proofs.lemmas.Result.{on_ok_weaker}
use Rattle.hm_types.specs.Tree.{with_change, with_links}
use Rattle.hm_cursor.specs.Told.{fulls}
use Rattle.hm_cursor.proofs.CallLemmas.{writes_so}
use Rattle.hm_objects.specs.Objects.{ChangesBy, IsOlder}
use Rattle.hm_calls.specs.Writes.{DropsLink, DropsObject}
use Rattle.hm_calls.proofs.NameStepLemmas.{last_link, link_less}
use Rattle.hm_calls.proofs.take.drop_link.Goals as goal

pub returns-then-links-gt1-clause-ok : goal.returns-then-links-gt1-clause-ok
returns-then-links-gt1-clause-ok g c =
    on_ok_weaker c.set_links.result
    (writes_so g.T.HasElements.elements g.T.HasRoom.extents
    (ChangesBy c.args.pfs.0 c.args.obj.0 c.args.id.0 (λ tree. with_change tree c.args.obj (with_links (c.args.links - 1))))
    (DropsLink c.args.pfs.0 c.args.id.0 c.args.obj c.args.links) (λ lists. IsOlder c.args.pfs.0 c.args.obj.0 c.args.id.0 (fulls lists))
    c.args.store.now c.set_links.new.store c.requires.older
    (λ was es' older. link_less c.args.pfs.0 c.args.id.0 c.args.obj c.args.links (fulls was) es' (omega (arith, c.if-links-gt1.true))))
    c.set_links.ensures.ok

pub returns-else-links-gt1-clause-ok : goal.returns-else-links-gt1-clause-ok
returns-else-links-gt1-clause-ok g c =
    on_ok_weaker c.drop_object.result
    (writes_so g.T.HasElements.elements g.T.HasRoom.extents (DropsObject c.args.pfs.0 c.args.id.0 c.args.obj)
    (DropsLink c.args.pfs.0 c.args.id.0 c.args.obj c.args.links) (λ lists. IsOlder c.args.pfs.0 c.args.obj.0 c.args.id.0 (fulls lists))
    c.args.store.now c.drop_object.new.store c.requires.older
    (λ was es' older drops. last_link c.args.pfs.0 c.args.id.0 c.args.obj c.args.links (fulls was) es' (omega (arith, c.if-links-gt1.false))
    drops))
    c.drop_object.ensures.ok
