use Rattle.std.proofs.lemmas.Result.{on_ok_weaker}
use Rattle.hm_types.specs.declared.id.Obj.{Obj}
use Rattle.hm_types.specs.declared.object.Kind.TheVariants.{PfsLink}
use Rattle.hm_key.specs.Balance.{content_of}
use Rattle.hm_cursor.specs.Told.{fulls}
use Rattle.hm_cursor.proofs.CallLemmas.{Change, Then, known_after, writes_both, writes_so}
use Rattle.hm_records.specs.View.{kind_number}
use Rattle.hm_objects.specs.Objects.{AddsObject, pfs_link_of}
use Rattle.hm_dirs.specs.Names.{AreOlder}
use Rattle.hm_calls.specs.Known.{AreBelow}
use Rattle.hm_calls.specs.Writes.{PutsName, PutsObject, place_in}
use Rattle.hm_calls.proofs.NameStepLemmas.{object_put}
use Rattle.hm_calls.proofs.StepLemmas.{entries_older, entries_older_beside, object_older, told_so}
use Rattle.hm_calls.proofs.new_systems.put_pfs_link.Goals as goal

pub add_pfs_link-requires-clause-older : goal.add_pfs_link-requires-clause-older
add_pfs_link-requires-clause-older g c =
    told_so (content_of (g.T.HasElements.elements c.args.store.now) (g.T.HasRoom.extents c.args.store.now))
    (λ lists below. object_older c.args.directory.now.at.pfs.0 c.args.id.0 c.args.id.0 (fulls lists) below) c.requires.below

pub put_name-requires-clause-older : goal.put_name-requires-clause-older
put_name-requires-clause-older g c =
    let at = c.args.directory.now.at in
    let number : Obj = record { 0 = c.args.id.0 } in
    known_after g.T.HasElements.elements g.T.HasRoom.extents (AddsObject at.pfs.0 c.args.id.0 (pfs_link_of number c.args.to))
    (λ lists. AreBelow at.pfs.0 c.args.id.0 (fulls lists)) (AreOlder at.pfs.0 at.object c.args.id.0) c.args.store.now c.add_pfs_link.new.store
    c.in_ok-add_pfs_link.ensures.keeps.elements c.in_ok-add_pfs_link.ensures.keeps.extents c.requires.balanced c.requires.below
    (λ was mid below adds. entries_older_beside at.pfs.0 c.args.id.0 c.args.id.0 at.object (fulls was) mid adds.writes
    (entries_older at.pfs.0 c.args.id.0 at.object (fulls was) below))
    c.in_ok-add_pfs_link.ensures.ok

pub returns-clause-ok : goal.returns-clause-ok
returns-clause-ok g c hash =
    let at = c.args.directory.now.at in
    let place = place_in c.args.directory.now c.args.name.now in
    let number : Obj = record { 0 = c.args.id.0 } in
    let One : Change = AddsObject at.pfs.0 c.args.id.0 (pfs_link_of number c.args.to) in
    let Other : Change = PutsName place c.args.spot c.args.id.0 number (kind_number PfsLink) in
    on_ok_weaker c.put_name.result
    (λ second. writes_so g.T.HasElements.elements g.T.HasRoom.extents (Then One Other)
    (PutsObject hash place c.args.spot c.args.id.0 (pfs_link_of number c.args.to)) (λ lists. AreBelow at.pfs.0 c.args.id.0 (fulls lists))
    c.args.store.now c.put_name.new.store c.requires.below
    (λ was es' below steps.
    let (mid, first, then) = steps in
    object_put hash place c.args.spot c.args.id.0 (pfs_link_of number c.args.to) (fulls was) mid es' first then)
    (writes_both g.T.HasElements.elements g.T.HasRoom.extents One Other c.args.store.now c.add_pfs_link.new.store c.put_name.new.store
    c.in_ok-add_pfs_link.ensures.ok second))
    c.put_name.ensures.ok
