use Rattle.std.proofs.Common.{subst, sym}
use Rattle.std.proofs.lemmas.Result.{on_ok_weaker}
use Rattle.hm_cursor.specs.Told.{fulls}
use Rattle.hm_cursor.proofs.CallLemmas.{Change, Then, known_after, writes_both, writes_so}
use Rattle.hm_objects.specs.Objects.{pfs_link_of}
use Rattle.hm_pfs.specs.Systems.{IsNotMadeBy, PutsMaster, PutsSlave}
use Rattle.hm_calls.specs.NewSystems.{PutsLinked, PutsNewSystem}
use Rattle.hm_calls.specs.Writes.{PutsObject, place_in}
use Rattle.hm_calls.specs.declared.new_systems.NewSystem.{NewSystem}
use Rattle.hm_calls.proofs.NewCallLemmas.{balanced_then, pfs_apart, unmade_still}
use Rattle.hm_calls.proofs.new_systems.put_system.Goals as goal

pub add_master-requires-clause-balanced : goal.add_master-requires-clause-balanced
add_master-requires-clause-balanced g c =
    balanced_then (PutsObject (λ _. 0) (place_in c.args.directory.now c.args.name.now) c.args.spot c.args.id.0
    (pfs_link_of (record { 0 = c.args.id.0 }) c.args.number)) (g.T.HasElements.elements c.args.store.now)
    (g.T.HasElements.elements c.put_pfs_link.new.store) (g.T.HasRoom.extents c.args.store.now)
    (g.T.HasRoom.extents c.put_pfs_link.new.store) c.in_ok-put_pfs_link.ensures.keeps.elements c.in_ok-put_pfs_link.ensures.keeps.extents
    c.requires.balanced (c.in_ok-put_pfs_link.ensures.ok (λ _. 0))

pub add_slave-requires-clause-balanced : goal.add_slave-requires-clause-balanced
add_slave-requires-clause-balanced g c =
    balanced_then (PutsObject (λ _. 0) (place_in c.args.directory.now c.args.name.now) c.args.spot c.args.id.0
    (pfs_link_of (record { 0 = c.args.id.0 }) c.args.number)) (g.T.HasElements.elements c.args.store.now)
    (g.T.HasElements.elements c.put_pfs_link.new.store) (g.T.HasRoom.extents c.args.store.now)
    (g.T.HasRoom.extents c.put_pfs_link.new.store) c.in_ok-put_pfs_link.ensures.keeps.elements c.in_ok-put_pfs_link.ensures.keeps.extents
    c.requires.balanced (c.in_ok-put_pfs_link.ensures.ok (λ _. 0))

pub add_master-requires-clause-unmade : goal.add_master-requires-clause-unmade
add_master-requires-clause-unmade g c =
    let at = c.args.directory.now.at in
    known_after g.T.HasElements.elements g.T.HasRoom.extents
    (PutsObject (λ _. 0) (place_in c.args.directory.now c.args.name.now) c.args.spot c.args.id.0 (pfs_link_of (record { 0 = c.args.id.0 }) c.args.number))
    (λ lists. IsNotMadeBy c.args.number.0 c.args.id.0 (fulls lists)) (IsNotMadeBy c.args.number.0 c.args.id.0) c.args.store.now c.put_pfs_link.new.store
    c.in_ok-put_pfs_link.ensures.keeps.elements c.in_ok-put_pfs_link.ensures.keeps.extents c.requires.balanced c.requires.unmade
    (λ was mid unmade puts. unmade_still at.pfs.0 c.args.number.0 c.args.id.0 (fulls was) mid (pfs_apart c.args.number at.pfs c.requires.apart)
    puts.steps.writes unmade)
    (c.in_ok-put_pfs_link.ensures.ok (λ _. 0))

pub add_slave-requires-clause-unmade : goal.add_slave-requires-clause-unmade
add_slave-requires-clause-unmade g c =
    let at = c.args.directory.now.at in
    known_after g.T.HasElements.elements g.T.HasRoom.extents
    (PutsObject (λ _. 0) (place_in c.args.directory.now c.args.name.now) c.args.spot c.args.id.0 (pfs_link_of (record { 0 = c.args.id.0 }) c.args.number))
    (λ lists. IsNotMadeBy c.args.number.0 c.args.id.0 (fulls lists)) (IsNotMadeBy c.args.number.0 c.args.id.0) c.args.store.now c.put_pfs_link.new.store
    c.in_ok-put_pfs_link.ensures.keeps.elements c.in_ok-put_pfs_link.ensures.keeps.extents c.requires.balanced c.requires.unmade
    (λ was mid unmade puts. unmade_still at.pfs.0 c.args.number.0 c.args.id.0 (fulls was) mid (pfs_apart c.args.number at.pfs c.requires.apart)
    puts.steps.writes unmade)
    (c.in_ok-put_pfs_link.ensures.ok (λ _. 0))

pub returns-in-Master-clause-ok : goal.returns-in-Master-clause-ok
returns-in-Master-clause-ok g c hash =
    let place = place_in c.args.directory.now c.args.name.now in
    let One : Change = PutsObject hash place c.args.spot c.args.id.0 (pfs_link_of (record { 0 = c.args.id.0 }) c.args.number) in
    let Other : Change = PutsMaster c.args.number.0 c.args.shared c.args.id.0 in
    on_ok_weaker c.add_master.result
    (λ second. writes_so g.T.HasElements.elements g.T.HasRoom.extents (Then One Other)
    (PutsLinked hash place c.args.spot c.args.id.0 c.args.new c.args.number c.args.shared) (λ lists. IsNotMadeBy c.args.number.0 c.args.id.0 (fulls lists))
    c.args.store.now c.add_master.new.store c.requires.unmade
    (λ was es' unmade steps. let (mid, first, then) = steps in record {
      between = mid;
      link = first;
      system = subst (λ (n : NewSystem). PutsNewSystem n c.args.number.0 c.args.shared c.args.id.0 mid es') (sym c.in-Master.is) then;
    })
    (writes_both g.T.HasElements.elements g.T.HasRoom.extents One Other c.args.store.now c.put_pfs_link.new.store c.add_master.new.store
    (c.in_ok-put_pfs_link.ensures.ok hash) second))
    c.add_master.ensures.ok

pub returns-in-Slave-clause-ok : goal.returns-in-Slave-clause-ok
returns-in-Slave-clause-ok g c hash =
    let place = place_in c.args.directory.now c.args.name.now in
    let One : Change = PutsObject hash place c.args.spot c.args.id.0 (pfs_link_of (record { 0 = c.args.id.0 }) c.args.number) in
    let Other : Change = PutsSlave c.args.number.0 c.args.shared c.args.id.0 in
    on_ok_weaker c.add_slave.result
    (λ second. writes_so g.T.HasElements.elements g.T.HasRoom.extents (Then One Other)
    (PutsLinked hash place c.args.spot c.args.id.0 c.args.new c.args.number c.args.shared) (λ lists. IsNotMadeBy c.args.number.0 c.args.id.0 (fulls lists))
    c.args.store.now c.add_slave.new.store c.requires.unmade
    (λ was es' unmade steps. let (mid, first, then) = steps in record {
      between = mid;
      link = first;
      system = subst (λ (n : NewSystem). PutsNewSystem n c.args.number.0 c.args.shared c.args.id.0 mid es') (sym c.in-Slave.is) then;
    })
    (writes_both g.T.HasElements.elements g.T.HasRoom.extents One Other c.args.store.now c.put_pfs_link.new.store c.add_slave.new.store
    (c.in_ok-put_pfs_link.ensures.ok hash) second))
    c.add_slave.ensures.ok
