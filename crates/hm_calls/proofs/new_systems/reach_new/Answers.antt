use Rattle.std.proofs.Common.{[], Err, Ok, arith, refl, subst, sym}
use Rattle.std.proofs.lemmas.Result.{err_from_is_err_and}
use Rattle.hm_model.specs.declared.reply.Reply.TheVariants.{ReadOnly}
use Rattle.hm_dirs.specs.declared.position.Stand.{Stand}
use Rattle.hm_calls.specs.Known.{AreBelowIn}
use Rattle.hm_calls.specs.NewSystems.{on_a_system}
use Rattle.hm_calls.proofs.FrontLemmas.{among_so, back_in, both_in, ends, halts, lost_now, map_in, skips}
use Rattle.hm_calls.proofs.GivenLemmas.{one_among}
use Rattle.hm_calls.proofs.NewSystemLemmas.{at_places, is_new_there, new_places, slave_in}
use Rattle.hm_calls.proofs.ReachLemmas.{below_back, below_in, front_now, placed_in, unplaced_in}
use Rattle.hm_calls.proofs.SceneLemmas.{answered}
use Rattle.hm_calls.proofs.StageLemmas.{untouched}
use Rattle.hm_calls.proofs.new_systems.reach_new.Goals as goal

pub returns-in_err-directory-clause-places : goal.returns-in_err-directory-clause-places
returns-in_err-directory-clause-places g c parts new word shared named =
    let p = err_from_is_err_and c.from_residual.result c.from_residual.ensures.1 in
    let hash = g.H.NameHash.hash_of c.args.hash.now in
    let here = untouched g.T.HasElements.elements g.T.HasElements.mark g.T.HasRoom.extents g.T.HasRoom.room g.T.HasRoom.free c.args.store.now in
    rw (p.1, p.2) (map_in (λ scene set is busy. at_places hash word shared scene parts busy new (halts _ is))
    (unplaced_in hash c.args.course here [] parts c.args.named named _ c.in_err-directory.ensures.ok))

pub returns-in_err-check_master-clause-places : goal.returns-in_err-check_master-clause-places
returns-in_err-check_master-clause-places g c parts new word shared named =
    let p = err_from_is_err_and c.from_residual-in_err-check_master.result c.from_residual-in_err-check_master.ensures.1 in
    let hash = g.H.NameHash.hash_of c.args.hash.now in
    let here = untouched g.T.HasElements.elements g.T.HasElements.mark g.T.HasRoom.extents g.T.HasRoom.room g.T.HasRoom.free c.args.store.now in
    rw (p.1, p.2) (map_in (λ scene set is busy.
    new_places hash word shared scene parts busy c.args.named.name.now c.in_ok-directory.directory is.0 new (halts _ (answered (Unit {0}) _ _ is.1)))
    (both_in (placed_in hash c.args.course here [] parts c.args.named named _ c.in_ok-directory.ensures.ok)
    (back_in c.in_ok-directory.ensures.keeps (slave_in c.in_ok-directory.directory.at.pfs.0 (Err c.in_err-check_master.field-0.0)
    c.in_err-check_master.ensures.ok))))

pub returns-clause-places : goal.returns-clause-places
returns-clause-places g c parts new word shared named =
    let hash = g.H.NameHash.hash_of c.args.hash.now in
    let here = untouched g.T.HasElements.elements g.T.HasElements.mark g.T.HasRoom.extents g.T.HasRoom.room g.T.HasRoom.free c.args.store.now in
    map_in (λ scene set is busy.
    new_places hash word shared scene parts busy c.args.named.name.now c.in_ok-directory.directory is.0 new (skips is.1 ends))
    (both_in (placed_in hash c.args.course here [] parts c.args.named named _ c.in_ok-directory.ensures.ok)
    (back_in c.in_ok-directory.ensures.keeps (slave_in c.in_ok-directory.directory.at.pfs.0 (Ok tt) c.in_ok-check_master.ensures.ok)))

pub returns-clause-found : goal.returns-clause-found
returns-clause-found g c parts id named known =
    let hash = g.H.NameHash.hash_of c.args.hash.now in
    let here = untouched g.T.HasElements.elements g.T.HasElements.mark g.T.HasRoom.extents g.T.HasRoom.room g.T.HasRoom.free c.args.store.now in
    let same = c.in_ok-directory.ensures.keeps in
    is_new_there parts id c.args.named.name.now c.in_ok-directory.directory c.read_last.result c.read_last.ensures
    (placed_in hash c.args.course here [] parts c.args.named named _ c.in_ok-directory.ensures.ok)
    (back_in same (slave_in c.in_ok-directory.directory.at.pfs.0 (Ok tt) c.in_ok-check_master.ensures.ok))
    (below_in c.in_ok-directory.directory.at.pfs.0 id (below_back same _ c.in_ok-check_master.ensures.below id known))

pub returns-clause-below : goal.returns-clause-below
returns-clause-below g c id known =
    subst (λ (s : Stand). AreBelowIn (g.T.HasElements.elements c.args.store.now) (g.T.HasRoom.extents c.args.store.now) s.at.pfs.0 id)
    (sym c.read_last.ensures)
    (below_back c.in_ok-directory.ensures.keeps c.in_ok-directory.directory.at.pfs.0 c.in_ok-check_master.ensures.below id known)

pub returns-in_err-directory-clause-gives : goal.returns-in_err-directory-clause-gives
returns-in_err-directory-clause-gives g c parts named =
    let p = err_from_is_err_and c.from_residual.result c.from_residual.ensures.1 in
    rw (p.1, p.2) (lost_now on_a_system (front_now [] parts c.args.named named) (6, omega arith, refl) (7, omega arith, refl) _
    c.in_err-directory.ensures.gives)

pub returns-in_err-check_master-clause-gives : goal.returns-in_err-check_master-clause-gives
returns-in_err-check_master-clause-gives g c parts named =
    let p = err_from_is_err_and c.from_residual-in_err-check_master.result c.from_residual-in_err-check_master.ensures.1 in
    rw (p.1, p.2) (among_so _ (one_among on_a_system ReadOnly tt (5, omega arith, refl)) _ c.in_err-check_master.ensures.gives)
