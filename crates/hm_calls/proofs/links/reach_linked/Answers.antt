use Rattle.std.proofs.Common.{ap, arith, refl, subst, sym}
use Rattle.std.proofs.lemmas.Result.{err_from_is_err_and}
use Rattle.hm_model.specs.Sites.{at_end}
use Rattle.hm_model.specs.Due.{walks}
use Rattle.hm_model.specs.declared.reply.Reply.TheVariants.{ReadOnly}
use Rattle.hm_dirs.proofs.WalkLoopLemmas.{same_twice}
use Rattle.hm_dirs.specs.declared.position.Stand.{Stand}
use Rattle.hm_calls.specs.Known.{AreBelowIn}
use Rattle.hm_calls.specs.Links.{on_a_link}
use Rattle.hm_calls.proofs.FrontLemmas.{among_so, back_in, both_in, ends, halts, lost_now, map_in, skips}
use Rattle.hm_calls.proofs.GivenLemmas.{one_among}
use Rattle.hm_calls.proofs.LinkCallLemmas.{is_linked}
use Rattle.hm_calls.proofs.LinkLemmas.{ln_places}
use Rattle.hm_calls.proofs.ReachLemmas.{below_back, below_in, front_now, placed_in, reached_in, unplaced_in, unreached_in}
use Rattle.hm_calls.proofs.SceneLemmas.{answered}
use Rattle.hm_calls.proofs.links.reach_linked.Goals as goal

pub returns-in_err-object-clause-places : goal.returns-in_err-object-clause-places
returns-in_err-object-clause-places g c old word more new =
    let p = err_from_is_err_and c.from_residual.result c.from_residual.ensures.1 in
    let hash = g.H.NameHash.hash_of c.args.hash.now in
    rw (p.1, p.2) (map_in (λ scene set stopped busy. halts _ stopped)
    (unreached_in hash c.args.course _ _ c.args.parts.now new.first_now _ c.in_err-object.ensures.ok))

pub returns-in_err-directory-clause-places : goal.returns-in_err-directory-clause-places
returns-in_err-directory-clause-places g c old word more new =
    let p = err_from_is_err_and c.from_residual-in_err-directory.result c.from_residual-in_err-directory.ensures.1 in
    let hash = g.H.NameHash.hash_of c.args.hash.now in
    rw (p.1, p.2) (map_in (λ scene set is busy. skips (ap (λ w. walks (at_end w)) is.0.walked_is) (halts _ is.1))
    (both_in (reached_in hash c.args.course _ _ c.args.parts.now new.first_now _ c.in_ok-object.ensures.ok)
    (unplaced_in hash c.args.course c.in_ok-object.ensures.keeps c.args.parts.now more c.args.new new _ c.in_err-directory.ensures.ok)))

pub returns-in_err-check_masters-clause-places : goal.returns-in_err-check_masters-clause-places
returns-in_err-check_masters-clause-places g c old word more new =
    let p = err_from_is_err_and c.from_residual-in_err-check_masters.result c.from_residual-in_err-check_masters.ensures.1 in
    let hash = g.H.NameHash.hash_of c.args.hash.now in
    rw (p.1, p.2) (map_in (λ scene set is busy.
    ln_places hash (λ _. 0) 0 old word scene c.args.parts.now more c.args.new.name.now c.in_ok-object.object c.in_ok-directory.directory is.0.0 is.0.1
    busy (halts _ (answered (Unit {0}) _ _ is.1)))
    (both_in (both_in (reached_in hash c.args.course _ _ c.args.parts.now new.first_now _ c.in_ok-object.ensures.ok)
    (placed_in hash c.args.course c.in_ok-object.ensures.keeps c.args.parts.now more c.args.new new _ c.in_ok-directory.ensures.ok))
    (back_in (same_twice c.in_ok-object.ensures.keeps c.in_ok-directory.ensures.keeps) (c.in_err-check_masters.ensures.ok hash c.args.course))))

pub returns-clause-places : goal.returns-clause-places
returns-clause-places g c old word more new =
    let hash = g.H.NameHash.hash_of c.args.hash.now in
    map_in (λ scene set is busy.
    ln_places hash (λ _. 0) 0 old word scene c.args.parts.now more c.args.new.name.now c.in_ok-object.object c.in_ok-directory.directory is.0.0 is.0.1
    busy (skips is.1 ends))
    (both_in (both_in (reached_in hash c.args.course _ _ c.args.parts.now new.first_now _ c.in_ok-object.ensures.ok)
    (placed_in hash c.args.course c.in_ok-object.ensures.keeps c.args.parts.now more c.args.new new _ c.in_ok-directory.ensures.ok))
    (back_in (same_twice c.in_ok-object.ensures.keeps c.in_ok-directory.ensures.keeps) (c.in_ok-check_masters.ensures.ok hash c.args.course)))

pub returns-clause-found : goal.returns-clause-found
returns-clause-found g c more id new known =
    let hash = g.H.NameHash.hash_of c.args.hash.now in
    let same = same_twice c.in_ok-object.ensures.keeps c.in_ok-directory.ensures.keeps in
    is_linked c.args.parts.now more id c.args.new c.in_ok-object.object c.in_ok-directory.directory c.read_last.result c.read_last.ensures
    (reached_in hash c.args.course _ _ c.args.parts.now new.first_now _ c.in_ok-object.ensures.ok)
    (placed_in hash c.args.course c.in_ok-object.ensures.keeps c.args.parts.now more c.args.new new _ c.in_ok-directory.ensures.ok)
    (back_in same (c.in_ok-check_masters.ensures.ok hash c.args.course))
    (below_in c.in_ok-directory.directory.at.pfs.0 id (below_back same _ c.in_ok-check_masters.ensures.below id known))

pub returns-clause-below : goal.returns-clause-below
returns-clause-below g c id known =
    subst (λ (s : Stand). AreBelowIn (g.T.HasElements.elements c.args.store.now) (g.T.HasRoom.extents c.args.store.now) s.at.pfs.0 id)
    (sym c.read_last.ensures)
    (below_back (same_twice c.in_ok-object.ensures.keeps c.in_ok-directory.ensures.keeps) c.in_ok-directory.directory.at.pfs.0
    c.in_ok-check_masters.ensures.below id known)

pub returns-in_err-object-clause-gives : goal.returns-in_err-object-clause-gives
returns-in_err-object-clause-gives g c more new =
    let p = err_from_is_err_and c.from_residual.result c.from_residual.ensures.1 in
    rw (p.1, p.2) (lost_now on_a_link new.first_now (9, omega arith, refl) (10, omega arith, refl) _ c.in_err-object.ensures.gives)

pub returns-in_err-directory-clause-gives : goal.returns-in_err-directory-clause-gives
returns-in_err-directory-clause-gives g c more new =
    let p = err_from_is_err_and c.from_residual-in_err-directory.result c.from_residual-in_err-directory.ensures.1 in
    rw (p.1, p.2) (lost_now on_a_link (front_now c.args.parts.now more c.args.new new) (9, omega arith, refl) (10, omega arith, refl) _
    c.in_err-directory.ensures.gives)

pub returns-in_err-check_masters-clause-gives : goal.returns-in_err-check_masters-clause-gives
returns-in_err-check_masters-clause-gives g c more new =
    let p = err_from_is_err_and c.from_residual-in_err-check_masters.result c.from_residual-in_err-check_masters.ensures.1 in
    rw (p.1, p.2) (among_so _ (one_among on_a_link ReadOnly tt (8, omega arith, refl)) _ c.in_err-check_masters.ensures.gives)
