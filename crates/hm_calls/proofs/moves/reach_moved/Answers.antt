use Rattle.std.proofs.Common.{arith, ap, refl, subst, sym}
use Rattle.std.proofs.lemmas.Result.{err_from_is_err_and}
use Rattle.hm_model.specs.Due.{walks}
use Rattle.hm_model.specs.declared.reply.Reply.TheVariants.{ReadOnly}
use Rattle.hm_dirs.proofs.WalkLoopLemmas.{same_twice}
use Rattle.hm_dirs.specs.declared.position.Stand.{Stand}
use Rattle.hm_calls.specs.Known.{AreBelowIn}
use Rattle.hm_calls.specs.Moves.{on_a_move, watching}
use Rattle.hm_calls.proofs.FrontLemmas.{among_so, back_in, both_in, ends, halts, lost_now, map_in, skips}
use Rattle.hm_calls.proofs.GivenLemmas.{one_among}
use Rattle.hm_calls.proofs.MoveLemmas.{mv_places}
use Rattle.hm_calls.proofs.MoveStageLemmas.{is_movable, no_moved, placed_watching, taken_in, taken_watching, unplaced_watching, untaken_in}
use Rattle.hm_calls.proofs.ReachLemmas.{below_back, below_in, front_now}
use Rattle.hm_calls.proofs.RemoveLemmas.{unfound}
use Rattle.hm_calls.proofs.SceneLemmas.{answered}
use Rattle.hm_calls.proofs.moves.reach_moved.Goals as goal

pub returns-in_err-from-clause-places : goal.returns-in_err-from-clause-places
returns-in_err-from-clause-places g c old word name more called new =
    let p = err_from_is_err_and c.from_residual.result c.from_residual.ensures.1 in
    let hash = g.H.NameHash.hash_of c.args.hash.now in
    rw (p.1, p.2) (map_in (λ scene set stopped busy. halts _ stopped)
    (untaken_in hash c.args.course _ _ c.args.parts.now name called new.first_now _ c.in_err-from.ensures.ok))

pub returns-in_default-clause-places : goal.returns-in_default-clause-places
returns-in_default-clause-places g c old word name more called new =
    let hash = g.H.NameHash.hash_of c.args.hash.now in
    map_in (λ scene set is busy. absurd (unfound hash scene c.args.parts.now name c.in_ok-from.from c.in_ok-from.object is
    (no_moved c.moved_of.result c.in_ok-from.object.inode c.in_default.is c.moved_of.ensures.there)))
    (taken_in hash c.args.course _ _ c.args.parts.now name called new.first_now c.in_ok-from.from c.in_ok-from.object c.in_ok-from.ensures.ok)

pub returns-in_err-to-clause-places : goal.returns-in_err-to-clause-places
returns-in_err-to-clause-places g c old word name more called new =
    let p = err_from_is_err_and c.from_residual-in_err-to.result c.from_residual-in_err-to.ensures.1 in
    let hash = g.H.NameHash.hash_of c.args.hash.now in
    rw (p.1, p.2) (map_in (λ scene set is busy. skips (ap walks is.0.place_is) (halts _ is.1))
    (both_in (taken_in hash c.args.course _ _ c.args.parts.now name called new.first_now c.in_ok-from.from c.in_ok-from.object c.in_ok-from.ensures.ok)
    (unplaced_watching hash c.args.course c.in_ok-from.object c.in_ok-from.ensures.keeps c.args.parts.now more c.args.new new _ c.in_err-to.ensures.ok)))

pub returns-in_err-check_masters-clause-places : goal.returns-in_err-check_masters-clause-places
returns-in_err-check_masters-clause-places g c old word name more called new =
    let p = err_from_is_err_and c.from_residual-in_err-check_masters.result c.from_residual-in_err-check_masters.ensures.1 in
    let hash = g.H.NameHash.hash_of c.args.hash.now in
    rw (p.1, p.2) (map_in (λ scene set is busy.
    mv_places hash (λ _. 0) 0 old word (watching c.in_ok-from.object scene) c.args.parts.now more name c.args.new.name.now c.in_ok-from.from
    c.in_ok-from.object c.in_ok-to.to (taken_watching scene c.args.parts.now name c.in_ok-from.from c.in_ok-from.object is.0.0) is.0.1 is.0.1.told busy
    (halts _ (answered (Unit {0}) _ _ is.1)))
    (both_in (both_in (taken_in hash c.args.course _ _ c.args.parts.now name called new.first_now c.in_ok-from.from c.in_ok-from.object
    c.in_ok-from.ensures.ok)
    (placed_watching hash c.args.course c.in_ok-from.object c.in_ok-from.ensures.keeps c.args.parts.now more c.args.new new _ c.in_ok-to.ensures.ok))
    (back_in (same_twice c.in_ok-from.ensures.keeps c.in_ok-to.ensures.keeps) (c.in_err-check_masters.ensures.ok hash c.args.course))))

pub returns-clause-places : goal.returns-clause-places
returns-clause-places g c old word name more called new =
    let hash = g.H.NameHash.hash_of c.args.hash.now in
    map_in (λ scene set is busy.
    mv_places hash (λ _. 0) 0 old word (watching c.in_ok-from.object scene) c.args.parts.now more name c.args.new.name.now c.in_ok-from.from
    c.in_ok-from.object c.in_ok-to.to (taken_watching scene c.args.parts.now name c.in_ok-from.from c.in_ok-from.object is.0.0) is.0.1 is.0.1.told busy
    (skips is.1 ends))
    (both_in (both_in (taken_in hash c.args.course _ _ c.args.parts.now name called new.first_now c.in_ok-from.from c.in_ok-from.object
    c.in_ok-from.ensures.ok)
    (placed_watching hash c.args.course c.in_ok-from.object c.in_ok-from.ensures.keeps c.args.parts.now more c.args.new new _ c.in_ok-to.ensures.ok))
    (back_in (same_twice c.in_ok-from.ensures.keeps c.in_ok-to.ensures.keeps) (c.in_ok-check_masters.ensures.ok hash c.args.course)))

pub returns-clause-found : goal.returns-clause-found
returns-clause-found g c name more id called new known =
    let hash = g.H.NameHash.hash_of c.args.hash.now in
    let same = same_twice c.in_ok-from.ensures.keeps c.in_ok-to.ensures.keeps in
    is_movable c.args.parts.now more id name c.args.new.name.now c.in_ok-from.from c.in_ok-from.object c.in_ok-to.to c.read_last.result c.in-Some.moved
    c.read_last.ensures
    (taken_in hash c.args.course _ _ c.args.parts.now name called new.first_now c.in_ok-from.from c.in_ok-from.object c.in_ok-from.ensures.ok)
    (placed_watching hash c.args.course c.in_ok-from.object c.in_ok-from.ensures.keeps c.args.parts.now more c.args.new new _ c.in_ok-to.ensures.ok)
    (back_in same (c.in_ok-check_masters.ensures.ok hash c.args.course))
    (below_in c.in_ok-to.to.at.pfs.0 id (below_back same _ c.in_ok-check_masters.ensures.below id known))

pub returns-clause-moved : goal.returns-clause-moved
returns-clause-moved g c = record { obj = c.in-Some.ensures.object; kind = c.in-Some.ensures.kind; kind_is = c.in-Some.ensures.kind_is }

pub returns-clause-below : goal.returns-clause-below
returns-clause-below g c id known =
    subst (λ (s : Stand). AreBelowIn (g.T.HasElements.elements c.args.store.now) (g.T.HasRoom.extents c.args.store.now) s.at.pfs.0 id)
    (sym c.read_last.ensures)
    (below_back (same_twice c.in_ok-from.ensures.keeps c.in_ok-to.ensures.keeps) c.in_ok-to.to.at.pfs.0 c.in_ok-check_masters.ensures.below id known)

pub returns-in_err-from-clause-gives : goal.returns-in_err-from-clause-gives
returns-in_err-from-clause-gives g c name more called new =
    let p = err_from_is_err_and c.from_residual.result c.from_residual.ensures.1 in
    rw (p.1, p.2) (lost_now on_a_move new.first_now (7, omega arith, refl) (8, omega arith, refl) _ (c.in_err-from.ensures.gives name called))

pub returns-in_default-clause-gives : goal.returns-in_default-clause-gives
returns-in_default-clause-gives g c name more called new = record { own = tt; listed = (7, omega arith, refl) }

pub returns-in_err-to-clause-gives : goal.returns-in_err-to-clause-gives
returns-in_err-to-clause-gives g c name more called new =
    let p = err_from_is_err_and c.from_residual-in_err-to.result c.from_residual-in_err-to.ensures.1 in
    rw (p.1, p.2) (lost_now on_a_move (front_now c.args.parts.now more c.args.new new) (7, omega arith, refl) (8, omega arith, refl) _
    c.in_err-to.ensures.gives)

pub returns-in_err-check_masters-clause-gives : goal.returns-in_err-check_masters-clause-gives
returns-in_err-check_masters-clause-gives g c name more called new =
    let p = err_from_is_err_and c.from_residual-in_err-check_masters.result c.from_residual-in_err-check_masters.ensures.1 in
    rw (p.1, p.2) (among_so _ (one_among on_a_move ReadOnly tt (6, omega arith, refl)) _ c.in_err-check_masters.ensures.gives)
