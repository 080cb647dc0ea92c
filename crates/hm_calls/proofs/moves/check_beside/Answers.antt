use Rattle.std.proofs.Common.{◌≡◌, None, Ok, Err, arith, refl}
use Rattle.std.proofs.lemmas.Result.{err_from_is_err_and}
use Rattle.hm_model.specs.Needs.{names_zones}
use Rattle.hm_model.specs.declared.reply.Reply.TheVariants.{HashFull}
use Rattle.hm_dirs.specs.declared.spot.Spot.{Spot}
use Rattle.hm_calls.specs.Due.{space_for}
use Rattle.hm_calls.specs.Moves.{on_a_move, seen_of}
use Rattle.hm_calls.specs.Stop.{Answers}
use Rattle.hm_calls.proofs.FrontLemmas.{among_so, ends, halts, map_in, skips}
use Rattle.hm_calls.proofs.GivenLemmas.{one_among, space_among}
use Rattle.hm_calls.proofs.LinkCallLemmas.{full_in, spot_in_scenes}
use Rattle.hm_calls.proofs.SceneLemmas.{answered}
use Rattle.hm_calls.proofs.StageLemmas.{space_before}
use Rattle.hm_calls.proofs.moves.check_beside.Goals as goal

pub returns-in_err-spot-clause-checks : goal.returns-in_err-spot-clause-checks
returns-in_err-spot-clause-checks g c course seen =
    let p = err_from_is_err_and c.from_residual.result c.from_residual.ensures.1 in
    rw (p.1, p.2) (map_in (λ scene set is. halts _ (answered Spot _ _ is))
    (full_in _ _ _ _ (seen_of c.args.found.now) c.args.name.now {T = Spot} (Err c.in_err-spot.field-0.0) c.in_err-spot.ensures.ok seen))

pub returns-in_err-admit_names-clause-checks : goal.returns-in_err-admit_names-clause-checks
returns-in_err-admit_names-clause-checks g c course seen =
    let p = err_from_is_err_and c.from_residual-in_err-admit_names.result c.from_residual-in_err-admit_names.ensures.1 in
    let same = c.in_ok-spot.ensures.keeps in
    let space = space_before (λ r f. Answers {T = Unit {0}} (space_for names_zones 4 r f) (Err c.in_err-admit_names.field-0.0)) _ _ _ _ same.room same.free
    c.in_err-admit_names.ensures.check in
    rw (p.1, p.2) (map_in (λ scene set is. skips is (halts _ (answered (Unit {0}) _ _ space)))
    (full_in _ _ _ _ (seen_of c.args.found.now) c.args.name.now (Ok c.in_ok-spot.spot) c.in_ok-spot.ensures.ok seen))

pub returns-clause-checks : goal.returns-clause-checks
returns-clause-checks g c course seen =
    let same = c.in_ok-spot.ensures.keeps in
    let space = space_before (λ r f. space_for names_zones 4 r f ≡ None) _ _ _ _ same.room same.free c.in_ok-admit_names.ensures.check in
    map_in (λ scene set is. skips is (skips space ends))
    (full_in _ _ _ _ (seen_of c.args.found.now) c.args.name.now (Ok c.in_ok-spot.spot) c.in_ok-spot.ensures.ok seen)

pub returns-clause-change : goal.returns-clause-change
returns-clause-change g c course seen =
    map_in (λ scene set spot fresh. record { fresh = fresh; spot_is = spot })
    (spot_in_scenes _ _ _ _ (seen_of c.args.found.now) c.args.name.now c.in_ok-spot.spot c.in_ok-spot.ensures.spot seen)

pub returns-in_err-spot-clause-gives : goal.returns-in_err-spot-clause-gives
returns-in_err-spot-clause-gives g c =
    let p = err_from_is_err_and c.from_residual.result c.from_residual.ensures.1 in
    rw (p.1, p.2) (among_so _ (one_among on_a_move HashFull tt (4, omega arith, refl)) _ c.in_err-spot.ensures.gives)

pub returns-in_err-admit_names-clause-gives : goal.returns-in_err-admit_names-clause-gives
returns-in_err-admit_names-clause-gives g c =
    let p = err_from_is_err_and c.from_residual-in_err-admit_names.result c.from_residual-in_err-admit_names.ensures.1 in
    rw (p.1, p.2) (among_so _ (space_among on_a_move (5, omega arith, refl)) _ c.in_err-admit_names.ensures.gives)
