use Rattle.std.proofs.Common.{◌≡◌, None, Err, Ok, Some, arith, refl}
use Rattle.std.specs.Prelude.{IfSome}
use Rattle.std.proofs.lemmas.Result.{err_from_is_err_and}
use Rattle.hm_types.specs.declared.id.Pfs.{Pfs}
use Rattle.hm_key.specs.Balance.{content_of}
use Rattle.hm_cursor.specs.Told.{fulls}
use Rattle.hm_model.specs.Needs.{names_zones}
use Rattle.hm_model.specs.declared.reply.Reply.TheVariants.{Exists, HashFull}
use Rattle.hm_dirs.proofs.WalkLoopLemmas.{same_twice}
use Rattle.hm_dirs.specs.declared.spot.Spot.{Spot}
use Rattle.hm_pfs.specs.Records.{IsLeastUnused}
use Rattle.hm_calls.specs.Due.{space_for}
use Rattle.hm_calls.specs.NewSystems.{on_a_system}
use Rattle.hm_calls.specs.Stop.{Answers}
use Rattle.hm_calls.proofs.FrontLemmas.{among_so, back_in, both_in, ends, halts, map_in, on_in, skips}
use Rattle.hm_calls.proofs.GivenLemmas.{one_among, space_among}
use Rattle.hm_calls.proofs.NewCallLemmas.{number_among}
use Rattle.hm_calls.proofs.NewSystemLemmas.{hash_in, name_in, number_in, spot_in_tree}
use Rattle.hm_calls.proofs.SceneLemmas.{answered}
use Rattle.hm_calls.proofs.StageLemmas.{space_before, told_before}
use Rattle.hm_calls.proofs.new_systems.check_system.Goals as goal

pub returns-in_err-check_new-clause-checks : goal.returns-in_err-check_new-clause-checks
returns-in_err-check_new-clause-checks g c course seen =
    let p = err_from_is_err_and c.from_residual.result c.from_residual.ensures.1 in
    rw (p.1, p.2) (map_in (λ scene set is counted. halts _ (answered (Unit {0}) _ _ is)) (name_in _ _ _ _ c.args.directory.now seen _ _
    c.bytes.ensures (Err c.in_err-check_new.field-0.0) c.in_err-check_new.ensures.ok))

pub returns-in_err-number-clause-checks : goal.returns-in_err-number-clause-checks
returns-in_err-number-clause-checks g c course seen =
    let p = err_from_is_err_and c.from_residual-in_err-number.result c.from_residual-in_err-number.ensures.1 in
    rw (p.1, p.2) (map_in (λ scene set is counted. skips is.0 (halts _ (answered Pfs _ _ (is.1 counted))))
    (both_in (name_in _ _ _ _ c.args.directory.now seen _ _ c.bytes.ensures (Ok tt) c.in_ok-check_new.ensures.ok)
    (back_in c.in_ok-check_new.ensures.keeps (number_in _ _ _ _ c.args.directory.now (on_in c.in_ok-check_new.ensures.keeps seen) c.args.numbers {T = Pfs}
    (Err c.in_err-number.field-0.0) c.in_err-number.ensures.check))))

pub returns-in_err-spot-clause-checks : goal.returns-in_err-spot-clause-checks
returns-in_err-spot-clause-checks g c course seen =
    let p = err_from_is_err_and c.from_residual-in_err-spot.result c.from_residual-in_err-spot.ensures.1 in
    let same = same_twice c.in_ok-check_new.ensures.keeps c.in_ok-number.ensures.keeps in
    rw (p.1, p.2) (map_in (λ scene set is counted. skips is.0.0 (skips (is.0.1 counted) (halts _ (answered Spot _ _ is.1))))
    (both_in (both_in (name_in _ _ _ _ c.args.directory.now seen _ _ c.bytes.ensures (Ok tt) c.in_ok-check_new.ensures.ok)
    (back_in c.in_ok-check_new.ensures.keeps (number_in _ _ _ _ c.args.directory.now (on_in c.in_ok-check_new.ensures.keeps seen) c.args.numbers {T = Pfs}
    (Ok c.in_ok-number.number) c.in_ok-number.ensures.check)))
    (back_in same (hash_in _ _ _ _ c.args.directory.now (on_in same seen) c.args.name.now {T = Spot} (Err c.in_err-spot.field-0.0)
    c.in_err-spot.ensures.ok))))

pub returns-in_err-admit_names-clause-checks : goal.returns-in_err-admit_names-clause-checks
returns-in_err-admit_names-clause-checks g c course seen =
    let p = err_from_is_err_and c.from_residual-in_err-admit_names.result c.from_residual-in_err-admit_names.ensures.1 in
    let same = same_twice c.in_ok-check_new.ensures.keeps c.in_ok-number.ensures.keeps in
    let last = same_twice same c.in_ok-spot.ensures.keeps in
    let space = (space_before (λ r f. Answers {T = Unit {0}} (space_for names_zones 4 r f) (Err c.in_err-admit_names.field-0.0)) (g.T.HasRoom.room
    c.args.store.now) (g.T.HasRoom.room c.spot_in.new.store) (g.T.HasRoom.free c.args.store.now) (g.T.HasRoom.free c.spot_in.new.store) last.room last.free
    c.in_err-admit_names.ensures.check) in
    rw (p.1, p.2) (map_in (λ scene set is counted. skips is.0.0 (skips (is.0.1 counted) (skips is.1 (halts _ (answered (Unit {0}) _ _ space)))))
    (both_in (both_in (name_in _ _ _ _ c.args.directory.now seen _ _ c.bytes.ensures (Ok tt) c.in_ok-check_new.ensures.ok)
    (back_in c.in_ok-check_new.ensures.keeps (number_in _ _ _ _ c.args.directory.now (on_in c.in_ok-check_new.ensures.keeps seen) c.args.numbers {T = Pfs}
    (Ok c.in_ok-number.number) c.in_ok-number.ensures.check)))
    (back_in same (hash_in _ _ _ _ c.args.directory.now (on_in same seen) c.args.name.now {T = Spot} (Ok c.in_ok-spot.spot) c.in_ok-spot.ensures.ok))))

pub returns-clause-checks : goal.returns-clause-checks
returns-clause-checks g c course seen =
    let same = same_twice c.in_ok-check_new.ensures.keeps c.in_ok-number.ensures.keeps in
    let last = same_twice same c.in_ok-spot.ensures.keeps in
    let space = (space_before (λ r f. space_for names_zones 4 r f ≡ None) (g.T.HasRoom.room c.args.store.now) (g.T.HasRoom.room c.spot_in.new.store)
    (g.T.HasRoom.free c.args.store.now) (g.T.HasRoom.free c.spot_in.new.store) last.room last.free c.in_ok-admit_names.ensures.check) in
    map_in (λ scene set is counted. skips is.0.0 (skips (is.0.1 counted) (skips is.1 (skips space ends))))
    (both_in (both_in (name_in _ _ _ _ c.args.directory.now seen _ _ c.bytes.ensures (Ok tt) c.in_ok-check_new.ensures.ok)
    (back_in c.in_ok-check_new.ensures.keeps (number_in _ _ _ _ c.args.directory.now (on_in c.in_ok-check_new.ensures.keeps seen) c.args.numbers {T = Pfs}
    (Ok c.in_ok-number.number) c.in_ok-number.ensures.check)))
    (back_in same (hash_in _ _ _ _ c.args.directory.now (on_in same seen) c.args.name.now {T = Spot} (Ok c.in_ok-spot.spot) c.in_ok-spot.ensures.ok)))

pub returns-clause-spot : goal.returns-clause-spot
returns-clause-spot g c course seen =
    let same = same_twice c.in_ok-check_new.ensures.keeps c.in_ok-number.ensures.keeps in
    back_in same (spot_in_tree _ _ _ _ c.args.directory.now (on_in same seen) c.args.name.now c.in_ok-spot.spot c.in_ok-spot.ensures.spot)

pub returns-clause-unused : goal.returns-clause-unused
returns-clause-unused g c =
    told_before (g.T.HasElements.elements c.args.store.now) (g.T.HasElements.elements c.check_new.new.store) (g.T.HasRoom.extents c.args.store.now)
    (g.T.HasRoom.extents c.check_new.new.store) c.in_ok-check_new.ensures.keeps.elements c.in_ok-check_new.ensures.keeps.extents
    (λ es xs. IfSome (content_of es xs) (λ lists. IsLeastUnused (fulls lists) c.args.numbers (Some c.in_ok-number.number)))
    c.in_ok-number.ensures.unused

pub returns-in_err-check_new-clause-gives : goal.returns-in_err-check_new-clause-gives
returns-in_err-check_new-clause-gives g c =
    let p = err_from_is_err_and c.from_residual.result c.from_residual.ensures.1 in
    rw (p.1, p.2) (among_so _ (one_among on_a_system Exists tt (2, omega arith, refl)) _ c.in_err-check_new.ensures.gives)

pub returns-in_err-number-clause-gives : goal.returns-in_err-number-clause-gives
returns-in_err-number-clause-gives g c =
    let p = err_from_is_err_and c.from_residual-in_err-number.result c.from_residual-in_err-number.ensures.1 in
    rw (p.1, p.2) (among_so _ number_among _ c.in_err-number.ensures.gives)

pub returns-in_err-spot-clause-gives : goal.returns-in_err-spot-clause-gives
returns-in_err-spot-clause-gives g c =
    let p = err_from_is_err_and c.from_residual-in_err-spot.result c.from_residual-in_err-spot.ensures.1 in
    rw (p.1, p.2) (among_so _ (one_among on_a_system HashFull tt (3, omega arith, refl)) _ c.in_err-spot.ensures.gives)

pub returns-in_err-admit_names-clause-gives : goal.returns-in_err-admit_names-clause-gives
returns-in_err-admit_names-clause-gives g c =
    let p = err_from_is_err_and c.from_residual-in_err-admit_names.result c.from_residual-in_err-admit_names.ensures.1 in
    rw (p.1, p.2) (among_so _ (space_among on_a_system (4, omega arith, refl)) _ c.in_err-admit_names.ensures.gives)
