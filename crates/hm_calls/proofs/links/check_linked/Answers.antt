use Rattle.std.proofs.Common.{◌≡◌, None, Err, Ok, arith, refl}
use Rattle.std.proofs.lemmas.Result.{err_from_is_err_and}
use Rattle.hm_model.specs.Needs.{names_zones}
use Rattle.hm_model.specs.declared.reply.Reply.TheVariants.{CrossPfs, Exists, HashFull, IsDir, NotFile, TooBig}
use Rattle.hm_dirs.proofs.WalkLoopLemmas.{same_twice}
use Rattle.hm_dirs.specs.declared.spot.Spot.{Spot}
use Rattle.hm_calls.specs.Due.{space_for}
use Rattle.hm_calls.specs.Links.{on_a_link}
use Rattle.hm_calls.specs.Stop.{Answers}
use Rattle.hm_calls.proofs.FrontLemmas.{among_so, back_in, both_in, ends, halts, map_in, on_in, skips}
use Rattle.hm_calls.proofs.GivenLemmas.{one_among, space_among}
use Rattle.hm_calls.proofs.MayReplyLemmas.{unless_told}
use Rattle.hm_calls.proofs.LinkCallLemmas.{full_in, new_in, spot_in_scenes}
use Rattle.hm_calls.proofs.SceneLemmas.{answered, decided}
use Rattle.hm_calls.proofs.StageLemmas.{space_before}
use Rattle.hm_calls.proofs.links.check_linked.Goals as goal

pub returns-in_err-check_no_directory-clause-checks : goal.returns-in_err-check_no_directory-clause-checks
returns-in_err-check_no_directory-clause-checks g c course seen =
    let p = err_from_is_err_and c.from_residual.result c.from_residual.ensures.1 in
    rw (p.1, p.2) (map_in (λ scene set is. halts _ (decided (Unit {0}) _ _ (c.in_err-check_no_directory.ensures.check scene is.object))) seen)

pub returns-in_err-check_no_softlink-clause-checks : goal.returns-in_err-check_no_softlink-clause-checks
returns-in_err-check_no_softlink-clause-checks g c course seen =
    let p = err_from_is_err_and c.from_residual-in_err-check_no_softlink.result c.from_residual-in_err-check_no_softlink.ensures.1 in
    rw (p.1, p.2) (map_in (λ scene set is. skips (c.in_ok-check_no_directory.ensures.check scene is.object) (halts _ (decided (Unit {0}) _ _
    (c.in_err-check_no_softlink.ensures.check scene is.object))))
    seen)

pub returns-in_err-check_one_pfs-clause-checks : goal.returns-in_err-check_one_pfs-clause-checks
returns-in_err-check_one_pfs-clause-checks g c course seen =
    let p = err_from_is_err_and c.from_residual-in_err-check_one_pfs.result c.from_residual-in_err-check_one_pfs.ensures.1 in
    rw (p.1, p.2) (map_in (λ scene set is. skips (c.in_ok-check_no_directory.ensures.check scene is.object) (skips (c.in_ok-check_no_softlink.ensures.check
    scene is.object)
    (halts _ (decided (Unit {0}) _ _ c.in_err-check_one_pfs.ensures)))) seen)

pub returns-in_err-check_new-clause-checks : goal.returns-in_err-check_new-clause-checks
returns-in_err-check_new-clause-checks g c course seen =
    let p = err_from_is_err_and c.from_residual-in_err-check_new.result c.from_residual-in_err-check_new.ensures.1 in
    rw (p.1, p.2) (map_in (λ scene set is. skips (c.in_ok-check_no_directory.ensures.check scene is.0.object)
    (skips (c.in_ok-check_no_softlink.ensures.check scene is.0.object) (skips c.in_ok-check_one_pfs.ensures
    (halts _ (answered (Unit {0}) _ _ is.1))))) (both_in seen (new_in _ _ _ _ c.args.found.now _ _ c.bytes.ensures (Err c.in_err-check_new.field-0.0)
    c.in_err-check_new.ensures.ok seen)))

pub returns-in_err-check_links-clause-checks : goal.returns-in_err-check_links-clause-checks
returns-in_err-check_links-clause-checks g c course seen =
    let p = err_from_is_err_and c.from_residual-in_err-check_links.result c.from_residual-in_err-check_links.ensures.1 in
    rw (p.1, p.2) (map_in (λ scene set is. skips (c.in_ok-check_no_directory.ensures.check scene is.0.object)
    (skips (c.in_ok-check_no_softlink.ensures.check scene is.0.object) (skips c.in_ok-check_one_pfs.ensures (skips is.1
    (halts _ (decided (Unit {0}) _ _ (c.in_err-check_links.ensures.check scene is.0.object))))))) (both_in seen (new_in _ _ _ _ c.args.found.now _ _
    c.bytes.ensures (Ok tt) c.in_ok-check_new.ensures.ok seen)))

pub returns-in_err-spot-clause-checks : goal.returns-in_err-spot-clause-checks
returns-in_err-spot-clause-checks g c course seen =
    let p = err_from_is_err_and c.from_residual-in_err-spot.result c.from_residual-in_err-spot.ensures.1 in
    rw (p.1, p.2) (map_in (λ scene set is. skips (c.in_ok-check_no_directory.ensures.check scene is.0.0.object)
    (skips (c.in_ok-check_no_softlink.ensures.check scene is.0.0.object) (skips c.in_ok-check_one_pfs.ensures (skips is.0.1
    (skips (c.in_ok-check_links.ensures.check scene is.0.0.object) (halts _ (answered Spot _ _ is.1)))))))
    (both_in (both_in seen (new_in _ _ _ _ c.args.found.now _ _ c.bytes.ensures (Ok tt) c.in_ok-check_new.ensures.ok seen))
    (back_in c.in_ok-check_new.ensures.keeps (full_in _ _ _ _ c.args.found.now c.args.name.now {T = Spot} (Err c.in_err-spot.field-0.0) c.in_err-spot.ensures.ok
    (on_in c.in_ok-check_new.ensures.keeps seen)))))

pub returns-in_err-admit_names-clause-checks : goal.returns-in_err-admit_names-clause-checks
returns-in_err-admit_names-clause-checks g c course seen =
    let p = err_from_is_err_and c.from_residual-in_err-admit_names.result c.from_residual-in_err-admit_names.ensures.1 in
    let same = same_twice c.in_ok-check_new.ensures.keeps c.in_ok-spot.ensures.keeps in
    let space = (space_before (λ r f. Answers {T = Unit {0}} (space_for names_zones 4 r f) (Err c.in_err-admit_names.field-0.0)) (g.T.HasRoom.room
    c.args.store.now) (g.T.HasRoom.room c.spot_in.new.store)
    (g.T.HasRoom.free c.args.store.now) (g.T.HasRoom.free c.spot_in.new.store) same.room same.free c.in_err-admit_names.ensures.check) in
    rw (p.1, p.2) (map_in (λ scene set is. skips (c.in_ok-check_no_directory.ensures.check scene is.0.0.object)
    (skips (c.in_ok-check_no_softlink.ensures.check scene is.0.0.object) (skips c.in_ok-check_one_pfs.ensures (skips is.0.1
    (skips (c.in_ok-check_links.ensures.check scene is.0.0.object) (skips is.1 (halts _ (answered (Unit {0}) _ _ space))))))))
    (both_in (both_in seen (new_in _ _ _ _ c.args.found.now _ _ c.bytes.ensures (Ok tt) c.in_ok-check_new.ensures.ok seen))
    (back_in c.in_ok-check_new.ensures.keeps (full_in _ _ _ _ c.args.found.now c.args.name.now (Ok c.in_ok-spot.spot) c.in_ok-spot.ensures.ok
    (on_in c.in_ok-check_new.ensures.keeps seen)))))

pub returns-clause-checks : goal.returns-clause-checks
returns-clause-checks g c course seen =
    let same = same_twice c.in_ok-check_new.ensures.keeps c.in_ok-spot.ensures.keeps in
    let space = (space_before (λ r f. space_for names_zones 4 r f ≡ None) (g.T.HasRoom.room c.args.store.now) (g.T.HasRoom.room c.spot_in.new.store)
    (g.T.HasRoom.free c.args.store.now) (g.T.HasRoom.free c.spot_in.new.store) same.room same.free c.in_ok-admit_names.ensures.check) in
    map_in (λ scene set is. skips (c.in_ok-check_no_directory.ensures.check scene is.0.0.object)
    (skips (c.in_ok-check_no_softlink.ensures.check scene is.0.0.object) (skips c.in_ok-check_one_pfs.ensures (skips is.0.1
    (skips (c.in_ok-check_links.ensures.check scene is.0.0.object) (skips is.1 (skips space ends)))))))
    (both_in (both_in seen (new_in _ _ _ _ c.args.found.now _ _ c.bytes.ensures (Ok tt) c.in_ok-check_new.ensures.ok seen))
    (back_in c.in_ok-check_new.ensures.keeps (full_in _ _ _ _ c.args.found.now c.args.name.now (Ok c.in_ok-spot.spot) c.in_ok-spot.ensures.ok
    (on_in c.in_ok-check_new.ensures.keeps seen))))

pub returns-clause-spot : goal.returns-clause-spot
returns-clause-spot g c course seen =
    back_in c.in_ok-check_new.ensures.keeps (spot_in_scenes _ _ _ _ c.args.found.now c.args.name.now c.in_ok-spot.spot c.in_ok-spot.ensures.spot
    (on_in c.in_ok-check_new.ensures.keeps seen))

pub returns-in_err-check_no_directory-clause-gives : goal.returns-in_err-check_no_directory-clause-gives
returns-in_err-check_no_directory-clause-gives g c =
    let p = err_from_is_err_and c.from_residual.result c.from_residual.ensures.1 in
    rw (p.1, p.2) (among_so _ (one_among on_a_link IsDir tt (1, omega arith, refl)) _ c.in_err-check_no_directory.ensures.gives)

pub returns-in_err-check_no_softlink-clause-gives : goal.returns-in_err-check_no_softlink-clause-gives
returns-in_err-check_no_softlink-clause-gives g c =
    let p = err_from_is_err_and c.from_residual-in_err-check_no_softlink.result c.from_residual-in_err-check_no_softlink.ensures.1 in
    rw (p.1, p.2) (among_so _ (one_among on_a_link NotFile tt (2, omega arith, refl)) _ c.in_err-check_no_softlink.ensures.gives)

pub returns-in_err-check_one_pfs-clause-gives : goal.returns-in_err-check_one_pfs-clause-gives
returns-in_err-check_one_pfs-clause-gives g c =
    let p = err_from_is_err_and c.from_residual-in_err-check_one_pfs.result c.from_residual-in_err-check_one_pfs.ensures.1 in
    rw (p.1, p.2) (among_so _ (one_among on_a_link CrossPfs tt (3, omega arith, refl)) _ (unless_told (Unit {0}) _ CrossPfs _ c.in_err-check_one_pfs.ensures))

pub returns-in_err-check_new-clause-gives : goal.returns-in_err-check_new-clause-gives
returns-in_err-check_new-clause-gives g c =
    let p = err_from_is_err_and c.from_residual-in_err-check_new.result c.from_residual-in_err-check_new.ensures.1 in
    rw (p.1, p.2) (among_so _ (one_among on_a_link Exists tt (5, omega arith, refl)) _ c.in_err-check_new.ensures.gives)

pub returns-in_err-check_links-clause-gives : goal.returns-in_err-check_links-clause-gives
returns-in_err-check_links-clause-gives g c =
    let p = err_from_is_err_and c.from_residual-in_err-check_links.result c.from_residual-in_err-check_links.ensures.1 in
    rw (p.1, p.2) (among_so _ (one_among on_a_link TooBig tt (4, omega arith, refl)) _ c.in_err-check_links.ensures.gives)

pub returns-in_err-spot-clause-gives : goal.returns-in_err-spot-clause-gives
returns-in_err-spot-clause-gives g c =
    let p = err_from_is_err_and c.from_residual-in_err-spot.result c.from_residual-in_err-spot.ensures.1 in
    rw (p.1, p.2) (among_so _ (one_among on_a_link HashFull tt (6, omega arith, refl)) _ c.in_err-spot.ensures.gives)

pub returns-in_err-admit_names-clause-gives : goal.returns-in_err-admit_names-clause-gives
returns-in_err-admit_names-clause-gives g c =
    let p = err_from_is_err_and c.from_residual-in_err-admit_names.result c.from_residual-in_err-admit_names.ensures.1 in
    rw (p.1, p.2) (among_so _ (space_among on_a_link (7, omega arith, refl)) _ c.in_err-admit_names.ensures.gives)
