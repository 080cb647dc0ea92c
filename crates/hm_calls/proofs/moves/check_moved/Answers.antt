use Rattle.std.proofs.Common.{None, Some, arith, refl}
use Rattle.std.proofs.lemmas.Result.{IfOk-weaker, err_from_is_err_and}
use Rattle.hm_model.specs.Call.{Call}
use Rattle.hm_model.specs.declared.reply.Reply.TheVariants.{CrossPfs, IntoItself}
use Rattle.hm_calls.specs.Moves.{beside_checks, on_a_move, over_checks}
use Rattle.hm_calls.specs.Stages.{AnswersAll}
use Rattle.hm_calls.proofs.FrontLemmas.{among_so, back_in, back_over, both_in, halts, map_in, on_in, skips}
use Rattle.hm_calls.proofs.GivenLemmas.{one_among}
use Rattle.hm_calls.proofs.MayReplyLemmas.{unless_told}
use Rattle.hm_calls.proofs.MoveStageLemmas.{leads_by, leads_in, searched, to_end}
use Rattle.hm_calls.proofs.SceneLemmas.{decided}
use Rattle.hm_calls.proofs.moves.check_moved.Goals as goal

-- ---- the checks

pub returns-in_err-check_one_pfs-clause-checks : goal.returns-in_err-check_one_pfs-clause-checks
returns-in_err-check_one_pfs-clause-checks g c course seen =
    let p = err_from_is_err_and c.from_residual.result c.from_residual.ensures.1 in
    rw (p.1, p.2) (map_in (λ scene set is call. halts _ (decided (Unit {0}) _ _ c.in_err-check_one_pfs.ensures)) seen)

pub returns-in_err-check_passed-clause-checks : goal.returns-in_err-check_passed-clause-checks
returns-in_err-check_passed-clause-checks g c course seen =
    let p = err_from_is_err_and c.from_residual-in_err-check_passed.result c.from_residual-in_err-check_passed.ensures.1 in
    rw (p.1, p.2) (map_in (λ scene set is call. skips c.in_ok-check_one_pfs.ensures
    (halts _ (decided (Unit {0}) _ _ c.in_err-check_passed.ensures.check))) seen)

pub returns-in-None-clause-checks : goal.returns-in-None-clause-checks
returns-in-None-clause-checks g c course seen =
    let hash = g.H.NameHash.hash_of c.args.hash.now in
    let found = c.args.found.now in
    let same = c.in_ok-find_entry.ensures.keeps in
    let told = searched hash course _ _ found seen _ c.args.name.now _ None c.bytes.ensures c.in-None.is c.in_ok-find_entry.ensures.ok in
    map_in (λ scene set is call. to_end hash (g.T.HasRoom.room c.args.store.now) (g.T.HasRoom.free c.args.store.now) c.args.name.now found.from found.object
    found.to call scene None c.in_ok-check_one_pfs.ensures c.in_ok-check_passed.ensures.check is.0 is.1)
    (both_in (leads_in hash course _ _ found seen c.args.name.now None told)
    (back_over same (λ r f scene. AnswersAll (beside_checks hash r f c.args.name.now found.to scene) c.check_beside.result)
    (c.check_beside.ensures.checks course (on_in same seen))))

pub returns-in-Some-clause-checks : goal.returns-in-Some-clause-checks
returns-in-Some-clause-checks g c course seen =
    let hash = g.H.NameHash.hash_of c.args.hash.now in
    let found = c.args.found.now in
    let there = c.in-Some.there in
    let same = c.in_ok-find_entry.ensures.keeps in
    let told = searched hash course _ _ found seen _ c.args.name.now _ (Some (c.in-Some.key, there)) c.bytes.ensures c.in-Some.is
    c.in_ok-find_entry.ensures.ok in
    map_in (λ scene set is call. to_end hash (g.T.HasRoom.room c.args.store.now) (g.T.HasRoom.free c.args.store.now) c.args.name.now found.from found.object
    found.to call scene (Some there) c.in_ok-check_one_pfs.ensures c.in_ok-check_passed.ensures.check is.0 (is.1 call))
    (both_in (leads_in hash course _ _ found seen c.args.name.now (Some (c.in-Some.key, there)) told)
    (back_over same (λ r f scene. (call : Call) → AnswersAll (over_checks call scene found.object there r f) c.check_over.result)
    (c.check_over.ensures.checks hash course (on_in same seen))))

-- ---- what the move comes to

pub returns-in-None-clause-change : goal.returns-in-None-clause-change
returns-in-None-clause-change g c =
    let hash = g.H.NameHash.hash_of c.args.hash.now in
    let found = c.args.found.now in
    let same = c.in_ok-find_entry.ensures.keeps in
    IfOk-weaker c.check_beside.result _ _ (λ change of course seen.
    map_in (λ scene set is. is.1 is.0)
    (both_in (leads_in hash course _ _ found seen c.args.name.now None
    (searched hash course _ _ found seen _ c.args.name.now _ None c.bytes.ensures c.in-None.is c.in_ok-find_entry.ensures.ok))
    (back_in same (of course (on_in same seen))))) c.check_beside.ensures.change

pub returns-in-Some-clause-change : goal.returns-in-Some-clause-change
returns-in-Some-clause-change g c =
    let hash = g.H.NameHash.hash_of c.args.hash.now in
    let found = c.args.found.now in
    let there = c.in-Some.there in
    let same = c.in_ok-find_entry.ensures.keeps in
    IfOk-weaker c.check_over.result _ _ (λ change of course seen.
    map_in (λ scene set is. is.1 is.0)
    (both_in (leads_by hash course _ _ found seen c.args.name.now c.in-Some.key there
    (searched hash course _ _ found seen _ c.args.name.now _ (Some (c.in-Some.key, there)) c.bytes.ensures c.in-Some.is c.in_ok-find_entry.ensures.ok))
    (back_in same (of hash course c.args.name.now (on_in same seen))))) c.check_over.ensures.change

-- ---- the replies that it may give

pub returns-in_err-check_one_pfs-clause-gives : goal.returns-in_err-check_one_pfs-clause-gives
returns-in_err-check_one_pfs-clause-gives g c =
    let p = err_from_is_err_and c.from_residual.result c.from_residual.ensures.1 in
    rw (p.1, p.2) (among_so _ (one_among on_a_move CrossPfs tt (1, omega arith, refl)) _ (unless_told (Unit {0}) _ CrossPfs _ c.in_err-check_one_pfs.ensures))

pub returns-in_err-check_passed-clause-gives : goal.returns-in_err-check_passed-clause-gives
returns-in_err-check_passed-clause-gives g c =
    let p = err_from_is_err_and c.from_residual-in_err-check_passed.result c.from_residual-in_err-check_passed.ensures.1 in
    rw (p.1, p.2) (among_so _ (one_among on_a_move IntoItself tt (2, omega arith, refl)) _ c.in_err-check_passed.ensures.gives)
