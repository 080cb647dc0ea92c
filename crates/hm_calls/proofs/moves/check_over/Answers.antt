use Rattle.std.proofs.Common.{◌≡◌, [], None, Some, Err, Bool, arith, refl, subst, sym}
use Rattle.std.specs.Prelude.{if◌then◌else◌}
use Rattle.std.proofs.lemmas.Bool.{eq-eqb}
use Rattle.std.proofs.lemmas.Result.{err_from_is_err_and}
use Rattle.hm_types.specs.Space.{nothing}
use Rattle.hm_model.specs.Needs.{names_zones}
use Rattle.hm_model.specs.declared.reply.Reply.TheVariants.{Exists}
use Rattle.hm_records.specs.declared.inode.Inode.{Inode}
use Rattle.hm_calls.specs.Due.{space_for}
use Rattle.hm_calls.specs.Moves.{object_beside, on_a_move}
use Rattle.hm_calls.specs.Stop.{Answers}
use Rattle.hm_calls.proofs.FrontLemmas.{among_so, both_in, ends, halts, map_in, skips}
use Rattle.hm_calls.proofs.GivenLemmas.{one_among, space_among}
use Rattle.hm_calls.proofs.MoveLemmas.{not_equal}
use Rattle.hm_calls.proofs.MoveStageLemmas.{beside_number, found_there, links_of, nothing_lacks}
use Rattle.hm_calls.proofs.SceneLemmas.{answered, decided}
use Rattle.hm_calls.proofs.StageLemmas.{space_before}
use Rattle.hm_calls.proofs.TakeLemmas.{takes_charged, took_nothing}
use Rattle.hm_calls.proofs.moves.check_over.Goals as goal

pub returns-in_err-answer-clause-checks : goal.returns-in_err-answer-clause-checks
returns-in_err-answer-clause-checks g c hash course seen =
    let p = err_from_is_err_and c.from_residual.result c.from_residual.ensures.1 in
    rw (p.1, p.2) (map_in (λ scene set is call. record { is = tt }) seen)

pub returns-in_err-inode-clause-checks : goal.returns-in_err-inode-clause-checks
returns-in_err-inode-clause-checks g c hash course seen =
    let p = err_from_is_err_and c.from_residual-in_err-inode.result c.from_residual-in_err-inode.ensures.1 in
    let found = c.args.found.now in
    rw (p.1, p.2) (map_in (λ scene set is call. halts _ (decided Inode _ _ (c.in_err-inode.ensures.check scene call
    (object_beside scene found.object c.args.there) is.0.object is.1 (beside_number scene found.object c.args.there))))
    (both_in seen (found_there hash course _ _ found seen c.args.there c.in_ok-answer.answer _ refl (g.met.T.ElementStore.sorted c.args.store.now)
    c.in_ok-answer.ensures.ok)))

pub returns-then-there-object-clause-checks : goal.returns-then-there-object-clause-checks
returns-then-there-object-clause-checks g c hash course seen =
    let found = c.args.found.now in
    let space = subst (λ (b : Bool). space_for (if b then [] else names_zones) 4 (g.T.HasRoom.room c.args.store.now) (g.T.HasRoom.free c.args.store.now)
    ≡ None) (sym (eq-eqb c.args.there.0 found.object.at.object.0 c.if-there-object.true)) (nothing_lacks (g.T.HasRoom.free c.args.store.now)) in
    map_in (λ scene set is call. skips (c.in_ok-inode.ensures.check scene call (object_beside scene found.object c.args.there) is.0.object is.1
    (beside_number scene found.object c.args.there)) (skips space ends))
    (both_in seen (found_there hash course _ _ found seen c.args.there c.in_ok-answer.answer _ refl (g.met.T.ElementStore.sorted c.args.store.now)
    c.in_ok-answer.ensures.ok))

pub returns-in_err-admit_names-clause-checks : goal.returns-in_err-admit_names-clause-checks
returns-in_err-admit_names-clause-checks g c hash course seen =
    let p = err_from_is_err_and c.from_residual-in_err-admit_names.result c.from_residual-in_err-admit_names.ensures.1 in
    let found = c.args.found.now in
    let same = c.in_ok-answer.ensures.keeps in
    let space = subst (λ (b : Bool). Answers {T = Unit {0}} (space_for (if b then [] else names_zones) 4 (g.T.HasRoom.room c.args.store.now)
    (g.T.HasRoom.free c.args.store.now)) (Err c.in_err-admit_names.field-0.0))
    (sym (not_equal c.args.there.0 found.object.at.object.0 c.if-there-object.false))
    (space_before (λ r f. Answers {T = Unit {0}} (space_for names_zones 4 r f) (Err c.in_err-admit_names.field-0.0)) _ _ _ _ same.room same.free
    c.in_err-admit_names.ensures.check) in
    rw (p.1, p.2) (map_in (λ scene set is call. skips (c.in_ok-inode.ensures.check scene call (object_beside scene found.object c.args.there) is.0.object is.1
    (beside_number scene found.object c.args.there)) (halts _ (answered (Unit {0}) _ _ space)))
    (both_in seen (found_there hash course _ _ found seen c.args.there c.in_ok-answer.answer _ refl (g.met.T.ElementStore.sorted c.args.store.now)
    c.in_ok-answer.ensures.ok)))

pub returns-clause-checks : goal.returns-clause-checks
returns-clause-checks g c hash course seen =
    let found = c.args.found.now in
    let same = c.in_ok-answer.ensures.keeps in
    let space = subst (λ (b : Bool). space_for (if b then [] else names_zones) 4 (g.T.HasRoom.room c.args.store.now) (g.T.HasRoom.free c.args.store.now)
    ≡ None) (sym (not_equal c.args.there.0 found.object.at.object.0 c.if-there-object.false))
    (space_before (λ r f. space_for names_zones 4 r f ≡ None) _ _ _ _ same.room same.free c.in_ok-admit_names.ensures.check) in
    map_in (λ scene set is call. skips (c.in_ok-inode.ensures.check scene call (object_beside scene found.object c.args.there) is.0.object is.1
    (beside_number scene found.object c.args.there)) (skips space ends))
    (both_in seen (found_there hash course _ _ found seen c.args.there c.in_ok-answer.answer _ refl (g.met.T.ElementStore.sorted c.args.store.now)
    c.in_ok-answer.ensures.ok))

-- ---- what the move comes to

pub returns-then-there-object-clause-change : goal.returns-then-there-object-clause-change
returns-then-there-object-clause-change g c hash course name seen =
    map_in (λ scene set is by. (c.args.there, by.leads, c.if-there-object.true)) seen

pub returns-clause-change : goal.returns-clause-change
returns-clause-change g c hash course name seen =
    let found = c.args.found.now in
    map_in (λ scene set is by. record {
      by = by;
      other = c.if-there-object.false;
      links = λ o stands. links_of _ _ c.in_ok-inode.inode (object_beside scene found.object c.args.there) is o stands;
    }) (found_there hash course _ _ found seen c.args.there c.in_ok-answer.answer (Some c.in_ok-inode.inode) c.in_ok-inode.ensures.inode
    (g.met.T.ElementStore.sorted c.args.store.now) c.in_ok-answer.ensures.ok)

pub returns-then-there-object-clause-room : goal.returns-then-there-object-clause-room
returns-then-there-object-clause-room g c =
    let same = c.in_ok-answer.ensures.keeps in (
      takes_charged g.T.HasRoom.room g.T.HasRoom.free nothing c.args.store.now c.find_inode.new.store _
          (took_nothing g.T.HasRoom.room g.T.HasRoom.free nothing c.args.store.now c.find_inode.new.store same.room same.free),
      c.in_ok-answer.ensures.borrowed.0,
      c.in_ok-answer.ensures.borrowed.1,
    )

-- ---- the replies that it may give

pub returns-in_err-inode-clause-gives : goal.returns-in_err-inode-clause-gives
returns-in_err-inode-clause-gives g c =
    let p = err_from_is_err_and c.from_residual-in_err-inode.result c.from_residual-in_err-inode.ensures.1 in
    rw (p.1, p.2) (among_so _ (one_among on_a_move Exists tt (3, omega arith, refl)) _ c.in_err-inode.ensures.gives)

pub returns-in_err-admit_names-clause-gives : goal.returns-in_err-admit_names-clause-gives
returns-in_err-admit_names-clause-gives g c =
    let p = err_from_is_err_and c.from_residual-in_err-admit_names.result c.from_residual-in_err-admit_names.ensures.1 in
    rw (p.1, p.2) (among_so _ (space_among on_a_move (5, omega arith, refl)) _ c.in_err-admit_names.ensures.gives)
