use Rattle.std.proofs.Common.{◌∙◌, Err, ap, refl, subst, sym}
use Rattle.std.proofs.lemmas.Result.{err_from_is_err_and}
use Rattle.std.specs.List.{list_any}
use Rattle.hm_path.specs.Path.{IsPath}
use Rattle.hm_model.specs.Due.{has_id, is_above, parts_in}
use Rattle.hm_model.specs.Sites.{Parts}
use Rattle.hm_model.specs.declared.reply.Reply.TheVariants.{Future, ReadOnly}
use Rattle.hm_dirs.specs.Walk.{mode_of}
use Rattle.hm_calls.proofs.KnownLemmas.{on_ok_always}
use Rattle.hm_calls.proofs.SystemLemmas.{system_check_refuses, system_comes, system_early, system_future, system_future_gives, system_lost}
use Rattle.hm_calls.proofs.SystemLemmas.{system_lost_gives, system_lost_refuses}
use Rattle.hm_calls.proofs.SystemLemmas.{system_past, system_past_gives, system_word, system_word_gives, system_word_refuses}
use Rattle.hm_calls.specs.Systems.{PassesEarly}
use Rattle.hm_calls.proofs.systems.reach_system.Goals as goal

pub returns-in_err-path-clause-refused : goal.returns-in_err-path-clause-refused
returns-in_err-path-clause-refused g c command on =
    let p = err_from_is_err_and c.from_residual.result c.from_residual.ensures.1 in
    system_word (g.H.NameHash.hash_of c.args.hash.now) c.args.id.0 c.course_before-course.result c.course_before-course.ensures.last c.requires.id.1
    c.args.word.now (mode_of c.args.follow) command on (g.T.HasElements.elements c.args.store.now) (g.T.HasRoom.extents c.args.store.now)
    (g.T.HasRoom.room c.args.store.now) (g.T.HasRoom.free c.args.store.now) c.from_residual.result c.in_err-path.field-0.0 (p.1 ∙ ap Err p.2)
    c.in_err-path.ensures.refused

pub returns-in_err-path-clause-gives : goal.returns-in_err-path-clause-gives
returns-in_err-path-clause-gives g c command on =
    let p = err_from_is_err_and c.from_residual.result c.from_residual.ensures.1 in
    system_word_gives (g.H.NameHash.hash_of c.args.hash.now) c.args.id.0 c.course_before-course.result c.course_before-course.ensures.last
    c.requires.id.1 c.args.word.now (mode_of c.args.follow) command on (g.T.HasElements.elements c.args.store.now)
    (g.T.HasRoom.extents c.args.store.now) (g.T.HasRoom.room c.args.store.now) (g.T.HasRoom.free c.args.store.now) c.from_residual.result
    c.in_err-path.field-0.0 (p.1 ∙ ap Err p.2) c.in_err-path.ensures.refused

pub returns-in_err-check_future-clause-refused : goal.returns-in_err-check_future-clause-refused
returns-in_err-check_future-clause-refused g c command on =
    let p = err_from_is_err_and c.from_residual-in_err-check_future.result c.from_residual-in_err-check_future.ensures.1 in
    system_future (g.H.NameHash.hash_of c.args.hash.now) c.args.id.0 c.course_before-course.result c.course_before-course.ensures.last c.requires.id.1
    c.args.word.now (mode_of c.args.follow) command on (g.T.HasElements.elements c.args.store.now) (g.T.HasRoom.extents c.args.store.now)
    (g.T.HasRoom.room c.args.store.now) (g.T.HasRoom.free c.args.store.now) c.parts-parts.result.now
    (subst (IsPath c.args.word.now) (sym c.parts-parts.ensures) c.in_ok-path.ensures.ok) c.from_residual-in_err-check_future.result
    c.in_err-check_future.field-0.0 (p.1 ∙ ap Err p.2) c.in_err-check_future.ensures

pub returns-in_err-check_future-clause-gives : goal.returns-in_err-check_future-clause-gives
returns-in_err-check_future-clause-gives g c command on =
    let p = err_from_is_err_and c.from_residual-in_err-check_future.result c.from_residual-in_err-check_future.ensures.1 in
    system_future_gives (g.H.NameHash.hash_of c.args.hash.now) c.args.id.0 c.course_before-course.result c.course_before-course.ensures.last
    c.requires.id.1 c.args.word.now (mode_of c.args.follow) command on (g.T.HasElements.elements c.args.store.now)
    (g.T.HasRoom.extents c.args.store.now) (g.T.HasRoom.room c.args.store.now) (g.T.HasRoom.free c.args.store.now) c.parts-parts.result.now
    (subst (IsPath c.args.word.now) (sym c.parts-parts.ensures) c.in_ok-path.ensures.ok) c.from_residual-in_err-check_future.result
    c.in_err-check_future.field-0.0 (p.1 ∙ ap Err p.2) c.in_err-check_future.ensures

pub returns-in_err-check_present-clause-refused : goal.returns-in_err-check_present-clause-refused
returns-in_err-check_present-clause-refused g c command on =
    let p = err_from_is_err_and c.from_residual-in_err-check_present.result c.from_residual-in_err-check_present.ensures.1 in
    system_past (g.H.NameHash.hash_of c.args.hash.now) c.args.id.0 c.course_before-course.result c.course_before-course.ensures.last c.requires.id.1
    c.args.word.now (mode_of c.args.follow) command on (g.T.HasElements.elements c.args.store.now) (g.T.HasRoom.extents c.args.store.now)
    (g.T.HasRoom.room c.args.store.now) (g.T.HasRoom.free c.args.store.now) c.parts-parts.result.now
    (subst (IsPath c.args.word.now) (sym c.parts-parts.ensures) c.in_ok-path.ensures.ok) c.in_ok-check_future.ensures
    c.from_residual-in_err-check_present.result c.in_err-check_present.field-0.0 (p.1 ∙ ap Err p.2) c.in_err-check_present.ensures

pub returns-in_err-check_present-clause-gives : goal.returns-in_err-check_present-clause-gives
returns-in_err-check_present-clause-gives g c command on =
    let p = err_from_is_err_and c.from_residual-in_err-check_present.result c.from_residual-in_err-check_present.ensures.1 in
    system_past_gives (g.H.NameHash.hash_of c.args.hash.now) c.args.id.0 c.course_before-course.result c.course_before-course.ensures.last
    c.requires.id.1 c.args.word.now (mode_of c.args.follow) command on (g.T.HasElements.elements c.args.store.now)
    (g.T.HasRoom.extents c.args.store.now) (g.T.HasRoom.room c.args.store.now) (g.T.HasRoom.free c.args.store.now) c.parts-parts.result.now
    (subst (IsPath c.args.word.now) (sym c.parts-parts.ensures) c.in_ok-path.ensures.ok) c.in_ok-check_future.ensures
    c.from_residual-in_err-check_present.result c.in_err-check_present.field-0.0 (p.1 ∙ ap Err p.2) c.in_err-check_present.ensures

pub returns-clause-comes : goal.returns-clause-comes
returns-clause-comes g c command on =
    system_comes (g.H.NameHash.hash_of c.args.hash.now) c.args.id.0 c.course_before-course.result c.course_before-course.ensures.last c.requires.id.1
    c.args.word.now (mode_of c.args.follow) command on (g.T.HasElements.elements c.args.store.now) (g.T.HasRoom.extents c.args.store.now)
    (g.T.HasRoom.room c.args.store.now) (g.T.HasRoom.free c.args.store.now) c.parts-parts.result.now
    (subst (IsPath c.args.word.now) (sym c.parts-parts.ensures) c.in_ok-path.ensures.ok) c.in_ok-check_future.ensures
    c.in_ok-check_present.ensures c.reach.result c.reach.ensures.ok

pub returns-clause-refused : goal.returns-clause-refused
returns-clause-refused g c command on =
    system_lost (g.H.NameHash.hash_of c.args.hash.now) c.args.id.0 c.course_before-course.result c.course_before-course.ensures.last c.requires.id.1
    c.args.word.now (mode_of c.args.follow) command on (g.T.HasElements.elements c.args.store.now) (g.T.HasRoom.extents c.args.store.now)
    (g.T.HasRoom.room c.args.store.now) (g.T.HasRoom.free c.args.store.now) c.parts-parts.result.now
    (subst (IsPath c.args.word.now) (sym c.parts-parts.ensures) c.in_ok-path.ensures.ok) c.in_ok-check_future.ensures
    c.in_ok-check_present.ensures c.reach.result c.reach.ensures.ok

pub returns-clause-gives : goal.returns-clause-gives
returns-clause-gives g c command on =
    system_lost_gives (g.H.NameHash.hash_of c.args.hash.now) c.args.id.0 c.course_before-course.result c.course_before-course.ensures.last
    c.requires.id.1 c.args.word.now (mode_of c.args.follow) command on (g.T.HasElements.elements c.args.store.now)
    (g.T.HasRoom.extents c.args.store.now) (g.T.HasRoom.room c.args.store.now) (g.T.HasRoom.free c.args.store.now) c.parts-parts.result.now
    (subst (IsPath c.args.word.now) (sym c.parts-parts.ensures) c.in_ok-path.ensures.ok) c.in_ok-check_future.ensures
    c.in_ok-check_present.ensures c.reach.result c.reach.ensures.gives

pub returns-clause-early : goal.returns-clause-early
returns-clause-early g c command on =
    on_ok_always c.reach.result (PassesEarly c.args.id.0 command)
    (system_early (g.H.NameHash.hash_of c.args.hash.now) c.args.id.0 c.course_before-course.result c.course_before-course.ensures.last c.requires.id.1
    c.args.word.now (mode_of c.args.follow) command on (g.T.HasElements.elements c.args.store.now) (g.T.HasRoom.extents c.args.store.now)
    (g.T.HasRoom.room c.args.store.now) (g.T.HasRoom.free c.args.store.now) c.parts-parts.result.now
    (subst (IsPath c.args.word.now) (sym c.parts-parts.ensures) c.in_ok-path.ensures.ok) c.in_ok-check_future.ensures
    c.in_ok-check_present.ensures)

pub returns-in_err-path-clause-refuses : goal.returns-in_err-path-clause-refuses
returns-in_err-path-clause-refuses g c =
    let p = err_from_is_err_and c.from_residual.result c.from_residual.ensures.1 in
    system_word_refuses c.args.word.now c.from_residual.result c.in_err-path.field-0.0 (p.1 ∙ ap Err p.2) c.in_err-path.ensures.refused

pub returns-in_err-check_future-clause-refuses : goal.returns-in_err-check_future-clause-refuses
returns-in_err-check_future-clause-refuses g c =
    let p = err_from_is_err_and c.from_residual-in_err-check_future.result c.from_residual-in_err-check_future.ensures.1 in
    system_check_refuses (list_any (is_above c.course_before-course.result.last.0) (parts_in (Parts c.parts-parts.result.now)))
    (Future (record { 0 = c.course_before-course.result.last.0 })) c.from_residual-in_err-check_future.result c.in_err-check_future.field-0.0 refl
    (p.1 ∙ ap Err p.2) c.in_err-check_future.ensures

pub returns-in_err-check_present-clause-refuses : goal.returns-in_err-check_present-clause-refuses
returns-in_err-check_present-clause-refuses g c =
    let p = err_from_is_err_and c.from_residual-in_err-check_present.result c.from_residual-in_err-check_present.ensures.1 in
    system_check_refuses (has_id (Parts c.parts-parts.result.now)) ReadOnly c.from_residual-in_err-check_present.result
    c.in_err-check_present.field-0.0 refl (p.1 ∙ ap Err p.2) c.in_err-check_present.ensures

pub returns-clause-refuses : goal.returns-clause-refuses
returns-clause-refuses g c = system_lost_refuses (has_id (Parts c.parts-parts.result.now)) c.reach.result c.reach.ensures.gives
