use Rattle.std.proofs.Common.{◌≡◌, ◌∙◌, List, None, Err, ap, refl, subst, sym, [], arith, ◌∷◌}
use Rattle.std.proofs.lemmas.Result.{err_from_is_err_and}
use Rattle.hm_path.specs.Path.{IsPath}
use Rattle.hm_path.specs.declared.part.Part.{Part}
use Rattle.hm_model.specs.Due.{no_future, has_id}
use Rattle.hm_model.specs.Sites.{Parts, Walks}
use Rattle.hm_model.specs.Walk.{Stays}
use Rattle.hm_model.specs.declared.command.Command.TheVariants.{Stat}
use Rattle.hm_calls.proofs.LookLemmas.{look_future, look_walk, look_word, tells_none, tells_status}
use Rattle.hm_calls.proofs.PlaceLemmas.{are_drawn}
use Rattle.hm_calls.proofs.RefusalLemmas.{of_stat}
use Rattle.hm_calls.proofs.SceneLemmas.{scenes_reached, decided}
use Rattle.hm_dirs.proofs.WalkLoopLemmas.{same_twice}
use Rattle.hm_calls.proofs.GivenLemmas.{dir_in_walk, in_read, kept_one, lost_in_walk}
use Rattle.hm_calls.proofs.MayReplyLemmas.{asks_stat, end_gives, future_gives, lost_gives, word_gives}
use Rattle.hm_model.specs.declared.reply.Reply.TheVariants.{NotFound, Status}
use Rattle.hm_records.proofs.MemberLemmas.{has_tail}
use Rattle.hm_model.specs.Caused.{on_a_read}
use Rattle.hm_calls.proofs.looks.tell_status.Goals as goal

pub returns-in_err-path-clause-answers : goal.returns-in_err-path-clause-answers
returns-in_err-path-clause-answers g c =
    let p = err_from_is_err_and c.from_residual.result c.from_residual.ensures.1 in
    look_word g.T.HasElements.elements g.T.HasElements.mark g.T.HasRoom.extents g.T.HasRoom.room g.T.HasRoom.free
    (g.H.NameHash.hash_of c.args.hash.now) c.args.id.0 c.course_before-course.result c.course_before-course.ensures.last c.requires.id.1
    (Stat c.args.word.now) Stays c.args.word.now (of_stat c.args.word.now) c.args.store.now
    c.from_residual.result c.in_err-path.field-0.0 (p.1 ∙ ap Err p.2) c.in_err-path.ensures.refused

pub returns-in_err-check_future-clause-answers : goal.returns-in_err-check_future-clause-answers
returns-in_err-check_future-clause-answers g c =
    let p = err_from_is_err_and c.from_residual-in_err-check_future.result c.from_residual-in_err-check_future.ensures.1 in
    look_future g.T.HasElements.elements g.T.HasElements.mark g.T.HasRoom.extents g.T.HasRoom.room g.T.HasRoom.free
    (g.H.NameHash.hash_of c.args.hash.now) c.args.id.0 c.course_before-course.result c.course_before-course.ensures.last c.requires.id.1
    (Stat c.args.word.now) Stays c.args.word.now (of_stat c.args.word.now) c.args.store.now
    c.parts.result.now (subst (IsPath c.args.word.now) (sym c.parts.ensures) c.in_ok-path.ensures.ok)
    c.from_residual-in_err-check_future.result c.in_err-check_future.field-0.0 (p.1 ∙ ap Err p.2) c.in_err-check_future.ensures

pub returns-in_err-object-clause-answers : goal.returns-in_err-object-clause-answers
returns-in_err-object-clause-answers g c =
    let p = err_from_is_err_and c.from_residual-in_err-object.result c.from_residual-in_err-object.ensures.1 in
    look_walk g.T.HasElements.elements g.T.HasElements.mark g.T.HasRoom.extents g.T.HasRoom.room g.T.HasRoom.free
    (g.H.NameHash.hash_of c.args.hash.now) c.args.id.0 c.course_before-course.result c.course_before-course.ensures.last c.requires.id.1
    (Stat c.args.word.now) Stays c.args.word.now (of_stat c.args.word.now) c.args.store.now
    c.parts-2.result.now (subst (IsPath c.args.word.now) (sym c.parts-2.ensures) c.in_ok-path.ensures.ok) refl
    (subst (λ (l : List Part). no_future c.course_before-course.result.last.0 (Parts l) ≡ None) (c.parts.ensures ∙ sym c.parts-2.ensures)
    c.in_ok-check_future.ensures)
    c.reach.new.store c.from_residual-in_err-object.result c.in_err-object.field-0.0 (p.1 ∙ ap Err p.2) c.in_err-object.ensures.ok c.in_err-object.ensures.keeps

pub returns-in_default-clause-answers : goal.returns-in_default-clause-answers
returns-in_default-clause-answers g c =
    let future : no_future c.course_before-course.result.last.0 (Parts c.parts-2.result.now) ≡ None =
    subst (λ (l : List Part). no_future c.course_before-course.result.last.0 (Parts l) ≡ None) (c.parts.ensures ∙ sym c.parts-2.ensures)
    c.in_ok-check_future.ensures in (
      tells_none (g.H.NameHash.hash_of c.args.hash.now) c.args.id.0 c.course_before-course.result c.course_before-course.ensures.last c.requires.id.1
          c.args.word.now c.parts-2.result.now (subst (IsPath c.args.word.now) (sym c.parts-2.ensures) c.in_ok-path.ensures.ok)
          (g.T.HasElements.elements c.args.store.now) (g.T.HasRoom.extents c.args.store.now) (g.T.HasRoom.room c.args.store.now)
          (g.T.HasRoom.free c.args.store.now) c.in_ok-object.object
          (record { good = refl; future = future; past = refl }) (scenes_reached (g.H.NameHash.hash_of c.args.hash.now) c.course_before-course.result
          (g.T.HasElements.elements c.args.store.now)
          (g.T.HasRoom.extents c.args.store.now) c.parts-2.result.now (are_drawn c.course_before-course.result.last.0 c.parts-2.result.now future) Stays
          c.in_ok-object.object c.in_ok-object.ensures.ok)
          c.in_default.is,
      c.in_ok-object.ensures.keeps,
    )

pub returns-clause-answers : goal.returns-clause-answers
returns-clause-answers g c =
    let future : no_future c.course_before-course.result.last.0 (Parts c.parts-2.result.now) ≡ None =
    subst (λ (l : List Part). no_future c.course_before-course.result.last.0 (Parts l) ≡ None) (c.parts.ensures ∙ sym c.parts-2.ensures)
    c.in_ok-check_future.ensures in (
      tells_status (g.H.NameHash.hash_of c.args.hash.now) c.args.id.0 c.course_before-course.result c.course_before-course.ensures.last c.requires.id.1
          c.args.word.now c.parts-2.result.now (subst (IsPath c.args.word.now) (sym c.parts-2.ensures) c.in_ok-path.ensures.ok)
          (g.T.HasElements.elements c.args.store.now) (g.T.HasRoom.extents c.args.store.now) (g.T.HasRoom.room c.args.store.now)
          (g.T.HasRoom.free c.args.store.now) c.in_ok-object.object
          (g.met.H.NameHash.bounded c.args.hash.now) (record { good = refl; future = future; past = refl })
          (scenes_reached (g.H.NameHash.hash_of c.args.hash.now) c.course_before-course.result (g.T.HasElements.elements c.args.store.now)
          (g.T.HasRoom.extents c.args.store.now) c.parts-2.result.now (are_drawn c.course_before-course.result.last.0 c.parts-2.result.now future) Stays
          c.in_ok-object.object c.in_ok-object.ensures.ok)
          c.in-Some.inode c.in-Some.is c.in_ok-size.size (g.T.HasElements.elements c.reach.new.store) (g.T.HasRoom.extents c.reach.new.store)
          c.in_ok-object.ensures.keeps.elements c.in_ok-object.ensures.keeps.extents c.in_ok-size.ensures.ok,
      same_twice c.in_ok-object.ensures.keeps c.in_ok-size.ensures.keeps,
    )

-- ---- the replies that it may give

pub returns-in_err-path-clause-gives : goal.returns-in_err-path-clause-gives
returns-in_err-path-clause-gives g c =
    let p = err_from_is_err_and c.from_residual.result c.from_residual.ensures.1 in
    word_gives c.args.id.0 (Stat c.args.word.now) (Walks Stays) c.args.word.now (asks_stat c.args.word.now) c.from_residual.result
    c.in_err-path.field-0.0 (p.1 ∙ ap Err p.2) c.in_err-path.ensures.refused

pub returns-in_err-check_future-clause-gives : goal.returns-in_err-check_future-clause-gives
returns-in_err-check_future-clause-gives g c =
    let p = err_from_is_err_and c.from_residual-in_err-check_future.result c.from_residual-in_err-check_future.ensures.1 in
    future_gives c.args.id.0 (Stat c.args.word.now) (Walks Stays) c.args.word.now (asks_stat c.args.word.now) c.course_before-course.result
    c.course_before-course.ensures.last c.parts.result.now (subst (IsPath c.args.word.now) (sym c.parts.ensures) c.in_ok-path.ensures.ok) refl
    c.from_residual-in_err-check_future.result c.in_err-check_future.field-0.0 (p.1 ∙ ap Err p.2) (decided (Unit {0}) (no_future
    c.course_before-course.result.last.0 (Parts c.parts.result.now)) c.in_err-check_future.field-0.0 c.in_err-check_future.ensures)

pub returns-in_err-object-clause-gives : goal.returns-in_err-object-clause-gives
returns-in_err-object-clause-gives g c =
    let p = err_from_is_err_and c.from_residual-in_err-object.result c.from_residual-in_err-object.ensures.1 in
    lost_gives c.args.id.0 (Stat c.args.word.now) (Walks Stays) c.args.word.now (asks_stat c.args.word.now) c.course_before-course.result
    c.course_before-course.ensures.last c.parts-2.result.now (subst (IsPath c.args.word.now) (sym c.parts-2.ensures) c.in_ok-path.ensures.ok) (record
    { good = refl; future = rw (c.parts.ensures ∙ sym c.parts-2.ensures) at c.in_ok-check_future.ensures; past = refl }) (has_id (Parts
    c.parts-2.result.now)) (has_tail 104 2 (on_a_read (Parts c.parts-2.result.now ∷ [])) (in_read (Parts c.parts-2.result.now ∷ []) 2 lost_in_walk))
    (has_tail 104 3 (on_a_read (Parts c.parts-2.result.now ∷ [])) (in_read (Parts c.parts-2.result.now ∷ []) 3 dir_in_walk)) (λ some. has_tail 104 8
    (on_a_read (Parts c.parts-2.result.now ∷ [])) (kept_one c.parts-2.result.now some)) c.from_residual-in_err-object.result
    c.in_err-object.field-0.0 (p.1 ∙ ap Err p.2) c.in_err-object.ensures.gives

pub returns-in_default-clause-gives : goal.returns-in_default-clause-gives
returns-in_default-clause-gives g c =
    end_gives c.args.id.0 (Stat c.args.word.now) (Walks Stays) c.args.word.now (asks_stat c.args.word.now) c.course_before-course.result
    c.course_before-course.ensures.last c.in_ok-path.path c.in_ok-path.ensures.ok (record {
      good = refl;
      future = rw c.parts.ensures at
          c.in_ok-check_future.ensures;
      past = refl;
    }) NotFound tt (has_tail 104 2 (on_a_read (Parts c.in_ok-path.path ∷ [])) (in_read (Parts
    c.in_ok-path.path ∷ []) 2 lost_in_walk))

pub returns-clause-gives : goal.returns-clause-gives
returns-clause-gives g c =
    end_gives c.args.id.0 (Stat c.args.word.now) (Walks Stays) c.args.word.now (asks_stat c.args.word.now) c.course_before-course.result
    c.course_before-course.ensures.last c.in_ok-path.path c.in_ok-path.ensures.ok (record {
      good = refl;
      future = rw c.parts.ensures at
          c.in_ok-check_future.ensures;
      past = refl;
    }) (Status c.in-Some.inode.kind c.in_ok-object.object.at.object c.in_ok-size.size
    c.in-Some.inode.links) tt (0, omega arith, refl)
