use Rattle.std.proofs.Common.{◌≡◌, ◌∙◌, List, None, Err, ap, refl, subst, sym, [], arith, ◌∷◌}
use Rattle.std.proofs.lemmas.Result.{err_from_is_err_and}
use Rattle.hm_path.specs.Path.{IsPath}
use Rattle.hm_path.specs.declared.part.Part.{Part}
use Rattle.hm_model.specs.Due.{is_dir, no_future, has_id}
use Rattle.hm_model.specs.Sites.{Parts, Walks}
use Rattle.hm_model.specs.View.{object_at}
use Rattle.hm_model.specs.Walk.{Follows}
use Rattle.hm_model.specs.declared.command.Command.TheVariants.{Ls}
use Rattle.hm_model.specs.declared.reply.Reply.TheVariants.{NotDir, Listing}
use Rattle.hm_dirs.specs.Walk.{place_of}
use Rattle.hm_calls.specs.Places.{ask_kind}
use Rattle.hm_calls.proofs.LookLemmas.{lists_names, look_future, look_stopped, look_walk, look_word, no_directory}
use Rattle.hm_calls.proofs.PlaceLemmas.{are_drawn}
use Rattle.hm_calls.proofs.RefusalLemmas.{of_ls}
use Rattle.hm_calls.proofs.SceneLemmas.{decided, scenes_reached}
use Rattle.hm_dirs.proofs.WalkLoopLemmas.{same_twice}
use Rattle.hm_calls.proofs.GivenLemmas.{dir_in_walk, in_read, kept_one, lost_in_walk}
use Rattle.hm_calls.proofs.MayReplyLemmas.{asks_ls, end_gives, future_gives, lost_gives, one_gives, word_gives}
use Rattle.hm_model.specs.Caused.{on_a_read}
use Rattle.hm_records.proofs.MemberLemmas.{has_tail}
use Rattle.hm_calls.proofs.looks.list_names.Goals as goal

pub returns-in_err-path-clause-answers : goal.returns-in_err-path-clause-answers
returns-in_err-path-clause-answers g c =
    let p = err_from_is_err_and c.from_residual.result c.from_residual.ensures.1 in
    look_word g.T.HasElements.elements g.T.HasElements.mark g.T.HasRoom.extents g.T.HasRoom.room g.T.HasRoom.free
    (g.H.NameHash.hash_of c.args.hash.now) c.args.id.0 c.course_before-course.result c.course_before-course.ensures.last c.requires.id.1
    (Ls c.args.word.now) Follows c.args.word.now (of_ls c.args.word.now) c.args.store.now
    c.from_residual.result c.in_err-path.field-0.0 (p.1 ∙ ap Err p.2) c.in_err-path.ensures.refused

pub returns-in_err-check_future-clause-answers : goal.returns-in_err-check_future-clause-answers
returns-in_err-check_future-clause-answers g c =
    let p = err_from_is_err_and c.from_residual-in_err-check_future.result c.from_residual-in_err-check_future.ensures.1 in
    look_future g.T.HasElements.elements g.T.HasElements.mark g.T.HasRoom.extents g.T.HasRoom.room g.T.HasRoom.free
    (g.H.NameHash.hash_of c.args.hash.now) c.args.id.0 c.course_before-course.result c.course_before-course.ensures.last c.requires.id.1
    (Ls c.args.word.now) Follows c.args.word.now (of_ls c.args.word.now) c.args.store.now
    c.parts.result.now (subst (IsPath c.args.word.now) (sym c.parts.ensures) c.in_ok-path.ensures.ok)
    c.from_residual-in_err-check_future.result c.in_err-check_future.field-0.0 (p.1 ∙ ap Err p.2) c.in_err-check_future.ensures

pub returns-in_err-directory-clause-answers : goal.returns-in_err-directory-clause-answers
returns-in_err-directory-clause-answers g c =
    let p = err_from_is_err_and c.from_residual-in_err-directory.result c.from_residual-in_err-directory.ensures.1 in
    look_walk g.T.HasElements.elements g.T.HasElements.mark g.T.HasRoom.extents g.T.HasRoom.room g.T.HasRoom.free
    (g.H.NameHash.hash_of c.args.hash.now) c.args.id.0 c.course_before-course.result c.course_before-course.ensures.last c.requires.id.1
    (Ls c.args.word.now) Follows c.args.word.now (of_ls c.args.word.now) c.args.store.now
    c.parts-2.result.now (subst (IsPath c.args.word.now) (sym c.parts-2.ensures) c.in_ok-path.ensures.ok) refl
    (subst (λ (l : List Part). no_future c.course_before-course.result.last.0 (Parts l) ≡ None) (c.parts.ensures ∙ sym c.parts-2.ensures)
    c.in_ok-check_future.ensures)
    c.reach.new.store c.from_residual-in_err-directory.result c.in_err-directory.field-0.0 (p.1 ∙ ap Err p.2) c.in_err-directory.ensures.ok
    c.in_err-directory.ensures.keeps

pub returns-in_err-check_directory-clause-answers : goal.returns-in_err-check_directory-clause-answers
returns-in_err-check_directory-clause-answers g c =
    let p = err_from_is_err_and c.from_residual-in_err-check_directory.result c.from_residual-in_err-check_directory.ensures.1 in
    let future : no_future c.course_before-course.result.last.0 (Parts c.parts-2.result.now) ≡ None =
    subst (λ (l : List Part). no_future c.course_before-course.result.last.0 (Parts l) ≡ None) (c.parts.ensures ∙ sym c.parts-2.ensures)
    c.in_ok-check_future.ensures in
    look_stopped g.T.HasElements.elements g.T.HasElements.mark g.T.HasRoom.extents g.T.HasRoom.room g.T.HasRoom.free
    (g.H.NameHash.hash_of c.args.hash.now) c.args.id.0 c.course_before-course.result c.course_before-course.ensures.last c.requires.id.1
    (Ls c.args.word.now) Follows c.args.word.now (of_ls c.args.word.now) c.args.store.now
    c.reach.new.store c.from_residual-in_err-check_directory.result c.in_err-check_directory.field-0.0 (p.1 ∙ ap Err p.2)
    (no_directory (g.H.NameHash.hash_of c.args.hash.now) c.args.id.0 c.course_before-course.result c.course_before-course.ensures.last c.requires.id.1
    c.args.word.now c.parts-2.result.now (subst (IsPath c.args.word.now) (sym c.parts-2.ensures) c.in_ok-path.ensures.ok)
    (g.T.HasElements.elements c.args.store.now) (g.T.HasRoom.extents c.args.store.now) (g.T.HasRoom.room c.args.store.now)
    (g.T.HasRoom.free c.args.store.now) c.in_ok-directory.directory
    (record { good = refl; future = future; past = refl }) (scenes_reached (g.H.NameHash.hash_of c.args.hash.now) c.course_before-course.result
    (g.T.HasElements.elements c.args.store.now)
    (g.T.HasRoom.extents c.args.store.now) c.parts-2.result.now (are_drawn c.course_before-course.result.last.0 c.parts-2.result.now future) Follows
    c.in_ok-directory.directory c.in_ok-directory.ensures.ok)
    c.in_err-check_directory.field-0.0 (λ scene read.
    decided (Unit {0}) (ask_kind is_dir NotDir (object_at scene.view (place_of c.in_ok-directory.directory.at))) c.in_err-check_directory.field-0.0
    (c.in_err-check_directory.ensures.check scene read)))
    c.in_ok-directory.ensures.keeps

pub returns-clause-answers : goal.returns-clause-answers
returns-clause-answers g c =
    let future : no_future c.course_before-course.result.last.0 (Parts c.parts-2.result.now) ≡ None =
    subst (λ (l : List Part). no_future c.course_before-course.result.last.0 (Parts l) ≡ None) (c.parts.ensures ∙ sym c.parts-2.ensures)
    c.in_ok-check_future.ensures in (
      lists_names (g.H.NameHash.hash_of c.args.hash.now) c.args.id.0 c.course_before-course.result c.course_before-course.ensures.last c.requires.id.1
          c.args.word.now c.parts-2.result.now (subst (IsPath c.args.word.now) (sym c.parts-2.ensures) c.in_ok-path.ensures.ok)
          (g.T.HasElements.elements c.args.store.now) (g.T.HasRoom.extents c.args.store.now) (g.T.HasRoom.room c.args.store.now)
          (g.T.HasRoom.free c.args.store.now) c.in_ok-directory.directory
          (g.met.H.NameHash.bounded c.args.hash.now) (record { good = refl; future = future; past = refl })
          (scenes_reached (g.H.NameHash.hash_of c.args.hash.now) c.course_before-course.result (g.T.HasElements.elements c.args.store.now)
          (g.T.HasRoom.extents c.args.store.now) c.parts-2.result.now (are_drawn c.course_before-course.result.last.0 c.parts-2.result.now future) Follows
          c.in_ok-directory.directory c.in_ok-directory.ensures.ok)
          c.in_ok-check_directory.ensures.check c.in_ok-names.names (g.T.HasElements.elements c.reach.new.store) (g.T.HasRoom.extents c.reach.new.store)
          c.in_ok-directory.ensures.keeps.elements c.in_ok-directory.ensures.keeps.extents c.in_ok-names.ensures.ok,
      same_twice c.in_ok-directory.ensures.keeps c.in_ok-names.ensures.keeps,
    )

-- ---- the replies that it may give

pub returns-in_err-path-clause-gives : goal.returns-in_err-path-clause-gives
returns-in_err-path-clause-gives g c =
    let p = err_from_is_err_and c.from_residual.result c.from_residual.ensures.1 in
    word_gives c.args.id.0 (Ls c.args.word.now) (Walks Follows) c.args.word.now (asks_ls c.args.word.now) c.from_residual.result
    c.in_err-path.field-0.0 (p.1 ∙ ap Err p.2) c.in_err-path.ensures.refused

pub returns-in_err-check_future-clause-gives : goal.returns-in_err-check_future-clause-gives
returns-in_err-check_future-clause-gives g c =
    let p = err_from_is_err_and c.from_residual-in_err-check_future.result c.from_residual-in_err-check_future.ensures.1 in
    future_gives c.args.id.0 (Ls c.args.word.now) (Walks Follows) c.args.word.now (asks_ls c.args.word.now) c.course_before-course.result
    c.course_before-course.ensures.last c.parts.result.now (subst (IsPath c.args.word.now) (sym c.parts.ensures) c.in_ok-path.ensures.ok) refl
    c.from_residual-in_err-check_future.result c.in_err-check_future.field-0.0 (p.1 ∙ ap Err p.2) (decided (Unit {0}) (no_future
    c.course_before-course.result.last.0 (Parts c.parts.result.now)) c.in_err-check_future.field-0.0 c.in_err-check_future.ensures)

pub returns-in_err-directory-clause-gives : goal.returns-in_err-directory-clause-gives
returns-in_err-directory-clause-gives g c =
    let p = err_from_is_err_and c.from_residual-in_err-directory.result c.from_residual-in_err-directory.ensures.1 in
    lost_gives c.args.id.0 (Ls c.args.word.now) (Walks Follows) c.args.word.now (asks_ls c.args.word.now) c.course_before-course.result
    c.course_before-course.ensures.last c.parts-2.result.now (subst (IsPath c.args.word.now) (sym c.parts-2.ensures) c.in_ok-path.ensures.ok) (record
    { good = refl; future = rw (c.parts.ensures ∙ sym c.parts-2.ensures) at c.in_ok-check_future.ensures; past = refl }) (has_id (Parts
    c.parts-2.result.now)) (has_tail 102 2 (on_a_read (Parts c.parts-2.result.now ∷ [])) (in_read (Parts c.parts-2.result.now ∷ []) 2 lost_in_walk))
    (has_tail 102 3 (on_a_read (Parts c.parts-2.result.now ∷ [])) (in_read (Parts c.parts-2.result.now ∷ []) 3 dir_in_walk)) (λ some. has_tail 102 8
    (on_a_read (Parts c.parts-2.result.now ∷ [])) (kept_one c.parts-2.result.now some)) c.from_residual-in_err-directory.result
    c.in_err-directory.field-0.0 (p.1 ∙ ap Err p.2) c.in_err-directory.ensures.gives

pub returns-in_err-check_directory-clause-gives : goal.returns-in_err-check_directory-clause-gives
returns-in_err-check_directory-clause-gives g c =
    let p = err_from_is_err_and c.from_residual-in_err-check_directory.result c.from_residual-in_err-check_directory.ensures.1 in
    one_gives c.args.id.0 (Ls c.args.word.now) (Walks Follows) c.args.word.now (asks_ls c.args.word.now) c.course_before-course.result
    c.course_before-course.ensures.last c.in_ok-path.path c.in_ok-path.ensures.ok (record {
      good = refl;
      future = rw c.parts.ensures at
          c.in_ok-check_future.ensures;
      past = refl;
    }) NotDir tt (has_tail 102 3 (on_a_read (Parts c.in_ok-path.path ∷ [])) (in_read (Parts c.in_ok-path.path
    ∷ []) 3 dir_in_walk)) c.from_residual-in_err-check_directory.result c.in_err-check_directory.field-0.0 (p.1 ∙ ap Err p.2)
    c.in_err-check_directory.ensures.gives

pub returns-clause-gives : goal.returns-clause-gives
returns-clause-gives g c =
    end_gives c.args.id.0 (Ls c.args.word.now) (Walks Follows) c.args.word.now (asks_ls c.args.word.now) c.course_before-course.result
    c.course_before-course.ensures.last c.in_ok-path.path c.in_ok-path.ensures.ok (record {
      good = refl;
      future = rw c.parts.ensures at
          c.in_ok-check_future.ensures;
      past = refl;
    }) (Listing c.in_ok-names.names) tt (0, omega arith, refl)
