use Rattle.std.proofs.Common.{◌≡◌, ◌∙◌, List, None, Err, ap, refl, subst, sym, [], arith, ◌∷◌}
use Rattle.std.proofs.lemmas.Result.{err_from_is_err_and}
use Rattle.hm_path.specs.Path.{IsPath}
use Rattle.hm_path.specs.declared.part.Part.{Part}
use Rattle.hm_model.specs.Due.{is_dir_or_link, is_softlink, no_future, has_id}
use Rattle.hm_model.specs.Sites.{Parts, Walks}
use Rattle.hm_model.specs.View.{object_at}
use Rattle.hm_model.specs.Walk.{Follows}
use Rattle.hm_model.specs.declared.command.Command.TheVariants.{Cat}
use Rattle.hm_model.specs.declared.reply.Reply.TheVariants.{IsDir, NotFile, Content, NotFound}
use Rattle.hm_dirs.specs.Walk.{place_of}
use Rattle.hm_calls.specs.Places.{refuse_kind}
use Rattle.hm_calls.proofs.CatLemmas.{cat_dir_refuses, cat_link_refuses, of_cat, tells_bytes, tells_no_file}
use Rattle.hm_calls.proofs.LookLemmas.{look_future, look_stopped, look_walk, look_word}
use Rattle.hm_calls.proofs.PlaceLemmas.{are_drawn}
use Rattle.hm_calls.proofs.SceneLemmas.{decided, scenes_reached}
use Rattle.hm_dirs.proofs.WalkLoopLemmas.{same_twice}
use Rattle.hm_calls.proofs.GivenLemmas.{behind_cat, dir_in_walk, in_read, kept_one, lost_in_walk}
use Rattle.hm_calls.proofs.MayReplyLemmas.{asks_cat, end_gives, future_gives, lost_gives, one_gives, word_gives}
use Rattle.hm_calls.proofs.looks.tell_bytes.Goals as goal

pub returns-in_err-path-clause-answers : goal.returns-in_err-path-clause-answers
returns-in_err-path-clause-answers g c =
    let elements = g.T.HasElements.elements in
    let extents = g.T.HasRoom.extents in
    let hash = g.H.NameHash.hash_of c.args.hash.now in
    let id = c.args.id.0 in
    let course = c.course_before-course.result in
    let before = c.course_before-course.ensures.last in
    let word = c.args.word.now in
    let offset = c.args.offset in
    let count = c.args.count in
    let old = c.args.store.now in
    let p = err_from_is_err_and c.from_residual.result c.from_residual.ensures.1 in
    let stopped = c.in_err-path.field-0.0 in
    look_word elements g.T.HasElements.mark extents g.T.HasRoom.room g.T.HasRoom.free hash id course before c.requires.id.1 (Cat word offset count)
    Follows word
    (of_cat word offset count) old c.from_residual.result stopped (p.1 ∙ ap Err p.2) c.in_err-path.ensures.refused

pub returns-in_err-check_future-clause-answers : goal.returns-in_err-check_future-clause-answers
returns-in_err-check_future-clause-answers g c =
    let elements = g.T.HasElements.elements in
    let extents = g.T.HasRoom.extents in
    let hash = g.H.NameHash.hash_of c.args.hash.now in
    let id = c.args.id.0 in
    let course = c.course_before-course.result in
    let before = c.course_before-course.ensures.last in
    let word = c.args.word.now in
    let offset = c.args.offset in
    let count = c.args.count in
    let old = c.args.store.now in
    let p = err_from_is_err_and c.from_residual-in_err-check_future.result c.from_residual-in_err-check_future.ensures.1 in
    let stopped = c.in_err-check_future.field-0.0 in
    look_future elements g.T.HasElements.mark extents g.T.HasRoom.room g.T.HasRoom.free hash id course before c.requires.id.1 (Cat word offset count)
    Follows word
    (of_cat word offset count) old c.parts.result.now
    (subst (IsPath word) (sym c.parts.ensures) c.in_ok-path.ensures.ok) c.from_residual-in_err-check_future.result stopped (p.1 ∙ ap Err p.2)
    c.in_err-check_future.ensures

pub returns-in_err-file-clause-answers : goal.returns-in_err-file-clause-answers
returns-in_err-file-clause-answers g c =
    let elements = g.T.HasElements.elements in
    let extents = g.T.HasRoom.extents in
    let hash = g.H.NameHash.hash_of c.args.hash.now in
    let id = c.args.id.0 in
    let course = c.course_before-course.result in
    let before = c.course_before-course.ensures.last in
    let word = c.args.word.now in
    let offset = c.args.offset in
    let count = c.args.count in
    let old = c.args.store.now in
    let parts = c.parts-2.result.now in
    let path = subst (IsPath word) (sym c.parts-2.ensures) c.in_ok-path.ensures.ok in
    let future : no_future course.last.0 (Parts parts) ≡ None =
    subst (λ (l : List Part). no_future course.last.0 (Parts l) ≡ None) (c.parts.ensures ∙ sym c.parts-2.ensures) c.in_ok-check_future.ensures in
    let p = err_from_is_err_and c.from_residual-in_err-file.result c.from_residual-in_err-file.ensures.1 in
    let stopped = c.in_err-file.field-0.0 in
    look_walk elements g.T.HasElements.mark extents g.T.HasRoom.room g.T.HasRoom.free hash id course before c.requires.id.1 (Cat word offset count)
    Follows word
    (of_cat word offset count) old parts path refl future c.reach.new.store c.from_residual-in_err-file.result stopped
    (p.1 ∙ ap Err p.2) c.in_err-file.ensures.ok c.in_err-file.ensures.keeps

pub returns-in_err-check_no_directory-clause-answers : goal.returns-in_err-check_no_directory-clause-answers
returns-in_err-check_no_directory-clause-answers g c =
    let elements = g.T.HasElements.elements in
    let extents = g.T.HasRoom.extents in
    let hash = g.H.NameHash.hash_of c.args.hash.now in
    let id = c.args.id.0 in
    let course = c.course_before-course.result in
    let before = c.course_before-course.ensures.last in
    let word = c.args.word.now in
    let offset = c.args.offset in
    let count = c.args.count in
    let old = c.args.store.now in
    let parts = c.parts-2.result.now in
    let path = subst (IsPath word) (sym c.parts-2.ensures) c.in_ok-path.ensures.ok in
    let future : no_future course.last.0 (Parts parts) ≡ None =
    subst (λ (l : List Part). no_future course.last.0 (Parts l) ≡ None) (c.parts.ensures ∙ sym c.parts-2.ensures) c.in_ok-check_future.ensures in
    let file = c.in_ok-file.file in
    let ends = scenes_reached hash course (elements old) (extents old) parts (are_drawn course.last.0 parts future) Follows file c.in_ok-file.ensures.ok in
    let p = err_from_is_err_and c.from_residual-in_err-check_no_directory.result c.from_residual-in_err-check_no_directory.ensures.1 in
    let stopped = c.in_err-check_no_directory.field-0.0 in
    look_stopped elements g.T.HasElements.mark extents g.T.HasRoom.room g.T.HasRoom.free hash id course before c.requires.id.1 (Cat word offset
    count) Follows word
    (of_cat word offset count) old c.reach.new.store c.from_residual-in_err-check_no_directory.result stopped
    (p.1 ∙ ap Err p.2)
    (cat_dir_refuses hash id course before c.requires.id.1 word offset count parts path (elements old) (extents old) (g.T.HasRoom.room old)
    (g.T.HasRoom.free old) file
    (record { good = refl; future = future; past = refl }) ends stopped
    (λ scene read. decided (Unit {0}) (refuse_kind is_dir_or_link IsDir (object_at scene.view (place_of file.at))) stopped
    (c.in_err-check_no_directory.ensures.check scene read)))
    c.in_ok-file.ensures.keeps

pub returns-in_err-check_no_softlink-clause-answers : goal.returns-in_err-check_no_softlink-clause-answers
returns-in_err-check_no_softlink-clause-answers g c =
    let elements = g.T.HasElements.elements in
    let extents = g.T.HasRoom.extents in
    let hash = g.H.NameHash.hash_of c.args.hash.now in
    let id = c.args.id.0 in
    let course = c.course_before-course.result in
    let before = c.course_before-course.ensures.last in
    let word = c.args.word.now in
    let offset = c.args.offset in
    let count = c.args.count in
    let old = c.args.store.now in
    let parts = c.parts-2.result.now in
    let path = subst (IsPath word) (sym c.parts-2.ensures) c.in_ok-path.ensures.ok in
    let future : no_future course.last.0 (Parts parts) ≡ None =
    subst (λ (l : List Part). no_future course.last.0 (Parts l) ≡ None) (c.parts.ensures ∙ sym c.parts-2.ensures) c.in_ok-check_future.ensures in
    let file = c.in_ok-file.file in
    let ends = scenes_reached hash course (elements old) (extents old) parts (are_drawn course.last.0 parts future) Follows file c.in_ok-file.ensures.ok in
    let p = err_from_is_err_and c.from_residual-in_err-check_no_softlink.result c.from_residual-in_err-check_no_softlink.ensures.1 in
    let stopped = c.in_err-check_no_softlink.field-0.0 in
    look_stopped elements g.T.HasElements.mark extents g.T.HasRoom.room g.T.HasRoom.free hash id course before c.requires.id.1 (Cat word offset
    count) Follows word
    (of_cat word offset count) old c.reach.new.store c.from_residual-in_err-check_no_softlink.result stopped
    (p.1 ∙ ap Err p.2)
    (cat_link_refuses hash id course before c.requires.id.1 word offset count parts path (elements old) (extents old) (g.T.HasRoom.room old)
    (g.T.HasRoom.free old) file c.in_ok-check_no_directory.ensures.check
    (record { good = refl; future = future; past = refl }) ends stopped
    (λ scene read. decided (Unit {0}) (refuse_kind is_softlink NotFile (object_at scene.view (place_of file.at))) stopped
    (c.in_err-check_no_softlink.ensures.check scene read)))
    c.in_ok-file.ensures.keeps

pub returns-in_default-clause-answers : goal.returns-in_default-clause-answers
returns-in_default-clause-answers g c =
    let elements = g.T.HasElements.elements in
    let extents = g.T.HasRoom.extents in
    let hash = g.H.NameHash.hash_of c.args.hash.now in
    let id = c.args.id.0 in
    let course = c.course_before-course.result in
    let before = c.course_before-course.ensures.last in
    let word = c.args.word.now in
    let offset = c.args.offset in
    let count = c.args.count in
    let old = c.args.store.now in
    let parts = c.parts-2.result.now in
    let path = subst (IsPath word) (sym c.parts-2.ensures) c.in_ok-path.ensures.ok in
    let future : no_future course.last.0 (Parts parts) ≡ None =
    subst (λ (l : List Part). no_future course.last.0 (Parts l) ≡ None) (c.parts.ensures ∙ sym c.parts-2.ensures) c.in_ok-check_future.ensures in
    let file = c.in_ok-file.file in
    let ends = scenes_reached hash course (elements old) (extents old) parts (are_drawn course.last.0 parts future) Follows file
    c.in_ok-file.ensures.ok in (
      tells_no_file hash id course before c.requires.id.1 word offset count parts path (elements old) (extents old) (g.T.HasRoom.room old)
          (g.T.HasRoom.free old) file
          c.in_ok-check_no_directory.ensures.check c.in_ok-check_no_softlink.ensures.check (record { good = refl; future = future; past = refl })
          ends c.in_default.is,
      c.in_ok-file.ensures.keeps,
    )

pub returns-clause-answers : goal.returns-clause-answers
returns-clause-answers g c =
    let elements = g.T.HasElements.elements in
    let extents = g.T.HasRoom.extents in
    let hash = g.H.NameHash.hash_of c.args.hash.now in
    let id = c.args.id.0 in
    let course = c.course_before-course.result in
    let before = c.course_before-course.ensures.last in
    let word = c.args.word.now in
    let offset = c.args.offset in
    let count = c.args.count in
    let old = c.args.store.now in
    let parts = c.parts-2.result.now in
    let path = subst (IsPath word) (sym c.parts-2.ensures) c.in_ok-path.ensures.ok in
    let future : no_future course.last.0 (Parts parts) ≡ None =
    subst (λ (l : List Part). no_future course.last.0 (Parts l) ≡ None) (c.parts.ensures ∙ sym c.parts-2.ensures) c.in_ok-check_future.ensures in
    let file = c.in_ok-file.file in
    let ends = scenes_reached hash course (elements old) (extents old) parts (are_drawn course.last.0 parts future) Follows file c.in_ok-file.ensures.ok in
    let kept = c.in_ok-file.ensures.keeps in
    let mid = c.reach.new.store in (
      tells_bytes hash id course before c.requires.id.1 word offset count parts path (elements old) (extents old) (g.T.HasRoom.room old)
          (g.T.HasRoom.free old) file
          c.in_ok-check_no_directory.ensures.check c.in_ok-check_no_softlink.ensures.check (record { good = refl; future = future; past = refl }) ends
          c.in-Some.inode c.in-Some.is c.in_ok-bytes.bytes (elements mid) (extents mid) kept.elements kept.extents c.in_ok-bytes.ensures.ok,
      same_twice kept c.in_ok-bytes.ensures.keeps,
    )

-- ---- the replies that it may give

pub returns-in_err-path-clause-gives : goal.returns-in_err-path-clause-gives
returns-in_err-path-clause-gives g c =
    let p = err_from_is_err_and c.from_residual.result c.from_residual.ensures.1 in
    word_gives c.args.id.0 (Cat c.args.word.now c.args.offset c.args.count) (Walks Follows) c.args.word.now (asks_cat c.args.word.now c.args.offset
    c.args.count) c.from_residual.result c.in_err-path.field-0.0 (p.1 ∙ ap Err p.2) c.in_err-path.ensures.refused

pub returns-in_err-check_future-clause-gives : goal.returns-in_err-check_future-clause-gives
returns-in_err-check_future-clause-gives g c =
    let p = err_from_is_err_and c.from_residual-in_err-check_future.result c.from_residual-in_err-check_future.ensures.1 in
    future_gives c.args.id.0 (Cat c.args.word.now c.args.offset c.args.count) (Walks Follows) c.args.word.now (asks_cat c.args.word.now c.args.offset
    c.args.count) c.course_before-course.result c.course_before-course.ensures.last c.parts.result.now (subst (IsPath c.args.word.now) (sym
    c.parts.ensures) c.in_ok-path.ensures.ok) refl c.from_residual-in_err-check_future.result c.in_err-check_future.field-0.0 (p.1 ∙ ap Err p.2)
    (decided (Unit {0}) (no_future c.course_before-course.result.last.0 (Parts c.parts.result.now)) c.in_err-check_future.field-0.0
    c.in_err-check_future.ensures)

pub returns-in_err-file-clause-gives : goal.returns-in_err-file-clause-gives
returns-in_err-file-clause-gives g c =
    let p = err_from_is_err_and c.from_residual-in_err-file.result c.from_residual-in_err-file.ensures.1 in
    lost_gives c.args.id.0 (Cat c.args.word.now c.args.offset c.args.count) (Walks Follows) c.args.word.now (asks_cat c.args.word.now c.args.offset
    c.args.count) c.course_before-course.result c.course_before-course.ensures.last c.parts-2.result.now (subst (IsPath c.args.word.now) (sym
    c.parts-2.ensures) c.in_ok-path.ensures.ok) (record {
      good = refl;
      future = rw (c.parts.ensures ∙ sym c.parts-2.ensures) at
          c.in_ok-check_future.ensures;
      past = refl;
    }) (has_id (Parts c.parts-2.result.now)) (behind_cat (Parts c.parts-2.result.now ∷ []) 2 (in_read
    (Parts c.parts-2.result.now ∷ []) 2 lost_in_walk)) (behind_cat (Parts c.parts-2.result.now ∷ []) 3 (in_read (Parts c.parts-2.result.now ∷ []) 3
    dir_in_walk)) (λ some. behind_cat (Parts c.parts-2.result.now ∷ []) 8 (kept_one c.parts-2.result.now some)) c.from_residual-in_err-file.result
    c.in_err-file.field-0.0 (p.1 ∙ ap Err p.2) c.in_err-file.ensures.gives

pub returns-in_err-check_no_directory-clause-gives : goal.returns-in_err-check_no_directory-clause-gives
returns-in_err-check_no_directory-clause-gives g c =
    let p = err_from_is_err_and c.from_residual-in_err-check_no_directory.result c.from_residual-in_err-check_no_directory.ensures.1 in
    one_gives c.args.id.0 (Cat c.args.word.now c.args.offset c.args.count) (Walks Follows) c.args.word.now (asks_cat c.args.word.now c.args.offset
    c.args.count) c.course_before-course.result c.course_before-course.ensures.last c.in_ok-path.path c.in_ok-path.ensures.ok (record {
      good = refl;
      future = rw c.parts.ensures at c.in_ok-check_future.ensures;
      past = refl;
    }) IsDir tt (1, omega arith, refl)
    c.from_residual-in_err-check_no_directory.result c.in_err-check_no_directory.field-0.0 (p.1 ∙ ap Err p.2)
    c.in_err-check_no_directory.ensures.gives

pub returns-in_err-check_no_softlink-clause-gives : goal.returns-in_err-check_no_softlink-clause-gives
returns-in_err-check_no_softlink-clause-gives g c =
    let p = err_from_is_err_and c.from_residual-in_err-check_no_softlink.result c.from_residual-in_err-check_no_softlink.ensures.1 in
    one_gives c.args.id.0 (Cat c.args.word.now c.args.offset c.args.count) (Walks Follows) c.args.word.now (asks_cat c.args.word.now c.args.offset
    c.args.count) c.course_before-course.result c.course_before-course.ensures.last c.in_ok-path.path c.in_ok-path.ensures.ok (record {
      good = refl;
      future = rw c.parts.ensures at c.in_ok-check_future.ensures;
      past = refl;
    }) NotFile tt (2, omega arith, refl)
    c.from_residual-in_err-check_no_softlink.result c.in_err-check_no_softlink.field-0.0 (p.1 ∙ ap Err p.2) c.in_err-check_no_softlink.ensures.gives

pub returns-in_default-clause-gives : goal.returns-in_default-clause-gives
returns-in_default-clause-gives g c =
    end_gives c.args.id.0 (Cat c.args.word.now c.args.offset c.args.count) (Walks Follows) c.args.word.now (asks_cat c.args.word.now c.args.offset
    c.args.count) c.course_before-course.result c.course_before-course.ensures.last c.in_ok-path.path c.in_ok-path.ensures.ok (record {
      good = refl;
      future = rw c.parts.ensures at c.in_ok-check_future.ensures;
      past = refl;
    }) NotFound tt (behind_cat (Parts c.in_ok-path.path ∷ []) 2 (in_read (Parts
    c.in_ok-path.path ∷ []) 2 lost_in_walk))

pub returns-clause-gives : goal.returns-clause-gives
returns-clause-gives g c =
    end_gives c.args.id.0 (Cat c.args.word.now c.args.offset c.args.count) (Walks Follows) c.args.word.now (asks_cat c.args.word.now c.args.offset
    c.args.count) c.course_before-course.result c.course_before-course.ensures.last c.in_ok-path.path c.in_ok-path.ensures.ok (record {
      good = refl;
      future = rw c.parts.ensures at c.in_ok-check_future.ensures;
      past = refl;
    }) (Content c.in_ok-bytes.bytes) tt (0, omega arith, refl)
