use Rattle.std.proofs.Common.{◌≡◌, ◌∙◌, None, Err, ap, length, refl, subst, sym, arith}
use Rattle.std.proofs.lemmas.Result.{err_from_is_err_and}
use Rattle.std.specs.Bool.{nat_lt}
use Rattle.hm_types.specs.Tree.{FileTree, entries_in}
use Rattle.hm_cursor.specs.Told.{fulls}
use Rattle.hm_records.specs.KeysFit.{KeysFit}
use Rattle.hm_records.specs.View.{IsViewOf}
use Rattle.hm_path.specs.Path.{IsPath}
use Rattle.hm_model.specs.Due.{is_dir, no_future, refuse_if, has_id}
use Rattle.hm_model.specs.Sites.{Parts, TakesName}
use Rattle.hm_model.specs.View.{object_at}
use Rattle.hm_model.specs.declared.command.Command.TheVariants.{Rmdir}
use Rattle.hm_model.specs.declared.reply.Reply.TheVariants.{NotDir, NotEmpty, Done, ReadOnly}
use Rattle.hm_dirs.proofs.WalkLoopLemmas.{same_twice}
use Rattle.hm_dirs.specs.Walk.{place_of}
use Rattle.hm_calls.specs.Known.{AreBelowIn, AreKnown}
use Rattle.hm_calls.specs.Places.{ask_kind}
use Rattle.hm_calls.specs.Stop.{Answers}
use Rattle.hm_calls.specs.Writes.{TakesDirectory, place_in, IsNewIn, reserves}
use Rattle.hm_calls.proofs.RefusalLemmas.{future_refuses, name_refuses, of_rmdir, past_refuses, walk_refuses, word_refuses}
use Rattle.hm_calls.proofs.RemoveLemmas.{empty_check, empty_told, removal, rmdir_accepts, rmdir_empty_refuses, rmdir_kind_refuses}
use Rattle.hm_calls.proofs.RemoveLemmas.{rmdir_master_refuses, rmdir_writes}
use Rattle.hm_calls.proofs.SceneLemmas.{IsStoppedBy, answered, decided, scenes_so}
use Rattle.hm_calls.proofs.StageLemmas.{Wrote, acts_ended, early_named, good_named, master_passes, master_stopped, nameless, no_ids, of_refusal}
use Rattle.hm_calls.proofs.StageLemmas.{on_balanced, past_stopped, taken, told_before, told_then, untaken, untouched}
use Rattle.hm_calls.proofs.KnownLemmas.{known_then}
use Rattle.hm_calls.proofs.TakeLemmas.{both_stay, takes_charged, took_spent}
use Rattle.hm_calls.proofs.MayReplyLemmas.{asks_rmdir, end_gives, future_gives, lost_gives, name_gives, one_gives, past_gives, word_gives}
use Rattle.std.proofs.lemmas.Bool.{false≢true}
use Rattle.hm_calls.proofs.remove.remove_directory.Goals as goal

pub returns-in_err-path-clause-answers : goal.returns-in_err-path-clause-answers
returns-in_err-path-clause-answers g c =
    let p = err_from_is_err_and c.from_residual.result c.from_residual.ensures.1 in
    let stopped = c.in_err-path.field-0.0 in
    acts_ended g.T.HasElements.elements g.T.HasElements.mark g.T.HasRoom.extents g.T.HasRoom.room g.T.HasRoom.free c.args.store.now c.args.store.now
    (g.H.NameHash.hash_of c.args.hash.now) c.args.id.0 (Rmdir c.args.word.now) c.from_residual.result stopped (p.1 ∙ ap Err p.2)
    (word_refuses (g.H.NameHash.hash_of c.args.hash.now) c.args.id.0 c.course_before-course.result c.course_before-course.ensures.last c.requires.id.1 (Rmdir
    c.args.word.now) TakesName c.args.word.now (of_rmdir c.args.word.now) (g.T.HasElements.elements c.args.store.now) (g.T.HasRoom.extents
    c.args.store.now) (g.T.HasRoom.room c.args.store.now) (g.T.HasRoom.free c.args.store.now) stopped c.in_err-path.ensures.refused)
    (of_refusal _ stopped (untouched g.T.HasElements.elements g.T.HasElements.mark g.T.HasRoom.extents g.T.HasRoom.room g.T.HasRoom.free c.args.store.now))

pub returns-in_err-name-clause-answers : goal.returns-in_err-name-clause-answers
returns-in_err-name-clause-answers g c =
    let p = err_from_is_err_and c.from_residual-in_err-name.result c.from_residual-in_err-name.ensures.1 in
    let stopped = c.in_err-name.field-0.0 in
    acts_ended g.T.HasElements.elements g.T.HasElements.mark g.T.HasRoom.extents g.T.HasRoom.room g.T.HasRoom.free c.args.store.now c.args.store.now
    (g.H.NameHash.hash_of c.args.hash.now) c.args.id.0 (Rmdir c.args.word.now) c.from_residual-in_err-name.result stopped (p.1 ∙ ap Err p.2)
    (name_refuses (g.H.NameHash.hash_of c.args.hash.now) c.args.id.0 c.course_before-course.result c.course_before-course.ensures.last c.requires.id.1 (Rmdir
    c.args.word.now) TakesName c.args.word.now (of_rmdir c.args.word.now) (g.T.HasElements.elements c.args.store.now) (g.T.HasRoom.extents
    c.args.store.now) (g.T.HasRoom.room c.args.store.now) (g.T.HasRoom.free c.args.store.now) c.parts-parts.result.now (subst (IsPath c.args.word.now)
    (sym c.parts-parts.ensures) c.in_ok-path.ensures.ok) stopped (nameless c.parts-parts.result.now stopped c.in_err-name.ensures.refused))
    (of_refusal _ stopped (untouched g.T.HasElements.elements g.T.HasElements.mark g.T.HasRoom.extents g.T.HasRoom.room g.T.HasRoom.free c.args.store.now))

pub returns-in_err-check_future-clause-answers : goal.returns-in_err-check_future-clause-answers
returns-in_err-check_future-clause-answers g c =
    let p = err_from_is_err_and c.from_residual-in_err-check_future.result c.from_residual-in_err-check_future.ensures.1 in
    let stopped = c.in_err-check_future.field-0.0 in
    acts_ended g.T.HasElements.elements g.T.HasElements.mark g.T.HasRoom.extents g.T.HasRoom.room g.T.HasRoom.free c.args.store.now c.args.store.now
    (g.H.NameHash.hash_of c.args.hash.now) c.args.id.0 (Rmdir c.args.word.now) c.from_residual-in_err-check_future.result stopped (p.1 ∙ ap Err p.2)
    (future_refuses (g.H.NameHash.hash_of c.args.hash.now) c.args.id.0 c.course_before-course.result c.course_before-course.ensures.last c.requires.id.1
    (Rmdir c.args.word.now) TakesName c.args.word.now (of_rmdir c.args.word.now) (g.T.HasElements.elements c.args.store.now) (g.T.HasRoom.extents
    c.args.store.now) (g.T.HasRoom.room c.args.store.now) (g.T.HasRoom.free c.args.store.now) c.parts-parts.result.now (subst (IsPath c.args.word.now)
    (sym c.parts-parts.ensures) c.in_ok-path.ensures.ok) (good_named c.parts-parts.result.now c.in_ok-name.name.now c.in_ok-name.ensures.name) stopped
    (decided (Unit {0}) (no_future c.course_before-course.result.last.0 (Parts c.parts-parts.result.now)) stopped c.in_err-check_future.ensures))
    (of_refusal _ stopped (untouched g.T.HasElements.elements g.T.HasElements.mark g.T.HasRoom.extents g.T.HasRoom.room g.T.HasRoom.free c.args.store.now))

pub returns-in_err-check_present-clause-answers : goal.returns-in_err-check_present-clause-answers
returns-in_err-check_present-clause-answers g c =
    let p = err_from_is_err_and c.from_residual-in_err-check_present.result c.from_residual-in_err-check_present.ensures.1 in
    let stopped = c.in_err-check_present.field-0.0 in
    acts_ended g.T.HasElements.elements g.T.HasElements.mark g.T.HasRoom.extents g.T.HasRoom.room g.T.HasRoom.free c.args.store.now c.args.store.now
    (g.H.NameHash.hash_of c.args.hash.now) c.args.id.0 (Rmdir c.args.word.now) c.from_residual-in_err-check_present.result stopped (p.1 ∙ ap Err p.2)
    (past_refuses (g.H.NameHash.hash_of c.args.hash.now) c.args.id.0 c.course_before-course.result c.course_before-course.ensures.last c.requires.id.1 (Rmdir
    c.args.word.now) TakesName c.args.word.now (of_rmdir c.args.word.now) (g.T.HasElements.elements c.args.store.now) (g.T.HasRoom.extents
    c.args.store.now) (g.T.HasRoom.room c.args.store.now) (g.T.HasRoom.free c.args.store.now) c.parts-parts.result.now (subst (IsPath c.args.word.now)
    (sym c.parts-parts.ensures) c.in_ok-path.ensures.ok) (good_named c.parts-parts.result.now c.in_ok-name.name.now c.in_ok-name.ensures.name)
    c.in_ok-check_future.ensures stopped (past_stopped (Rmdir c.args.word.now) c.parts-parts.result.now refl stopped c.in_err-check_present.ensures))
    (of_refusal _ stopped (untouched g.T.HasElements.elements g.T.HasElements.mark g.T.HasRoom.extents g.T.HasRoom.room g.T.HasRoom.free c.args.store.now))

pub returns-in_err-directory-clause-answers : goal.returns-in_err-directory-clause-answers
returns-in_err-directory-clause-answers g c =
    let p = err_from_is_err_and c.from_residual-in_err-directory.result c.from_residual-in_err-directory.ensures.1 in
    let stopped = c.in_err-directory.field-0.0 in
    acts_ended g.T.HasElements.elements g.T.HasElements.mark g.T.HasRoom.extents g.T.HasRoom.room g.T.HasRoom.free c.args.store.now c.reach_name.new.store
    (g.H.NameHash.hash_of c.args.hash.now) c.args.id.0 (Rmdir c.args.word.now) c.from_residual-in_err-directory.result stopped (p.1 ∙ ap Err p.2)
    (walk_refuses (g.H.NameHash.hash_of c.args.hash.now) c.args.id.0 c.course_before-course.result c.course_before-course.ensures.last c.requires.id.1 (Rmdir
    c.args.word.now) TakesName c.args.word.now (of_rmdir c.args.word.now) (g.T.HasElements.elements c.args.store.now) (g.T.HasRoom.extents
    c.args.store.now) (g.T.HasRoom.room c.args.store.now) (g.T.HasRoom.free c.args.store.now) c.parts-parts.result.now (subst (IsPath c.args.word.now)
    (sym c.parts-parts.ensures) c.in_ok-path.ensures.ok) (early_named (Rmdir c.args.word.now) c.course_before-course.result.last.0
    c.parts-parts.result.now c.in_ok-name.name.now refl c.in_ok-name.ensures.name c.in_ok-check_future.ensures c.in_ok-check_present.ensures) stopped
    (untaken (g.H.NameHash.hash_of c.args.hash.now) c.course_before-course.result (g.T.HasElements.elements c.args.store.now) (g.T.HasRoom.extents
    c.args.store.now) c.parts-parts.result.now c.in_ok-name.name.now c.in_ok-name.ensures.name (no_ids c.parts-parts.result.now
    c.in_ok-check_present.ensures) stopped c.in_err-directory.ensures.ok))
    (of_refusal _ stopped c.in_err-directory.ensures.keeps)

pub returns-in_err-check_master-clause-answers : goal.returns-in_err-check_master-clause-answers
returns-in_err-check_master-clause-answers g c =
    let p = err_from_is_err_and c.from_residual-in_err-check_master.result c.from_residual-in_err-check_master.ensures.1 in
    let stopped = c.in_err-check_master.field-0.0 in
    acts_ended g.T.HasElements.elements g.T.HasElements.mark g.T.HasRoom.extents g.T.HasRoom.room g.T.HasRoom.free c.args.store.now c.check_master.new.store
    (g.H.NameHash.hash_of c.args.hash.now) c.args.id.0 (Rmdir c.args.word.now) c.from_residual-in_err-check_master.result stopped (p.1 ∙ ap Err p.2)
    (rmdir_master_refuses (g.H.NameHash.hash_of c.args.hash.now) c.args.id.0 c.course_before-course.result c.course_before-course.ensures.last
    c.requires.id.1 c.args.word.now c.parts-parts.result.now (subst (IsPath c.args.word.now) (sym c.parts-parts.ensures) c.in_ok-path.ensures.ok)
    (g.T.HasElements.elements c.args.store.now) (g.T.HasRoom.extents c.args.store.now) (g.T.HasRoom.room c.args.store.now) (g.T.HasRoom.free
    c.args.store.now) c.in_ok-name.name.now c.in_ok-directory.directory c.in_ok-directory.object
    (taken (g.H.NameHash.hash_of c.args.hash.now) c.course_before-course.result (g.T.HasElements.elements c.args.store.now) (g.T.HasRoom.extents
    c.args.store.now) c.parts-parts.result.now c.in_ok-name.name.now c.in_ok-name.ensures.name (no_ids c.parts-parts.result.now
    c.in_ok-check_present.ensures) (c.in_ok-directory.directory, c.in_ok-directory.object) c.in_ok-directory.ensures.ok) (early_named (Rmdir
    c.args.word.now) c.course_before-course.result.last.0 c.parts-parts.result.now c.in_ok-name.name.now refl c.in_ok-name.ensures.name
    c.in_ok-check_future.ensures c.in_ok-check_present.ensures) stopped
    (master_stopped (g.H.NameHash.hash_of c.args.hash.now) c.course_before-course.result (g.T.HasElements.elements c.args.store.now)
    (g.T.HasElements.elements c.reach_name.new.store) (g.T.HasRoom.extents c.args.store.now) (g.T.HasRoom.extents c.reach_name.new.store)
    c.in_ok-directory.ensures.keeps.elements c.in_ok-directory.ensures.keeps.extents c.in_ok-directory.directory.at.pfs.0 stopped
    c.in_err-check_master.ensures.ok))
    (of_refusal _ stopped (same_twice c.in_ok-directory.ensures.keeps c.in_err-check_master.ensures.keeps))

pub returns-in_err-check_directory-clause-answers : goal.returns-in_err-check_directory-clause-answers
returns-in_err-check_directory-clause-answers g c =
    let p = err_from_is_err_and c.from_residual-in_err-check_directory.result c.from_residual-in_err-check_directory.ensures.1 in
    let stopped = c.in_err-check_directory.field-0.0 in
    acts_ended g.T.HasElements.elements g.T.HasElements.mark g.T.HasRoom.extents g.T.HasRoom.room g.T.HasRoom.free c.args.store.now c.check_master.new.store
    (g.H.NameHash.hash_of c.args.hash.now) c.args.id.0 (Rmdir c.args.word.now) c.from_residual-in_err-check_directory.result stopped (p.1 ∙ ap Err p.2)
    (rmdir_kind_refuses (g.H.NameHash.hash_of c.args.hash.now) c.args.id.0 c.course_before-course.result c.course_before-course.ensures.last c.requires.id.1
    c.args.word.now c.parts-parts.result.now (subst (IsPath c.args.word.now) (sym c.parts-parts.ensures) c.in_ok-path.ensures.ok)
    (g.T.HasElements.elements c.args.store.now) (g.T.HasRoom.extents c.args.store.now) (g.T.HasRoom.room c.args.store.now) (g.T.HasRoom.free
    c.args.store.now) c.in_ok-name.name.now c.in_ok-directory.directory c.in_ok-directory.object
    (taken (g.H.NameHash.hash_of c.args.hash.now) c.course_before-course.result (g.T.HasElements.elements c.args.store.now) (g.T.HasRoom.extents
    c.args.store.now) c.parts-parts.result.now c.in_ok-name.name.now c.in_ok-name.ensures.name (no_ids c.parts-parts.result.now
    c.in_ok-check_present.ensures) (c.in_ok-directory.directory, c.in_ok-directory.object) c.in_ok-directory.ensures.ok) (early_named (Rmdir
    c.args.word.now) c.course_before-course.result.last.0 c.parts-parts.result.now c.in_ok-name.name.now refl c.in_ok-name.ensures.name
    c.in_ok-check_future.ensures c.in_ok-check_present.ensures)
    (master_passes (g.H.NameHash.hash_of c.args.hash.now) c.course_before-course.result (g.T.HasElements.elements c.args.store.now) (g.T.HasElements.elements
    c.reach_name.new.store) (g.T.HasRoom.extents c.args.store.now) (g.T.HasRoom.extents c.reach_name.new.store)
    c.in_ok-directory.ensures.keeps.elements c.in_ok-directory.ensures.keeps.extents c.in_ok-directory.directory.at.pfs.0 c.in_ok-check_master.ensures.ok)
    stopped
    (λ scene read. decided (Unit {0}) (ask_kind is_dir NotDir (object_at scene.view (place_of c.in_ok-directory.object.at))) stopped
    (c.in_err-check_directory.ensures.check scene read)))
    (of_refusal _ stopped (same_twice c.in_ok-directory.ensures.keeps c.in_ok-check_master.ensures.keeps))

pub returns-in_err-check_empty-clause-answers : goal.returns-in_err-check_empty-clause-answers
returns-in_err-check_empty-clause-answers g c =
    let p = err_from_is_err_and c.from_residual-in_err-check_empty.result c.from_residual-in_err-check_empty.ensures.1 in
    let stopped = c.in_err-check_empty.field-0.0 in
    let same = same_twice c.in_ok-directory.ensures.keeps c.in_ok-check_master.ensures.keeps in
    acts_ended g.T.HasElements.elements g.T.HasElements.mark g.T.HasRoom.extents g.T.HasRoom.room g.T.HasRoom.free c.args.store.now c.check_empty.new.store
    (g.H.NameHash.hash_of c.args.hash.now) c.args.id.0 (Rmdir c.args.word.now) c.from_residual-in_err-check_empty.result stopped (p.1 ∙ ap Err p.2)
    (rmdir_empty_refuses (g.H.NameHash.hash_of c.args.hash.now) c.args.id.0 c.course_before-course.result c.course_before-course.ensures.last c.requires.id.1
    c.args.word.now c.parts-parts.result.now (subst (IsPath c.args.word.now) (sym c.parts-parts.ensures) c.in_ok-path.ensures.ok)
    (g.T.HasElements.elements c.args.store.now) (g.T.HasRoom.extents c.args.store.now) (g.T.HasRoom.room c.args.store.now) (g.T.HasRoom.free
    c.args.store.now) c.in_ok-name.name.now c.in_ok-directory.directory c.in_ok-directory.object
    (taken (g.H.NameHash.hash_of c.args.hash.now) c.course_before-course.result (g.T.HasElements.elements c.args.store.now) (g.T.HasRoom.extents
    c.args.store.now) c.parts-parts.result.now c.in_ok-name.name.now c.in_ok-name.ensures.name (no_ids c.parts-parts.result.now
    c.in_ok-check_present.ensures) (c.in_ok-directory.directory, c.in_ok-directory.object) c.in_ok-directory.ensures.ok) (early_named (Rmdir
    c.args.word.now) c.course_before-course.result.last.0 c.parts-parts.result.now c.in_ok-name.name.now refl c.in_ok-name.ensures.name
    c.in_ok-check_future.ensures c.in_ok-check_present.ensures)
    (master_passes (g.H.NameHash.hash_of c.args.hash.now) c.course_before-course.result (g.T.HasElements.elements c.args.store.now) (g.T.HasElements.elements
    c.reach_name.new.store) (g.T.HasRoom.extents c.args.store.now) (g.T.HasRoom.extents c.reach_name.new.store)
    c.in_ok-directory.ensures.keeps.elements c.in_ok-directory.ensures.keeps.extents c.in_ok-directory.directory.at.pfs.0 c.in_ok-check_master.ensures.ok)
    c.in_ok-check_directory.ensures.check stopped
    (scenes_so (g.H.NameHash.hash_of c.args.hash.now) c.course_before-course.result (g.T.HasElements.elements c.args.store.now) (g.T.HasRoom.extents
    c.args.store.now)
    (λ scene. Answers {T = Unit {0}} (empty_check scene c.in_ok-directory.object) (Err stopped)) (λ scene. IsStoppedBy (empty_check scene
    c.in_ok-directory.object) stopped)
    (λ scene set told. answered (Unit {0}) (empty_check scene c.in_ok-directory.object) stopped told)
    (empty_told (g.H.NameHash.hash_of c.args.hash.now) c.args.id.0 c.course_before-course.result c.course_before-course.ensures.last c.requires.id.1
    c.args.word.now c.parts-parts.result.now (subst (IsPath c.args.word.now) (sym c.parts-parts.ensures) c.in_ok-path.ensures.ok)
    (g.T.HasElements.elements c.args.store.now) (g.T.HasRoom.extents c.args.store.now) (g.T.HasRoom.room c.args.store.now) (g.T.HasRoom.free
    c.args.store.now) c.in_ok-name.name.now c.in_ok-directory.directory c.in_ok-directory.object
    (taken (g.H.NameHash.hash_of c.args.hash.now) c.course_before-course.result (g.T.HasElements.elements c.args.store.now) (g.T.HasRoom.extents
    c.args.store.now) c.parts-parts.result.now c.in_ok-name.name.now c.in_ok-name.ensures.name (no_ids c.parts-parts.result.now
    c.in_ok-check_present.ensures) (c.in_ok-directory.directory, c.in_ok-directory.object) c.in_ok-directory.ensures.ok)
    (g.T.HasElements.elements c.check_master.new.store) (g.T.HasRoom.extents c.check_master.new.store) same.elements same.extents (λ check. Answers {T = Unit
    {0}} check (Err stopped))
    (on_balanced (g.T.HasElements.elements c.check_master.new.store) (g.T.HasRoom.extents c.check_master.new.store) _
    (λ lists. (tree : FileTree) → KeysFit (g.H.NameHash.hash_of c.args.hash.now) (fulls lists)
    → IsViewOf (fulls lists) c.in_ok-directory.object.at.pfs.0 c.in_ok-directory.object.as_of.0 tree
    → Answers {T = Unit {0}} (refuse_if (nat_lt 0 (length (entries_in tree c.in_ok-directory.object.at.object))) NotEmpty) (Err stopped))
    (λ lists told tree fit view. told (g.H.NameHash.hash_of c.args.hash.now) tree (g.met.H.NameHash.bounded c.args.hash.now) fit view)
    c.in_err-check_empty.ensures.ok))))
    (of_refusal _ stopped (same_twice same c.in_err-check_empty.ensures.keeps))

pub take_directory-requires-clause-below : goal.take_directory-requires-clause-below
take_directory-requires-clause-below g c =
    let same = (same_twice (same_twice c.in_ok-directory.ensures.keeps c.in_ok-check_master.ensures.keeps) c.in_ok-check_empty.ensures.keeps) in
    let kept = c.in_ok-directory.ensures.keeps in
    let pfs = c.in_ok-directory.directory.at.pfs.0 in
    let below = c.in_ok-check_master.ensures.below c.args.id.0
    (told_then (g.T.HasElements.elements c.args.store.now) (g.T.HasElements.elements c.reach_name.new.store) (g.T.HasRoom.extents c.args.store.now)
    (g.T.HasRoom.extents c.reach_name.new.store) kept.elements kept.extents (λ es xs. AreKnown es xs c.args.id.0) c.requires.known) in
    told_then (g.T.HasElements.elements c.args.store.now) (g.T.HasElements.elements c.check_empty.new.store) (g.T.HasRoom.extents c.args.store.now)
    (g.T.HasRoom.extents c.check_empty.new.store) same.elements same.extents (λ es xs. AreBelowIn es xs pfs c.args.id.0)
    (told_before (g.T.HasElements.elements c.args.store.now) (g.T.HasElements.elements c.reach_name.new.store) (g.T.HasRoom.extents c.args.store.now)
    (g.T.HasRoom.extents c.reach_name.new.store) kept.elements kept.extents (λ es xs. AreBelowIn es xs pfs c.args.id.0) below)

pub returns-clause-answers : goal.returns-clause-answers
returns-clause-answers g c =
    let start = same_twice c.in_ok-directory.ensures.keeps c.in_ok-check_master.ensures.keeps in
    let same = (same_twice (same_twice c.in_ok-directory.ensures.keeps c.in_ok-check_master.ensures.keeps) c.in_ok-check_empty.ensures.keeps) in
    let kept = c.in_ok-directory.ensures.keeps in
    let pfs = c.in_ok-directory.directory.at.pfs.0 in
    let below = told_before (g.T.HasElements.elements c.args.store.now) (g.T.HasElements.elements c.reach_name.new.store) (g.T.HasRoom.extents
    c.args.store.now) (g.T.HasRoom.extents c.reach_name.new.store) kept.elements kept.extents (λ es xs. AreBelowIn es xs pfs c.args.id.0)
    (c.in_ok-check_master.ensures.below c.args.id.0
    (told_then (g.T.HasElements.elements c.args.store.now) (g.T.HasElements.elements c.reach_name.new.store) (g.T.HasRoom.extents c.args.store.now)
    (g.T.HasRoom.extents c.reach_name.new.store) kept.elements kept.extents (λ es xs. AreKnown es xs c.args.id.0) c.requires.known)) in
    let writes = told_before (g.T.HasElements.elements c.args.store.now) (g.T.HasElements.elements c.check_empty.new.store) (g.T.HasRoom.extents
    c.args.store.now) (g.T.HasRoom.extents c.check_empty.new.store) same.elements same.extents
    (λ es xs. Wrote (TakesDirectory (g.H.NameHash.hash_of c.args.hash.now) (place_in c.in_ok-directory.directory c.in_ok-name.name.now) c.args.id.0
    c.in_ok-directory.object.at.object) es xs (g.T.HasElements.elements c.take_directory.new.store) (g.T.HasRoom.extents c.take_directory.new.store))
    c.in_ok-take_directory.ensures.ok in (
      rmdir_accepts (g.H.NameHash.hash_of c.args.hash.now) c.args.id.0 c.course_before-course.result c.course_before-course.ensures.last c.requires.id.1
          c.args.word.now c.parts-parts.result.now (subst (IsPath c.args.word.now) (sym c.parts-parts.ensures) c.in_ok-path.ensures.ok)
          (g.T.HasElements.elements c.args.store.now) (g.T.HasRoom.extents c.args.store.now) (g.T.HasRoom.room c.args.store.now) (g.T.HasRoom.free
          c.args.store.now) c.in_ok-name.name.now c.in_ok-directory.directory c.in_ok-directory.object
          (taken (g.H.NameHash.hash_of c.args.hash.now) c.course_before-course.result (g.T.HasElements.elements c.args.store.now) (g.T.HasRoom.extents
          c.args.store.now) c.parts-parts.result.now c.in_ok-name.name.now c.in_ok-name.ensures.name (no_ids c.parts-parts.result.now
          c.in_ok-check_present.ensures) (c.in_ok-directory.directory, c.in_ok-directory.object) c.in_ok-directory.ensures.ok) (early_named (Rmdir
          c.args.word.now) c.course_before-course.result.last.0 c.parts-parts.result.now c.in_ok-name.name.now refl c.in_ok-name.ensures.name
          c.in_ok-check_future.ensures c.in_ok-check_present.ensures)
          (master_passes (g.H.NameHash.hash_of c.args.hash.now) c.course_before-course.result (g.T.HasElements.elements c.args.store.now)
          (g.T.HasElements.elements c.reach_name.new.store) (g.T.HasRoom.extents c.args.store.now) (g.T.HasRoom.extents c.reach_name.new.store)
          c.in_ok-directory.ensures.keeps.elements c.in_ok-directory.ensures.keeps.extents c.in_ok-directory.directory.at.pfs.0 c.in_ok-check_master.ensures.ok)
          c.in_ok-check_directory.ensures.check
          (empty_told (g.H.NameHash.hash_of c.args.hash.now) c.args.id.0 c.course_before-course.result c.course_before-course.ensures.last c.requires.id.1
          c.args.word.now c.parts-parts.result.now (subst (IsPath c.args.word.now) (sym c.parts-parts.ensures) c.in_ok-path.ensures.ok)
          (g.T.HasElements.elements c.args.store.now) (g.T.HasRoom.extents c.args.store.now) (g.T.HasRoom.room c.args.store.now) (g.T.HasRoom.free
          c.args.store.now) c.in_ok-name.name.now c.in_ok-directory.directory c.in_ok-directory.object
          (taken (g.H.NameHash.hash_of c.args.hash.now) c.course_before-course.result (g.T.HasElements.elements c.args.store.now) (g.T.HasRoom.extents
          c.args.store.now) c.parts-parts.result.now c.in_ok-name.name.now c.in_ok-name.ensures.name (no_ids c.parts-parts.result.now
          c.in_ok-check_present.ensures) (c.in_ok-directory.directory, c.in_ok-directory.object) c.in_ok-directory.ensures.ok)
          (g.T.HasElements.elements c.check_master.new.store) (g.T.HasRoom.extents c.check_master.new.store) start.elements start.extents (λ check. check ≡
          None)
          (on_balanced (g.T.HasElements.elements c.check_master.new.store) (g.T.HasRoom.extents c.check_master.new.store) _
          (λ lists. (tree : FileTree) → KeysFit (g.H.NameHash.hash_of c.args.hash.now) (fulls lists)
          → IsViewOf (fulls lists) c.in_ok-directory.object.at.pfs.0 c.in_ok-directory.object.as_of.0 tree
          → (refuse_if (nat_lt 0 (length (entries_in tree c.in_ok-directory.object.at.object))) NotEmpty) ≡ None)
          (λ lists told tree fit view. told (g.H.NameHash.hash_of c.args.hash.now) tree (g.met.H.NameHash.bounded c.args.hash.now) fit view)
          c.in_ok-check_empty.ensures.ok)),
      rmdir_writes (g.H.NameHash.hash_of c.args.hash.now) c.args.id.0 c.course_before-course.result c.course_before-course.ensures.last c.requires.id.1
          c.args.word.now c.parts-parts.result.now (subst (IsPath c.args.word.now) (sym c.parts-parts.ensures) c.in_ok-path.ensures.ok)
          (g.T.HasElements.elements c.args.store.now) (g.T.HasRoom.extents c.args.store.now) (g.T.HasRoom.room c.args.store.now) (g.T.HasRoom.free
          c.args.store.now) c.in_ok-name.name.now c.in_ok-directory.directory c.in_ok-directory.object
          (taken (g.H.NameHash.hash_of c.args.hash.now) c.course_before-course.result (g.T.HasElements.elements c.args.store.now) (g.T.HasRoom.extents
          c.args.store.now) c.parts-parts.result.now c.in_ok-name.name.now c.in_ok-name.ensures.name (no_ids c.parts-parts.result.now
          c.in_ok-check_present.ensures) (c.in_ok-directory.directory, c.in_ok-directory.object) c.in_ok-directory.ensures.ok)
          c.in_ok-check_directory.ensures.check
          (removal (g.H.NameHash.hash_of c.args.hash.now) c.args.id.0 c.course_before-course.result c.course_before-course.ensures.last c.requires.id.1
          c.args.word.now c.parts-parts.result.now (subst (IsPath c.args.word.now) (sym c.parts-parts.ensures) c.in_ok-path.ensures.ok)
          (g.T.HasElements.elements c.args.store.now) (g.T.HasRoom.extents c.args.store.now) (g.T.HasRoom.room c.args.store.now) (g.T.HasRoom.free
          c.args.store.now) c.in_ok-name.name.now c.in_ok-directory.directory c.in_ok-directory.object
          (taken (g.H.NameHash.hash_of c.args.hash.now) c.course_before-course.result (g.T.HasElements.elements c.args.store.now) (g.T.HasRoom.extents
          c.args.store.now) c.parts-parts.result.now c.in_ok-name.name.now c.in_ok-name.ensures.name (no_ids c.parts-parts.result.now
          c.in_ok-check_present.ensures) (c.in_ok-directory.directory, c.in_ok-directory.object) c.in_ok-directory.ensures.ok)
          (g.met.T.ElementStore.sorted c.args.store.now) below (master_passes (g.H.NameHash.hash_of c.args.hash.now) c.course_before-course.result
          (g.T.HasElements.elements c.args.store.now) (g.T.HasElements.elements c.reach_name.new.store) (g.T.HasRoom.extents c.args.store.now)
          (g.T.HasRoom.extents c.reach_name.new.store)
          c.in_ok-directory.ensures.keeps.elements c.in_ok-directory.ensures.keeps.extents c.in_ok-directory.directory.at.pfs.0
          c.in_ok-check_master.ensures.ok))
          (g.T.HasElements.elements c.take_directory.new.store) (g.T.HasRoom.extents c.take_directory.new.store) writes,
    )

pub returns-clause-known : goal.returns-clause-known
returns-clause-known g c =
    let same = (same_twice (same_twice c.in_ok-directory.ensures.keeps c.in_ok-check_master.ensures.keeps) c.in_ok-check_empty.ensures.keeps) in
    let pfs = c.in_ok-directory.directory.at.pfs.0 in
    known_then g.T.HasElements.elements g.T.HasRoom.extents
    (TakesDirectory (g.H.NameHash.hash_of c.args.hash.now) (place_in c.in_ok-directory.directory c.in_ok-name.name.now) c.args.id.0
    c.in_ok-directory.object.at.object) pfs c.args.id.0 (IsNewIn pfs c.args.id.0) c.args.store.now c.check_empty.new.store c.take_directory.new.store
    (λ a b takes. takes.steps.writes) same.elements same.extents c.in_ok-take_directory.ensures.keeps.elements
    c.in_ok-take_directory.ensures.keeps.extents c.requires.balanced c.requires.known c.in_ok-take_directory.ensures.ok

pub returns-clause-room : goal.returns-clause-room
returns-clause-room g c =
    let same = (same_twice (same_twice c.in_ok-directory.ensures.keeps c.in_ok-check_master.ensures.keeps) c.in_ok-check_empty.ensures.keeps) in
    let stays = both_stay c.in_ok-take_directory.ensures.borrowed (both_stay c.in_ok-check_empty.ensures.borrowed (both_stay
    c.in_ok-check_master.ensures.borrowed c.in_ok-directory.ensures.borrowed)) in (
      takes_charged g.T.HasRoom.room g.T.HasRoom.free reserves c.args.store.now c.take_directory.new.store _
          (took_spent g.T.HasRoom.room g.T.HasRoom.free reserves c.args.store.now c.check_empty.new.store c.take_directory.new.store same.room same.free
          c.in_ok-take_directory.ensures.space),
      stays.0,
      stays.1,
    )

-- ---- the replies that it may give

pub returns-in_err-path-clause-gives : goal.returns-in_err-path-clause-gives
returns-in_err-path-clause-gives g c =
    let p = err_from_is_err_and c.from_residual.result c.from_residual.ensures.1 in
    word_gives c.args.id.0 (Rmdir c.args.word.now) TakesName c.args.word.now (asks_rmdir c.args.word.now) c.from_residual.result
    c.in_err-path.field-0.0 (p.1 ∙ ap Err p.2) c.in_err-path.ensures.refused

pub returns-in_err-name-clause-gives : goal.returns-in_err-name-clause-gives
returns-in_err-name-clause-gives g c =
    let p = err_from_is_err_and c.from_residual-in_err-name.result c.from_residual-in_err-name.ensures.1 in
    name_gives c.args.id.0 (Rmdir c.args.word.now) TakesName c.args.word.now (asks_rmdir c.args.word.now) c.course_before-course.result
    c.course_before-course.ensures.last c.parts-parts.result.now (subst (IsPath c.args.word.now) (sym c.parts-parts.ensures) c.in_ok-path.ensures.ok)
    c.from_residual-in_err-name.result c.in_err-name.field-0.0 (p.1 ∙ ap Err p.2) (nameless c.parts-parts.result.now c.in_err-name.field-0.0
    c.in_err-name.ensures.refused)

pub returns-in_err-check_future-clause-gives : goal.returns-in_err-check_future-clause-gives
returns-in_err-check_future-clause-gives g c =
    let p = err_from_is_err_and c.from_residual-in_err-check_future.result c.from_residual-in_err-check_future.ensures.1 in
    future_gives c.args.id.0 (Rmdir c.args.word.now) TakesName c.args.word.now (asks_rmdir c.args.word.now) c.course_before-course.result
    c.course_before-course.ensures.last c.parts-parts.result.now (subst (IsPath c.args.word.now) (sym c.parts-parts.ensures) c.in_ok-path.ensures.ok)
    (good_named c.parts-parts.result.now c.in_ok-name.name.now c.in_ok-name.ensures.name) c.from_residual-in_err-check_future.result
    c.in_err-check_future.field-0.0 (p.1 ∙ ap Err p.2) (decided (Unit {0}) (no_future c.course_before-course.result.last.0 (Parts
    c.parts-parts.result.now)) c.in_err-check_future.field-0.0 c.in_err-check_future.ensures)

pub returns-in_err-check_present-clause-gives : goal.returns-in_err-check_present-clause-gives
returns-in_err-check_present-clause-gives g c =
    let p = err_from_is_err_and c.from_residual-in_err-check_present.result c.from_residual-in_err-check_present.ensures.1 in
    past_gives c.args.id.0 (Rmdir c.args.word.now) TakesName c.args.word.now (asks_rmdir c.args.word.now) c.course_before-course.result
    c.course_before-course.ensures.last c.parts-parts.result.now (subst (IsPath c.args.word.now) (sym c.parts-parts.ensures) c.in_ok-path.ensures.ok)
    (good_named c.parts-parts.result.now c.in_ok-name.name.now c.in_ok-name.ensures.name) c.in_ok-check_future.ensures
    c.from_residual-in_err-check_present.result c.in_err-check_present.field-0.0 (p.1 ∙ ap Err p.2) (past_stopped (Rmdir c.args.word.now)
    c.parts-parts.result.now refl c.in_err-check_present.field-0.0 c.in_err-check_present.ensures)

pub returns-in_err-directory-clause-gives : goal.returns-in_err-directory-clause-gives
returns-in_err-directory-clause-gives g c =
    let p = err_from_is_err_and c.from_residual-in_err-directory.result c.from_residual-in_err-directory.ensures.1 in
    lost_gives c.args.id.0 (Rmdir c.args.word.now) TakesName c.args.word.now (asks_rmdir c.args.word.now) c.course_before-course.result
    c.course_before-course.ensures.last c.parts-parts.result.now (subst (IsPath c.args.word.now) (sym c.parts-parts.ensures) c.in_ok-path.ensures.ok)
    (early_named (Rmdir c.args.word.now) c.course_before-course.result.last.0 c.parts-parts.result.now c.in_ok-name.name.now refl
    c.in_ok-name.ensures.name c.in_ok-check_future.ensures c.in_ok-check_present.ensures) (has_id (Parts c.parts-parts.result.now)) (
      3,
      omega arith,
      refl,
    ) (4, omega arith, refl) (λ some. absurd (false≢true (sym (no_ids c.parts-parts.result.now c.in_ok-check_present.ensures) ∙ some)))
    c.from_residual-in_err-directory.result c.in_err-directory.field-0.0 (p.1 ∙ ap Err p.2) (c.in_err-directory.ensures.gives c.in_ok-name.name.now
    c.in_ok-name.ensures.name)

pub returns-in_err-check_master-clause-gives : goal.returns-in_err-check_master-clause-gives
returns-in_err-check_master-clause-gives g c =
    let p = err_from_is_err_and c.from_residual-in_err-check_master.result c.from_residual-in_err-check_master.ensures.1 in
    one_gives c.args.id.0 (Rmdir c.args.word.now) TakesName c.args.word.now (asks_rmdir c.args.word.now) c.course_before-course.result
    c.course_before-course.ensures.last c.parts-parts.result.now (subst (IsPath c.args.word.now) (sym c.parts-parts.ensures) c.in_ok-path.ensures.ok)
    (early_named (Rmdir c.args.word.now) c.course_before-course.result.last.0 c.parts-parts.result.now c.in_ok-name.name.now refl
    c.in_ok-name.ensures.name c.in_ok-check_future.ensures c.in_ok-check_present.ensures) ReadOnly tt (2, omega arith, refl)
    c.from_residual-in_err-check_master.result c.in_err-check_master.field-0.0 (p.1 ∙ ap Err p.2) c.in_err-check_master.ensures.gives

pub returns-in_err-check_directory-clause-gives : goal.returns-in_err-check_directory-clause-gives
returns-in_err-check_directory-clause-gives g c =
    let p = err_from_is_err_and c.from_residual-in_err-check_directory.result c.from_residual-in_err-check_directory.ensures.1 in
    one_gives c.args.id.0 (Rmdir c.args.word.now) TakesName c.args.word.now (asks_rmdir c.args.word.now) c.course_before-course.result
    c.course_before-course.ensures.last c.parts-parts.result.now (subst (IsPath c.args.word.now) (sym c.parts-parts.ensures) c.in_ok-path.ensures.ok)
    (early_named (Rmdir c.args.word.now) c.course_before-course.result.last.0 c.parts-parts.result.now c.in_ok-name.name.now refl
    c.in_ok-name.ensures.name c.in_ok-check_future.ensures c.in_ok-check_present.ensures) NotDir tt (4, omega arith, refl)
    c.from_residual-in_err-check_directory.result c.in_err-check_directory.field-0.0 (p.1 ∙ ap Err p.2) c.in_err-check_directory.ensures.gives

pub returns-in_err-check_empty-clause-gives : goal.returns-in_err-check_empty-clause-gives
returns-in_err-check_empty-clause-gives g c =
    let p = err_from_is_err_and c.from_residual-in_err-check_empty.result c.from_residual-in_err-check_empty.ensures.1 in
    one_gives c.args.id.0 (Rmdir c.args.word.now) TakesName c.args.word.now (asks_rmdir c.args.word.now) c.course_before-course.result
    c.course_before-course.ensures.last c.parts-parts.result.now (subst (IsPath c.args.word.now) (sym c.parts-parts.ensures) c.in_ok-path.ensures.ok)
    (early_named (Rmdir c.args.word.now) c.course_before-course.result.last.0 c.parts-parts.result.now c.in_ok-name.name.now refl
    c.in_ok-name.ensures.name c.in_ok-check_future.ensures c.in_ok-check_present.ensures) NotEmpty tt (1, omega arith, refl)
    c.from_residual-in_err-check_empty.result c.in_err-check_empty.field-0.0 (p.1 ∙ ap Err p.2) c.in_err-check_empty.ensures.gives

pub returns-clause-gives : goal.returns-clause-gives
returns-clause-gives g c =
    end_gives c.args.id.0 (Rmdir c.args.word.now) TakesName c.args.word.now (asks_rmdir c.args.word.now) c.course_before-course.result
    c.course_before-course.ensures.last c.parts-parts.result.now (subst (IsPath c.args.word.now) (sym c.parts-parts.ensures) c.in_ok-path.ensures.ok)
    (early_named (Rmdir c.args.word.now) c.course_before-course.result.last.0 c.parts-parts.result.now c.in_ok-name.name.now refl
    c.in_ok-name.ensures.name c.in_ok-check_future.ensures c.in_ok-check_present.ensures) Done tt (0, omega arith, refl)
