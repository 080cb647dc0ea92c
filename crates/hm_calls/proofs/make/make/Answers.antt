use Rattle.std.proofs.Common.{◌≡◌, ◌∙◌, List, None, Err, ap, refl, subst, sym, [], arith, ◌∷◌}
use Rattle.std.proofs.lemmas.Result.{err_from_is_err_and}
use Rattle.hm_path.specs.Path.{IsPath}
use Rattle.hm_path.specs.declared.part.Part.{Part}
use Rattle.hm_model.specs.Due.{has_id, no_future, refuse_if}
use Rattle.hm_model.specs.Sites.{Parts, MakesName, front_of}
use Rattle.hm_model.specs.declared.reply.Reply.TheVariants.{ReadOnly, Done, Exists, HashFull}
use Rattle.hm_dirs.specs.declared.position.Stand.{Stand}
use Rattle.hm_dirs.proofs.WalkLoopLemmas.{same_twice}
use Rattle.hm_calls.specs.Stop.{Answers, Decides}
use Rattle.hm_calls.proofs.MadeLemmas.{as_named, known_back, made_kept, made_place, make_accepted, make_crowded, make_exists, make_full, make_future}
use Rattle.hm_calls.proofs.MadeLemmas.{make_lost, make_nameless, make_present, make_slave, make_word, make_writes, same_after, makes_change}
use Rattle.hm_calls.proofs.KnownLemmas.{known_then}
use Rattle.hm_calls.specs.Writes.{IsNewIn, PutsObject, place_in, reserves}
use Rattle.hm_calls.proofs.TakeLemmas.{both_stay, takes_charged, took_admitted}
use Rattle.hm_calls.specs.New.{object_by, command_by}
use Rattle.hm_calls.proofs.StageLemmas.{good_new, nameless_new, past_stopped}
use Rattle.hm_calls.proofs.MayReplyLemmas.{asks_make, early_made, end_gives, front_none, future_gives, lost_gives, name_gives, one_gives, past_gives}
use Rattle.hm_calls.proofs.MayReplyLemmas.{space_gives, word_gives}
use Rattle.hm_calls.proofs.SceneLemmas.{decided}
use Rattle.std.proofs.lemmas.Bool.{false≢true}
use Rattle.hm_calls.proofs.GivenLemmas.{made_has}
use Rattle.hm_calls.proofs.make.make.Goals as goal

pub returns-in_err-path-clause-answers : goal.returns-in_err-path-clause-answers
returns-in_err-path-clause-answers g c =
    let p = err_from_is_err_and c.from_residual.result c.from_residual.ensures.1 in
    make_word g.T.HasElements.elements g.T.HasElements.mark g.T.HasRoom.extents g.T.HasRoom.room g.T.HasRoom.free
    (g.H.NameHash.hash_of c.args.hash.now) c.args.id.0 c.course_before-course.result c.course_before-course.ensures.last c.requires.id.1 c.args.new
    c.args.word.now c.args.store.now
    c.from_residual.result c.in_err-path.field-0.0 (p.1 ∙ ap Err p.2) c.in_err-path.ensures.refused

pub returns-in_err-front-clause-answers : goal.returns-in_err-front-clause-answers
returns-in_err-front-clause-answers g c =
    let p = err_from_is_err_and c.from_residual-in_err-front.result c.from_residual-in_err-front.ensures.1 in
    make_nameless g.T.HasElements.elements g.T.HasElements.mark g.T.HasRoom.extents g.T.HasRoom.room g.T.HasRoom.free
    (g.H.NameHash.hash_of c.args.hash.now) c.args.id.0 c.course_before-course.result c.course_before-course.ensures.last c.requires.id.1 c.args.new
    c.args.word.now c.args.store.now
    c.parts.result.now (subst (IsPath c.args.word.now) (sym c.parts.ensures) c.in_ok-path.ensures.ok)
    c.from_residual-in_err-front.result c.in_err-front.field-0.0 (p.1 ∙ ap Err p.2) c.in_err-front.ensures.refused

pub returns-in_err-check_future-clause-answers : goal.returns-in_err-check_future-clause-answers
returns-in_err-check_future-clause-answers g c =
    let p = err_from_is_err_and c.from_residual-in_err-check_future.result c.from_residual-in_err-check_future.ensures.1 in
    make_future g.T.HasElements.elements g.T.HasElements.mark g.T.HasRoom.extents g.T.HasRoom.room g.T.HasRoom.free
    (g.H.NameHash.hash_of c.args.hash.now) c.args.id.0 c.course_before-course.result c.course_before-course.ensures.last c.requires.id.1 c.args.new
    c.args.word.now c.args.store.now
    c.parts.result.now (subst (IsPath c.args.word.now) (sym c.parts.ensures) c.in_ok-path.ensures.ok)
    c.in_ok-front.name.now c.in_ok-front.ensures.name
    c.from_residual-in_err-check_future.result c.in_err-check_future.field-0.0 (p.1 ∙ ap Err p.2)
    (subst (λ (l : List Part). Decides {T = Unit {0}} (no_future c.course_before-course.result.last.0 (Parts l)) (Err c.in_err-check_future.field-0.0))
    (c.parts-2.ensures ∙ sym c.parts.ensures) c.in_err-check_future.ensures)

pub returns-in_err-check_present-clause-answers : goal.returns-in_err-check_present-clause-answers
returns-in_err-check_present-clause-answers g c =
    let p = err_from_is_err_and c.from_residual-in_err-check_present.result c.from_residual-in_err-check_present.ensures.1 in
    make_present g.T.HasElements.elements g.T.HasElements.mark g.T.HasRoom.extents g.T.HasRoom.room g.T.HasRoom.free
    (g.H.NameHash.hash_of c.args.hash.now) c.args.id.0 c.course_before-course.result c.course_before-course.ensures.last c.requires.id.1 c.args.new
    c.args.word.now c.args.store.now
    c.parts.result.now (subst (IsPath c.args.word.now) (sym c.parts.ensures) c.in_ok-path.ensures.ok)
    c.in_ok-front.name.now c.in_ok-front.ensures.name
    (subst (λ (l : List Part). no_future c.course_before-course.result.last.0 (Parts l) ≡ None) (c.parts-2.ensures ∙ sym c.parts.ensures)
    c.in_ok-check_future.ensures)
    c.from_residual-in_err-check_present.result c.in_err-check_present.field-0.0 (p.1 ∙ ap Err p.2)
    (subst (λ (l : List Part). Decides {T = Unit {0}} (refuse_if (has_id (Parts l)) ReadOnly) (Err c.in_err-check_present.field-0.0))
    (c.parts-3.ensures ∙ sym c.parts.ensures) c.in_err-check_present.ensures)

pub returns-in_err-directory-clause-answers : goal.returns-in_err-directory-clause-answers
returns-in_err-directory-clause-answers g c =
    let p = err_from_is_err_and c.from_residual-in_err-directory.result c.from_residual-in_err-directory.ensures.1 in
    make_lost g.T.HasElements.elements g.T.HasElements.mark g.T.HasRoom.extents g.T.HasRoom.room g.T.HasRoom.free
    (g.H.NameHash.hash_of c.args.hash.now) c.args.id.0 c.course_before-course.result c.course_before-course.ensures.last c.requires.id.1 c.args.new
    c.args.word.now c.args.store.now
    c.parts.result.now (subst (IsPath c.args.word.now) (sym c.parts.ensures) c.in_ok-path.ensures.ok)
    c.in_ok-front.name.now c.in_ok-front.ensures.name
    (subst (λ (l : List Part). no_future c.course_before-course.result.last.0 (Parts l) ≡ None) (c.parts-2.ensures ∙ sym c.parts.ensures)
    c.in_ok-check_future.ensures)
    (subst (λ (l : List Part). refuse_if (has_id (Parts l)) ReadOnly ≡ None) (c.parts-3.ensures ∙ sym c.parts.ensures) c.in_ok-check_present.ensures)
    c.in_ok-front.front.now c.in_ok-front.ensures.front c.reach_directory.new.store
    c.from_residual-in_err-directory.result c.in_err-directory.field-0.0 (p.1 ∙ ap Err p.2) c.in_err-directory.ensures.ok c.in_err-directory.ensures.keeps

pub returns-in_err-check_master-clause-answers : goal.returns-in_err-check_master-clause-answers
returns-in_err-check_master-clause-answers g c =
    let p = err_from_is_err_and c.from_residual-in_err-check_master.result c.from_residual-in_err-check_master.ensures.1 in
    make_slave g.T.HasElements.elements g.T.HasElements.mark g.T.HasRoom.extents g.T.HasRoom.room g.T.HasRoom.free
    (g.H.NameHash.hash_of c.args.hash.now) c.args.id.0 c.course_before-course.result c.course_before-course.ensures.last c.requires.id.1 c.args.new
    c.args.word.now c.args.store.now
    c.parts.result.now (subst (IsPath c.args.word.now) (sym c.parts.ensures) c.in_ok-path.ensures.ok)
    c.in_ok-front.name.now c.in_ok-front.ensures.name
    (subst (λ (l : List Part). no_future c.course_before-course.result.last.0 (Parts l) ≡ None) (c.parts-2.ensures ∙ sym c.parts.ensures)
    c.in_ok-check_future.ensures)
    (subst (λ (l : List Part). refuse_if (has_id (Parts l)) ReadOnly ≡ None) (c.parts-3.ensures ∙ sym c.parts.ensures) c.in_ok-check_present.ensures)
    c.in_ok-directory.directory
    (made_place g.T.HasElements.elements g.T.HasElements.mark g.T.HasRoom.extents g.T.HasRoom.room g.T.HasRoom.free
    (g.H.NameHash.hash_of c.args.hash.now) c.args.id.0 c.course_before-course.result c.course_before-course.ensures.last c.requires.id.1 c.args.new
    c.args.word.now c.args.store.now
    c.parts.result.now (subst (IsPath c.args.word.now) (sym c.parts.ensures) c.in_ok-path.ensures.ok)
    c.in_ok-front.name.now c.in_ok-front.ensures.name
    (subst (λ (l : List Part). no_future c.course_before-course.result.last.0 (Parts l) ≡ None) (c.parts-2.ensures ∙ sym c.parts.ensures)
    c.in_ok-check_future.ensures)
    (subst (λ (l : List Part). refuse_if (has_id (Parts l)) ReadOnly ≡ None) (c.parts-3.ensures ∙ sym c.parts.ensures) c.in_ok-check_present.ensures)
    c.in_ok-front.front.now c.in_ok-front.ensures.front c.in_ok-directory.directory c.in_ok-directory.ensures.ok)
    c.reach_directory.new.store c.check_master.new.store c.from_residual-in_err-check_master.result c.in_err-check_master.field-0.0 (p.1 ∙ ap Err p.2)
    c.in_ok-directory.ensures.keeps.elements c.in_ok-directory.ensures.keeps.extents c.in_err-check_master.ensures.ok
    (same_twice c.in_ok-directory.ensures.keeps c.in_err-check_master.ensures.keeps)

pub returns-in_err-check_new-clause-answers : goal.returns-in_err-check_new-clause-answers
returns-in_err-check_new-clause-answers g c =
    let p = err_from_is_err_and c.from_residual-in_err-check_new.result c.from_residual-in_err-check_new.ensures.1 in
    let same = (same_twice c.in_ok-directory.ensures.keeps c.in_ok-check_master.ensures.keeps) in
    make_exists g.T.HasElements.elements g.T.HasElements.mark g.T.HasRoom.extents g.T.HasRoom.room g.T.HasRoom.free
    (g.H.NameHash.hash_of c.args.hash.now) c.args.id.0 c.course_before-course.result c.course_before-course.ensures.last c.requires.id.1 c.args.new
    c.args.word.now c.args.store.now
    c.parts.result.now (subst (IsPath c.args.word.now) (sym c.parts.ensures) c.in_ok-path.ensures.ok)
    c.in_ok-front.name.now c.in_ok-front.ensures.name
    (subst (λ (l : List Part). no_future c.course_before-course.result.last.0 (Parts l) ≡ None) (c.parts-2.ensures ∙ sym c.parts.ensures)
    c.in_ok-check_future.ensures)
    (subst (λ (l : List Part). refuse_if (has_id (Parts l)) ReadOnly ≡ None) (c.parts-3.ensures ∙ sym c.parts.ensures) c.in_ok-check_present.ensures)
    c.read_last-directory.result
    (made_kept g.T.HasElements.elements g.T.HasElements.mark g.T.HasRoom.extents g.T.HasRoom.room g.T.HasRoom.free
    (g.H.NameHash.hash_of c.args.hash.now) c.args.id.0 c.course_before-course.result c.course_before-course.ensures.last c.requires.id.1 c.args.new
    c.args.word.now c.args.store.now
    c.parts.result.now (subst (IsPath c.args.word.now) (sym c.parts.ensures) c.in_ok-path.ensures.ok)
    c.in_ok-front.name.now c.in_ok-front.ensures.name
    (subst (λ (l : List Part). no_future c.course_before-course.result.last.0 (Parts l) ≡ None) (c.parts-2.ensures ∙ sym c.parts.ensures)
    c.in_ok-check_future.ensures)
    (subst (λ (l : List Part). refuse_if (has_id (Parts l)) ReadOnly ≡ None) (c.parts-3.ensures ∙ sym c.parts.ensures) c.in_ok-check_present.ensures)
    c.in_ok-directory.directory c.read_last-directory.result c.read_last-directory.ensures
    (made_place g.T.HasElements.elements g.T.HasElements.mark g.T.HasRoom.extents g.T.HasRoom.room g.T.HasRoom.free
    (g.H.NameHash.hash_of c.args.hash.now) c.args.id.0 c.course_before-course.result c.course_before-course.ensures.last c.requires.id.1 c.args.new
    c.args.word.now c.args.store.now
    c.parts.result.now (subst (IsPath c.args.word.now) (sym c.parts.ensures) c.in_ok-path.ensures.ok)
    c.in_ok-front.name.now c.in_ok-front.ensures.name
    (subst (λ (l : List Part). no_future c.course_before-course.result.last.0 (Parts l) ≡ None) (c.parts-2.ensures ∙ sym c.parts.ensures)
    c.in_ok-check_future.ensures)
    (subst (λ (l : List Part). refuse_if (has_id (Parts l)) ReadOnly ≡ None) (c.parts-3.ensures ∙ sym c.parts.ensures) c.in_ok-check_present.ensures)
    c.in_ok-front.front.now c.in_ok-front.ensures.front c.in_ok-directory.directory c.in_ok-directory.ensures.ok)
    c.reach_directory.new.store c.in_ok-directory.ensures.keeps.elements c.in_ok-directory.ensures.keeps.extents c.in_ok-check_master.ensures.ok)
    c.check_master.new.store c.check_new.new.store c.from_residual-in_err-check_new.result c.in_err-check_new.field-0.0 (p.1 ∙ ap Err p.2)
    same.elements same.extents
    (as_named (g.H.NameHash.hash_of c.args.hash.now) (g.T.HasElements.elements c.check_master.new.store) (g.T.HasRoom.extents c.check_master.new.store)
    c.read_last-directory.result c.bytes.result.now c.in_ok-front.name.now (λ check. Answers {T = Unit {0}} check (Err c.in_err-check_new.field-0.0))
    c.bytes.ensures c.in_err-check_new.ensures.ok)
    (same_twice same c.in_err-check_new.ensures.keeps)

pub returns-in_err-spot-clause-answers : goal.returns-in_err-spot-clause-answers
returns-in_err-spot-clause-answers g c =
    let p = err_from_is_err_and c.from_residual-in_err-spot.result c.from_residual-in_err-spot.ensures.1 in
    let same = (same_twice c.in_ok-directory.ensures.keeps c.in_ok-check_master.ensures.keeps) in
    let then = (same_twice (same_twice c.in_ok-directory.ensures.keeps c.in_ok-check_master.ensures.keeps) c.in_ok-check_new.ensures.keeps) in
    make_full g.T.HasElements.elements g.T.HasElements.mark g.T.HasRoom.extents g.T.HasRoom.room g.T.HasRoom.free
    (g.H.NameHash.hash_of c.args.hash.now) c.args.id.0 c.course_before-course.result c.course_before-course.ensures.last c.requires.id.1 c.args.new
    c.args.word.now c.args.store.now
    c.parts.result.now (subst (IsPath c.args.word.now) (sym c.parts.ensures) c.in_ok-path.ensures.ok)
    c.in_ok-front.name.now c.in_ok-front.ensures.name
    (subst (λ (l : List Part). no_future c.course_before-course.result.last.0 (Parts l) ≡ None) (c.parts-2.ensures ∙ sym c.parts.ensures)
    c.in_ok-check_future.ensures)
    (subst (λ (l : List Part). refuse_if (has_id (Parts l)) ReadOnly ≡ None) (c.parts-3.ensures ∙ sym c.parts.ensures) c.in_ok-check_present.ensures)
    c.read_last-directory.result
    (made_kept g.T.HasElements.elements g.T.HasElements.mark g.T.HasRoom.extents g.T.HasRoom.room g.T.HasRoom.free
    (g.H.NameHash.hash_of c.args.hash.now) c.args.id.0 c.course_before-course.result c.course_before-course.ensures.last c.requires.id.1 c.args.new
    c.args.word.now c.args.store.now
    c.parts.result.now (subst (IsPath c.args.word.now) (sym c.parts.ensures) c.in_ok-path.ensures.ok)
    c.in_ok-front.name.now c.in_ok-front.ensures.name
    (subst (λ (l : List Part). no_future c.course_before-course.result.last.0 (Parts l) ≡ None) (c.parts-2.ensures ∙ sym c.parts.ensures)
    c.in_ok-check_future.ensures)
    (subst (λ (l : List Part). refuse_if (has_id (Parts l)) ReadOnly ≡ None) (c.parts-3.ensures ∙ sym c.parts.ensures) c.in_ok-check_present.ensures)
    c.in_ok-directory.directory c.read_last-directory.result c.read_last-directory.ensures
    (made_place g.T.HasElements.elements g.T.HasElements.mark g.T.HasRoom.extents g.T.HasRoom.room g.T.HasRoom.free
    (g.H.NameHash.hash_of c.args.hash.now) c.args.id.0 c.course_before-course.result c.course_before-course.ensures.last c.requires.id.1 c.args.new
    c.args.word.now c.args.store.now
    c.parts.result.now (subst (IsPath c.args.word.now) (sym c.parts.ensures) c.in_ok-path.ensures.ok)
    c.in_ok-front.name.now c.in_ok-front.ensures.name
    (subst (λ (l : List Part). no_future c.course_before-course.result.last.0 (Parts l) ≡ None) (c.parts-2.ensures ∙ sym c.parts.ensures)
    c.in_ok-check_future.ensures)
    (subst (λ (l : List Part). refuse_if (has_id (Parts l)) ReadOnly ≡ None) (c.parts-3.ensures ∙ sym c.parts.ensures) c.in_ok-check_present.ensures)
    c.in_ok-front.front.now c.in_ok-front.ensures.front c.in_ok-directory.directory c.in_ok-directory.ensures.ok)
    c.reach_directory.new.store c.in_ok-directory.ensures.keeps.elements c.in_ok-directory.ensures.keeps.extents c.in_ok-check_master.ensures.ok)
    c.check_master.new.store same.elements same.extents
    (as_named (g.H.NameHash.hash_of c.args.hash.now) (g.T.HasElements.elements c.check_master.new.store) (g.T.HasRoom.extents c.check_master.new.store)
    c.read_last-directory.result c.bytes.result.now c.in_ok-front.name.now (λ check. check ≡ None) c.bytes.ensures c.in_ok-check_new.ensures.ok)
    c.check_new.new.store c.spot_in.new.store c.from_residual-in_err-spot.result c.in_err-spot.field-0.0 (p.1 ∙ ap Err p.2)
    then.elements then.extents c.in_err-spot.ensures.ok
    (same_twice then c.in_err-spot.ensures.keeps)

pub returns-in_err-admit_names-clause-answers : goal.returns-in_err-admit_names-clause-answers
returns-in_err-admit_names-clause-answers g c =
    let p = err_from_is_err_and c.from_residual-in_err-admit_names.result c.from_residual-in_err-admit_names.ensures.1 in
    let same = (same_twice c.in_ok-directory.ensures.keeps c.in_ok-check_master.ensures.keeps) in
    let then = (same_twice (same_twice c.in_ok-directory.ensures.keeps c.in_ok-check_master.ensures.keeps) c.in_ok-check_new.ensures.keeps) in
    let last = (same_twice (same_twice (same_twice (same_twice c.in_ok-directory.ensures.keeps c.in_ok-check_master.ensures.keeps)
    c.in_ok-check_new.ensures.keeps) c.in_ok-spot.ensures.keeps) c.in_ok-find_inode.ensures.keeps) in
    make_crowded g.T.HasElements.elements g.T.HasElements.mark g.T.HasRoom.extents g.T.HasRoom.room g.T.HasRoom.free
    (g.H.NameHash.hash_of c.args.hash.now) c.args.id.0 c.course_before-course.result c.course_before-course.ensures.last c.requires.id.1 c.args.new
    c.args.word.now c.args.store.now
    c.parts.result.now (subst (IsPath c.args.word.now) (sym c.parts.ensures) c.in_ok-path.ensures.ok)
    c.in_ok-front.name.now c.in_ok-front.ensures.name
    (subst (λ (l : List Part). no_future c.course_before-course.result.last.0 (Parts l) ≡ None) (c.parts-2.ensures ∙ sym c.parts.ensures)
    c.in_ok-check_future.ensures)
    (subst (λ (l : List Part). refuse_if (has_id (Parts l)) ReadOnly ≡ None) (c.parts-3.ensures ∙ sym c.parts.ensures) c.in_ok-check_present.ensures)
    c.read_last-directory.result
    (made_kept g.T.HasElements.elements g.T.HasElements.mark g.T.HasRoom.extents g.T.HasRoom.room g.T.HasRoom.free
    (g.H.NameHash.hash_of c.args.hash.now) c.args.id.0 c.course_before-course.result c.course_before-course.ensures.last c.requires.id.1 c.args.new
    c.args.word.now c.args.store.now
    c.parts.result.now (subst (IsPath c.args.word.now) (sym c.parts.ensures) c.in_ok-path.ensures.ok)
    c.in_ok-front.name.now c.in_ok-front.ensures.name
    (subst (λ (l : List Part). no_future c.course_before-course.result.last.0 (Parts l) ≡ None) (c.parts-2.ensures ∙ sym c.parts.ensures)
    c.in_ok-check_future.ensures)
    (subst (λ (l : List Part). refuse_if (has_id (Parts l)) ReadOnly ≡ None) (c.parts-3.ensures ∙ sym c.parts.ensures) c.in_ok-check_present.ensures)
    c.in_ok-directory.directory c.read_last-directory.result c.read_last-directory.ensures
    (made_place g.T.HasElements.elements g.T.HasElements.mark g.T.HasRoom.extents g.T.HasRoom.room g.T.HasRoom.free
    (g.H.NameHash.hash_of c.args.hash.now) c.args.id.0 c.course_before-course.result c.course_before-course.ensures.last c.requires.id.1 c.args.new
    c.args.word.now c.args.store.now
    c.parts.result.now (subst (IsPath c.args.word.now) (sym c.parts.ensures) c.in_ok-path.ensures.ok)
    c.in_ok-front.name.now c.in_ok-front.ensures.name
    (subst (λ (l : List Part). no_future c.course_before-course.result.last.0 (Parts l) ≡ None) (c.parts-2.ensures ∙ sym c.parts.ensures)
    c.in_ok-check_future.ensures)
    (subst (λ (l : List Part). refuse_if (has_id (Parts l)) ReadOnly ≡ None) (c.parts-3.ensures ∙ sym c.parts.ensures) c.in_ok-check_present.ensures)
    c.in_ok-front.front.now c.in_ok-front.ensures.front c.in_ok-directory.directory c.in_ok-directory.ensures.ok)
    c.reach_directory.new.store c.in_ok-directory.ensures.keeps.elements c.in_ok-directory.ensures.keeps.extents c.in_ok-check_master.ensures.ok)
    c.check_master.new.store same.elements same.extents
    (as_named (g.H.NameHash.hash_of c.args.hash.now) (g.T.HasElements.elements c.check_master.new.store) (g.T.HasRoom.extents c.check_master.new.store)
    c.read_last-directory.result c.bytes.result.now c.in_ok-front.name.now (λ check. check ≡ None) c.bytes.ensures c.in_ok-check_new.ensures.ok)
    c.check_new.new.store then.elements then.extents c.in_ok-spot.ensures.ok
    c.find_inode.new.store c.admit_names.new.store c.from_residual-in_err-admit_names.result c.in_err-admit_names.field-0.0 (p.1 ∙ ap Err p.2)
    last.room last.free c.in_err-admit_names.ensures.check
    (same_after c.admit_names.new.store c.in_err-admit_names.field-0.0 last c.in_err-admit_names.ensures.refused)

pub returns-clause-answers : goal.returns-clause-answers
returns-clause-answers g c =
    let same = (same_twice c.in_ok-directory.ensures.keeps c.in_ok-check_master.ensures.keeps) in
    let then = (same_twice (same_twice c.in_ok-directory.ensures.keeps c.in_ok-check_master.ensures.keeps) c.in_ok-check_new.ensures.keeps) in
    let after = (same_twice (same_twice (same_twice c.in_ok-directory.ensures.keeps c.in_ok-check_master.ensures.keeps) c.in_ok-check_new.ensures.keeps)
    c.in_ok-spot.ensures.keeps) in
    let last = (same_twice (same_twice (same_twice (same_twice c.in_ok-directory.ensures.keeps c.in_ok-check_master.ensures.keeps)
    c.in_ok-check_new.ensures.keeps) c.in_ok-spot.ensures.keeps) c.in_ok-find_inode.ensures.keeps) in (
      make_accepted g.T.HasElements.elements g.T.HasElements.mark g.T.HasRoom.extents g.T.HasRoom.room g.T.HasRoom.free
          (g.H.NameHash.hash_of c.args.hash.now) c.args.id.0 c.course_before-course.result c.course_before-course.ensures.last c.requires.id.1 c.args.new
          c.args.word.now c.args.store.now
          c.parts.result.now (subst (IsPath c.args.word.now) (sym c.parts.ensures) c.in_ok-path.ensures.ok)
          c.in_ok-front.name.now c.in_ok-front.ensures.name
          (subst (λ (l : List Part). no_future c.course_before-course.result.last.0 (Parts l) ≡ None) (c.parts-2.ensures ∙ sym c.parts.ensures)
          c.in_ok-check_future.ensures)
          (subst (λ (l : List Part). refuse_if (has_id (Parts l)) ReadOnly ≡ None) (c.parts-3.ensures ∙ sym c.parts.ensures) c.in_ok-check_present.ensures)
          c.read_last-directory.result
          (made_kept g.T.HasElements.elements g.T.HasElements.mark g.T.HasRoom.extents g.T.HasRoom.room g.T.HasRoom.free
          (g.H.NameHash.hash_of c.args.hash.now) c.args.id.0 c.course_before-course.result c.course_before-course.ensures.last c.requires.id.1 c.args.new
          c.args.word.now c.args.store.now
          c.parts.result.now (subst (IsPath c.args.word.now) (sym c.parts.ensures) c.in_ok-path.ensures.ok)
          c.in_ok-front.name.now c.in_ok-front.ensures.name
          (subst (λ (l : List Part). no_future c.course_before-course.result.last.0 (Parts l) ≡ None) (c.parts-2.ensures ∙ sym c.parts.ensures)
          c.in_ok-check_future.ensures)
          (subst (λ (l : List Part). refuse_if (has_id (Parts l)) ReadOnly ≡ None) (c.parts-3.ensures ∙ sym c.parts.ensures) c.in_ok-check_present.ensures)
          c.in_ok-directory.directory c.read_last-directory.result c.read_last-directory.ensures
          (made_place g.T.HasElements.elements g.T.HasElements.mark g.T.HasRoom.extents g.T.HasRoom.room g.T.HasRoom.free
          (g.H.NameHash.hash_of c.args.hash.now) c.args.id.0 c.course_before-course.result c.course_before-course.ensures.last c.requires.id.1 c.args.new
          c.args.word.now c.args.store.now
          c.parts.result.now (subst (IsPath c.args.word.now) (sym c.parts.ensures) c.in_ok-path.ensures.ok)
          c.in_ok-front.name.now c.in_ok-front.ensures.name
          (subst (λ (l : List Part). no_future c.course_before-course.result.last.0 (Parts l) ≡ None) (c.parts-2.ensures ∙ sym c.parts.ensures)
          c.in_ok-check_future.ensures)
          (subst (λ (l : List Part). refuse_if (has_id (Parts l)) ReadOnly ≡ None) (c.parts-3.ensures ∙ sym c.parts.ensures) c.in_ok-check_present.ensures)
          c.in_ok-front.front.now c.in_ok-front.ensures.front c.in_ok-directory.directory c.in_ok-directory.ensures.ok)
          c.reach_directory.new.store c.in_ok-directory.ensures.keeps.elements c.in_ok-directory.ensures.keeps.extents c.in_ok-check_master.ensures.ok)
          c.check_master.new.store same.elements same.extents
          (as_named (g.H.NameHash.hash_of c.args.hash.now) (g.T.HasElements.elements c.check_master.new.store) (g.T.HasRoom.extents c.check_master.new.store)
          c.read_last-directory.result c.bytes.result.now c.in_ok-front.name.now (λ check. check ≡ None) c.bytes.ensures c.in_ok-check_new.ensures.ok)
          c.check_new.new.store then.elements then.extents c.in_ok-spot.ensures.ok
          c.find_inode.new.store last.room last.free c.in_ok-admit_names.ensures.check,
      make_writes g.T.HasElements.elements g.T.HasElements.mark g.T.HasRoom.extents g.T.HasRoom.room g.T.HasRoom.free
          (g.H.NameHash.hash_of c.args.hash.now) c.args.id.0 c.course_before-course.result c.course_before-course.ensures.last c.requires.id.1 c.args.new
          c.args.word.now c.args.store.now
          c.parts.result.now (subst (IsPath c.args.word.now) (sym c.parts.ensures) c.in_ok-path.ensures.ok)
          c.in_ok-front.name.now c.in_ok-front.ensures.name
          (subst (λ (l : List Part). no_future c.course_before-course.result.last.0 (Parts l) ≡ None) (c.parts-2.ensures ∙ sym c.parts.ensures)
          c.in_ok-check_future.ensures)
          (subst (λ (l : List Part). refuse_if (has_id (Parts l)) ReadOnly ≡ None) (c.parts-3.ensures ∙ sym c.parts.ensures) c.in_ok-check_present.ensures)
          c.read_last-directory.result
          (made_kept g.T.HasElements.elements g.T.HasElements.mark g.T.HasRoom.extents g.T.HasRoom.room g.T.HasRoom.free
          (g.H.NameHash.hash_of c.args.hash.now) c.args.id.0 c.course_before-course.result c.course_before-course.ensures.last c.requires.id.1 c.args.new
          c.args.word.now c.args.store.now
          c.parts.result.now (subst (IsPath c.args.word.now) (sym c.parts.ensures) c.in_ok-path.ensures.ok)
          c.in_ok-front.name.now c.in_ok-front.ensures.name
          (subst (λ (l : List Part). no_future c.course_before-course.result.last.0 (Parts l) ≡ None) (c.parts-2.ensures ∙ sym c.parts.ensures)
          c.in_ok-check_future.ensures)
          (subst (λ (l : List Part). refuse_if (has_id (Parts l)) ReadOnly ≡ None) (c.parts-3.ensures ∙ sym c.parts.ensures) c.in_ok-check_present.ensures)
          c.in_ok-directory.directory c.read_last-directory.result c.read_last-directory.ensures
          (made_place g.T.HasElements.elements g.T.HasElements.mark g.T.HasRoom.extents g.T.HasRoom.room g.T.HasRoom.free
          (g.H.NameHash.hash_of c.args.hash.now) c.args.id.0 c.course_before-course.result c.course_before-course.ensures.last c.requires.id.1 c.args.new
          c.args.word.now c.args.store.now
          c.parts.result.now (subst (IsPath c.args.word.now) (sym c.parts.ensures) c.in_ok-path.ensures.ok)
          c.in_ok-front.name.now c.in_ok-front.ensures.name
          (subst (λ (l : List Part). no_future c.course_before-course.result.last.0 (Parts l) ≡ None) (c.parts-2.ensures ∙ sym c.parts.ensures)
          c.in_ok-check_future.ensures)
          (subst (λ (l : List Part). refuse_if (has_id (Parts l)) ReadOnly ≡ None) (c.parts-3.ensures ∙ sym c.parts.ensures) c.in_ok-check_present.ensures)
          c.in_ok-front.front.now c.in_ok-front.ensures.front c.in_ok-directory.directory c.in_ok-directory.ensures.ok)
          c.reach_directory.new.store c.in_ok-directory.ensures.keeps.elements c.in_ok-directory.ensures.keeps.extents c.in_ok-check_master.ensures.ok)
          c.check_master.new.store same.elements same.extents
          (as_named (g.H.NameHash.hash_of c.args.hash.now) (g.T.HasElements.elements c.check_master.new.store) (g.T.HasRoom.extents c.check_master.new.store)
          c.read_last-directory.result c.bytes.result.now c.in_ok-front.name.now (λ check. check ≡ None) c.bytes.ensures c.in_ok-check_new.ensures.ok)
          (ap (λ (s : Stand). s.as_of) c.read_last-directory.ensures) (g.met.T.ElementStore.sorted c.args.store.now)
          (known_back c.read_last-directory.result.at.pfs.0 c.args.id.0 c.in_ok-directory.directory c.read_last-directory.result
          c.course_before-course.result c.in_ok-directory.ensures.keeps.elements c.in_ok-directory.ensures.keeps.extents c.read_last-directory.ensures refl
          (c.in_ok-check_master.ensures.below c.args.id.0) c.requires.known)
          c.in_ok-spot.spot c.check_new.new.store then.elements then.extents c.in_ok-spot.ensures.spot
          c.in_ok-find_inode.field-0 c.spot_in.new.store after.elements after.extents c.in_ok-find_inode.ensures.ok
          c.admit_names.new.store c.put_object.new.store (c.in_ok-admit_names.ensures.content.elements ∙ last.elements)
          (c.in_ok-admit_names.ensures.content.extents ∙ last.extents) (c.in_ok-put_object.ensures.ok (g.H.NameHash.hash_of c.args.hash.now)),
    )

pub returns-clause-known : goal.returns-clause-known
returns-clause-known g c =
    let last = (same_twice (same_twice (same_twice (same_twice c.in_ok-directory.ensures.keeps c.in_ok-check_master.ensures.keeps)
    c.in_ok-check_new.ensures.keeps) c.in_ok-spot.ensures.keeps) c.in_ok-find_inode.ensures.keeps) in
    let pfs = c.read_last-directory.result.at.pfs.0 in
    let hash = g.H.NameHash.hash_of c.args.hash.now in
    known_then g.T.HasElements.elements g.T.HasRoom.extents
    (PutsObject hash (place_in c.read_last-directory.result c.in_ok-front.name.now) c.in_ok-spot.spot c.args.id.0 (object_by c.args.new c.args.id.0)) pfs
    c.args.id.0 (IsNewIn pfs c.args.id.0) c.args.store.now c.admit_names.new.store c.put_object.new.store (λ a b puts. puts.steps.writes)
    (c.in_ok-admit_names.ensures.content.elements ∙ last.elements) (c.in_ok-admit_names.ensures.content.extents ∙ last.extents)
    c.in_ok-put_object.ensures.keeps.elements c.in_ok-put_object.ensures.keeps.extents c.requires.balanced c.requires.known
    (c.in_ok-put_object.ensures.ok hash)

pub returns-clause-room : goal.returns-clause-room
returns-clause-room g c =
    let last = (same_twice (same_twice (same_twice (same_twice c.in_ok-directory.ensures.keeps c.in_ok-check_master.ensures.keeps)
    c.in_ok-check_new.ensures.keeps) c.in_ok-spot.ensures.keeps) c.in_ok-find_inode.ensures.keeps) in
    let stays = both_stay c.in_ok-put_object.ensures.borrowed (both_stay (c.in_ok-admit_names.ensures.room.1, c.in_ok-admit_names.ensures.room.2)
    (both_stay c.in_ok-find_inode.ensures.borrowed (both_stay c.in_ok-spot.ensures.borrowed (both_stay c.in_ok-check_new.ensures.borrowed (both_stay
    c.in_ok-check_master.ensures.borrowed c.in_ok-directory.ensures.borrowed))))) in (
      takes_charged g.T.HasRoom.room g.T.HasRoom.free reserves c.args.store.now c.put_object.new.store _
          (took_admitted g.T.HasRoom.room g.T.HasRoom.free reserves c.args.store.now c.find_inode.new.store c.admit_names.new.store c.put_object.new.store
          last.room last.free c.in_ok-admit_names.ensures.room.0.charges c.in_ok-put_object.ensures.space),
      stays.0,
      stays.1,
    )

-- ---- the replies that it may give

pub returns-in_err-path-clause-gives : goal.returns-in_err-path-clause-gives
returns-in_err-path-clause-gives g c =
    let p = err_from_is_err_and c.from_residual.result c.from_residual.ensures.1 in
    word_gives c.args.id.0 (command_by c.args.new c.args.word.now) MakesName c.args.word.now (asks_make c.args.new c.args.word.now)
    c.from_residual.result c.in_err-path.field-0.0 (p.1 ∙ ap Err p.2) c.in_err-path.ensures.refused

pub returns-in_err-front-clause-gives : goal.returns-in_err-front-clause-gives
returns-in_err-front-clause-gives g c =
    let p = err_from_is_err_and c.from_residual-in_err-front.result c.from_residual-in_err-front.ensures.1 in
    name_gives c.args.id.0 (command_by c.args.new c.args.word.now) MakesName c.args.word.now (asks_make c.args.new c.args.word.now)
    c.course_before-course.result c.course_before-course.ensures.last c.parts.result.now (subst (IsPath c.args.word.now) (sym c.parts.ensures)
    c.in_ok-path.ensures.ok) c.from_residual-in_err-front.result c.in_err-front.field-0.0 (p.1 ∙ ap Err p.2) (nameless_new c.parts.result.now
    c.in_err-front.field-0.0 c.in_err-front.ensures.refused)

pub returns-in_err-check_future-clause-gives : goal.returns-in_err-check_future-clause-gives
returns-in_err-check_future-clause-gives g c =
    let p = err_from_is_err_and c.from_residual-in_err-check_future.result c.from_residual-in_err-check_future.ensures.1 in
    future_gives c.args.id.0 (command_by c.args.new c.args.word.now) MakesName c.args.word.now (asks_make c.args.new c.args.word.now)
    c.course_before-course.result c.course_before-course.ensures.last c.parts-2.result.now (subst (IsPath c.args.word.now) (sym c.parts-2.ensures)
    c.in_ok-path.ensures.ok) (good_new c.parts-2.result.now c.in_ok-front.name.now (rw (c.parts.ensures ∙ sym c.parts-2.ensures) at
    c.in_ok-front.ensures.name)) c.from_residual-in_err-check_future.result c.in_err-check_future.field-0.0 (p.1 ∙ ap Err p.2) (decided (Unit {0})
    (no_future c.course_before-course.result.last.0 (Parts c.parts-2.result.now)) c.in_err-check_future.field-0.0 c.in_err-check_future.ensures)

pub returns-in_err-check_present-clause-gives : goal.returns-in_err-check_present-clause-gives
returns-in_err-check_present-clause-gives g c =
    let p = err_from_is_err_and c.from_residual-in_err-check_present.result c.from_residual-in_err-check_present.ensures.1 in
    past_gives c.args.id.0 (command_by c.args.new c.args.word.now) MakesName c.args.word.now (asks_make c.args.new c.args.word.now)
    c.course_before-course.result c.course_before-course.ensures.last c.parts-3.result.now (subst (IsPath c.args.word.now) (sym c.parts-3.ensures)
    c.in_ok-path.ensures.ok) (good_new c.parts-3.result.now c.in_ok-front.name.now (rw (c.parts.ensures ∙ sym c.parts-3.ensures) at
    c.in_ok-front.ensures.name)) (rw (c.parts-2.ensures ∙ sym c.parts-3.ensures) at c.in_ok-check_future.ensures)
    c.from_residual-in_err-check_present.result c.in_err-check_present.field-0.0 (p.1 ∙ ap Err p.2) (past_stopped (command_by c.args.new
    c.args.word.now) c.parts-3.result.now (makes_change c.args.new c.args.word.now) c.in_err-check_present.field-0.0 c.in_err-check_present.ensures)

pub returns-in_err-directory-clause-gives : goal.returns-in_err-directory-clause-gives
returns-in_err-directory-clause-gives g c =
    let p = err_from_is_err_and c.from_residual-in_err-directory.result c.from_residual-in_err-directory.ensures.1 in
    lost_gives c.args.id.0 (command_by c.args.new c.args.word.now) MakesName c.args.word.now (asks_make c.args.new c.args.word.now)
    c.course_before-course.result c.course_before-course.ensures.last c.in_ok-path.path c.in_ok-path.ensures.ok (early_made c.args.new
    c.args.word.now c.course_before-course.result.last.0 c.in_ok-path.path c.in_ok-front.name.now (rw c.parts.ensures at c.in_ok-front.ensures.name)
    (rw c.parts-2.ensures at c.in_ok-check_future.ensures) (rw c.parts-3.ensures at c.in_ok-check_present.ensures)) (has_id (Parts
    c.in_ok-front.front.now)) (made_has c.args.new c.args.word.now (Parts c.in_ok-path.path ∷ []) 2 (5, omega arith, refl)) (made_has c.args.new
    c.args.word.now (Parts c.in_ok-path.path ∷ []) 3 (6, omega arith, refl)) (λ some. absurd (false≢true (sym (front_none c.parts-3.result.now
    c.in_ok-front.front.now (c.in_ok-front.ensures.front ∙ ap front_of (c.parts.ensures ∙ sym c.parts-3.ensures)) c.in_ok-check_present.ensures) ∙
    some))) c.from_residual-in_err-directory.result c.in_err-directory.field-0.0 (p.1 ∙ ap Err p.2) c.in_err-directory.ensures.gives

pub returns-in_err-check_master-clause-gives : goal.returns-in_err-check_master-clause-gives
returns-in_err-check_master-clause-gives g c =
    let p = err_from_is_err_and c.from_residual-in_err-check_master.result c.from_residual-in_err-check_master.ensures.1 in
    one_gives c.args.id.0 (command_by c.args.new c.args.word.now) MakesName c.args.word.now (asks_make c.args.new c.args.word.now)
    c.course_before-course.result c.course_before-course.ensures.last c.in_ok-path.path c.in_ok-path.ensures.ok (early_made c.args.new
    c.args.word.now c.course_before-course.result.last.0 c.in_ok-path.path c.in_ok-front.name.now (rw c.parts.ensures at c.in_ok-front.ensures.name)
    (rw c.parts-2.ensures at c.in_ok-check_future.ensures) (rw c.parts-3.ensures at c.in_ok-check_present.ensures)) ReadOnly tt (made_has c.args.new
    c.args.word.now (Parts c.in_ok-path.path ∷ []) 7 (4, omega arith, refl)) c.from_residual-in_err-check_master.result
    c.in_err-check_master.field-0.0 (p.1 ∙ ap Err p.2) c.in_err-check_master.ensures.gives

pub returns-in_err-check_new-clause-gives : goal.returns-in_err-check_new-clause-gives
returns-in_err-check_new-clause-gives g c =
    let p = err_from_is_err_and c.from_residual-in_err-check_new.result c.from_residual-in_err-check_new.ensures.1 in
    one_gives c.args.id.0 (command_by c.args.new c.args.word.now) MakesName c.args.word.now (asks_make c.args.new c.args.word.now)
    c.course_before-course.result c.course_before-course.ensures.last c.in_ok-path.path c.in_ok-path.ensures.ok (early_made c.args.new
    c.args.word.now c.course_before-course.result.last.0 c.in_ok-path.path c.in_ok-front.name.now (rw c.parts.ensures at c.in_ok-front.ensures.name)
    (rw c.parts-2.ensures at c.in_ok-check_future.ensures) (rw c.parts-3.ensures at c.in_ok-check_present.ensures)) Exists tt (made_has c.args.new
    c.args.word.now (Parts c.in_ok-path.path ∷ []) 1 (1, omega arith, refl)) c.from_residual-in_err-check_new.result c.in_err-check_new.field-0.0
    (p.1 ∙ ap Err p.2) c.in_err-check_new.ensures.gives

pub returns-in_err-spot-clause-gives : goal.returns-in_err-spot-clause-gives
returns-in_err-spot-clause-gives g c =
    let p = err_from_is_err_and c.from_residual-in_err-spot.result c.from_residual-in_err-spot.ensures.1 in
    one_gives c.args.id.0 (command_by c.args.new c.args.word.now) MakesName c.args.word.now (asks_make c.args.new c.args.word.now)
    c.course_before-course.result c.course_before-course.ensures.last c.in_ok-path.path c.in_ok-path.ensures.ok (early_made c.args.new
    c.args.word.now c.course_before-course.result.last.0 c.in_ok-path.path c.in_ok-front.name.now (rw c.parts.ensures at c.in_ok-front.ensures.name)
    (rw c.parts-2.ensures at c.in_ok-check_future.ensures) (rw c.parts-3.ensures at c.in_ok-check_present.ensures)) HashFull tt (made_has c.args.new
    c.args.word.now (Parts c.in_ok-path.path ∷ []) 13 (2, omega arith, refl)) c.from_residual-in_err-spot.result c.in_err-spot.field-0.0 (p.1 ∙ ap
    Err p.2) c.in_err-spot.ensures.gives

pub returns-in_err-admit_names-clause-gives : goal.returns-in_err-admit_names-clause-gives
returns-in_err-admit_names-clause-gives g c =
    let p = err_from_is_err_and c.from_residual-in_err-admit_names.result c.from_residual-in_err-admit_names.ensures.1 in
    space_gives c.args.id.0 (command_by c.args.new c.args.word.now) MakesName c.args.word.now (asks_make c.args.new c.args.word.now)
    c.course_before-course.result c.course_before-course.ensures.last c.in_ok-path.path c.in_ok-path.ensures.ok (early_made c.args.new
    c.args.word.now c.course_before-course.result.last.0 c.in_ok-path.path c.in_ok-front.name.now (rw c.parts.ensures at c.in_ok-front.ensures.name)
    (rw c.parts-2.ensures at c.in_ok-check_future.ensures) (rw c.parts-3.ensures at c.in_ok-check_present.ensures)) (made_has c.args.new
    c.args.word.now (Parts c.in_ok-path.path ∷ []) 20 (3, omega arith, refl)) c.from_residual-in_err-admit_names.result
    c.in_err-admit_names.field-0.0 (p.1 ∙ ap Err p.2) c.in_err-admit_names.ensures.gives

pub returns-clause-gives : goal.returns-clause-gives
returns-clause-gives g c =
    end_gives c.args.id.0 (command_by c.args.new c.args.word.now) MakesName c.args.word.now (asks_make c.args.new c.args.word.now)
    c.course_before-course.result c.course_before-course.ensures.last c.in_ok-path.path c.in_ok-path.ensures.ok (early_made c.args.new
    c.args.word.now c.course_before-course.result.last.0 c.in_ok-path.path c.in_ok-front.name.now (rw c.parts.ensures at c.in_ok-front.ensures.name)
    (rw c.parts-2.ensures at c.in_ok-check_future.ensures) (rw c.parts-3.ensures at c.in_ok-check_present.ensures)) Done tt (made_has c.args.new
    c.args.word.now (Parts c.in_ok-path.path ∷ []) 101 (0, omega arith, refl))
