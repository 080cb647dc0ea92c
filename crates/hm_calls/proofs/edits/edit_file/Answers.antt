use Rattle.std.proofs.Common.{◌≡◌, ◌∙◌, None, Err, ap, refl, subst, sym, Some, [], arith, ◌∷◌}
use Rattle.std.proofs.lemmas.Result.{err_from_is_err_and}
use Rattle.hm_path.specs.Path.{IsPath}
use Rattle.hm_model.specs.Due.{fits_file, is_dir_or_link, is_softlink, no_future, has_id}
use Rattle.hm_model.specs.Sites.{Parts, Walks}
use Rattle.hm_model.specs.View.{object_at}
use Rattle.hm_model.specs.Walk.{Follows}
use Rattle.hm_model.specs.declared.reply.Reply.TheVariants.{IsDir, NotFile, Done, ReadOnly}
use Rattle.hm_dirs.proofs.WalkLoopLemmas.{same_twice}
use Rattle.hm_dirs.specs.Walk.{place_of}
use Rattle.hm_calls.specs.Due.{space_for}
use Rattle.hm_calls.specs.Edits.{ChangesFile, all_reserves, command_for, edited, end_of, zones_for}
use Rattle.hm_calls.specs.Known.{AreBelowIn, AreKnown}
use Rattle.hm_calls.specs.Places.{refuse_kind}
use Rattle.hm_calls.specs.Writes.{IsNewIn}
use Rattle.hm_calls.proofs.EditLemmas.{early_edit, edit_accepts, edit_dir_refuses, edit_end_refuses, edit_link_refuses, edit_master_refuses}
use Rattle.hm_calls.proofs.EditLemmas.{edit_space_refuses, edit_writes, editing, edits_tree, of_edit}
use Rattle.hm_calls.proofs.KnownLemmas.{known_then}
use Rattle.hm_calls.proofs.RefusalLemmas.{future_refuses, past_refuses, walk_refuses, word_refuses}
use Rattle.hm_calls.proofs.SceneLemmas.{IsStoppedBy, answered, decided, scenes_reached, scenes_unreached}
use Rattle.hm_calls.proofs.StageLemmas.{Wrote, acts_ended, drawn_now, master_passes, master_stopped, no_ids, of_refusal, past_stopped, refusal_so}
use Rattle.hm_calls.proofs.StageLemmas.{space_before, told_before, told_then, untouched}
use Rattle.hm_calls.proofs.TakeLemmas.{both_stay, takes_charged, took_admitted}
use Rattle.hm_calls.proofs.GivenLemmas.{behind_file, edit_has, edit_large, file_accepted, file_lacks, not_large}
use Rattle.hm_calls.proofs.MayReplyLemmas.{asks_edit, end_gives, future_gives, later_gives, lost_gives, one_gives, past_gives, space_gives, word_gives}
use Rattle.std.proofs.lemmas.Bool.{false≢true}
use Rattle.hm_calls.proofs.edits.edit_file.Goals as goal

pub returns-in_err-path-clause-answers : goal.returns-in_err-path-clause-answers
returns-in_err-path-clause-answers g c =
    let elements = g.T.HasElements.elements in
    let extents = g.T.HasRoom.extents in
    let hash = g.H.NameHash.hash_of c.args.hash.now in
    let id = c.args.id.0 in
    let course = c.course_before-course.result in
    let before = c.course_before-course.ensures.last in
    let edit = c.args.edit in
    let word = c.args.word.now in
    let old = c.args.store.now in
    let es = elements old in
    let xs = extents old in
    let room = g.T.HasRoom.room old in
    let free = g.T.HasRoom.free old in
    let p = err_from_is_err_and c.from_residual.result c.from_residual.ensures.1 in
    let stopped = c.in_err-path.field-0.0 in
    acts_ended elements g.T.HasElements.mark extents g.T.HasRoom.room g.T.HasRoom.free old old hash id (command_for edit word) c.from_residual.result stopped
    (p.1 ∙ ap Err p.2)
    (word_refuses hash id course before c.requires.id.1 (command_for edit word) (Walks Follows) word
    (of_edit edit word) es xs room free stopped c.in_err-path.ensures.refused)
    (of_refusal _ stopped (untouched elements g.T.HasElements.mark extents g.T.HasRoom.room g.T.HasRoom.free old))

pub returns-in_err-check_future-clause-answers : goal.returns-in_err-check_future-clause-answers
returns-in_err-check_future-clause-answers g c =
    let elements = g.T.HasElements.elements in
    let extents = g.T.HasRoom.extents in
    let hash = g.H.NameHash.hash_of c.args.hash.now in
    let id = c.args.id.0 in
    let course = c.course_before-course.result in
    let before = c.course_before-course.ensures.last in
    let edit = c.args.edit in
    let word = c.args.word.now in
    let old = c.args.store.now in
    let es = elements old in
    let xs = extents old in
    let room = g.T.HasRoom.room old in
    let free = g.T.HasRoom.free old in
    let parts = c.parts-parts.result.now in
    let path = subst (IsPath word) (sym c.parts-parts.ensures) c.in_ok-path.ensures.ok in
    let p = err_from_is_err_and c.from_residual-in_err-check_future.result c.from_residual-in_err-check_future.ensures.1 in
    let stopped = c.in_err-check_future.field-0.0 in
    acts_ended elements g.T.HasElements.mark extents g.T.HasRoom.room g.T.HasRoom.free old old hash id
    (command_for edit word) c.from_residual-in_err-check_future.result stopped
    (p.1 ∙ ap Err p.2)
    (future_refuses hash id course before c.requires.id.1 (command_for edit word) (Walks Follows) word
    (of_edit edit word) es xs room free parts path refl stopped
    (decided (Unit {0}) (no_future course.last.0 (Parts parts)) stopped c.in_err-check_future.ensures))
    (of_refusal _ stopped (untouched elements g.T.HasElements.mark extents g.T.HasRoom.room g.T.HasRoom.free old))

pub returns-in_err-check_present-clause-answers : goal.returns-in_err-check_present-clause-answers
returns-in_err-check_present-clause-answers g c =
    let elements = g.T.HasElements.elements in
    let extents = g.T.HasRoom.extents in
    let hash = g.H.NameHash.hash_of c.args.hash.now in
    let id = c.args.id.0 in
    let course = c.course_before-course.result in
    let before = c.course_before-course.ensures.last in
    let edit = c.args.edit in
    let word = c.args.word.now in
    let old = c.args.store.now in
    let es = elements old in
    let xs = extents old in
    let room = g.T.HasRoom.room old in
    let free = g.T.HasRoom.free old in
    let parts = c.parts-parts.result.now in
    let path = subst (IsPath word) (sym c.parts-parts.ensures) c.in_ok-path.ensures.ok in
    let p = err_from_is_err_and c.from_residual-in_err-check_present.result c.from_residual-in_err-check_present.ensures.1 in
    let stopped = c.in_err-check_present.field-0.0 in
    acts_ended elements g.T.HasElements.mark extents g.T.HasRoom.room g.T.HasRoom.free old old hash id
    (command_for edit word) c.from_residual-in_err-check_present.result stopped
    (p.1 ∙ ap Err p.2)
    (past_refuses hash id course before c.requires.id.1 (command_for edit word) (Walks Follows) word
    (of_edit edit word) es xs room free parts path refl c.in_ok-check_future.ensures stopped
    (past_stopped (command_for edit word) parts (edits_tree edit word) stopped c.in_err-check_present.ensures))
    (of_refusal _ stopped (untouched elements g.T.HasElements.mark extents g.T.HasRoom.room g.T.HasRoom.free old))

pub returns-in_err-file-clause-answers : goal.returns-in_err-file-clause-answers
returns-in_err-file-clause-answers g c =
    let elements = g.T.HasElements.elements in
    let extents = g.T.HasRoom.extents in
    let hash = g.H.NameHash.hash_of c.args.hash.now in
    let id = c.args.id.0 in
    let course = c.course_before-course.result in
    let before = c.course_before-course.ensures.last in
    let edit = c.args.edit in
    let word = c.args.word.now in
    let old = c.args.store.now in
    let es = elements old in
    let xs = extents old in
    let room = g.T.HasRoom.room old in
    let free = g.T.HasRoom.free old in
    let parts = c.parts-parts.result.now in
    let path = subst (IsPath word) (sym c.parts-parts.ensures) c.in_ok-path.ensures.ok in
    let early = early_edit edit word course.last.0 parts c.in_ok-check_future.ensures c.in_ok-check_present.ensures in
    let drawn = drawn_now course.last parts (no_ids parts c.in_ok-check_present.ensures) in
    let p = err_from_is_err_and c.from_residual-in_err-file.result c.from_residual-in_err-file.ensures.1 in
    let stopped = c.in_err-file.field-0.0 in
    acts_ended elements g.T.HasElements.mark extents g.T.HasRoom.room g.T.HasRoom.free old c.reach.new.store hash id
    (command_for edit word) c.from_residual-in_err-file.result stopped
    (p.1 ∙ ap Err p.2)
    (walk_refuses hash id course before c.requires.id.1 (command_for edit word) (Walks Follows) word
    (of_edit edit word) es xs room free parts path early stopped
    (scenes_unreached hash course es xs parts drawn Follows stopped c.in_err-file.ensures.ok))
    (of_refusal _ stopped c.in_err-file.ensures.keeps)

pub returns-in_err-check_master-clause-answers : goal.returns-in_err-check_master-clause-answers
returns-in_err-check_master-clause-answers g c =
    let elements = g.T.HasElements.elements in
    let extents = g.T.HasRoom.extents in
    let hash = g.H.NameHash.hash_of c.args.hash.now in
    let id = c.args.id.0 in
    let course = c.course_before-course.result in
    let before = c.course_before-course.ensures.last in
    let edit = c.args.edit in
    let word = c.args.word.now in
    let old = c.args.store.now in
    let es = elements old in
    let xs = extents old in
    let room = g.T.HasRoom.room old in
    let free = g.T.HasRoom.free old in
    let parts = c.parts-parts.result.now in
    let path = subst (IsPath word) (sym c.parts-parts.ensures) c.in_ok-path.ensures.ok in
    let early = early_edit edit word course.last.0 parts c.in_ok-check_future.ensures c.in_ok-check_present.ensures in
    let drawn = drawn_now course.last parts (no_ids parts c.in_ok-check_present.ensures) in
    let file = c.in_ok-file.file in
    let kept = c.in_ok-file.ensures.keeps in
    let ends = scenes_reached hash course es xs parts drawn Follows file c.in_ok-file.ensures.ok in
    let p = err_from_is_err_and c.from_residual-in_err-check_master.result c.from_residual-in_err-check_master.ensures.1 in
    let stopped = c.in_err-check_master.field-0.0 in
    acts_ended elements g.T.HasElements.mark extents g.T.HasRoom.room g.T.HasRoom.free old c.check_master.new.store hash id
    (command_for edit word) c.from_residual-in_err-check_master.result stopped
    (p.1 ∙ ap Err p.2)
    (edit_master_refuses hash id course before c.requires.id.1 edit word parts path es xs room free file ends early stopped
    (master_stopped hash course es (elements c.reach.new.store) xs (extents c.reach.new.store) kept.elements kept.extents file.at.pfs.0 stopped
    c.in_err-check_master.ensures.ok))
    (of_refusal _ stopped (same_twice kept c.in_err-check_master.ensures.keeps))

pub returns-in_err-check_no_directory-clause-answers : goal.returns-in_err-check_no_directory-clause-answers
returns-in_err-check_no_directory-clause-answers g c =
    let elements = g.T.HasElements.elements in
    let extents = g.T.HasRoom.extents in
    let hash = g.H.NameHash.hash_of c.args.hash.now in
    let id = c.args.id.0 in
    let course = c.course_before-course.result in
    let before = c.course_before-course.ensures.last in
    let edit = c.args.edit in
    let word = c.args.word.now in
    let old = c.args.store.now in
    let es = elements old in
    let xs = extents old in
    let room = g.T.HasRoom.room old in
    let free = g.T.HasRoom.free old in
    let parts = c.parts-parts.result.now in
    let path = subst (IsPath word) (sym c.parts-parts.ensures) c.in_ok-path.ensures.ok in
    let early = early_edit edit word course.last.0 parts c.in_ok-check_future.ensures c.in_ok-check_present.ensures in
    let drawn = drawn_now course.last parts (no_ids parts c.in_ok-check_present.ensures) in
    let file = c.in_ok-file.file in
    let kept = c.in_ok-file.ensures.keeps in
    let ends = scenes_reached hash course es xs parts drawn Follows file c.in_ok-file.ensures.ok in
    let mid = c.reach.new.store in
    let same = same_twice kept c.in_ok-check_master.ensures.keeps in
    let master = master_passes hash course es (elements mid) xs (extents mid) kept.elements kept.extents file.at.pfs.0 c.in_ok-check_master.ensures.ok in
    let p = err_from_is_err_and c.from_residual-in_err-check_no_directory.result c.from_residual-in_err-check_no_directory.ensures.1 in
    let stopped = c.in_err-check_no_directory.field-0.0 in
    acts_ended elements g.T.HasElements.mark extents g.T.HasRoom.room g.T.HasRoom.free old c.check_master.new.store hash id
    (command_for edit word) c.from_residual-in_err-check_no_directory.result stopped
    (p.1 ∙ ap Err p.2)
    (edit_dir_refuses hash id course before c.requires.id.1 edit word parts path es xs room free file ends early master stopped
    (λ scene read. decided (Unit {0}) (refuse_kind is_dir_or_link IsDir (object_at scene.view (place_of file.at))) stopped
    (c.in_err-check_no_directory.ensures.check scene read)))
    (of_refusal _ stopped same)

pub returns-in_err-check_no_softlink-clause-answers : goal.returns-in_err-check_no_softlink-clause-answers
returns-in_err-check_no_softlink-clause-answers g c =
    let elements = g.T.HasElements.elements in
    let extents = g.T.HasRoom.extents in
    let hash = g.H.NameHash.hash_of c.args.hash.now in
    let id = c.args.id.0 in
    let course = c.course_before-course.result in
    let before = c.course_before-course.ensures.last in
    let edit = c.args.edit in
    let word = c.args.word.now in
    let old = c.args.store.now in
    let es = elements old in
    let xs = extents old in
    let room = g.T.HasRoom.room old in
    let free = g.T.HasRoom.free old in
    let parts = c.parts-parts.result.now in
    let path = subst (IsPath word) (sym c.parts-parts.ensures) c.in_ok-path.ensures.ok in
    let early = early_edit edit word course.last.0 parts c.in_ok-check_future.ensures c.in_ok-check_present.ensures in
    let drawn = drawn_now course.last parts (no_ids parts c.in_ok-check_present.ensures) in
    let file = c.in_ok-file.file in
    let kept = c.in_ok-file.ensures.keeps in
    let ends = scenes_reached hash course es xs parts drawn Follows file c.in_ok-file.ensures.ok in
    let mid = c.reach.new.store in
    let same = same_twice kept c.in_ok-check_master.ensures.keeps in
    let master = master_passes hash course es (elements mid) xs (extents mid) kept.elements kept.extents file.at.pfs.0 c.in_ok-check_master.ensures.ok in
    let p = err_from_is_err_and c.from_residual-in_err-check_no_softlink.result c.from_residual-in_err-check_no_softlink.ensures.1 in
    let stopped = c.in_err-check_no_softlink.field-0.0 in
    acts_ended elements g.T.HasElements.mark extents g.T.HasRoom.room g.T.HasRoom.free old c.check_master.new.store hash id
    (command_for edit word) c.from_residual-in_err-check_no_softlink.result stopped
    (p.1 ∙ ap Err p.2)
    (edit_link_refuses hash id course before c.requires.id.1 edit word parts path es xs room free file ends early master
    c.in_ok-check_no_directory.ensures.check stopped
    (λ scene read. decided (Unit {0}) (refuse_kind is_softlink NotFile (object_at scene.view (place_of file.at))) stopped
    (c.in_err-check_no_softlink.ensures.check scene read)))
    (of_refusal _ stopped same)

pub returns-in_err-check_end-clause-answers : goal.returns-in_err-check_end-clause-answers
returns-in_err-check_end-clause-answers g c =
    let elements = g.T.HasElements.elements in
    let extents = g.T.HasRoom.extents in
    let hash = g.H.NameHash.hash_of c.args.hash.now in
    let id = c.args.id.0 in
    let course = c.course_before-course.result in
    let before = c.course_before-course.ensures.last in
    let edit = c.args.edit in
    let word = c.args.word.now in
    let old = c.args.store.now in
    let es = elements old in
    let xs = extents old in
    let room = g.T.HasRoom.room old in
    let free = g.T.HasRoom.free old in
    let parts = c.parts-parts.result.now in
    let path = subst (IsPath word) (sym c.parts-parts.ensures) c.in_ok-path.ensures.ok in
    let early = early_edit edit word course.last.0 parts c.in_ok-check_future.ensures c.in_ok-check_present.ensures in
    let drawn = drawn_now course.last parts (no_ids parts c.in_ok-check_present.ensures) in
    let file = c.in_ok-file.file in
    let kept = c.in_ok-file.ensures.keeps in
    let ends = scenes_reached hash course es xs parts drawn Follows file c.in_ok-file.ensures.ok in
    let mid = c.reach.new.store in
    let same = same_twice kept c.in_ok-check_master.ensures.keeps in
    let master = master_passes hash course es (elements mid) xs (extents mid) kept.elements kept.extents file.at.pfs.0 c.in_ok-check_master.ensures.ok in
    let p = err_from_is_err_and c.from_residual-in_err-check_end.result c.from_residual-in_err-check_end.ensures.1 in
    let stopped = c.in_err-check_end.field-0.0 in
    acts_ended elements g.T.HasElements.mark extents g.T.HasRoom.room g.T.HasRoom.free old c.check_master.new.store hash id
    (command_for edit word) c.from_residual-in_err-check_end.result stopped
    (p.1 ∙ ap Err p.2)
    (edit_end_refuses hash id course before c.requires.id.1 edit word parts path es xs room free file ends early master c.in_ok-check_no_directory.ensures.check
    c.in_ok-check_no_softlink.ensures.check stopped (decided (Unit {0}) (fits_file (end_of edit)) stopped c.in_err-check_end.ensures.check))
    (of_refusal _ stopped same)

pub returns-in_err-admit_edit-clause-answers : goal.returns-in_err-admit_edit-clause-answers
returns-in_err-admit_edit-clause-answers g c =
    let elements = g.T.HasElements.elements in
    let extents = g.T.HasRoom.extents in
    let hash = g.H.NameHash.hash_of c.args.hash.now in
    let id = c.args.id.0 in
    let course = c.course_before-course.result in
    let before = c.course_before-course.ensures.last in
    let edit = c.args.edit in
    let word = c.args.word.now in
    let old = c.args.store.now in
    let es = elements old in
    let xs = extents old in
    let room = g.T.HasRoom.room old in
    let free = g.T.HasRoom.free old in
    let parts = c.parts-parts.result.now in
    let path = subst (IsPath word) (sym c.parts-parts.ensures) c.in_ok-path.ensures.ok in
    let early = early_edit edit word course.last.0 parts c.in_ok-check_future.ensures c.in_ok-check_present.ensures in
    let drawn = drawn_now course.last parts (no_ids parts c.in_ok-check_present.ensures) in
    let file = c.in_ok-file.file in
    let kept = c.in_ok-file.ensures.keeps in
    let ends = scenes_reached hash course es xs parts drawn Follows file c.in_ok-file.ensures.ok in
    let mid = c.reach.new.store in
    let same = same_twice kept c.in_ok-check_master.ensures.keeps in
    let master = master_passes hash course es (elements mid) xs (extents mid) kept.elements kept.extents file.at.pfs.0 c.in_ok-check_master.ensures.ok in
    let last = c.check_master.new.store in
    let size = c.in-Some.inode.size in
    let p = err_from_is_err_and c.from_residual-in_err-admit_edit.result c.from_residual-in_err-admit_edit.ensures.1 in
    let stopped = c.in_err-admit_edit.field-0.0 in
    acts_ended elements g.T.HasElements.mark extents g.T.HasRoom.room g.T.HasRoom.free old c.admit_edit.new.store hash id
    (command_for edit word) c.from_residual-in_err-admit_edit.result stopped
    (p.1 ∙ ap Err p.2)
    (edit_space_refuses hash id course before c.requires.id.1 edit word parts path es xs room free file ends early master
    c.in_ok-check_no_directory.ensures.check c.in_ok-check_no_softlink.ensures.check c.in_ok-check_end.ensures.check c.in-Some.inode c.in-Some.is stopped
    (space_before (λ r f. IsStoppedBy (space_for (zones_for edit size) 4 r f) stopped) room (g.T.HasRoom.room last) free (g.T.HasRoom.free last) same.room
    same.free
    (answered (Unit {0}) (space_for (zones_for edit size) 4 (g.T.HasRoom.room last) (g.T.HasRoom.free last)) stopped c.in_err-admit_edit.ensures.check)))
    (refusal_so _ _ stopped (same_twice same) c.in_err-admit_edit.ensures.refused)

pub change_file-requires-clause-below : goal.change_file-requires-clause-below
change_file-requires-clause-below g c =
    let elements = g.T.HasElements.elements in
    let extents = g.T.HasRoom.extents in
    let hash = g.H.NameHash.hash_of c.args.hash.now in
    let id = c.args.id.0 in
    let course = c.course_before-course.result in
    let before = c.course_before-course.ensures.last in
    let edit = c.args.edit in
    let word = c.args.word.now in
    let old = c.args.store.now in
    let es = elements old in
    let xs = extents old in
    let room = g.T.HasRoom.room old in
    let free = g.T.HasRoom.free old in
    let file = c.in_ok-file.file in
    let kept = c.in_ok-file.ensures.keeps in
    let mid = c.reach.new.store in
    let same = same_twice kept c.in_ok-check_master.ensures.keeps in
    let now = c.admit_edit.new.store in
    let content = c.in_ok-admit_edit.ensures.content in
    let below = told_before es (elements mid) xs (extents mid) kept.elements kept.extents (λ e x. AreBelowIn e x file.at.pfs.0 id)
    (c.in_ok-check_master.ensures.below id
    (told_then es (elements mid) xs (extents mid) kept.elements kept.extents (λ e x. AreKnown e x id) c.requires.known)) in
    told_then es (elements now) xs (extents now) (content.elements ∙ same.elements) (content.extents ∙ same.extents)
    (λ e x. AreBelowIn e x file.at.pfs.0 id) below

pub returns-clause-answers : goal.returns-clause-answers
returns-clause-answers g c =
    let elements = g.T.HasElements.elements in
    let extents = g.T.HasRoom.extents in
    let hash = g.H.NameHash.hash_of c.args.hash.now in
    let id = c.args.id.0 in
    let course = c.course_before-course.result in
    let before = c.course_before-course.ensures.last in
    let edit = c.args.edit in
    let word = c.args.word.now in
    let old = c.args.store.now in
    let es = elements old in
    let xs = extents old in
    let room = g.T.HasRoom.room old in
    let free = g.T.HasRoom.free old in
    let parts = c.parts-parts.result.now in
    let path = subst (IsPath word) (sym c.parts-parts.ensures) c.in_ok-path.ensures.ok in
    let early = early_edit edit word course.last.0 parts c.in_ok-check_future.ensures c.in_ok-check_present.ensures in
    let drawn = drawn_now course.last parts (no_ids parts c.in_ok-check_present.ensures) in
    let file = c.in_ok-file.file in
    let kept = c.in_ok-file.ensures.keeps in
    let ends = scenes_reached hash course es xs parts drawn Follows file c.in_ok-file.ensures.ok in
    let mid = c.reach.new.store in
    let same = same_twice kept c.in_ok-check_master.ensures.keeps in
    let master = master_passes hash course es (elements mid) xs (extents mid) kept.elements kept.extents file.at.pfs.0 c.in_ok-check_master.ensures.ok in
    let last = c.check_master.new.store in
    let size = c.in-Some.inode.size in
    let now = c.admit_edit.new.store in
    let content = c.in_ok-admit_edit.ensures.content in
    let below = told_before es (elements mid) xs (extents mid) kept.elements kept.extents (λ e x. AreBelowIn e x file.at.pfs.0 id)
    (c.in_ok-check_master.ensures.below id
    (told_then es (elements mid) xs (extents mid) kept.elements kept.extents (λ e x. AreKnown e x id) c.requires.known)) in
    let new = c.change_file.new.store in
    let writes = told_before es (elements now) xs (extents now) (content.elements ∙ same.elements) (content.extents ∙ same.extents)
    (λ e x. Wrote (ChangesFile file.at.pfs.0 file.at.object.0 id size (edited edit)) e x (elements new) (extents new)) c.in_ok-change_file.ensures.ok in (
      edit_accepts hash id course before c.requires.id.1 edit word parts path es xs room free file ends early master
          c.in_ok-check_no_directory.ensures.check c.in_ok-check_no_softlink.ensures.check c.in_ok-check_end.ensures.check c.in-Some.inode c.in-Some.is
          (space_before (λ r f. space_for (zones_for edit size) 4 r f ≡ None) room (g.T.HasRoom.room last) free (g.T.HasRoom.free last) same.room same.free
          c.in_ok-admit_edit.ensures.check),
      edit_writes hash id course before c.requires.id.1 edit word parts path es xs room free file ends early master
          c.in_ok-check_no_directory.ensures.check c.in_ok-check_no_softlink.ensures.check c.in-Some.inode c.in-Some.is
          (no_ids parts c.in_ok-check_present.ensures)
          (editing hash id course before c.requires.id.1 edit word parts path es xs room free file ends early master
          (g.met.T.ElementStore.sorted old) below) (elements new) (extents new) writes,
    )

pub returns-clause-known : goal.returns-clause-known
returns-clause-known g c =
    let kept = c.in_ok-file.ensures.keeps in
    let same = same_twice kept c.in_ok-check_master.ensures.keeps in
    let pfs = c.in_ok-file.file.at.pfs.0 in
    known_then g.T.HasElements.elements g.T.HasRoom.extents
    (ChangesFile pfs c.in_ok-file.file.at.object.0 c.args.id.0 c.in-Some.inode.size (edited c.args.edit)) pfs c.args.id.0 (IsNewIn pfs c.args.id.0)
    c.args.store.now c.admit_edit.new.store c.change_file.new.store (λ a b changes. changes.writes)
    (c.in_ok-admit_edit.ensures.content.elements ∙ same.elements) (c.in_ok-admit_edit.ensures.content.extents ∙ same.extents)
    c.in_ok-change_file.ensures.keeps.elements c.in_ok-change_file.ensures.keeps.extents c.requires.balanced c.requires.known c.in_ok-change_file.ensures.ok

pub returns-clause-room : goal.returns-clause-room
returns-clause-room g c =
    let same = same_twice c.in_ok-file.ensures.keeps c.in_ok-check_master.ensures.keeps in
    let stays = both_stay c.in_ok-change_file.ensures.borrowed (both_stay (c.in_ok-admit_edit.ensures.room.1, c.in_ok-admit_edit.ensures.room.2)
    (both_stay c.in_ok-check_master.ensures.borrowed c.in_ok-file.ensures.borrowed)) in (
      takes_charged g.T.HasRoom.room g.T.HasRoom.free all_reserves c.args.store.now c.change_file.new.store _
          (took_admitted g.T.HasRoom.room g.T.HasRoom.free all_reserves c.args.store.now c.check_master.new.store c.admit_edit.new.store
          c.change_file.new.store same.room same.free c.in_ok-admit_edit.ensures.room.0.charges c.in_ok-change_file.ensures.space),
      stays.0,
      stays.1,
    )

-- ---- the replies that it may give

pub returns-in_err-path-clause-gives : goal.returns-in_err-path-clause-gives
returns-in_err-path-clause-gives g c =
    let p = err_from_is_err_and c.from_residual.result c.from_residual.ensures.1 in
    word_gives c.args.id.0 (command_for c.args.edit c.args.word.now) (Walks Follows) c.args.word.now (asks_edit c.args.edit c.args.word.now)
    c.from_residual.result c.in_err-path.field-0.0 (p.1 ∙ ap Err p.2) c.in_err-path.ensures.refused

pub returns-in_err-check_future-clause-gives : goal.returns-in_err-check_future-clause-gives
returns-in_err-check_future-clause-gives g c =
    let p = err_from_is_err_and c.from_residual-in_err-check_future.result c.from_residual-in_err-check_future.ensures.1 in
    future_gives c.args.id.0 (command_for c.args.edit c.args.word.now) (Walks Follows) c.args.word.now (asks_edit c.args.edit c.args.word.now)
    c.course_before-course.result c.course_before-course.ensures.last c.parts-parts.result.now (subst (IsPath c.args.word.now) (sym
    c.parts-parts.ensures) c.in_ok-path.ensures.ok) refl c.from_residual-in_err-check_future.result c.in_err-check_future.field-0.0 (p.1 ∙ ap Err
    p.2) (decided (Unit {0}) (no_future c.course_before-course.result.last.0 (Parts c.parts-parts.result.now)) c.in_err-check_future.field-0.0
    c.in_err-check_future.ensures)

pub returns-in_err-check_present-clause-gives : goal.returns-in_err-check_present-clause-gives
returns-in_err-check_present-clause-gives g c =
    let p = err_from_is_err_and c.from_residual-in_err-check_present.result c.from_residual-in_err-check_present.ensures.1 in
    past_gives c.args.id.0 (command_for c.args.edit c.args.word.now) (Walks Follows) c.args.word.now (asks_edit c.args.edit c.args.word.now)
    c.course_before-course.result c.course_before-course.ensures.last c.parts-parts.result.now (subst (IsPath c.args.word.now) (sym
    c.parts-parts.ensures) c.in_ok-path.ensures.ok) refl c.in_ok-check_future.ensures c.from_residual-in_err-check_present.result
    c.in_err-check_present.field-0.0 (p.1 ∙ ap Err p.2) (past_stopped (command_for c.args.edit c.args.word.now) c.parts-parts.result.now (edits_tree
    c.args.edit c.args.word.now) c.in_err-check_present.field-0.0 c.in_err-check_present.ensures)

pub returns-in_err-file-clause-gives : goal.returns-in_err-file-clause-gives
returns-in_err-file-clause-gives g c =
    let p = err_from_is_err_and c.from_residual-in_err-file.result c.from_residual-in_err-file.ensures.1 in
    lost_gives c.args.id.0 (command_for c.args.edit c.args.word.now) (Walks Follows) c.args.word.now (asks_edit c.args.edit c.args.word.now)
    c.course_before-course.result c.course_before-course.ensures.last c.parts-parts.result.now (subst (IsPath c.args.word.now) (sym
    c.parts-parts.ensures) c.in_ok-path.ensures.ok) (early_edit c.args.edit c.args.word.now c.course_before-course.result.last.0
    c.parts-parts.result.now c.in_ok-check_future.ensures c.in_ok-check_present.ensures) (has_id (Parts c.parts-parts.result.now)) (edit_has
    c.args.edit c.args.word.now (Parts c.parts-parts.result.now ∷ []) 2 (behind_file (end_of c.args.edit) 2 (1, omega arith, refl))) (edit_has
    c.args.edit c.args.word.now (Parts c.parts-parts.result.now ∷ []) 3 (behind_file (end_of c.args.edit) 3 (2, omega arith, refl))) (λ some. absurd
    (false≢true (sym (no_ids c.parts-parts.result.now c.in_ok-check_present.ensures) ∙ some))) c.from_residual-in_err-file.result
    c.in_err-file.field-0.0 (p.1 ∙ ap Err p.2) c.in_err-file.ensures.gives

pub returns-in_err-check_master-clause-gives : goal.returns-in_err-check_master-clause-gives
returns-in_err-check_master-clause-gives g c =
    let p = err_from_is_err_and c.from_residual-in_err-check_master.result c.from_residual-in_err-check_master.ensures.1 in
    one_gives c.args.id.0 (command_for c.args.edit c.args.word.now) (Walks Follows) c.args.word.now (asks_edit c.args.edit c.args.word.now)
    c.course_before-course.result c.course_before-course.ensures.last c.parts-parts.result.now (subst (IsPath c.args.word.now) (sym
    c.parts-parts.ensures) c.in_ok-path.ensures.ok) (early_edit c.args.edit c.args.word.now c.course_before-course.result.last.0
    c.parts-parts.result.now c.in_ok-check_future.ensures c.in_ok-check_present.ensures) ReadOnly tt (edit_has c.args.edit c.args.word.now (Parts
    c.parts-parts.result.now ∷ []) 7 (behind_file (end_of c.args.edit) 7 (0, omega arith, refl))) c.from_residual-in_err-check_master.result
    c.in_err-check_master.field-0.0 (p.1 ∙ ap Err p.2) c.in_err-check_master.ensures.gives

pub returns-in_err-check_no_directory-clause-gives : goal.returns-in_err-check_no_directory-clause-gives
returns-in_err-check_no_directory-clause-gives g c =
    let p = err_from_is_err_and c.from_residual-in_err-check_no_directory.result c.from_residual-in_err-check_no_directory.ensures.1 in
    one_gives c.args.id.0 (command_for c.args.edit c.args.word.now) (Walks Follows) c.args.word.now (asks_edit c.args.edit c.args.word.now)
    c.course_before-course.result c.course_before-course.ensures.last c.parts-parts.result.now (subst (IsPath c.args.word.now) (sym
    c.parts-parts.ensures) c.in_ok-path.ensures.ok) (early_edit c.args.edit c.args.word.now c.course_before-course.result.last.0
    c.parts-parts.result.now c.in_ok-check_future.ensures c.in_ok-check_present.ensures) IsDir tt (edit_has c.args.edit c.args.word.now (Parts
    c.parts-parts.result.now ∷ []) 4 (0, omega arith, refl)) c.from_residual-in_err-check_no_directory.result c.in_err-check_no_directory.field-0.0
    (p.1 ∙ ap Err p.2) c.in_err-check_no_directory.ensures.gives

pub returns-in_err-check_no_softlink-clause-gives : goal.returns-in_err-check_no_softlink-clause-gives
returns-in_err-check_no_softlink-clause-gives g c =
    let p = err_from_is_err_and c.from_residual-in_err-check_no_softlink.result c.from_residual-in_err-check_no_softlink.ensures.1 in
    one_gives c.args.id.0 (command_for c.args.edit c.args.word.now) (Walks Follows) c.args.word.now (asks_edit c.args.edit c.args.word.now)
    c.course_before-course.result c.course_before-course.ensures.last c.parts-parts.result.now (subst (IsPath c.args.word.now) (sym
    c.parts-parts.ensures) c.in_ok-path.ensures.ok) (early_edit c.args.edit c.args.word.now c.course_before-course.result.last.0
    c.parts-parts.result.now c.in_ok-check_future.ensures c.in_ok-check_present.ensures) NotFile tt (edit_has c.args.edit c.args.word.now (Parts
    c.parts-parts.result.now ∷ []) 32 (1, omega arith, refl)) c.from_residual-in_err-check_no_softlink.result c.in_err-check_no_softlink.field-0.0
    (p.1 ∙ ap Err p.2) c.in_err-check_no_softlink.ensures.gives

pub returns-in_err-check_end-clause-gives : goal.returns-in_err-check_end-clause-gives
returns-in_err-check_end-clause-gives g c =
    let p = err_from_is_err_and c.from_residual-in_err-check_end.result c.from_residual-in_err-check_end.ensures.1 in
    later_gives c.args.id.0 (command_for c.args.edit c.args.word.now) (Walks Follows) c.args.word.now (asks_edit c.args.edit c.args.word.now)
    c.course_before-course.result c.course_before-course.ensures.last c.parts-parts.result.now (subst (IsPath c.args.word.now) (sym
    c.parts-parts.ensures) c.in_ok-path.ensures.ok) (early_edit c.args.edit c.args.word.now c.course_before-course.result.last.0
    c.parts-parts.result.now c.in_ok-check_future.ensures c.in_ok-check_present.ensures) (λ reply. fits_file (end_of c.args.edit) ≡ Some reply)
    (edit_large c.args.edit c.args.word.now (Parts c.parts-parts.result.now ∷ [])) c.from_residual-in_err-check_end.result
    c.in_err-check_end.field-0.0 (p.1 ∙ ap Err p.2) (decided (Unit {0}) (fits_file (end_of c.args.edit)) c.in_err-check_end.field-0.0
    c.in_err-check_end.ensures.check)

pub returns-in_err-admit_edit-clause-gives : goal.returns-in_err-admit_edit-clause-gives
returns-in_err-admit_edit-clause-gives g c =
    let p = err_from_is_err_and c.from_residual-in_err-admit_edit.result c.from_residual-in_err-admit_edit.ensures.1 in
    space_gives c.args.id.0 (command_for c.args.edit c.args.word.now) (Walks Follows) c.args.word.now (asks_edit c.args.edit c.args.word.now)
    c.course_before-course.result c.course_before-course.ensures.last c.parts-parts.result.now (subst (IsPath c.args.word.now) (sym
    c.parts-parts.ensures) c.in_ok-path.ensures.ok) (early_edit c.args.edit c.args.word.now c.course_before-course.result.last.0
    c.parts-parts.result.now c.in_ok-check_future.ensures c.in_ok-check_present.ensures) (edit_has c.args.edit c.args.word.now (Parts
    c.parts-parts.result.now ∷ []) 20 (file_lacks (end_of c.args.edit) (not_large (end_of c.args.edit) c.in_ok-check_end.ensures.check)))
    c.from_residual-in_err-admit_edit.result c.in_err-admit_edit.field-0.0 (p.1 ∙ ap Err p.2) c.in_err-admit_edit.ensures.gives

pub returns-clause-gives : goal.returns-clause-gives
returns-clause-gives g c =
    end_gives c.args.id.0 (command_for c.args.edit c.args.word.now) (Walks Follows) c.args.word.now (asks_edit c.args.edit c.args.word.now)
    c.course_before-course.result c.course_before-course.ensures.last c.parts-parts.result.now (subst (IsPath c.args.word.now) (sym
    c.parts-parts.ensures) c.in_ok-path.ensures.ok) (early_edit c.args.edit c.args.word.now c.course_before-course.result.last.0
    c.parts-parts.result.now c.in_ok-check_future.ensures c.in_ok-check_present.ensures) Done tt (edit_has c.args.edit c.args.word.now (Parts
    c.parts-parts.result.now ∷ []) 101 (file_accepted (end_of c.args.edit) (not_large (end_of c.args.edit) c.in_ok-check_end.ensures.check)))
