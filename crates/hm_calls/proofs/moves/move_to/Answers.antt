use Rattle.std.proofs.Common.{Err, ap, arith, refl, subst, sym, ◌∙◌}
use Rattle.std.proofs.lemmas.Result.{err_from_is_err_and}
use Rattle.hm_path.specs.Path.{IsPath}
use Rattle.hm_model.specs.Sites.{MakesName, TakesName}
use Rattle.hm_model.specs.declared.command.Command.TheVariants.{Mv}
use Rattle.hm_model.specs.declared.reply.Reply.TheVariants.{Done}
use Rattle.hm_dirs.proofs.WalkLoopLemmas.{same_twice}
use Rattle.hm_calls.specs.Known.{AreBelowIn}
use Rattle.hm_calls.specs.Moves.{WritesMove}
use Rattle.hm_calls.specs.Writes.{IsNewIn, place_in, reserves}
use Rattle.hm_calls.proofs.FrontLemmas.{all_pass, end_gives, last_refuse, late_gives, places_refuse, words_give, words_refuse}
use Rattle.hm_calls.proofs.KnownLemmas.{known_then}
use Rattle.hm_calls.proofs.MayReplyLemmas.{asks_mv, first_name_gives, first_word_gives, second_word_gives}
use Rattle.hm_calls.proofs.MoveLemmas.{paths_moved}
use Rattle.hm_calls.proofs.MoveStageLemmas.{moved_asked, moved_tells, moved_words, moved_writes, moves_write}
use Rattle.hm_calls.proofs.RefusalLemmas.{first_name_refuses, first_refuses, of_mv, second_refuses}
use Rattle.hm_calls.proofs.StageLemmas.{Wrote, acts_stopped, good_named, nameless, of_refusal, refusal_so, told_before, told_then, untouched}
use Rattle.hm_calls.proofs.TakeLemmas.{both_stay, takes_charged, took_admitted}
use Rattle.hm_calls.proofs.moves.move_to.Goals as goal

pub returns-in_err-old-clause-answers : goal.returns-in_err-old-clause-answers
returns-in_err-old-clause-answers g c =
    let p = err_from_is_err_and c.from_residual.result c.from_residual.ensures.1 in
    rw (p.1, p.2) (acts_stopped g.T.HasElements.elements g.T.HasElements.mark g.T.HasRoom.extents g.T.HasRoom.room g.T.HasRoom.free c.args.store.now
    c.args.store.now (g.H.NameHash.hash_of c.args.hash.now) c.args.id.0 (Mv c.args.old.now c.args.new.now) _
    (first_refuses (g.H.NameHash.hash_of c.args.hash.now) c.args.id.0 c.course_before-course.result c.course_before-course.ensures.last c.requires.id.1
    (Mv c.args.old.now c.args.new.now) TakesName MakesName c.args.old.now c.args.new.now (of_mv c.args.old.now c.args.new.now) _ _ _ _ _
    c.in_err-old.ensures.refused)
    (of_refusal _ _ (untouched g.T.HasElements.elements g.T.HasElements.mark g.T.HasRoom.extents g.T.HasRoom.room g.T.HasRoom.free c.args.store.now)))

pub returns-in_err-old_name-clause-answers : goal.returns-in_err-old_name-clause-answers
returns-in_err-old_name-clause-answers g c =
    let p = err_from_is_err_and c.from_residual-in_err-old_name.result c.from_residual-in_err-old_name.ensures.1 in
    rw (p.1, p.2) (acts_stopped g.T.HasElements.elements g.T.HasElements.mark g.T.HasRoom.extents g.T.HasRoom.room g.T.HasRoom.free c.args.store.now
    c.args.store.now (g.H.NameHash.hash_of c.args.hash.now) c.args.id.0 (Mv c.args.old.now c.args.new.now) _
    (first_name_refuses (g.H.NameHash.hash_of c.args.hash.now) c.args.id.0 c.course_before-course.result c.course_before-course.ensures.last
    c.requires.id.1 (Mv c.args.old.now c.args.new.now) TakesName MakesName c.args.old.now c.args.new.now (of_mv c.args.old.now c.args.new.now) _ _ _ _
    c.parts-parts.result.now (subst (IsPath c.args.old.now) (sym c.parts-parts.ensures) c.in_ok-old.ensures.ok) _
    (nameless c.parts-parts.result.now _ c.in_err-old_name.ensures.refused))
    (of_refusal _ _ (untouched g.T.HasElements.elements g.T.HasElements.mark g.T.HasRoom.extents g.T.HasRoom.room g.T.HasRoom.free c.args.store.now)))

pub returns-in_err-new-clause-answers : goal.returns-in_err-new-clause-answers
returns-in_err-new-clause-answers g c =
    let p = err_from_is_err_and c.from_residual-in_err-new.result c.from_residual-in_err-new.ensures.1 in
    rw (p.1, p.2) (acts_stopped g.T.HasElements.elements g.T.HasElements.mark g.T.HasRoom.extents g.T.HasRoom.room g.T.HasRoom.free c.args.store.now
    c.args.store.now (g.H.NameHash.hash_of c.args.hash.now) c.args.id.0 (Mv c.args.old.now c.args.new.now) _
    (second_refuses (g.H.NameHash.hash_of c.args.hash.now) c.args.id.0 c.course_before-course.result c.course_before-course.ensures.last c.requires.id.1
    (Mv c.args.old.now c.args.new.now) TakesName MakesName c.args.old.now c.args.new.now (of_mv c.args.old.now c.args.new.now) _ _ _ _
    c.parts-parts.result.now (subst (IsPath c.args.old.now) (sym c.parts-parts.ensures) c.in_ok-old.ensures.ok)
    (good_named c.parts-parts.result.now c.in_ok-old_name.old_name.now c.in_ok-old_name.ensures.name) _ c.in_err-new.ensures.refused)
    (of_refusal _ _ (untouched g.T.HasElements.elements g.T.HasElements.mark g.T.HasRoom.extents g.T.HasRoom.room g.T.HasRoom.free c.args.store.now)))

pub returns-in_err-named-clause-answers : goal.returns-in_err-named-clause-answers
returns-in_err-named-clause-answers g c =
    let p = err_from_is_err_and c.from_residual-in_err-named.result c.from_residual-in_err-named.ensures.1 in
    rw (p.1, p.2) (acts_stopped g.T.HasElements.elements g.T.HasElements.mark g.T.HasRoom.extents g.T.HasRoom.room g.T.HasRoom.free c.args.store.now
    c.args.store.now (g.H.NameHash.hash_of c.args.hash.now) c.args.id.0 (Mv c.args.old.now c.args.new.now) _
    (words_refuse (g.H.NameHash.hash_of c.args.hash.now) c.args.id.0 c.course_before-course.result (Mv c.args.old.now c.args.new.now)
    c.parts-parts.result.now c.parts-more.result.now _ _ c.course_before-course.ensures.last c.requires.id.1
    (λ ps reads. paths_moved c.args.old.now c.args.new.now _ _ ps (subst (IsPath c.args.old.now) (sym c.parts-parts.ensures) c.in_ok-old.ensures.ok)
    (subst (IsPath c.args.new.now) (sym c.parts-more.ensures) c.in_ok-new.ensures.ok) reads)
    (λ busy. moved_words c.args.old.now c.args.new.now c.parts-parts.result.now c.parts-more.result.now c.in_ok-old_name.old_name.now
    c.in_ok-old_name.ensures.name c.course_before-course.result.last.0)
    (g.T.HasRoom.room c.args.store.now) (g.T.HasRoom.free c.args.store.now) _ c.in_err-named.ensures.checks)
    (of_refusal _ _ (untouched g.T.HasElements.elements g.T.HasElements.mark g.T.HasRoom.extents g.T.HasRoom.room g.T.HasRoom.free c.args.store.now)))

pub returns-in_err-found-clause-answers : goal.returns-in_err-found-clause-answers
returns-in_err-found-clause-answers g c =
    let p = err_from_is_err_and c.from_residual-in_err-found.result c.from_residual-in_err-found.ensures.1 in
    let asked = moved_asked c.args.old.now c.args.new.now c.parts-parts.result.now c.parts-more.result.now c.in_ok-old_name.old_name.now
    c.in_ok-old_name.ensures.name c.args.id.0 c.course_before-course.result c.course_before-course.ensures.last c.requires.id.1
    (subst (IsPath c.args.old.now) (sym c.parts-parts.ensures) c.in_ok-old.ensures.ok)
    (subst (IsPath c.args.new.now) (sym c.parts-more.ensures) c.in_ok-new.ensures.ok) c.in_ok-named.ensures.checks in
    rw (p.1, p.2) (acts_stopped g.T.HasElements.elements g.T.HasElements.mark g.T.HasRoom.extents g.T.HasRoom.room g.T.HasRoom.free c.args.store.now
    c.reach_moved.new.store (g.H.NameHash.hash_of c.args.hash.now) c.args.id.0 (Mv c.args.old.now c.args.new.now) _
    (places_refuse asked (g.T.HasRoom.room c.args.store.now) (g.T.HasRoom.free c.args.store.now)
    (c.in_err-found.ensures.places c.args.old.now c.args.new.now c.in_ok-old_name.old_name.now c.parts-more.result.now c.in_ok-old_name.ensures.name
    c.in_ok-named.ensures.new))
    (of_refusal _ _ c.in_err-found.ensures.keeps))

pub returns-in_err-change-clause-answers : goal.returns-in_err-change-clause-answers
returns-in_err-change-clause-answers g c =
    let p = err_from_is_err_and c.from_residual-in_err-change.result c.from_residual-in_err-change.ensures.1 in
    let asked = moved_asked c.args.old.now c.args.new.now c.parts-parts.result.now c.parts-more.result.now c.in_ok-old_name.old_name.now
    c.in_ok-old_name.ensures.name c.args.id.0 c.course_before-course.result c.course_before-course.ensures.last c.requires.id.1
    (subst (IsPath c.args.old.now) (sym c.parts-parts.ensures) c.in_ok-old.ensures.ok)
    (subst (IsPath c.args.new.now) (sym c.parts-more.ensures) c.in_ok-new.ensures.ok) c.in_ok-named.ensures.checks in
    let places = c.in_ok-found.ensures.places c.args.old.now c.args.new.now c.in_ok-old_name.old_name.now c.parts-more.result.now
    c.in_ok-old_name.ensures.name c.in_ok-named.ensures.new in
    let movable = c.in_ok-found.ensures.found c.in_ok-old_name.old_name.now c.parts-more.result.now c.args.id.0 c.in_ok-old_name.ensures.name
    c.in_ok-named.ensures.new c.requires.known in
    rw (p.1, p.2) (acts_stopped g.T.HasElements.elements g.T.HasElements.mark g.T.HasRoom.extents g.T.HasRoom.room g.T.HasRoom.free c.args.store.now
    c.check_moved.new.store (g.H.NameHash.hash_of c.args.hash.now) c.args.id.0 (Mv c.args.old.now c.args.new.now) _
    (last_refuse asked (g.T.HasRoom.room c.args.store.now) (g.T.HasRoom.free c.args.store.now) places
    (moved_tells c.in_ok-found.ensures.keeps movable c.args.old.now c.args.new.now (c.in_err-change.ensures.checks c.course_before-course.result)))
    (refusal_so _ _ _ (same_twice c.in_ok-found.ensures.keeps) c.in_err-change.ensures.refused))

pub returns-clause-answers : goal.returns-clause-answers
returns-clause-answers g c =
    let asked = moved_asked c.args.old.now c.args.new.now c.parts-parts.result.now c.parts-more.result.now c.in_ok-old_name.old_name.now
    c.in_ok-old_name.ensures.name c.args.id.0 c.course_before-course.result c.course_before-course.ensures.last c.requires.id.1
    (subst (IsPath c.args.old.now) (sym c.parts-parts.ensures) c.in_ok-old.ensures.ok)
    (subst (IsPath c.args.new.now) (sym c.parts-more.ensures) c.in_ok-new.ensures.ok) c.in_ok-named.ensures.checks in
    let places = c.in_ok-found.ensures.places c.args.old.now c.args.new.now c.in_ok-old_name.old_name.now c.parts-more.result.now
    c.in_ok-old_name.ensures.name c.in_ok-named.ensures.new in
    let movable = c.in_ok-found.ensures.found c.in_ok-old_name.old_name.now c.parts-more.result.now c.args.id.0 c.in_ok-old_name.ensures.name
    c.in_ok-named.ensures.new c.requires.known in
    let content = c.in_ok-change.ensures.content in
    let same = c.in_ok-found.ensures.keeps in
    let found = c.in_ok-found.found in
    let hash = g.H.NameHash.hash_of c.args.hash.now in (
      all_pass asked (g.T.HasRoom.room c.args.store.now) (g.T.HasRoom.free c.args.store.now) Done (λ ps busy scene. refl) places
          (moved_tells same movable c.args.old.now c.args.new.now (c.in_ok-change.ensures.checks c.course_before-course.result)),
      moved_writes same movable (g.T.HasRoom.room c.reach_moved.new.store) (g.T.HasRoom.free c.reach_moved.new.store) c.in_ok-found.ensures.moved
          c.args.old.now c.args.new.now c.course_before-course.ensures.last
          (subst (IsPath c.args.old.now) (sym c.parts-parts.ensures) c.in_ok-old.ensures.ok)
          (subst (IsPath c.args.new.now) (sym c.parts-more.ensures) c.in_ok-new.ensures.ok) c.in_ok-change.change
          (g.met.T.ElementStore.sorted c.args.store.now) (c.in_ok-change.ensures.checks c.course_before-course.result)
          (c.in_ok-change.ensures.change c.course_before-course.result) (g.T.HasElements.elements c.write_move.new.store)
          (g.T.HasRoom.extents c.write_move.new.store)
          (told_before _ _ _ _ (content.elements ∙ same.elements) (content.extents ∙ same.extents)
          (λ es xs. Wrote (WritesMove hash (place_in found.from c.in_ok-old_name.old_name.now) (place_in found.to c.in_ok-named.named.name.now) c.args.id.0
          found.moved c.in_ok-change.change) es xs (g.T.HasElements.elements c.write_move.new.store) (g.T.HasRoom.extents c.write_move.new.store))
          c.in_ok-write_move.ensures.ok),
    )

-- ---- what is written

pub write_move-requires-clause-values : goal.write_move-requires-clause-values
write_move-requires-clause-values g c = record {
  name = c.in_ok-named.ensures.new.is_name c.args.new.now (subst (IsPath c.args.new.now) (sym c.parts-more.ensures) c.in_ok-new.ensures.ok);
  kind = c.in_ok-found.ensures.moved.kind;
  pfs = c.in_ok-change.ensures.one_pfs;
}

pub write_move-requires-clause-below : goal.write_move-requires-clause-below
write_move-requires-clause-below g c =
    let same = c.in_ok-found.ensures.keeps in
    let content = c.in_ok-change.ensures.content in
    told_then (g.T.HasElements.elements c.args.store.now) (g.T.HasElements.elements c.check_moved.new.store) (g.T.HasRoom.extents c.args.store.now)
    (g.T.HasRoom.extents c.check_moved.new.store) (content.elements ∙ same.elements) (content.extents ∙ same.extents)
    (λ es xs. AreBelowIn es xs c.in_ok-found.found.to.at.pfs.0 c.args.id.0) (c.in_ok-found.ensures.below c.args.id.0 c.requires.known)

pub returns-clause-known : goal.returns-clause-known
returns-clause-known g c =
    let content = c.in_ok-change.ensures.content in
    let same = c.in_ok-found.ensures.keeps in
    let found = c.in_ok-found.found in
    let hash = g.H.NameHash.hash_of c.args.hash.now in
    let old = place_in found.from c.in_ok-old_name.old_name.now in
    let new = place_in found.to c.in_ok-named.named.name.now in
    known_then g.T.HasElements.elements g.T.HasRoom.extents (WritesMove hash old new c.args.id.0 found.moved c.in_ok-change.change)
    found.to.at.pfs.0 c.args.id.0 (IsNewIn found.to.at.pfs.0 c.args.id.0) c.args.store.now c.check_moved.new.store c.write_move.new.store
    (λ a b moves. moves_write hash old new c.args.id.0 found.moved c.in_ok-change.change a b moves)
    (content.elements ∙ same.elements) (content.extents ∙ same.extents)
    c.in_ok-write_move.ensures.keeps.elements c.in_ok-write_move.ensures.keeps.extents c.requires.balanced c.requires.known
    c.in_ok-write_move.ensures.ok

pub returns-clause-room : goal.returns-clause-room
returns-clause-room g c =
    let same = c.in_ok-found.ensures.keeps in
    let stays = both_stay c.in_ok-write_move.ensures.borrowed (both_stay (c.in_ok-change.ensures.room.1, c.in_ok-change.ensures.room.2)
    c.in_ok-found.ensures.borrowed) in (
      takes_charged g.T.HasRoom.room g.T.HasRoom.free reserves c.args.store.now c.write_move.new.store _
          (took_admitted g.T.HasRoom.room g.T.HasRoom.free reserves c.args.store.now c.reach_moved.new.store c.check_moved.new.store
          c.write_move.new.store same.room same.free c.in_ok-change.ensures.room.0.charges c.in_ok-write_move.ensures.space),
      stays.0,
      stays.1,
    )

-- ---- the replies that it may give

pub returns-in_err-old-clause-gives : goal.returns-in_err-old-clause-gives
returns-in_err-old-clause-gives g c =
    let p = err_from_is_err_and c.from_residual.result c.from_residual.ensures.1 in
    first_word_gives c.args.id.0 (Mv c.args.old.now c.args.new.now) TakesName MakesName c.args.old.now c.args.new.now
    (asks_mv c.args.old.now c.args.new.now) c.from_residual.result _ (p.1 ∙ ap Err p.2) c.in_err-old.ensures.refused

pub returns-in_err-old_name-clause-gives : goal.returns-in_err-old_name-clause-gives
returns-in_err-old_name-clause-gives g c =
    let p = err_from_is_err_and c.from_residual-in_err-old_name.result c.from_residual-in_err-old_name.ensures.1 in
    first_name_gives c.args.id.0 (Mv c.args.old.now c.args.new.now) TakesName MakesName c.args.old.now c.args.new.now
    (asks_mv c.args.old.now c.args.new.now) c.parts-parts.result.now (subst (IsPath c.args.old.now) (sym c.parts-parts.ensures) c.in_ok-old.ensures.ok)
    c.from_residual-in_err-old_name.result _ (p.1 ∙ ap Err p.2) (nameless c.parts-parts.result.now _ c.in_err-old_name.ensures.refused)

pub returns-in_err-new-clause-gives : goal.returns-in_err-new-clause-gives
returns-in_err-new-clause-gives g c =
    let p = err_from_is_err_and c.from_residual-in_err-new.result c.from_residual-in_err-new.ensures.1 in
    second_word_gives c.args.id.0 (Mv c.args.old.now c.args.new.now) TakesName MakesName c.args.old.now c.args.new.now
    (asks_mv c.args.old.now c.args.new.now) c.parts-parts.result.now (subst (IsPath c.args.old.now) (sym c.parts-parts.ensures) c.in_ok-old.ensures.ok)
    (good_named c.parts-parts.result.now c.in_ok-old_name.old_name.now c.in_ok-old_name.ensures.name) c.from_residual-in_err-new.result _ (p.1 ∙ ap Err p.2)
    c.in_err-new.ensures.refused

pub returns-in_err-named-clause-gives : goal.returns-in_err-named-clause-gives
returns-in_err-named-clause-gives g c =
    let p = err_from_is_err_and c.from_residual-in_err-named.result c.from_residual-in_err-named.ensures.1 in
    rw (p.1, p.2) (words_give (g.H.NameHash.hash_of c.args.hash.now) c.args.id.0 c.course_before-course.result (Mv c.args.old.now c.args.new.now)
    c.parts-parts.result.now c.parts-more.result.now (g.T.HasElements.elements c.args.store.now) (g.T.HasRoom.extents c.args.store.now)
    c.course_before-course.ensures.last c.requires.id.1
    (λ ps reads. paths_moved c.args.old.now c.args.new.now _ _ ps (subst (IsPath c.args.old.now) (sym c.parts-parts.ensures) c.in_ok-old.ensures.ok)
    (subst (IsPath c.args.new.now) (sym c.parts-more.ensures) c.in_ok-new.ensures.ok) reads)
    (λ busy. moved_words c.args.old.now c.args.new.now c.parts-parts.result.now c.parts-more.result.now c.in_ok-old_name.old_name.now
    c.in_ok-old_name.ensures.name c.course_before-course.result.last.0) _ c.in_err-named.ensures.checks)

pub returns-in_err-found-clause-gives : goal.returns-in_err-found-clause-gives
returns-in_err-found-clause-gives g c =
    let p = err_from_is_err_and c.from_residual-in_err-found.result c.from_residual-in_err-found.ensures.1 in
    let asked = moved_asked c.args.old.now c.args.new.now c.parts-parts.result.now c.parts-more.result.now c.in_ok-old_name.old_name.now
    c.in_ok-old_name.ensures.name c.args.id.0 c.course_before-course.result c.course_before-course.ensures.last c.requires.id.1
    (subst (IsPath c.args.old.now) (sym c.parts-parts.ensures) c.in_ok-old.ensures.ok)
    (subst (IsPath c.args.new.now) (sym c.parts-more.ensures) c.in_ok-new.ensures.ok) c.in_ok-named.ensures.checks in
    rw (p.1, p.2) (late_gives asked _ (c.in_err-found.ensures.gives c.in_ok-old_name.old_name.now c.parts-more.result.now c.in_ok-old_name.ensures.name
    c.in_ok-named.ensures.new))

pub returns-in_err-change-clause-gives : goal.returns-in_err-change-clause-gives
returns-in_err-change-clause-gives g c =
    let p = err_from_is_err_and c.from_residual-in_err-change.result c.from_residual-in_err-change.ensures.1 in
    let asked = moved_asked c.args.old.now c.args.new.now c.parts-parts.result.now c.parts-more.result.now c.in_ok-old_name.old_name.now
    c.in_ok-old_name.ensures.name c.args.id.0 c.course_before-course.result c.course_before-course.ensures.last c.requires.id.1
    (subst (IsPath c.args.old.now) (sym c.parts-parts.ensures) c.in_ok-old.ensures.ok)
    (subst (IsPath c.args.new.now) (sym c.parts-more.ensures) c.in_ok-new.ensures.ok) c.in_ok-named.ensures.checks in
    rw (p.1, p.2) (late_gives asked _ c.in_err-change.ensures.gives)

pub returns-clause-gives : goal.returns-clause-gives
returns-clause-gives g c =
    let asked = moved_asked c.args.old.now c.args.new.now c.parts-parts.result.now c.parts-more.result.now c.in_ok-old_name.old_name.now
    c.in_ok-old_name.ensures.name c.args.id.0 c.course_before-course.result c.course_before-course.ensures.last c.requires.id.1
    (subst (IsPath c.args.old.now) (sym c.parts-parts.ensures) c.in_ok-old.ensures.ok)
    (subst (IsPath c.args.new.now) (sym c.parts-more.ensures) c.in_ok-new.ensures.ok) c.in_ok-named.ensures.checks in
    end_gives asked Done tt (0, omega arith, refl)
