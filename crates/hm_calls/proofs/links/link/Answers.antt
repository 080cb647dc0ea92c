use Rattle.std.proofs.Common.{◌+◌, Err, None, ap, arith, refl, subst, sym, ◌∙◌}
use Rattle.std.proofs.lemmas.Result.{err_from_is_err_and}
use Rattle.hm_path.specs.Path.{IsPath}
use Rattle.hm_model.specs.Sites.{MakesName, Walks}
use Rattle.hm_model.specs.Walk.{Stays}
use Rattle.hm_model.specs.declared.command.Command.TheVariants.{Ln}
use Rattle.hm_model.specs.declared.reply.Reply.TheVariants.{Done}
use Rattle.hm_dirs.proofs.WalkLoopLemmas.{same_twice}
use Rattle.hm_calls.specs.Known.{AreBelowIn}
use Rattle.hm_calls.specs.Writes.{IsNewIn, PutsLink, place_in, reserves}
use Rattle.hm_calls.proofs.FrontLemmas.{all_pass, end_gives, last_refuse, late_gives, places_refuse, words_give, words_refuse}
use Rattle.hm_calls.proofs.KnownLemmas.{known_same, known_then}
use Rattle.hm_calls.proofs.LinkCallLemmas.{linked_asked, linked_tells, ln_stays, ln_writes}
use Rattle.hm_calls.proofs.LinkLemmas.{paths_linked}
use Rattle.hm_calls.proofs.MayReplyLemmas.{asks_ln, first_word_gives, second_word_gives}
use Rattle.hm_calls.proofs.RefusalLemmas.{first_refuses, of_ln, second_refuses}
use Rattle.hm_calls.proofs.StageLemmas.{Wrote, acts_stopped, of_refusal, refusal_so, told_before, told_then, untouched}
use Rattle.hm_calls.proofs.TakeLemmas.{both_stay, takes_charged, took_admitted, took_room}
use Rattle.hm_calls.proofs.links.link.Goals as goal

pub returns-in_err-old-clause-answers : goal.returns-in_err-old-clause-answers
returns-in_err-old-clause-answers g c =
    let p = err_from_is_err_and c.from_residual.result c.from_residual.ensures.1 in
    rw (p.1, p.2) (acts_stopped g.T.HasElements.elements g.T.HasElements.mark g.T.HasRoom.extents g.T.HasRoom.room g.T.HasRoom.free c.args.store.now
    c.args.store.now
    (g.H.NameHash.hash_of c.args.hash.now) c.args.id.0 (Ln c.args.old.now c.args.new.now) _
    (first_refuses (g.H.NameHash.hash_of c.args.hash.now) c.args.id.0 c.course_before-course.result c.course_before-course.ensures.last c.requires.id.1
    (Ln c.args.old.now c.args.new.now) (Walks Stays) MakesName c.args.old.now c.args.new.now (of_ln c.args.old.now c.args.new.now)
    (g.T.HasElements.elements c.args.store.now) (g.T.HasRoom.extents c.args.store.now)
    (g.T.HasRoom.room c.args.store.now) (g.T.HasRoom.free c.args.store.now) _ c.in_err-old.ensures.refused)
    (of_refusal _ _ (untouched g.T.HasElements.elements g.T.HasElements.mark g.T.HasRoom.extents g.T.HasRoom.room g.T.HasRoom.free
    c.args.store.now)))

pub returns-in_err-new-clause-answers : goal.returns-in_err-new-clause-answers
returns-in_err-new-clause-answers g c =
    let p = err_from_is_err_and c.from_residual-in_err-new.result c.from_residual-in_err-new.ensures.1 in
    rw (p.1, p.2) (acts_stopped g.T.HasElements.elements g.T.HasElements.mark g.T.HasRoom.extents g.T.HasRoom.room g.T.HasRoom.free c.args.store.now
    c.args.store.now
    (g.H.NameHash.hash_of c.args.hash.now) c.args.id.0 (Ln c.args.old.now c.args.new.now) _
    (second_refuses (g.H.NameHash.hash_of c.args.hash.now) c.args.id.0 c.course_before-course.result c.course_before-course.ensures.last c.requires.id.1
    (Ln c.args.old.now c.args.new.now) (Walks Stays) MakesName c.args.old.now c.args.new.now (of_ln c.args.old.now c.args.new.now)
    (g.T.HasElements.elements c.args.store.now) (g.T.HasRoom.extents c.args.store.now)
    (g.T.HasRoom.room c.args.store.now) (g.T.HasRoom.free c.args.store.now) _ c.in_ok-old.ensures.ok refl _ c.in_err-new.ensures.refused)
    (of_refusal _ _ (untouched g.T.HasElements.elements g.T.HasElements.mark g.T.HasRoom.extents g.T.HasRoom.room g.T.HasRoom.free
    c.args.store.now)))

pub returns-in_err-named-clause-answers : goal.returns-in_err-named-clause-answers
returns-in_err-named-clause-answers g c =
    let p = err_from_is_err_and c.from_residual-in_err-named.result c.from_residual-in_err-named.ensures.1 in
    rw (p.1, p.2) (acts_stopped g.T.HasElements.elements g.T.HasElements.mark g.T.HasRoom.extents g.T.HasRoom.room g.T.HasRoom.free c.args.store.now
    c.args.store.now
    (g.H.NameHash.hash_of c.args.hash.now) c.args.id.0 (Ln c.args.old.now c.args.new.now) _
    (words_refuse (g.H.NameHash.hash_of c.args.hash.now) c.args.id.0 c.course_before-course.result (Ln c.args.old.now c.args.new.now)
    _ _ _ _ c.course_before-course.ensures.last c.requires.id.1
    (λ ps reads. paths_linked c.args.old.now c.args.new.now _ _ ps (subst (IsPath c.args.old.now) (sym c.parts-parts.ensures) c.in_ok-old.ensures.ok)
    (subst (IsPath c.args.new.now) (sym c.parts-more.ensures) c.in_ok-new.ensures.ok) reads) (λ busy. refl)
    (g.T.HasRoom.room c.args.store.now) (g.T.HasRoom.free c.args.store.now) _ c.in_err-named.ensures.checks)
    (of_refusal _ _ (untouched g.T.HasElements.elements g.T.HasElements.mark g.T.HasRoom.extents g.T.HasRoom.room g.T.HasRoom.free
    c.args.store.now)))

pub returns-in_err-found-clause-answers : goal.returns-in_err-found-clause-answers
returns-in_err-found-clause-answers g c =
    let p = err_from_is_err_and c.from_residual-in_err-found.result c.from_residual-in_err-found.ensures.1 in
    let asked = linked_asked c.args.id.0 c.course_before-course.result c.args.old.now c.args.new.now c.parts-parts.result.now c.parts-more.result.now
    c.course_before-course.ensures.last c.requires.id.1 (subst (IsPath c.args.old.now) (sym c.parts-parts.ensures) c.in_ok-old.ensures.ok)
    (subst (IsPath c.args.new.now) (sym c.parts-more.ensures) c.in_ok-new.ensures.ok) c.in_ok-named.ensures.checks in
    rw (p.1, p.2) (acts_stopped g.T.HasElements.elements g.T.HasElements.mark g.T.HasRoom.extents g.T.HasRoom.room g.T.HasRoom.free c.args.store.now
    c.reach_linked.new.store
    (g.H.NameHash.hash_of c.args.hash.now) c.args.id.0 (Ln c.args.old.now c.args.new.now) _
    (places_refuse asked (g.T.HasRoom.room c.args.store.now) (g.T.HasRoom.free c.args.store.now)
    (c.in_err-found.ensures.places c.args.old.now c.args.new.now c.parts-more.result.now c.in_ok-named.ensures.new))
    (of_refusal _ _ c.in_err-found.ensures.keeps))

pub returns-in_err-spot-clause-answers : goal.returns-in_err-spot-clause-answers
returns-in_err-spot-clause-answers g c =
    let p = err_from_is_err_and c.from_residual-in_err-spot.result c.from_residual-in_err-spot.ensures.1 in
    let asked = linked_asked c.args.id.0 c.course_before-course.result c.args.old.now c.args.new.now c.parts-parts.result.now c.parts-more.result.now
    c.course_before-course.ensures.last c.requires.id.1 (subst (IsPath c.args.old.now) (sym c.parts-parts.ensures) c.in_ok-old.ensures.ok)
    (subst (IsPath c.args.new.now) (sym c.parts-more.ensures) c.in_ok-new.ensures.ok) c.in_ok-named.ensures.checks in
    let places = c.in_ok-found.ensures.places c.args.old.now c.args.new.now c.parts-more.result.now c.in_ok-named.ensures.new in
    let linked = c.in_ok-found.ensures.found c.parts-more.result.now c.args.id.0 c.in_ok-named.ensures.new c.requires.known in
    rw (p.1, p.2) (acts_stopped g.T.HasElements.elements g.T.HasElements.mark g.T.HasRoom.extents g.T.HasRoom.room g.T.HasRoom.free c.args.store.now
    c.check_linked.new.store
    (g.H.NameHash.hash_of c.args.hash.now) c.args.id.0 (Ln c.args.old.now c.args.new.now) _
    (last_refuse asked (g.T.HasRoom.room c.args.store.now) (g.T.HasRoom.free c.args.store.now) places
    (linked_tells c.in_ok-found.ensures.keeps linked c.args.old.now c.args.new.now
    (c.in_err-spot.ensures.checks c.course_before-course.result)))
    (refusal_so _ _ _ (same_twice c.in_ok-found.ensures.keeps) c.in_err-spot.ensures.refused))

pub returns-in_default-clause-answers : goal.returns-in_default-clause-answers
returns-in_default-clause-answers g c =
    let asked = linked_asked c.args.id.0 c.course_before-course.result c.args.old.now c.args.new.now c.parts-parts.result.now c.parts-more.result.now
    c.course_before-course.ensures.last c.requires.id.1 (subst (IsPath c.args.old.now) (sym c.parts-parts.ensures) c.in_ok-old.ensures.ok)
    (subst (IsPath c.args.new.now) (sym c.parts-more.ensures) c.in_ok-new.ensures.ok) c.in_ok-named.ensures.checks in
    let places = c.in_ok-found.ensures.places c.args.old.now c.args.new.now c.parts-more.result.now c.in_ok-named.ensures.new in
    let linked = c.in_ok-found.ensures.found c.parts-more.result.now c.args.id.0 c.in_ok-named.ensures.new c.requires.known in
    let content = c.in_ok-spot.ensures.content in
    let same = c.in_ok-found.ensures.keeps in (
      all_pass asked (g.T.HasRoom.room c.args.store.now) (g.T.HasRoom.free c.args.store.now) Done (λ ps busy scene. refl) places
          (linked_tells c.in_ok-found.ensures.keeps linked c.args.old.now c.args.new.now
          (c.in_ok-spot.ensures.checks c.course_before-course.result)),
      ln_stays c.in_ok-found.ensures.keeps linked (g.T.HasRoom.room c.reach_linked.new.store) (g.T.HasRoom.free c.reach_linked.new.store)
          c.in_ok-spot.spot (g.met.T.ElementStore.sorted c.args.store.now)
          (c.in_ok-spot.ensures.checks c.course_before-course.result) (c.in_ok-spot.ensures.spot c.course_before-course.result) c.args.old.now c.args.new.now
          c.course_before-course.ensures.last (subst (IsPath c.args.old.now) (sym c.parts-parts.ensures) c.in_ok-old.ensures.ok)
          (subst (IsPath c.args.new.now) (sym c.parts-more.ensures) c.in_ok-new.ensures.ok)
          (g.T.HasElements.elements c.check_linked.new.store) (g.T.HasRoom.extents c.check_linked.new.store) c.in_default.is
          (content.elements ∙ same.elements) (content.extents ∙ same.extents),
    )

pub returns-clause-answers : goal.returns-clause-answers
returns-clause-answers g c =
    let asked = linked_asked c.args.id.0 c.course_before-course.result c.args.old.now c.args.new.now c.parts-parts.result.now c.parts-more.result.now
    c.course_before-course.ensures.last c.requires.id.1 (subst (IsPath c.args.old.now) (sym c.parts-parts.ensures) c.in_ok-old.ensures.ok)
    (subst (IsPath c.args.new.now) (sym c.parts-more.ensures) c.in_ok-new.ensures.ok) c.in_ok-named.ensures.checks in
    let places = c.in_ok-found.ensures.places c.args.old.now c.args.new.now c.parts-more.result.now c.in_ok-named.ensures.new in
    let linked = c.in_ok-found.ensures.found c.parts-more.result.now c.args.id.0 c.in_ok-named.ensures.new c.requires.known in
    let content = c.in_ok-spot.ensures.content in
    let same = c.in_ok-found.ensures.keeps in
    let hash = g.H.NameHash.hash_of c.args.hash.now in (
      all_pass asked (g.T.HasRoom.room c.args.store.now) (g.T.HasRoom.free c.args.store.now) Done (λ ps busy scene. refl) places
          (linked_tells c.in_ok-found.ensures.keeps linked c.args.old.now c.args.new.now
          (c.in_ok-spot.ensures.checks c.course_before-course.result)),
      ln_writes c.in_ok-found.ensures.keeps linked (g.T.HasRoom.room c.reach_linked.new.store) (g.T.HasRoom.free c.reach_linked.new.store)
          c.in_ok-spot.spot (g.met.T.ElementStore.sorted c.args.store.now)
          (c.in_ok-spot.ensures.checks c.course_before-course.result) (c.in_ok-spot.ensures.spot c.course_before-course.result) c.args.old.now c.args.new.now
          c.course_before-course.ensures.last (subst (IsPath c.args.old.now) (sym c.parts-parts.ensures) c.in_ok-old.ensures.ok)
          (subst (IsPath c.args.new.now) (sym c.parts-more.ensures) c.in_ok-new.ensures.ok)
          (g.T.HasElements.elements c.put_link.new.store) (g.T.HasRoom.extents c.put_link.new.store) c.in-Some.inode (c.in-Some.inode.links + 1)
          c.in_ok-named.ensures.new.first_now c.in-Some.is refl (told_before _ _ _ _ (content.elements ∙ same.elements) (content.extents ∙ same.extents)
          (λ es xs. Wrote (PutsLink hash (place_in c.in_ok-found.found.directory c.in_ok-named.named.name.now) c.in_ok-spot.spot c.args.id.0
          c.in_ok-found.found.object.at.object (c.in-Some.inode.links + 1)) es xs (g.T.HasElements.elements c.put_link.new.store)
          (g.T.HasRoom.extents c.put_link.new.store)) (c.in_ok-put_link.ensures.ok hash)),
    )

pub put_link-requires-clause-below : goal.put_link-requires-clause-below
put_link-requires-clause-below g c =
    let same = c.in_ok-found.ensures.keeps in
    let content = c.in_ok-spot.ensures.content in
    told_then (g.T.HasElements.elements c.args.store.now) (g.T.HasElements.elements c.check_linked.new.store) (g.T.HasRoom.extents c.args.store.now)
    (g.T.HasRoom.extents c.check_linked.new.store) (content.elements ∙ same.elements) (content.extents ∙ same.extents)
    (λ es xs. AreBelowIn es xs c.in_ok-found.found.directory.at.pfs.0 c.args.id.0) (c.in_ok-found.ensures.below c.args.id.0 c.requires.known)

pub returns-in_default-clause-known : goal.returns-in_default-clause-known
returns-in_default-clause-known g c =
    let content = c.in_ok-spot.ensures.content in
    let same = c.in_ok-found.ensures.keeps in
    known_same (g.T.HasElements.elements c.args.store.now) (g.T.HasElements.elements c.check_linked.new.store) (g.T.HasRoom.extents c.args.store.now)
    (g.T.HasRoom.extents c.check_linked.new.store) c.args.id.0 (content.elements ∙ same.elements) (content.extents ∙ same.extents) c.requires.known

pub returns-clause-known : goal.returns-clause-known
returns-clause-known g c =
    let content = c.in_ok-spot.ensures.content in
    let same = c.in_ok-found.ensures.keeps in
    let found = c.in_ok-found.found in
    let hash = g.H.NameHash.hash_of c.args.hash.now in
    known_then g.T.HasElements.elements g.T.HasRoom.extents
    (PutsLink hash (place_in found.directory c.in_ok-named.named.name.now) c.in_ok-spot.spot c.args.id.0 found.object.at.object (c.in-Some.inode.links + 1))
    found.directory.at.pfs.0 c.args.id.0 (IsNewIn found.directory.at.pfs.0 c.args.id.0) c.args.store.now c.check_linked.new.store c.put_link.new.store
    (λ a b puts. puts.steps.writes) (content.elements ∙ same.elements) (content.extents ∙ same.extents)
    c.in_ok-put_link.ensures.keeps.elements c.in_ok-put_link.ensures.keeps.extents c.requires.balanced c.requires.known
    (c.in_ok-put_link.ensures.ok hash)

pub returns-in_default-clause-room : goal.returns-in_default-clause-room
returns-in_default-clause-room g c =
    let same = c.in_ok-found.ensures.keeps in
    let stays = both_stay (c.in_ok-spot.ensures.room.1, c.in_ok-spot.ensures.room.2) c.in_ok-found.ensures.borrowed in (
      takes_charged g.T.HasRoom.room g.T.HasRoom.free reserves c.args.store.now c.check_linked.new.store _
          (took_room g.T.HasRoom.room g.T.HasRoom.free reserves c.args.store.now c.reach_linked.new.store c.check_linked.new.store same.room same.free
          c.in_ok-spot.ensures.room.0.charges),
      stays.0,
      stays.1,
    )

pub returns-clause-room : goal.returns-clause-room
returns-clause-room g c =
    let same = c.in_ok-found.ensures.keeps in
    let stays = both_stay c.in_ok-put_link.ensures.borrowed (both_stay (c.in_ok-spot.ensures.room.1, c.in_ok-spot.ensures.room.2)
    c.in_ok-found.ensures.borrowed) in (
      takes_charged g.T.HasRoom.room g.T.HasRoom.free reserves c.args.store.now c.put_link.new.store _
          (took_admitted g.T.HasRoom.room g.T.HasRoom.free reserves c.args.store.now c.reach_linked.new.store c.check_linked.new.store c.put_link.new.store
          same.room same.free c.in_ok-spot.ensures.room.0.charges c.in_ok-put_link.ensures.space),
      stays.0,
      stays.1,
    )

-- ---- the replies that it may give

pub returns-in_err-old-clause-gives : goal.returns-in_err-old-clause-gives
returns-in_err-old-clause-gives g c =
    let p = err_from_is_err_and c.from_residual.result c.from_residual.ensures.1 in
    first_word_gives c.args.id.0 (Ln c.args.old.now c.args.new.now) (Walks Stays) MakesName c.args.old.now c.args.new.now
    (asks_ln c.args.old.now c.args.new.now) c.from_residual.result _ (p.1 ∙ ap Err p.2) c.in_err-old.ensures.refused

pub returns-in_err-new-clause-gives : goal.returns-in_err-new-clause-gives
returns-in_err-new-clause-gives g c =
    let p = err_from_is_err_and c.from_residual-in_err-new.result c.from_residual-in_err-new.ensures.1 in
    second_word_gives c.args.id.0 (Ln c.args.old.now c.args.new.now) (Walks Stays) MakesName c.args.old.now c.args.new.now
    (asks_ln c.args.old.now c.args.new.now) _ c.in_ok-old.ensures.ok refl c.from_residual-in_err-new.result _ (p.1 ∙ ap Err p.2) c.in_err-new.ensures.refused

pub returns-in_err-named-clause-gives : goal.returns-in_err-named-clause-gives
returns-in_err-named-clause-gives g c =
    let p = err_from_is_err_and c.from_residual-in_err-named.result c.from_residual-in_err-named.ensures.1 in
    rw (p.1, p.2) (words_give (g.H.NameHash.hash_of c.args.hash.now) c.args.id.0 c.course_before-course.result (Ln c.args.old.now c.args.new.now)
    _ _ None None c.course_before-course.ensures.last c.requires.id.1
    (λ ps reads. paths_linked c.args.old.now c.args.new.now _ _ ps (subst (IsPath c.args.old.now) (sym c.parts-parts.ensures) c.in_ok-old.ensures.ok)
    (subst (IsPath c.args.new.now) (sym c.parts-more.ensures) c.in_ok-new.ensures.ok) reads) (λ busy. refl) _
    c.in_err-named.ensures.checks)

pub returns-in_err-found-clause-gives : goal.returns-in_err-found-clause-gives
returns-in_err-found-clause-gives g c =
    let p = err_from_is_err_and c.from_residual-in_err-found.result c.from_residual-in_err-found.ensures.1 in
    let asked = linked_asked c.args.id.0 c.course_before-course.result c.args.old.now c.args.new.now c.parts-parts.result.now c.parts-more.result.now
    c.course_before-course.ensures.last c.requires.id.1 (subst (IsPath c.args.old.now) (sym c.parts-parts.ensures) c.in_ok-old.ensures.ok)
    (subst (IsPath c.args.new.now) (sym c.parts-more.ensures) c.in_ok-new.ensures.ok) c.in_ok-named.ensures.checks in
    rw (p.1, p.2) (late_gives asked _ (c.in_err-found.ensures.gives c.parts-more.result.now c.in_ok-named.ensures.new))

pub returns-in_err-spot-clause-gives : goal.returns-in_err-spot-clause-gives
returns-in_err-spot-clause-gives g c =
    let p = err_from_is_err_and c.from_residual-in_err-spot.result c.from_residual-in_err-spot.ensures.1 in
    let asked = linked_asked c.args.id.0 c.course_before-course.result c.args.old.now c.args.new.now c.parts-parts.result.now c.parts-more.result.now
    c.course_before-course.ensures.last c.requires.id.1 (subst (IsPath c.args.old.now) (sym c.parts-parts.ensures) c.in_ok-old.ensures.ok)
    (subst (IsPath c.args.new.now) (sym c.parts-more.ensures) c.in_ok-new.ensures.ok) c.in_ok-named.ensures.checks in
    rw (p.1, p.2) (late_gives asked _ c.in_err-spot.ensures.gives)

pub returns-in_default-clause-gives : goal.returns-in_default-clause-gives
returns-in_default-clause-gives g c =
    let asked = linked_asked c.args.id.0 c.course_before-course.result c.args.old.now c.args.new.now c.parts-parts.result.now c.parts-more.result.now
    c.course_before-course.ensures.last c.requires.id.1 (subst (IsPath c.args.old.now) (sym c.parts-parts.ensures) c.in_ok-old.ensures.ok)
    (subst (IsPath c.args.new.now) (sym c.parts-more.ensures) c.in_ok-new.ensures.ok) c.in_ok-named.ensures.checks in
    end_gives asked Done tt (0, omega arith, refl)

pub returns-clause-gives : goal.returns-clause-gives
returns-clause-gives g c =
    let asked = linked_asked c.args.id.0 c.course_before-course.result c.args.old.now c.args.new.now c.parts-parts.result.now c.parts-more.result.now
    c.course_before-course.ensures.last c.requires.id.1 (subst (IsPath c.args.old.now) (sym c.parts-parts.ensures) c.in_ok-old.ensures.ok)
    (subst (IsPath c.args.new.now) (sym c.parts-more.ensures) c.in_ok-new.ensures.ok) c.in_ok-named.ensures.checks in
    end_gives asked Done tt (0, omega arith, refl)
