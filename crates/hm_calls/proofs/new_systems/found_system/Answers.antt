use Rattle.std.proofs.Common.{◌∙◌, Err, refl, subst, sym}
use Rattle.std.proofs.lemmas.Result.{err_from_is_err_and}
use Rattle.hm_path.specs.Path.{IsPath}
use Rattle.hm_key.specs.Balance.{content_of}
use Rattle.hm_cursor.specs.Told.{IsInodeThen, OnBalanced}
use Rattle.hm_model.specs.Sites.{MakesName}
use Rattle.hm_dirs.proofs.WalkLoopLemmas.{same_twice}
use Rattle.hm_pfs.specs.Systems.{IsUnmadeIn}
use Rattle.hm_calls.specs.Known.{AreBelowIn, AreKnown}
use Rattle.hm_calls.specs.NewSystems.{PutsLinked, system_command}
use Rattle.hm_calls.specs.Writes.{place_in, reserves}
use Rattle.hm_calls.proofs.FrontLemmas.{places_refuse}
use Rattle.hm_calls.proofs.MayReplyLemmas.{word_gives}
use Rattle.hm_calls.proofs.NewCallLemmas.{end_given, founds_late, founds_stopped, late_given, name_gives, name_refuses, system_asked}
use Rattle.hm_calls.proofs.NewEffectLemmas.{unmade_unused}
use Rattle.hm_calls.proofs.NewStageLemmas.{founded, known_founded, refused_last}
use Rattle.hm_calls.proofs.NewSystemLemmas.{asks_system, of_system}
use Rattle.hm_calls.proofs.RefusalLemmas.{word_refuses}
use Rattle.hm_calls.proofs.StageLemmas.{Wrote, of_refusal, refusal_so, told_before, told_then, untouched}
use Rattle.hm_calls.proofs.TakeLemmas.{both_stay, takes_charged, took_admitted}
use Rattle.hm_calls.proofs.new_systems.found_system.Goals as goal

pub returns-in_err-path-clause-founds : goal.returns-in_err-path-clause-founds
returns-in_err-path-clause-founds g c =
    let p = err_from_is_err_and c.from_residual.result c.from_residual.ensures.1 in
    rw (p.1, p.2) (founds_stopped g.T.HasElements.elements g.T.HasElements.mark g.T.HasRoom.extents g.T.HasRoom.room g.T.HasRoom.free
    (g.H.NameHash.hash_of c.args.hash.now) c.args.id.0 c.args.numbers c.args.new c.args.word.now c.args.shared c.args.store.now c.args.store.now _
    (word_refuses (g.H.NameHash.hash_of c.args.hash.now) c.args.id.0 c.course_before-course.result c.course_before-course.ensures.last c.requires.id.1
    (system_command c.args.new c.args.word.now c.args.shared) MakesName c.args.word.now (of_system c.args.new c.args.word.now c.args.shared)
    (g.T.HasElements.elements c.args.store.now) (g.T.HasRoom.extents c.args.store.now) (g.T.HasRoom.room c.args.store.now)
    (g.T.HasRoom.free c.args.store.now) _ c.in_err-path.ensures.refused)
    (of_refusal _ _ (untouched g.T.HasElements.elements g.T.HasElements.mark g.T.HasRoom.extents g.T.HasRoom.room g.T.HasRoom.free c.args.store.now)))

pub returns-in_err-named-clause-founds : goal.returns-in_err-named-clause-founds
returns-in_err-named-clause-founds g c =
    let p = err_from_is_err_and c.from_residual-in_err-named.result c.from_residual-in_err-named.ensures.1 in
    rw (p.1, p.2) (founds_stopped g.T.HasElements.elements g.T.HasElements.mark g.T.HasRoom.extents g.T.HasRoom.room g.T.HasRoom.free
    (g.H.NameHash.hash_of c.args.hash.now) c.args.id.0 c.args.numbers c.args.new c.args.word.now c.args.shared c.args.store.now c.args.store.now _
    (name_refuses (g.H.NameHash.hash_of c.args.hash.now) c.args.id.0 c.course_before-course.result c.args.new c.args.word.now c.args.shared
    c.parts-parts.result.now (subst (IsPath c.args.word.now) (sym c.parts-parts.ensures) c.in_ok-path.ensures.ok)
    (g.T.HasElements.elements c.args.store.now) (g.T.HasRoom.extents c.args.store.now) c.course_before-course.ensures.last c.requires.id.1
    (g.T.HasRoom.room c.args.store.now) (g.T.HasRoom.free c.args.store.now) _ c.in_err-named.ensures.checks)
    (of_refusal _ _ (untouched g.T.HasElements.elements g.T.HasElements.mark g.T.HasRoom.extents g.T.HasRoom.room g.T.HasRoom.free c.args.store.now)))

pub returns-in_err-directory-clause-founds : goal.returns-in_err-directory-clause-founds
returns-in_err-directory-clause-founds g c =
    let p = err_from_is_err_and c.from_residual-in_err-directory.result c.from_residual-in_err-directory.ensures.1 in
    let asked = system_asked c.args.id.0 c.course_before-course.result c.args.new c.args.word.now c.args.shared c.parts-parts.result.now
    c.course_before-course.ensures.last c.requires.id.1 (subst (IsPath c.args.word.now) (sym c.parts-parts.ensures) c.in_ok-path.ensures.ok)
    c.in_ok-named.ensures.checks in
    rw (p.1, p.2) (founds_stopped g.T.HasElements.elements g.T.HasElements.mark g.T.HasRoom.extents g.T.HasRoom.room g.T.HasRoom.free
    (g.H.NameHash.hash_of c.args.hash.now) c.args.id.0 c.args.numbers c.args.new c.args.word.now c.args.shared c.args.store.now c.reach_new.new.store _
    (places_refuse asked (g.T.HasRoom.room c.args.store.now) (g.T.HasRoom.free c.args.store.now)
    (c.in_err-directory.ensures.places c.parts-parts.result.now c.args.new c.args.word.now c.args.shared c.in_ok-named.ensures.new))
    (of_refusal _ _ c.in_err-directory.ensures.keeps))

pub returns-in_err-number-clause-founds : goal.returns-in_err-number-clause-founds
returns-in_err-number-clause-founds g c =
    let p = err_from_is_err_and c.from_residual-in_err-number.result c.from_residual-in_err-number.ensures.1 in
    let asked = system_asked c.args.id.0 c.course_before-course.result c.args.new c.args.word.now c.args.shared c.parts-parts.result.now
    c.course_before-course.ensures.last c.requires.id.1 (subst (IsPath c.args.word.now) (sym c.parts-parts.ensures) c.in_ok-path.ensures.ok)
    c.in_ok-named.ensures.checks in
    let same = same_twice c.in_ok-directory.ensures.keeps c.in_ok-find_inode.ensures.keeps in
    rw (p.1, p.2) (founds_late g.T.HasElements.elements g.T.HasElements.mark g.T.HasRoom.extents g.T.HasRoom.room g.T.HasRoom.free
    (g.H.NameHash.hash_of c.args.hash.now) c.args.id.0 c.args.numbers c.args.new c.args.word.now c.args.shared c.args.store.now c.check_system.new.store _
    (refused_last same c.args.word.now c.args.shared c.args.new c.args.numbers
    (c.in_ok-directory.ensures.found c.parts-parts.result.now c.args.id.0 c.in_ok-named.ensures.new c.requires.known) asked
    (c.in_ok-directory.ensures.places c.parts-parts.result.now c.args.new c.args.word.now c.args.shared c.in_ok-named.ensures.new)
    (c.in_err-number.ensures.checks c.course_before-course.result))
    (refusal_so _ _ _ (same_twice same) c.in_err-number.ensures.refused))

pub returns-clause-founds : goal.returns-clause-founds
returns-clause-founds g c =
    let asked = system_asked c.args.id.0 c.course_before-course.result c.args.new c.args.word.now c.args.shared c.parts-parts.result.now
    c.course_before-course.ensures.last c.requires.id.1 (subst (IsPath c.args.word.now) (sym c.parts-parts.ensures) c.in_ok-path.ensures.ok)
    c.in_ok-named.ensures.checks in
    let same = same_twice c.in_ok-directory.ensures.keeps c.in_ok-find_inode.ensures.keeps in
    let content = c.in_ok-number.ensures.content in
    let hash = g.H.NameHash.hash_of c.args.hash.now in
    founded same c.args.word.now c.args.shared c.args.new c.args.numbers
    (c.in_ok-directory.ensures.found c.parts-parts.result.now c.args.id.0 c.in_ok-named.ensures.new c.requires.known)
    c.in_ok-number.number c.in_ok-number.spot c.in_ok-find_inode.field-0 (g.met.T.ElementStore.sorted c.args.store.now)
    (told_before _ _ _ _ c.in_ok-directory.ensures.keeps.elements c.in_ok-directory.ensures.keeps.extents (λ es xs. OnBalanced es xs (λ lists.
    IsInodeThen lists c.in_ok-directory.directory.as_of.0 c.in_ok-directory.directory.at.pfs.0 c.args.id.0 c.in_ok-find_inode.field-0))
    c.in_ok-find_inode.ensures.ok)
    c.in_ok-number.ensures.unused asked
    (subst (IsPath c.args.word.now) (sym c.parts-parts.ensures) c.in_ok-path.ensures.ok)
    (c.in_ok-directory.ensures.places c.parts-parts.result.now c.args.new c.args.word.now c.args.shared c.in_ok-named.ensures.new)
    (c.in_ok-number.ensures.checks c.course_before-course.result) (c.in_ok-number.ensures.spot c.course_before-course.result)
    c.put_system.new.store
    (told_before _ _ _ _ (content.elements ∙ same.elements) (content.extents ∙ same.extents) (λ es xs. Wrote
    (PutsLinked hash (place_in c.in_ok-directory.directory c.in_ok-named.named.name.now) c.in_ok-number.spot c.args.id.0 c.args.new c.in_ok-number.number
    c.args.shared) es xs (g.T.HasElements.elements c.put_system.new.store) (g.T.HasRoom.extents c.put_system.new.store))
    (c.in_ok-put_system.ensures.ok hash))

pub put_system-requires-clause-below : goal.put_system-requires-clause-below
put_system-requires-clause-below g c =
    let same = same_twice c.in_ok-directory.ensures.keeps c.in_ok-find_inode.ensures.keeps in
    let content = c.in_ok-number.ensures.content in
    told_then (g.T.HasElements.elements c.args.store.now) (g.T.HasElements.elements c.check_system.new.store) (g.T.HasRoom.extents c.args.store.now)
    (g.T.HasRoom.extents c.check_system.new.store) (content.elements ∙ same.elements) (content.extents ∙ same.extents)
    (λ es xs. AreBelowIn es xs c.in_ok-directory.directory.at.pfs.0 c.args.id.0) (c.in_ok-directory.ensures.below c.args.id.0 c.requires.known)

pub put_system-requires-clause-unmade : goal.put_system-requires-clause-unmade
put_system-requires-clause-unmade g c =
    let same = same_twice c.in_ok-directory.ensures.keeps c.in_ok-find_inode.ensures.keeps in
    let content = c.in_ok-number.ensures.content in
    told_then (g.T.HasElements.elements c.find_inode.new.store) (g.T.HasElements.elements c.check_system.new.store)
    (g.T.HasRoom.extents c.find_inode.new.store) (g.T.HasRoom.extents c.check_system.new.store) content.elements content.extents
    (λ es xs. IsUnmadeIn es xs c.in_ok-number.number.0 c.args.id.0)
    (unmade_unused c.args.numbers c.args.id.0 c.in_ok-number.number
    (content_of (g.T.HasElements.elements c.find_inode.new.store) (g.T.HasRoom.extents c.find_inode.new.store)) c.in_ok-number.ensures.unused
    (told_then (g.T.HasElements.elements c.args.store.now) (g.T.HasElements.elements c.find_inode.new.store) (g.T.HasRoom.extents c.args.store.now)
    (g.T.HasRoom.extents c.find_inode.new.store) same.elements same.extents (λ es xs. AreKnown es xs c.args.id.0) c.requires.known))

pub returns-clause-known : goal.returns-clause-known
returns-clause-known g c =
    let same = same_twice c.in_ok-directory.ensures.keeps c.in_ok-find_inode.ensures.keeps in
    let content = c.in_ok-number.ensures.content in
    let hash = g.H.NameHash.hash_of c.args.hash.now in
    known_founded same content hash c.in_ok-directory.directory c.in_ok-named.named.name.now c.in_ok-number.spot c.args.id.0 c.args.numbers c.args.shared
    c.args.new c.in_ok-number.number c.put_system.new.store c.in_ok-put_system.ensures.keeps.elements c.in_ok-put_system.ensures.keeps.extents
    c.requires.balanced c.requires.known c.in_ok-number.ensures.unused (c.in_ok-put_system.ensures.ok hash)

pub returns-clause-room : goal.returns-clause-room
returns-clause-room g c =
    let same = same_twice c.in_ok-directory.ensures.keeps c.in_ok-find_inode.ensures.keeps in
    let stays = both_stay c.in_ok-put_system.ensures.borrowed (both_stay (c.in_ok-number.ensures.room.1, c.in_ok-number.ensures.room.2)
    (both_stay c.in_ok-find_inode.ensures.borrowed c.in_ok-directory.ensures.borrowed)) in (
      takes_charged g.T.HasRoom.room g.T.HasRoom.free reserves c.args.store.now c.put_system.new.store _
          (took_admitted g.T.HasRoom.room g.T.HasRoom.free reserves c.args.store.now c.find_inode.new.store c.check_system.new.store
          c.put_system.new.store same.room same.free c.in_ok-number.ensures.room.0.charges c.in_ok-put_system.ensures.space),
      stays.0,
      stays.1,
    )

pub returns-in_err-path-clause-gives : goal.returns-in_err-path-clause-gives
returns-in_err-path-clause-gives g c =
    let p = err_from_is_err_and c.from_residual.result c.from_residual.ensures.1 in
    rw (p.1, p.2) (word_gives c.args.id.0 (system_command c.args.new c.args.word.now c.args.shared) MakesName c.args.word.now
    (asks_system c.args.new c.args.word.now c.args.shared) (Err c.in_err-path.field-0.0) c.in_err-path.field-0.0 refl c.in_err-path.ensures.refused)

pub returns-in_err-named-clause-gives : goal.returns-in_err-named-clause-gives
returns-in_err-named-clause-gives g c =
    let p = err_from_is_err_and c.from_residual-in_err-named.result c.from_residual-in_err-named.ensures.1 in
    rw (p.1, p.2) (name_gives (g.H.NameHash.hash_of c.args.hash.now) c.args.id.0 c.course_before-course.result c.args.new c.args.word.now c.args.shared
    c.parts-parts.result.now (subst (IsPath c.args.word.now) (sym c.parts-parts.ensures) c.in_ok-path.ensures.ok)
    (g.T.HasElements.elements c.args.store.now) (g.T.HasRoom.extents c.args.store.now) c.course_before-course.ensures.last c.requires.id.1
    _ c.in_err-named.ensures.checks)

pub returns-in_err-directory-clause-gives : goal.returns-in_err-directory-clause-gives
returns-in_err-directory-clause-gives g c =
    let p = err_from_is_err_and c.from_residual-in_err-directory.result c.from_residual-in_err-directory.ensures.1 in
    let asked = system_asked c.args.id.0 c.course_before-course.result c.args.new c.args.word.now c.args.shared c.parts-parts.result.now
    c.course_before-course.ensures.last c.requires.id.1 (subst (IsPath c.args.word.now) (sym c.parts-parts.ensures) c.in_ok-path.ensures.ok)
    c.in_ok-named.ensures.checks in
    rw (p.1, p.2) (late_given c.args.new c.args.word.now c.args.shared asked _
    (c.in_err-directory.ensures.gives c.parts-parts.result.now c.in_ok-named.ensures.new))

pub returns-in_err-number-clause-gives : goal.returns-in_err-number-clause-gives
returns-in_err-number-clause-gives g c =
    let p = err_from_is_err_and c.from_residual-in_err-number.result c.from_residual-in_err-number.ensures.1 in
    let asked = system_asked c.args.id.0 c.course_before-course.result c.args.new c.args.word.now c.args.shared c.parts-parts.result.now
    c.course_before-course.ensures.last c.requires.id.1 (subst (IsPath c.args.word.now) (sym c.parts-parts.ensures) c.in_ok-path.ensures.ok)
    c.in_ok-named.ensures.checks in
    rw (p.1, p.2) (late_given c.args.new c.args.word.now c.args.shared asked _ c.in_err-number.ensures.gives)

pub returns-clause-given : goal.returns-clause-given
returns-clause-given g c =
    let asked = system_asked c.args.id.0 c.course_before-course.result c.args.new c.args.word.now c.args.shared c.parts-parts.result.now
    c.course_before-course.ensures.last c.requires.id.1 (subst (IsPath c.args.word.now) (sym c.parts-parts.ensures) c.in_ok-path.ensures.ok)
    c.in_ok-named.ensures.checks in
    end_given c.args.new c.args.word.now c.args.shared asked c.in_ok-number.number
