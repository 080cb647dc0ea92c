use Rattle.std.proofs.lemmas.Result.{err_from_is_err_and}
use Rattle.hm_model.specs.Due.{has_id}
use Rattle.hm_model.specs.Sites.{Parts}
use Rattle.hm_calls.proofs.PlaceLemmas.{end_lost, name_lost, name_stands, none_apart}
use Rattle.hm_calls.proofs.places.reach_name.Goals as goal

pub returns-in_err-directory-clause-ok : goal.returns-in_err-directory-clause-ok
returns-in_err-directory-clause-ok g c =
    let p = err_from_is_err_and c.from_residual.result c.from_residual.ensures.1 in
    rw (p.1, p.2) (name_lost (g.T.HasElements.elements c.args.store.now) (g.T.HasRoom.extents c.args.store.now) c.args.course
    (g.met.T.ElementStore.sorted c.args.store.now) (g.H.NameHash.hash_of c.args.hash.now) c.args.parts.now c.in-Some.front.now c.in-Some.last.now
    c.in-Some.ensures.cases.0 c.in_err-directory.field-0.0 c.in_err-directory.ensures.ok)

pub returns-in_err-end-clause-ok : goal.returns-in_err-end-clause-ok
returns-in_err-end-clause-ok g c =
    let p = err_from_is_err_and c.from_residual-in_err-end.result c.from_residual-in_err-end.ensures.1 in
    rw (p.1, p.2) (end_lost (g.T.HasElements.elements c.args.store.now) (g.T.HasRoom.extents c.args.store.now) c.args.course
    (g.met.T.ElementStore.sorted c.args.store.now) (g.H.NameHash.hash_of c.args.hash.now) c.args.parts.now c.in-Some.front.now c.in-Some.last.now
    c.in-Some.ensures.cases.0 c.in_ok-directory.directory (g.T.HasElements.elements c.reach.new.store) (g.T.HasRoom.extents c.reach.new.store)
    c.in_ok-directory.ensures.keeps.elements c.in_ok-directory.ensures.keeps.extents c.in_ok-directory.ensures.ok c.in_err-end.field-0.0
    c.in_err-end.ensures.ok)

pub returns-clause-ok : goal.returns-clause-ok
returns-clause-ok g c =
    name_stands (g.T.HasElements.elements c.args.store.now) (g.T.HasRoom.extents c.args.store.now) c.args.course (g.met.T.ElementStore.sorted c.args.store.now)
    (g.H.NameHash.hash_of c.args.hash.now) c.args.parts.now c.in-Some.front.now c.in-Some.last.now c.in-Some.ensures.cases.0 c.in_ok-directory.directory
    (g.T.HasElements.elements c.reach.new.store) (g.T.HasRoom.extents c.reach.new.store) c.in_ok-directory.ensures.keeps.elements
    c.in_ok-directory.ensures.keeps.extents c.in_ok-directory.ensures.ok c.in_ok-end.end c.in_ok-end.ensures.ok

pub returns-in_err-end-clause-gives : goal.returns-in_err-end-clause-gives
returns-in_err-end-clause-gives g c =
    let p = err_from_is_err_and c.from_residual-in_err-end.result c.from_residual-in_err-end.ensures.1 in
    λ name named. rw (p.1, p.2) (c.in_err-end.ensures.gives (has_id (Parts c.args.parts.now)) (λ none.
    let apart = none_apart c.args.parts.now c.in-Some.front.now c.in-Some.last.now c.in-Some.ensures.cases.0 none in
    (apart.1, c.in_ok-directory.ensures.now apart.0)))
