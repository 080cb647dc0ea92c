use Rattle.std.specs.Prelude.{IfSome}
use Rattle.hm_key.specs.Counts.{subject_of}
use Rattle.hm_key.specs.Key.{key_of}
use Rattle.hm_cursor.specs.Version.{IsNewestMadeOf}
use Rattle.hm_cursor.proofs.CloseLemmas.{all_closed, became_if_closed, became_same, became_since, newest_stands, newest_told}
use Rattle.hm_cursor.proofs.CloseLemmas.{shut_closed, shut_late, shut_none, where_ok}
use Rattle.hm_cursor.proofs.WriteLemmas.{placed_closed, placed_same, placed_twice}
use Rattle.hm_cursor.proofs.write.close_versions.Goals as goal

pub returns-in_default-clause-ok : goal.returns-in_default-clause-ok
returns-in_default-clause-ok g c =
    let s = subject_of (key_of c.args.at.now) in
    let i = c.args.id.0 in
    let was = g.T.HasElements.elements c.args.store.now in
    let now = g.T.HasElements.elements c.newest_made.new.store in
    let was_xs = g.T.HasRoom.extents c.args.store.now in
    let now_xs = g.T.HasRoom.extents c.newest_made.new.store in
    let searched = c.in_ok-newest.ensures in
    let same = searched.keeps in
    all_closed s i was now was_xs now_xs c.requires.fresh (became_same s i was now was_xs now_xs same.elements same.extents)
    (shut_none s i c.in_ok-newest.field-0 was now same.elements c.in_default.is searched.ok)

pub returns-then-newest-id-clause-ok : goal.returns-then-newest-id-clause-ok
returns-then-newest-id-clause-ok g c =
    let s = subject_of (key_of c.args.at.now) in
    let i = c.args.id.0 in
    let newest = c.in-Some.newest in
    let was = g.T.HasElements.elements c.args.store.now in
    let now = g.T.HasElements.elements c.newest_made.new.store in
    let was_xs = g.T.HasRoom.extents c.args.store.now in
    let now_xs = g.T.HasRoom.extents c.newest_made.new.store in
    let searched = c.in_ok-newest.ensures in
    let same = searched.keeps in
    let told = newest_told s i c.in_ok-newest.field-0 newest was c.in-Some.is searched.found searched.ok in
    all_closed s i was now was_xs now_xs c.requires.fresh (became_same s i was now was_xs now_xs same.elements same.extents)
    (shut_late s i newest was now same.elements told.0 c.if-newest-id.true told.1)

pub close_if_open-requires-clause-there : goal.close_if_open-requires-clause-there
close_if_open-requires-clause-there g c =
    let s = subject_of (key_of c.args.at.now) in
    let i = c.args.id.0 in
    let was = g.T.HasElements.elements c.args.store.now in
    let searched = c.in_ok-newest.ensures in
    let told = newest_told s i c.in_ok-newest.field-0 c.in-Some.newest was c.in-Some.is searched.found searched.ok in
    rw searched.keeps.elements (newest_stands s i c.in-Some.newest was (g.met.T.ElementStore.sorted c.args.store.now) told.1)

pub returns-clause-ok : goal.returns-clause-ok
returns-clause-ok g c =
    let s = subject_of (key_of c.args.at.now) in
    let i = c.args.id.0 in
    let newest = c.in-Some.newest in
    let was = g.T.HasElements.elements c.args.store.now in
    let here = g.T.HasElements.elements c.newest_made.new.store in
    let now = g.T.HasElements.elements c.close_if_open.new.store in
    let was_xs = g.T.HasRoom.extents c.args.store.now in
    let here_xs = g.T.HasRoom.extents c.newest_made.new.store in
    let now_xs = g.T.HasRoom.extents c.close_if_open.new.store in
    let searched = c.in_ok-newest.ensures in
    let same = searched.keeps in
    let sorted = g.met.T.ElementStore.sorted c.newest_made.new.store in
    let told = newest_told s i c.in_ok-newest.field-0 newest was c.in-Some.is searched.found searched.ok in
    let still : IfSome here (λ list. IsNewestMadeOf list s i newest) = rw same.elements told.1 in
    where_ok c.close_if_open.result
    (λ closed.
    all_closed s i was now was_xs now_xs c.requires.fresh
    (became_since s i was here now was_xs here_xs now_xs same.elements same.extents
    (became_if_closed s i newest told.0 here now here_xs now_xs closed.elements closed.extents (newest_stands s i newest here sorted still)))
    (shut_closed s i newest told.0 here now c.if-newest-id.false sorted (g.met.T.ElementStore.sorted c.close_if_open.new.store) closed.elements still))
    c.close_if_open.ensures.ok

pub returns-clause-placed : goal.returns-clause-placed
returns-clause-placed g c =
    let s = subject_of (key_of c.args.at.now) in
    let i = c.args.id.0 in
    let newest = c.in-Some.newest in
    let was = g.T.HasElements.elements c.args.store.now in
    let here = g.T.HasElements.elements c.newest_made.new.store in
    let now = g.T.HasElements.elements c.close_if_open.new.store in
    let was_xs = g.T.HasRoom.extents c.args.store.now in
    let here_xs = g.T.HasRoom.extents c.newest_made.new.store in
    let now_xs = g.T.HasRoom.extents c.close_if_open.new.store in
    let searched = c.in_ok-newest.ensures in
    let same = searched.keeps in
    let told = newest_told s i c.in_ok-newest.field-0 newest was c.in-Some.is searched.found searched.ok in
    let there = newest_stands s i newest here (g.met.T.ElementStore.sorted c.newest_made.new.store) (rw same.elements told.1) in
    where_ok c.close_if_open.result
    (λ closed.
    placed_twice was here now was_xs here_xs now_xs
    (placed_same was here was_xs here_xs same.elements same.extents)
    (placed_closed newest i here now here_xs now_xs closed.elements closed.extents there))
    c.close_if_open.ensures.ok
