use Rattle.std.proofs.Common.{ℕ, List, false, subst, ◌∙◌, Err}
use Rattle.std.proofs.lemmas.Result.{err_from_is_err_and, on_ok_weaker}
use Rattle.hm_key.specs.Balance.{content_of}
use Rattle.hm_cursor.specs.Told.{fulls}
use Rattle.hm_cursor.proofs.CallLemmas.{Change, Then, known_after, writes_both, writes_so}
use Rattle.hm_files.specs.Close.{AreOlder as AreBytesOlder}
use Rattle.hm_objects.specs.Objects.{IsOlder}
use Rattle.hm_dirs.specs.Names.{AreOlder, TakesName}
use Rattle.hm_calls.specs.Known.{AreBelow}
use Rattle.hm_calls.specs.Writes.{DropsLink, PutsName, ReplacesName, place_of_name}
use Rattle.hm_calls.proofs.CauseLemmas.{reading_cause_after}
use Rattle.hm_calls.proofs.DropLemmas.{bytes_older_still}
use Rattle.hm_calls.proofs.FileLemmas.{bytes_older}
use Rattle.hm_calls.proofs.NameStepLemmas.{name_replaced}
use Rattle.hm_calls.proofs.StepLemmas.{entries_older, entries_older_beside, entries_older_still, object_older, object_older_still, told_so}
use Rattle.hm_calls.proofs.rename.replace.Goals as goal

pub close_name-requires-clause-older : goal.close_name-requires-clause-older
close_name-requires-clause-older g c =
    let new = place_of_name c.args.new in
    told_so (content_of (g.T.HasElements.elements c.args.store.now) (g.T.HasRoom.extents c.args.store.now))
    (λ lists below. entries_older new.pfs c.args.id.0 new.directory (fulls lists) below) c.requires.below

pub close_name-requires-2-clause-older : goal.close_name-requires-2-clause-older
close_name-requires-2-clause-older g c =
    let hash = g.H.NameHash.hash_of c.args.hash.now in
    let i = c.args.id.0 in
    let old = place_of_name c.args.old in
    let new = place_of_name c.args.new in
    known_after g.T.HasElements.elements g.T.HasRoom.extents (TakesName hash new.pfs new.directory c.bytes.result.now i)
    (λ lists. AreBelow new.pfs i (fulls lists)) (AreOlder new.pfs old.directory i) c.args.store.now c.close_name.new.store
    c.in_ok-close_name.ensures.keeps.elements c.in_ok-close_name.ensures.keeps.extents c.requires.balanced c.requires.below
    (λ was mid below takes. entries_older_still new.pfs i old.directory (fulls was) mid takes.writes
    (entries_older new.pfs i old.directory (fulls was) below))
    c.in_ok-close_name.ensures.ok

pub returns-in_err-close_name-2-clause-cause : goal.returns-in_err-close_name-2-clause-cause
returns-in_err-close_name-2-clause-cause g c =
    let hash = g.H.NameHash.hash_of c.args.hash.now in
    let i = c.args.id.0 in
    let new = place_of_name c.args.new in
    let faults = g.T.Counted.faults in
    let p = err_from_is_err_and c.from_residual-in_err-close_name-2.result c.from_residual-in_err-close_name-2.ensures.1 in
    rw (p.1, p.2) (reading_cause_after g.T.HasElements.elements g.T.HasRoom.extents (TakesName hash new.pfs new.directory c.bytes.result.now i)
    c.args.store.now c.close_name.new.store (faults c.args.store.now) (faults c.close_name.new.store) (faults c.close_name-2.new.store)
    (Err c.in_err-close_name-2.field-0.0)
    c.in_ok-close_name.ensures.cause.counted.never_falls c.in_ok-close_name.ensures.ok c.in_ok-close_name.ensures.placed
    (record { counted = c.in_err-close_name-2.ensures.cause.counted; damage = c.in_err-close_name-2.ensures.cause.damage }))

pub drop_link-requires-clause-older : goal.drop_link-requires-clause-older
drop_link-requires-clause-older g c =
    let hash = g.H.NameHash.hash_of c.args.hash.now in
    let i = c.args.id.0 in
    let old = place_of_name c.args.old in
    let new = place_of_name c.args.new in
    let obj = c.args.there.obj.0 in
    let One : Change = TakesName hash new.pfs new.directory c.bytes.result.now i in
    let Two : Change = TakesName hash new.pfs old.directory c.bytes-2.result.now i in
    known_after g.T.HasElements.elements g.T.HasRoom.extents (Then One Two) (λ lists. AreBelow new.pfs i (fulls lists)) (IsOlder new.pfs obj i)
    c.args.store.now c.close_name-2.new.store
    (c.in_ok-close_name-2.ensures.keeps.elements ∙ c.in_ok-close_name.ensures.keeps.elements)
    (c.in_ok-close_name-2.ensures.keeps.extents ∙ c.in_ok-close_name.ensures.keeps.extents) c.requires.balanced c.requires.below
    (λ was es' below steps.
    let (mid, first, then) = steps in
    object_older_still new.pfs i obj mid es' then.writes
    (object_older_still new.pfs i obj (fulls was) mid first.writes (object_older new.pfs i obj (fulls was) below)))
    (writes_both g.T.HasElements.elements g.T.HasRoom.extents One Two c.args.store.now c.close_name.new.store c.close_name-2.new.store
    c.in_ok-close_name.ensures.ok c.in_ok-close_name-2.ensures.ok)

pub drop_link-requires-clause-bytes : goal.drop_link-requires-clause-bytes
drop_link-requires-clause-bytes g c =
    let hash = g.H.NameHash.hash_of c.args.hash.now in
    let i = c.args.id.0 in
    let old = place_of_name c.args.old in
    let new = place_of_name c.args.new in
    let obj = c.args.there.obj.0 in
    let One : Change = TakesName hash new.pfs new.directory c.bytes.result.now i in
    let Two : Change = TakesName hash new.pfs old.directory c.bytes-2.result.now i in
    known_after g.T.HasElements.elements g.T.HasRoom.extents (Then One Two) (λ lists. AreBelow new.pfs i (fulls lists)) (AreBytesOlder new.pfs obj i 0)
    c.args.store.now c.close_name-2.new.store
    (c.in_ok-close_name-2.ensures.keeps.elements ∙ c.in_ok-close_name.ensures.keeps.elements)
    (c.in_ok-close_name-2.ensures.keeps.extents ∙ c.in_ok-close_name.ensures.keeps.extents) c.requires.balanced c.requires.below
    (λ was es' below steps.
    let (mid, first, then) = steps in
    bytes_older_still new.pfs i obj mid es' then.writes
    (bytes_older_still new.pfs i obj (fulls was) mid first.writes (bytes_older new.pfs i obj (fulls was) below)))
    (writes_both g.T.HasElements.elements g.T.HasRoom.extents One Two c.args.store.now c.close_name.new.store c.close_name-2.new.store
    c.in_ok-close_name.ensures.ok c.in_ok-close_name-2.ensures.ok)

pub returns-in_err-drop_link-clause-cause : goal.returns-in_err-drop_link-clause-cause
returns-in_err-drop_link-clause-cause g c =
    let hash = g.H.NameHash.hash_of c.args.hash.now in
    let i = c.args.id.0 in
    let old = place_of_name c.args.old in
    let new = place_of_name c.args.new in
    let faults = g.T.Counted.faults in
    let p = err_from_is_err_and c.from_residual-in_err-drop_link.result c.from_residual-in_err-drop_link.ensures.1 in
    rw (p.1, p.2) (reading_cause_after g.T.HasElements.elements g.T.HasRoom.extents (TakesName hash new.pfs new.directory c.bytes.result.now i)
    c.args.store.now c.close_name.new.store (faults c.args.store.now) (faults c.close_name.new.store) (faults c.drop_link.new.store)
    (Err c.in_err-drop_link.field-0.0)
    c.in_ok-close_name.ensures.cause.counted.never_falls c.in_ok-close_name.ensures.ok c.in_ok-close_name.ensures.placed
    (reading_cause_after g.T.HasElements.elements g.T.HasRoom.extents (TakesName hash new.pfs old.directory c.bytes-2.result.now i)
    c.close_name.new.store c.close_name-2.new.store (faults c.close_name.new.store) (faults c.close_name-2.new.store) (faults c.drop_link.new.store)
    (Err c.in_err-drop_link.field-0.0)
    c.in_ok-close_name-2.ensures.cause.counted.never_falls c.in_ok-close_name-2.ensures.ok c.in_ok-close_name-2.ensures.placed
    (record { counted = c.in_err-drop_link.ensures.cause.counted; damage = c.in_err-drop_link.ensures.cause.damage })))

pub put_name-requires-clause-older : goal.put_name-requires-clause-older
put_name-requires-clause-older g c =
    let hash = g.H.NameHash.hash_of c.args.hash.now in
    let i = c.args.id.0 in
    let old = place_of_name c.args.old in
    let new = place_of_name c.args.new in
    let One : Change = TakesName hash new.pfs new.directory c.bytes.result.now i in
    let Two : Change = TakesName hash new.pfs old.directory c.bytes-2.result.now i in
    let Three : Change = DropsLink new.pfs i c.args.there.obj c.args.there.links in
    known_after g.T.HasElements.elements g.T.HasRoom.extents (Then (Then One Two) Three) (λ lists. AreBelow new.pfs i (fulls lists))
    (AreOlder new.pfs new.directory i) c.args.store.now c.drop_link.new.store
    (c.in_ok-drop_link.ensures.keeps.elements ∙ c.in_ok-close_name-2.ensures.keeps.elements ∙ c.in_ok-close_name.ensures.keeps.elements)
    (c.in_ok-drop_link.ensures.keeps.extents ∙ c.in_ok-close_name-2.ensures.keeps.extents ∙ c.in_ok-close_name.ensures.keeps.extents)
    c.requires.balanced c.requires.below
    (λ was es' below steps.
    let (two, (one, first, second), third) = steps in
    entries_older_beside new.pfs i c.args.there.obj.0 new.directory two es' third.changes.writes
    (entries_older_still new.pfs i new.directory one two second.writes
    (entries_older_still new.pfs i new.directory (fulls was) one first.writes (entries_older new.pfs i new.directory (fulls was) below))))
    (writes_both g.T.HasElements.elements g.T.HasRoom.extents (Then One Two) Three c.args.store.now c.close_name-2.new.store c.drop_link.new.store
    (writes_both g.T.HasElements.elements g.T.HasRoom.extents One Two c.args.store.now c.close_name.new.store c.close_name-2.new.store
    c.in_ok-close_name.ensures.ok c.in_ok-close_name-2.ensures.ok)
    c.in_ok-drop_link.ensures.ok)

pub returns-clause-ok : goal.returns-clause-ok
returns-clause-ok g c =
    let hash = g.H.NameHash.hash_of c.args.hash.now in
    let i = c.args.id.0 in
    let old = place_of_name c.args.old in
    let new = place_of_name c.args.new in
    let there = c.args.there in
    let One : Change = TakesName hash new.pfs new.directory c.bytes.result.now i in
    let Two : Change = TakesName hash new.pfs old.directory c.bytes-2.result.now i in
    let Three : Change = DropsLink new.pfs i there.obj there.links in
    let Four : Change = PutsName new (record { key = there.key; hidden = false }) i c.args.moved.obj c.args.moved.kind in
    on_ok_weaker c.put_name.result
    (λ put. writes_so g.T.HasElements.elements g.T.HasRoom.extents (Then (Then (Then One Two) Three) Four)
    (ReplacesName hash old new there.key i c.args.moved.obj c.args.moved.kind there.obj there.links) (λ lists. AreBelow new.pfs i (fulls lists))
    c.args.store.now
    c.put_name.new.store c.requires.below
    (λ was es' below steps.
    let (three, (two, (one, first, second), third), last) = steps in
    name_replaced hash old new there.key i c.args.moved.obj c.args.moved.kind there.obj there.links (fulls was) one two three es'
    (subst (λ (name : List ℕ). TakesName hash new.pfs new.directory name i (fulls was) one) c.bytes.ensures first)
    (subst (λ (name : List ℕ). TakesName hash new.pfs old.directory name i one two) c.bytes-2.ensures second) third last)
    (writes_both g.T.HasElements.elements g.T.HasRoom.extents (Then (Then One Two) Three) Four c.args.store.now c.drop_link.new.store c.put_name.new.store
    (writes_both g.T.HasElements.elements g.T.HasRoom.extents (Then One Two) Three c.args.store.now c.close_name-2.new.store c.drop_link.new.store
    (writes_both g.T.HasElements.elements g.T.HasRoom.extents One Two c.args.store.now c.close_name.new.store c.close_name-2.new.store
    c.in_ok-close_name.ensures.ok c.in_ok-close_name-2.ensures.ok)
    c.in_ok-drop_link.ensures.ok)
    put))
    c.put_name.ensures.ok
