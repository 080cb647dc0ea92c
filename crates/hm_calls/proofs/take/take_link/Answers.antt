use Rattle.std.proofs.Common.{ℕ, List, subst}
use Rattle.std.proofs.lemmas.Result.{on_ok_weaker}
use Rattle.hm_key.specs.Balance.{content_of}
use Rattle.hm_cursor.specs.Told.{fulls}
use Rattle.hm_cursor.proofs.CallLemmas.{Change, Then, known_after, writes_both, writes_so}
use Rattle.hm_files.specs.Close.{AreOlder}
use Rattle.hm_objects.specs.Objects.{IsOlder}
use Rattle.hm_dirs.specs.Names.{TakesName}
use Rattle.hm_calls.specs.Known.{AreBelow}
use Rattle.hm_calls.specs.Writes.{DropsLink, TakesLink, place_in}
use Rattle.hm_calls.proofs.CauseLemmas.{reading_cause_after}
use Rattle.hm_calls.proofs.DropLemmas.{bytes_older_still}
use Rattle.hm_calls.proofs.FileLemmas.{bytes_older}
use Rattle.hm_calls.proofs.NameStepLemmas.{link_taken}
use Rattle.hm_calls.proofs.StepLemmas.{entries_older, object_older, object_older_still, told_so}
use Rattle.hm_calls.proofs.take.take_link.Goals as goal

pub close_name-requires-clause-older : goal.close_name-requires-clause-older
close_name-requires-clause-older g c =
    let at = c.args.directory.now.at in
    told_so (content_of (g.T.HasElements.elements c.args.store.now) (g.T.HasRoom.extents c.args.store.now))
    (λ lists below. entries_older at.pfs.0 c.args.id.0 at.object (fulls lists) below) c.requires.below

pub drop_link-requires-clause-older : goal.drop_link-requires-clause-older
drop_link-requires-clause-older g c =
    let at = c.args.directory.now.at in
    known_after g.T.HasElements.elements g.T.HasRoom.extents
    (TakesName (g.H.NameHash.hash_of c.args.hash.now) at.pfs.0 at.object c.bytes.result.now c.args.id.0)
    (λ lists. AreBelow at.pfs.0 c.args.id.0 (fulls lists)) (IsOlder at.pfs.0 c.args.obj.0 c.args.id.0) c.args.store.now c.close_name.new.store
    c.in_ok-close_name.ensures.keeps.elements c.in_ok-close_name.ensures.keeps.extents c.requires.balanced c.requires.below
    (λ was mid below takes. object_older_still at.pfs.0 c.args.id.0 c.args.obj.0 (fulls was) mid takes.writes
    (object_older at.pfs.0 c.args.id.0 c.args.obj.0 (fulls was) below))
    c.in_ok-close_name.ensures.ok

pub drop_link-requires-clause-bytes : goal.drop_link-requires-clause-bytes
drop_link-requires-clause-bytes g c =
    let at = c.args.directory.now.at in
    known_after g.T.HasElements.elements g.T.HasRoom.extents
    (TakesName (g.H.NameHash.hash_of c.args.hash.now) at.pfs.0 at.object c.bytes.result.now c.args.id.0)
    (λ lists. AreBelow at.pfs.0 c.args.id.0 (fulls lists)) (AreOlder at.pfs.0 c.args.obj.0 c.args.id.0 0) c.args.store.now c.close_name.new.store
    c.in_ok-close_name.ensures.keeps.elements c.in_ok-close_name.ensures.keeps.extents c.requires.balanced c.requires.below
    (λ was mid below takes. bytes_older_still at.pfs.0 c.args.id.0 c.args.obj.0 (fulls was) mid takes.writes
    (bytes_older at.pfs.0 c.args.id.0 c.args.obj.0 (fulls was) below))
    c.in_ok-close_name.ensures.ok

pub returns-clause-ok : goal.returns-clause-ok
returns-clause-ok g c =
    let at = c.args.directory.now.at in
    let hash = g.H.NameHash.hash_of c.args.hash.now in
    let place = place_in c.args.directory.now c.args.name.now in
    let One : Change = TakesName hash at.pfs.0 at.object c.bytes.result.now c.args.id.0 in
    let Other : Change = DropsLink at.pfs.0 c.args.id.0 c.args.obj c.args.links in
    on_ok_weaker c.drop_link.result
    (λ second. writes_so g.T.HasElements.elements g.T.HasRoom.extents (Then One Other)
    (TakesLink hash place c.args.id.0 c.args.obj c.args.links) (λ lists. AreBelow at.pfs.0 c.args.id.0 (fulls lists)) c.args.store.now
    c.drop_link.new.store c.requires.below
    (λ was es' below steps.
    let (mid, first, then) = steps in
    link_taken hash place c.args.id.0 c.args.obj c.args.links (fulls was) mid es'
    (subst (λ (name : List ℕ). TakesName hash at.pfs.0 at.object name c.args.id.0 (fulls was) mid) c.bytes.ensures first) then)
    (writes_both g.T.HasElements.elements g.T.HasRoom.extents One Other c.args.store.now c.close_name.new.store c.drop_link.new.store
    c.in_ok-close_name.ensures.ok second))
    c.drop_link.ensures.ok

pub returns-clause-cause : goal.returns-clause-cause
returns-clause-cause g c =
    let at = c.args.directory.now.at in
    reading_cause_after g.T.HasElements.elements g.T.HasRoom.extents
    (TakesName (g.H.NameHash.hash_of c.args.hash.now) at.pfs.0 at.object c.bytes.result.now c.args.id.0) c.args.store.now c.close_name.new.store
    (g.T.Counted.faults c.args.store.now) (g.T.Counted.faults c.close_name.new.store) (g.T.Counted.faults c.drop_link.new.store) c.drop_link.result
    c.in_ok-close_name.ensures.cause.counted.never_falls c.in_ok-close_name.ensures.ok c.in_ok-close_name.ensures.placed c.drop_link.ensures.cause
