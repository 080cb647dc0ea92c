use Rattle.std.proofs.Common.{ℕ, List, subst}
use Rattle.std.proofs.lemmas.Result.{on_ok_weaker}
use Rattle.hm_types.specs.Tree.{without_object}
use Rattle.hm_key.specs.Balance.{content_of}
use Rattle.hm_cursor.specs.Told.{fulls}
use Rattle.hm_cursor.proofs.CallLemmas.{Change, Then, known_after, writes_both, writes_ok, writes_so}
use Rattle.hm_objects.specs.Objects.{ChangesBy, IsGone, IsOlder}
use Rattle.hm_dirs.specs.Names.{TakesName}
use Rattle.hm_calls.specs.Known.{AreBelow}
use Rattle.hm_calls.specs.Writes.{TakesDirectory, place_in}
use Rattle.hm_calls.proofs.NameStepLemmas.{directory_taken}
use Rattle.hm_calls.proofs.StepLemmas.{entries_older, object_older, object_older_still, told_so}
use Rattle.hm_calls.proofs.take.take_directory.Goals as goal

pub close_name-requires-clause-older : goal.close_name-requires-clause-older
close_name-requires-clause-older g c =
    let at = c.args.directory.now.at in
    told_so (content_of (g.T.HasElements.elements c.args.store.now) (g.T.HasRoom.extents c.args.store.now))
    (λ lists below. entries_older at.pfs.0 c.args.id.0 at.object (fulls lists) below) c.requires.below

pub remove_object-requires-clause-older : goal.remove_object-requires-clause-older
remove_object-requires-clause-older g c =
    let at = c.args.directory.now.at in
    known_after g.T.HasElements.elements g.T.HasRoom.extents
    (TakesName (g.H.NameHash.hash_of c.args.hash.now) at.pfs.0 at.object c.bytes.result.now c.args.id.0)
    (λ lists. AreBelow at.pfs.0 c.args.id.0 (fulls lists)) (IsOlder at.pfs.0 c.args.obj.0 c.args.id.0) c.args.store.now c.close_name.new.store
    c.in_ok-close_name.ensures.keeps.elements c.in_ok-close_name.ensures.keeps.extents c.requires.balanced c.requires.below
    (λ was mid below takes. object_older_still at.pfs.0 c.args.id.0 c.args.obj.0 (fulls was) mid takes.writes
    (object_older at.pfs.0 c.args.id.0 c.args.obj.0 (fulls was) below))
    c.in_ok-close_name.ensures.ok

pub returns-clause-ok : goal.returns-clause-ok
returns-clause-ok g c =
    let at = c.args.directory.now.at in
    let hash = g.H.NameHash.hash_of c.args.hash.now in
    let place = place_in c.args.directory.now c.args.name.now in
    let One : Change = TakesName hash at.pfs.0 at.object c.bytes.result.now c.args.id.0 in
    let Goes : Change = ChangesBy at.pfs.0 c.args.obj.0 c.args.id.0 (λ tree. without_object tree c.args.obj) in
    let Leaves : Change = λ _ es. IsGone at.pfs.0 c.args.obj.0 c.args.id.0 es in
    let Other : Change = λ es es'. Goes es es' × Leaves es es' in
    on_ok_weaker c.remove_object.result
    (λ second. writes_so g.T.HasElements.elements g.T.HasRoom.extents (Then One Other) (TakesDirectory hash place c.args.id.0 c.args.obj)
    (λ lists. AreBelow at.pfs.0 c.args.id.0 (fulls lists)) c.args.store.now c.remove_object.new.store c.requires.below
    (λ was es' below steps.
    let (mid, first, then) = steps in
    directory_taken hash place c.args.id.0 c.args.obj (fulls was) mid es'
    (subst (λ (name : List ℕ). TakesName hash at.pfs.0 at.object name c.args.id.0 (fulls was) mid) c.bytes.ensures first) then.0 then.1)
    (writes_both g.T.HasElements.elements g.T.HasRoom.extents One Other c.args.store.now c.close_name.new.store c.remove_object.new.store
    c.in_ok-close_name.ensures.ok second))
    (writes_ok g.T.HasElements.elements g.T.HasRoom.extents Goes Leaves c.close_name.new.store c.remove_object.new.store c.remove_object.result
    c.remove_object.ensures.ok c.remove_object.ensures.gone)
