use Rattle.std.proofs.Common.{◌^◌, Ok}
use Rattle.std.proofs.lemmas.Result.{on_ok_weaker}
use Rattle.hm_types.specs.Tree.{without_object}
use Rattle.hm_cursor.specs.Told.{fulls}
use Rattle.hm_key.specs.Balance.{IsBalanced}
use Rattle.hm_cursor.proofs.CallLemmas.{Change, Then, known_after, writes_both, writes_ok, writes_so}
use Rattle.hm_files.specs.Close.{AreOlder, RemovesBytes}
use Rattle.hm_objects.specs.Objects.{ChangesBy, IsGone}
use Rattle.hm_calls.specs.Writes.{DropsObject}
use Rattle.hm_calls.proofs.CauseLemmas.{store_cause_after}
use Rattle.hm_calls.proofs.DropLemmas.{object_dropped}
use Rattle.hm_calls.proofs.FileLemmas.{bytes_older_beside}
use Rattle.hm_calls.proofs.take.drop_object.Goals as goal

pub remove_bytes-requires-clause-older : goal.remove_bytes-requires-clause-older
remove_bytes-requires-clause-older g c =
    let pfs = c.args.pfs.0 in
    let obj = c.args.obj.0 in
    let i = c.args.id.0 in
    known_after g.T.HasElements.elements g.T.HasRoom.extents (ChangesBy pfs obj i (λ tree. without_object tree c.args.obj))
    (λ lists. AreOlder pfs obj i 0 (fulls lists)) (AreOlder pfs obj i 0) c.args.store.now c.remove_object.new.store
    c.in_ok-remove_object.ensures.keeps.elements c.in_ok-remove_object.ensures.keeps.extents c.requires.balanced c.requires.bytes
    (λ was mid older changes. bytes_older_beside pfs i obj (fulls was) mid changes.writes older)
    c.in_ok-remove_object.ensures.ok

pub returns-clause-ok : goal.returns-clause-ok
returns-clause-ok g c =
    let elements = g.T.HasElements.elements in
    let extents = g.T.HasRoom.extents in
    let pfs = c.args.pfs.0 in
    let obj = c.args.obj in
    let i = c.args.id.0 in
    let old = c.args.store.now in
    let mid = c.remove_object.new.store in
    let new = c.remove_bytes.new.store in
    let Goes : Change = ChangesBy pfs obj.0 i (λ tree. without_object tree obj) in
    let Leaves : Change = λ _ es. IsGone pfs obj.0 i es in
    let One : Change = λ es es'. Goes es es' × Leaves es es' in
    let Two : Change = RemovesBytes pfs obj.0 i (2 ^ 64) in
    on_ok_weaker c.remove_bytes.result
    (λ wrote. writes_so elements extents (Then One Two) (DropsObject pfs i obj) (λ lists. IsBalanced lists.0 lists.1) old new c.requires.balanced
    (λ was es' known steps.
    let (middle, first, second) = steps in
    object_dropped pfs i obj (fulls was) middle es' first.0 first.1 second)
    (writes_both elements extents One Two old mid new
    (writes_ok elements extents {T = Unit {0}} {E = Unit {0}} Goes Leaves old mid (Ok tt) c.in_ok-remove_object.ensures.ok
    c.in_ok-remove_object.ensures.gone) wrote))
    c.remove_bytes.ensures.ok

pub returns-clause-cause : goal.returns-clause-cause
returns-clause-cause g c =
    store_cause_after g.T.HasElements.elements g.T.HasRoom.extents
    (ChangesBy c.args.pfs.0 c.args.obj.0 c.args.id.0 (λ tree. without_object tree c.args.obj)) c.args.store.now c.remove_object.new.store
    (g.T.Counted.faults c.args.store.now) (g.T.Counted.faults c.remove_object.new.store) (g.T.Counted.faults c.remove_bytes.new.store)
    c.remove_bytes.result c.in_ok-remove_object.ensures.cause.counted.never_falls c.in_ok-remove_object.ensures.ok c.remove_bytes.ensures.cause
