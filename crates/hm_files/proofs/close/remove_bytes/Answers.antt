use Rattle.std.proofs.Common.{◌^◌}
use Rattle.std.proofs.lemmas.Result.{on_ok_weaker}
use Rattle.hm_key.specs.Balance.{content_of}
use Rattle.hm_cursor.specs.Told.{fulls}
use Rattle.hm_cursor.proofs.CallLemmas.{writes_so}
use Rattle.hm_cursor.proofs.StoreLemmas.{nothing_known}
use Rattle.hm_files.specs.Close.{ClosesBytes, RemovesBytes}
use Rattle.hm_files.proofs.CloseLemmas.{bytes_removed}
use Rattle.hm_files.proofs.close.remove_bytes.Goals as goal

pub returns-clause-ok : goal.returns-clause-ok
returns-clause-ok g c =
    let elements = g.T.HasElements.elements in
    let extents = g.T.HasRoom.extents in
    let old = c.args.store.now in
    on_ok_weaker c.close_between.result
    (λ wrote. writes_so elements extents (ClosesBytes c.args.pfs.0 c.args.obj.0 c.args.id.0 0 (2 ^ 64))
    (RemovesBytes c.args.pfs.0 c.args.obj.0 c.args.id.0 (2 ^ 64)) (λ lists. Unit {0}) old c.close_between.new.store
    (nothing_known (content_of (elements old) (extents old)))
    (λ was es' known closes. bytes_removed c.args.pfs.0 c.args.obj.0 c.args.id.0 (2 ^ 64) (fulls was) es' closes) wrote)
    c.close_between.ensures.ok
