use Rattle.std.proofs.Common.{◌*◌, ◌/◌, refl}
use Rattle.std.proofs.lemmas.Result.{on_ok_weaker}
use Rattle.hm_key.specs.Balance.{IsBalanced}
use Rattle.hm_cursor.specs.Told.{fulls}
use Rattle.hm_cursor.proofs.CallLemmas.{writes_none, writes_so}
use Rattle.hm_files.specs.Put.{CutsBytes}
use Rattle.hm_files.specs.Write.{ClearsWay}
use Rattle.hm_files.proofs.SpanLemmas.{way_clear, way_cut}
use Rattle.hm_files.proofs.write.clear_way.Goals as goal

pub returns-then-size-offset-clause-ok : goal.returns-then-size-offset-clause-ok
returns-then-size-offset-clause-ok g c =
    let elements = g.T.HasElements.elements in
    let extents = g.T.HasRoom.extents in
    let pfs = c.args.pfs.0 in
    let obj = c.args.obj.0 in
    let i = c.args.id.0 in
    let size = c.args.size in
    let offset = c.args.offset in
    let old = c.args.store.now in
    on_ok_weaker c.cut_bytes.result
    (λ wrote. writes_so elements extents (CutsBytes pfs obj i size size (offset / 16384 * 16384)) (ClearsWay pfs obj i size offset)
    (λ lists. IsBalanced lists.0 lists.1) old
    c.cut_bytes.new.store c.requires.balanced
    (λ was es' known cuts. way_cut pfs obj i size offset (fulls was) es' c.if-size-offset.true cuts) wrote)
    c.cut_bytes.ensures.ok

pub returns-clause-ok : goal.returns-clause-ok
returns-clause-ok g c =
    let elements = g.T.HasElements.elements in
    let extents = g.T.HasRoom.extents in
    let pfs = c.args.pfs.0 in
    let obj = c.args.obj.0 in
    let i = c.args.id.0 in
    let size = c.args.size in
    let offset = c.args.offset in
    let old = c.args.store.now in
    writes_none elements extents (ClearsWay pfs obj i size offset) (λ lists. IsBalanced lists.0 lists.1) old old refl refl c.requires.balanced
    (λ was known. way_clear pfs obj i size offset (fulls was) c.if-size-offset.false)
