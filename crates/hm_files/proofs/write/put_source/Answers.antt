use Rattle.std.proofs.Common.{◌≡◌, ◌+◌, ◌-◌, ◌/◌, length, max, rules}
use Rattle.std.proofs.lemmas.Result.{on_ok_weaker}
use Rattle.hm_key.specs.Balance.{IsBalanced}
use Rattle.hm_key.specs.Elements.{IsContent}
use Rattle.hm_cursor.specs.Told.{fulls}
use Rattle.hm_files.specs.Source.{bytes_of}
use Rattle.hm_files.specs.Write.{ClearsWay, PutsBefore, WritesBytes}
use Rattle.hm_files.proofs.SpanLemmas.{bytes_written}
use Rattle.hm_files.proofs.TellLemmas.{known_elements, writes_via}
use Rattle.hm_files.proofs.write.put_source.Goals as goal

pub returns-clause-ok : goal.returns-clause-ok
returns-clause-ok g c =
    let elements = g.T.HasElements.elements in
    let extents = g.T.HasRoom.extents in
    let pfs = c.args.pfs.0 in
    let obj = c.args.obj.0 in
    let i = c.args.id.0 in
    let size = c.args.size in
    let offset = c.args.offset in
    let bytes = bytes_of c.args.source in
    let blocks = (offset + length bytes - 1) / 16384 + 1 in
    let old = c.args.store.now in
    let mid = c.clear_way.new.store in
    let new = c.put_pieces.new.store in
    let after : c.max-after.result ≡ max size (offset + length bytes) = search rules in
    on_ok_weaker c.put_pieces.result
    (λ wrote. writes_via elements extents (ClearsWay pfs obj i size offset) (PutsBefore pfs obj i size (max size (offset + length bytes)) offset bytes blocks)
    (WritesBytes pfs obj i size offset bytes) (λ lists. IsBalanced lists.0 lists.1) (λ lists. IsContent lists.0) old mid new
    (λ was mid es' known content balanced way puts. bytes_written pfs obj i size offset bytes (fulls was) (fulls mid) es' c.requires.some way puts)
    c.requires.balanced (known_elements (elements mid) (extents mid) IsContent (g.met.T.ElementStore.sorted mid))
    c.in_ok-clear_way.ensures.ok (rw after at wrote))
    c.put_pieces.ensures.ok
