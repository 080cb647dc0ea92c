use Rattle.std.proofs.Common.{ℕ, List, replicate, sym, subst}
use Rattle.std.proofs.lemmas.Result.{on_ok_weaker}
use Rattle.hm_key.specs.Balance.{content_of}
use Rattle.hm_cursor.specs.Told.{fulls}
use Rattle.hm_cursor.proofs.CallLemmas.{writes_so}
use Rattle.hm_cursor.proofs.StoreLemmas.{nothing_known}
use Rattle.hm_files.specs.Put.{ResizesBytes}
use Rattle.hm_files.specs.Write.{WritesBytes}
use Rattle.hm_calls.specs.Edits.{ChangesBytes, edited, size_after}
use Rattle.hm_calls.specs.declared.edit.Edit.TheVariants.{Fill, Truncate, Write}
use Rattle.hm_calls.proofs.FileLemmas.{bytes_filled, bytes_resized, bytes_written}
use Rattle.hm_calls.proofs.files.put_edit.Goals as goal

pub returns-in-Write-clause-ok : goal.returns-in-Write-clause-ok
returns-in-Write-clause-ok g c =
    let elements = g.T.HasElements.elements in
    let extents = g.T.HasRoom.extents in
    let pfs = c.args.pfs.0 in
    let obj = c.args.obj.0 in
    let i = c.args.id.0 in
    let size = c.args.size in
    let old = c.args.store.now in
    rw c.in-Write.is (on_ok_weaker c.write_bytes.result
    (λ wrote. writes_so elements extents (WritesBytes pfs obj i size c.in-Write.offset c.bytes.result.now)
    (ChangesBytes pfs obj i size (size_after (Write c.in-Write.offset c.in-Write.bytes) size) (edited (Write c.in-Write.offset c.in-Write.bytes)))
    (λ lists. Unit {0}) old
    c.write_bytes.new.store (nothing_known (content_of (elements old) (extents old)))
    (λ was es' known w. subst (λ (b : List ℕ). WritesBytes pfs obj i size c.in-Write.offset b (fulls was) es' → ChangesBytes pfs obj i size
    (size_after (Write c.in-Write.offset c.in-Write.bytes) size) (edited (Write c.in-Write.offset c.in-Write.bytes)) (fulls was) es')
    (sym c.bytes.ensures)
    (λ x. bytes_written pfs obj i size c.in-Write.offset c.in-Write.bytes.now (fulls was) es' x) w) wrote)
    c.write_bytes.ensures.ok)

pub returns-in-Fill-clause-ok : goal.returns-in-Fill-clause-ok
returns-in-Fill-clause-ok g c =
    let elements = g.T.HasElements.elements in
    let extents = g.T.HasRoom.extents in
    let pfs = c.args.pfs.0 in
    let obj = c.args.obj.0 in
    let i = c.args.id.0 in
    let size = c.args.size in
    let old = c.args.store.now in
    rw c.in-Fill.is (on_ok_weaker c.fill_bytes.result
    (λ wrote. writes_so elements extents (WritesBytes pfs obj i size c.in-Fill.offset (replicate c.in-Fill.count c.in-Fill.byte))
    (ChangesBytes pfs obj i size (size_after (Fill c.in-Fill.offset c.in-Fill.count c.in-Fill.byte) size)
    (edited (Fill c.in-Fill.offset c.in-Fill.count c.in-Fill.byte))) (λ lists. Unit {0}) old
    c.fill_bytes.new.store (nothing_known (content_of (elements old) (extents old)))
    (λ was es' known w. bytes_filled pfs obj i size c.in-Fill.offset c.in-Fill.count c.in-Fill.byte (fulls was) es' w) wrote)
    c.fill_bytes.ensures.ok)

pub returns-in-Truncate-clause-ok : goal.returns-in-Truncate-clause-ok
returns-in-Truncate-clause-ok g c =
    let elements = g.T.HasElements.elements in
    let extents = g.T.HasRoom.extents in
    let pfs = c.args.pfs.0 in
    let obj = c.args.obj.0 in
    let i = c.args.id.0 in
    let size = c.args.size in
    let old = c.args.store.now in
    rw c.in-Truncate.is (on_ok_weaker c.resize_bytes.result
    (λ wrote. writes_so elements extents (ResizesBytes pfs obj i size c.in-Truncate.to) (ChangesBytes pfs obj i size
    (size_after (Truncate c.in-Truncate.to) size) (edited (Truncate c.in-Truncate.to))) (λ lists. Unit {0}) old
    c.resize_bytes.new.store (nothing_known (content_of (elements old) (extents old)))
    (λ was es' known w. bytes_resized pfs obj i size c.in-Truncate.to (fulls was) es' w) wrote)
    c.resize_bytes.ensures.ok)
