use Rattle.std.proofs.Common.{◌≡◌, arith}
use Rattle.hm_records.proofs.PlainLemmas.{bytes_all, bytes_more}
use Rattle.hm_records.proofs.plain.bytes.file_bytes.Goals as goal

pub loop-place-preserved : goal.loop-place-preserved
loop-place-preserved c =
    rw c.in_ok-push.ensures.items
    (bytes_more c.args.elements.now c.args.id c.args.pfs.0 c.args.obj.0 c.args.size c.loop-place.place c.byte_at.result c.loop-place.bytes.items
    c.loop-place.invariant c.byte_at.ensures)

pub returns : goal.returns
returns c =
    let done : c.loop-place.place ≡ c.args.size = omega (arith, c.loop-place.auto.place-end, c.loop-place-test.false) in
    bytes_all c.args.elements.now c.args.id c.args.pfs.0 c.args.obj.0 c.args.size c.loop-place.place c.loop-place.bytes.items done c.loop-place.invariant
