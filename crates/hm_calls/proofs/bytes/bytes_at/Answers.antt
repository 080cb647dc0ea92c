use Rattle.std.proofs.Common.{◌≡◌, ◌-◌, ◌∙◌, arith, length, min, rules}
use Rattle.hm_calls.proofs.ReadLemmas.{asked_bytes, front_is}
use Rattle.hm_calls.proofs.bytes.bytes_at.Goals as goal

pub returns-clause-ok : goal.returns-clause-ok
returns-clause-ok g c =
    let buffer = c.read_bytes.new.buffer in
    let filled : length buffer ≡ c.in_ok-bytes.bytes.len = search rules in
    let same : c.of.result ≡ buffer = c.of.ensures ∙ front_is c.in_ok-bytes.bytes.len buffer _ filled in
    let long : length buffer ≡ min (c.args.size - c.args.offset) c.args.count = search rules in
    asked_bytes (g.T.HasElements.elements c.args.store.now) (g.T.HasRoom.extents c.args.store.now) c.args.file.now c.args.size c.args.offset c.args.count
    c.in_ok-read_bytes.field-0 buffer c.of.result same long c.in_ok-read_bytes.ensures.count
    (omega (arith, c.if-min-gt-MOST_FILE_BYTES.false, c.min.ensures)) c.ranges.count.fits c.in_ok-read_bytes.ensures.shown
