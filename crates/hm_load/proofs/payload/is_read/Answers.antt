use Rattle.std.proofs.Common.{◌≡◌, ◌≤◌, IsTrue, true≢false, sym, arith, length, length-take-le, take}
use Rattle.hm_load.proofs.PayloadLemmas.{has_long, read_payload}
use Rattle.hm_load.proofs.StoreLemmas.{told_so}
use Rattle.hm_load.proofs.payload.is_read.Goals as goal

pub returns-then-element-gt-MOST_PAYLOAD_BYTES-clause-ok : goal.returns-then-element-gt-MOST_PAYLOAD_BYTES-clause-ok
returns-then-element-gt-MOST_PAYLOAD_BYTES-clause-ok g c =
    told_so (g.D.Disk.told c.args.disk.now)
    (λ t room. (
      λ is. absurd (true≢false (sym is)),
      λ holds. absurd
          (has_long t.bytes c.args.volume.now.bigblocks c.args.element.now room c.if-element-gt-MOST_PAYLOAD_BYTES.true holds),
    ))
    c.requires.space

pub returns-clause-ok : goal.returns-clause-ok
returns-clause-ok g c =
    let few : c.args.element.now.len ≤ length c.args.buffer.now = omega (arith, c.requires.len, c.if-element-gt-MOST_PAYLOAD_BYTES.false) in
    let long : length (take c.args.element.now.len c.args.buffer.now) ≡ c.args.element.now.len = length-take-le c.args.element.now.len c.args.buffer.now
    few in
    told_so (g.D.Disk.told c.args.disk.now)
    (λ t same. read_payload t.bytes c.args.volume.now.bigblocks c.args.element.now c.read.new.buf c.byte.result
    (length (take c.args.element.now.len c.args.buffer.now))
    (IsTrue c.in_ok-is_spelled.field-0) same c.byte.ensures.value long (c.in_ok-is_spelled.ensures {u = tt}))
    c.in_ok-read.ensures.ok
