use Rattle.std.proofs.Common.{◌≡◌, ◌+◌, Option, IfSome, length, slice_range, subst, take}
use Rattle.hm_disk.specs.Crash.{Told}
use Rattle.hm_header.proofs.ReadLemmas.{slots-filled}
use Rattle.hm_header.proofs.read.read_slots.Goals as goal

pub returns-clause-ok : goal.returns-clause-ok
returns-clause-ok g c =
    let read = c.in_ok-read_at.ensures in
    let size = c.in_ok-size.ensures in
    slots-filled (g.D.Disk.told c.args.disk.now) c.in_ok-size.size c.min-count.result c.args.slots.now c.read_at.new.buf
    c.told-slots c.min-count.ensures size.ok
    (subst (λ (told : Option Told). IfSome told (λ t. c.read_at.new.buf ≡ slice_range t.bytes 0 (0 + length (take c.min-count.result c.args.slots.now))))
    size.same read.ok)
