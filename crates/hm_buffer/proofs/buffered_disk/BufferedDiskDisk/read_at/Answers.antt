-- A short read is a part of its page.
use Rattle.std.proofs.Common.{◌/◌, arith, length, subst}
use Rattle.hm_buffer.specs.Held.{GivesPage}
use Rattle.hm_buffer.proofs.HeldLemmas.{read_held}
use Rattle.hm_buffer.proofs.buffered_disk.BufferedDiskDisk.read_at.Goals as goal

pub returns-in-Some-clause-ok : goal.returns-in-Some-clause-ok
returns-in-Some-clause-ok g c =
    read_held (g.D.Disk.told c.args.self.now.disk) c.args.place (length c.args.buf.now) c.in-Some.page.now c.copy_from_slice.new.self
    c.in-Some.ensures (omega (arith, c.if-buf-from.false)) c.copy_from_slice.ensures.after

pub returns-clause-ok : goal.returns-clause-ok
returns-clause-ok g c =
    read_held (g.D.Disk.told c.args.self.now.disk) c.args.place (length c.args.buf.now) c.read_page.new.page c.copy_from_slice-2.new.self
    (subst (λ told. GivesPage (c.args.place / 4096) c.read_page.new.page told) c.in_ok-has_page.ensures.same c.in_ok-read_page.ensures.ok)
    (omega (arith, c.if-buf-from.false)) c.copy_from_slice-2.ensures.after
