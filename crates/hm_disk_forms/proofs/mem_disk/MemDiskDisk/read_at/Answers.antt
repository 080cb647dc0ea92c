use Rattle.std.proofs.Common.{◌≡◌, ◌+◌, ◌≤◌, ◌∙◌, sym, ap, arith, rules, length, get_or}
use Rattle.hm_disk_forms.specs.Pages.{byte_in_pages}
use Rattle.hm_disk_forms.specs.MemDisk.{DiskState, told_of}
use Rattle.hm_disk_forms.proofs.SoundLemmas.{range_read}
use Rattle.hm_disk_forms.proofs.mem_disk.MemDiskDisk.read_at.Goals as goal

pub read-requires : goal.read-requires
read-requires c =
    let sized : length (told_of c.args.self.now).bytes ≡ c.self.inside.size =
    ap (λ (d : DiskState). length (told_of d).bytes) (sym c.self.view_is) ∙ c.self.invariant.sized in
    record { range = omega arith }

pub returns-clause-ok : goal.returns-clause-ok
returns-clause-ok c =
    let view = c.self.view_is in
    let sized : length (told_of c.args.self.now).bytes ≡ c.self.inside.size =
    ap (λ (d : DiskState). length (told_of d).bytes) (sym c.self.view_is) ∙ c.self.invariant.sized in
    let within : c.args.place + length c.args.buf.now ≤ length (told_of c.args.self.now).bytes = c.requires.within in
    let long : length c.read.new.buf ≡ length c.args.buf.now = search rules in
    rw (← long) (range_read _ c.read.new.buf c.args.place (byte_in_pages c.self.inside.pages) (omega arith) (λ i below. c.read.ensures i (omega arith))
    (λ byte below. c.self.invariant.reads byte (omega arith) ∙ ap (λ (d : DiskState). get_or (told_of d).bytes byte 0) view))
