use Rattle.std.proofs.Common.{◌*◌, ◌∙◌, ap, arith, length}
use Rattle.hm_disk_forms.specs.MemDisk.{DiskState, told_of}
use Rattle.hm_disk_forms.proofs.SoundLemmas.{length-zeros}
use Rattle.hm_disk_forms.proofs.mem_disk.MemDisk.new.Goals as goal

pub returns-clause-sized : goal.returns-clause-sized
returns-clause-sized c =
    ap (λ (d : DiskState). length (told_of d).bytes) c.of_size.ensures ∙ (length-zeros (c.from.result * 8388608) ∙ omega arith)
