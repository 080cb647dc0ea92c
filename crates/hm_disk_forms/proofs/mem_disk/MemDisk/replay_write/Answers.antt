use Rattle.std.proofs.Common.{arith}
use Rattle.std.proofs.lemmas.List.{places}
use Rattle.std.proofs.lemmas.Result.{on_ok_weaker}
use Rattle.hm_disk_forms.proofs.CrashedLemmas.{keeps-put}
use Rattle.hm_disk_forms.proofs.mem_disk.MemDisk.replay_write.Goals as goal

pub returns-in-Write : goal.returns-in-Write
returns-in-Write c = on_ok_weaker c.put.result (keeps-put c.args.self.now c.put.new.self c.args.change.now c.in-Write.place c.in-Write.count _ _
    c.in-Write.is c.requires.fits (grind (arith, places, c.bytes-bytes.ensures))) c.put.ensures.ok
