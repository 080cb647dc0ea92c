use Rattle.std.proofs.Common.{Option, subst, arith}
use Rattle.hm_types.specs.Told.{BothTell}
use Rattle.hm_disk.specs.Crash.{Told}
use Rattle.hm_newfs.specs.Volume.{MakesVolume}
use Rattle.hm_core.proofs.OpeningLemmas.{has_room, made}
use Rattle.hm_core.proofs.making.newfs.Goals as goal

pub returns-in-Ok-write_volume-clause-ok : goal.returns-in-Ok-write_volume-clause-ok
returns-in-Ok-write_volume-clause-ok g c =
    let old = g.D.Disk.told c.args.disk.now in
    let new = g.D.Disk.told c.write_volume.new.disk in
    made c.args.bigblocks old new c.requires.size
    (has_room old c.in-Ok.size c.args.bigblocks (omega (arith, c.if-size-from.false)) c.in-Ok.ensures.ok)
    (subst (λ (told : Option Told). BothTell told new (MakesVolume c.args.bigblocks)) c.size.ensures.same c.in-Ok-write_volume.ensures.ok)
