use Rattle.std.proofs.Common.{ap, inl, refl}
use Rattle.hm_core.specs.Seen.{devices as devices_of, seen as seen_core}
use Rattle.hm_shell.specs.Seen.{seen}
use Rattle.hm_shell.proofs.OpenLemmas.{StoppedOpening-mount, leaves_only, made_not_err}
use Rattle.hm_shell.proofs.RunLemmas.{RunsAll-opened, StoppedRunning-opened}
use Rattle.hm_shell.proofs.volume.run_on.Goals as goal

pub returns-in-Ok-clause-ok : goal.returns-in-Ok-clause-ok
returns-in-Ok-clause-ok g c =
    let made = made_not_err c.args.job.newfs (g.D.Disk.told c.args.disk) (g.D.Disk.told c.make_volume.new.disk) c.make_volume.result c.make_volume.ensures.ok
    c.in_default.not-Err in
    let past = g.D.Disk.left_since c.make_volume.new.disk in
    RunsAll-opened c.args.job.newfs c.args.job.lines.items c.requires.due.each (seen g.D.Disk.told g.D.Disk.faults c.args.disk)
    (seen g.D.Disk.told g.D.Disk.faults c.make_volume.new.disk) (seen g.D.Disk.told g.D.Disk.faults c.run_lines.result.disk) (seen_core c.in-Ok.core)
    (g.D.Disk.left_since c.args.disk) past (g.D.Disk.left_since (devices_of c.in-Ok.core).disk) (g.D.Disk.left_since c.run_lines.result.disk)
    made c.make_volume.ensures.never_falls c.in-Ok.ensures.ok c.in-Ok.ensures.disk
    (leaves_only (g.D.Disk.told c.make_volume.new.disk) past (g.met.D.Disk.only_now c.make_volume.new.disk))
    (g.K.Sink.held c.args.out.now) (g.K.Sink.held c.run_lines.new.out) c.run_lines.result.outcome c.run_lines.ensures.ok

pub returns-in-Ok-clause-err : goal.returns-in-Ok-clause-err
returns-in-Ok-clause-err g c =
    let made = made_not_err c.args.job.newfs (g.D.Disk.told c.args.disk) (g.D.Disk.told c.make_volume.new.disk) c.make_volume.result c.make_volume.ensures.ok
    c.in_default.not-Err in
    let past = g.D.Disk.left_since c.make_volume.new.disk in
    StoppedRunning-opened c.args.job.newfs c.args.job.lines.items c.requires.due.each (seen g.D.Disk.told g.D.Disk.faults c.args.disk)
    (seen g.D.Disk.told g.D.Disk.faults c.make_volume.new.disk) (seen g.D.Disk.told g.D.Disk.faults c.run_lines.result.disk) (seen_core c.in-Ok.core)
    (g.D.Disk.left_since c.args.disk) past (g.D.Disk.left_since (devices_of c.in-Ok.core).disk) (g.D.Disk.left_since c.run_lines.result.disk)
    made c.make_volume.ensures.never_falls c.in-Ok.ensures.ok c.in-Ok.ensures.disk
    (leaves_only (g.D.Disk.told c.make_volume.new.disk) past (g.met.D.Disk.only_now c.make_volume.new.disk))
    (seen g.K.Sink.held g.K.Sink.faults c.args.out.now) (seen g.K.Sink.held g.K.Sink.faults c.run_lines.new.out)
    c.run_lines.result.outcome c.run_lines.ensures.err

pub returns-in-Err-mount-clause-err : goal.returns-in-Err-mount-clause-err
returns-in-Err-mount-clause-err g c =
    let made = made_not_err c.args.job.newfs (g.D.Disk.told c.args.disk) (g.D.Disk.told c.make_volume.new.disk) c.make_volume.result c.make_volume.ensures.ok
    c.in_default.not-Err in
    let past = g.D.Disk.left_since c.make_volume.new.disk in
    rw c.of_open.ensures (inl (
      StoppedOpening-mount (g.D.Disk.left_since c.args.disk) past (g.D.Disk.left_since c.in-Err-mount.disk)
          c.in-Err-mount.fault c.args.job.newfs (seen g.D.Disk.told g.D.Disk.faults c.args.disk)
          (seen g.D.Disk.told g.D.Disk.faults c.make_volume.new.disk) (seen g.D.Disk.told g.D.Disk.faults c.in-Err-mount.disk) made
          (λ none. ap g.D.Disk.left_since (c.make_volume.ensures.as_was none)) c.in-Err-mount.ensures.err
          (leaves_only (g.D.Disk.told c.make_volume.new.disk) past (g.met.D.Disk.only_now c.make_volume.new.disk)) c.make_volume.ensures.never_falls
          c.in-Err-mount.ensures.cause.1,
      refl,
    ))
