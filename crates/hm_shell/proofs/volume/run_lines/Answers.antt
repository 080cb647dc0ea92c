use Rattle.std.proofs.Common.{sym, subst}
use Rattle.std.specs.Prelude.{IfErr, OnOk}
use Rattle.hm_core.specs.Seen.{devices as devices_of, seen as seen_core}
use Rattle.hm_shell.specs.Seen.{seen}
use Rattle.hm_shell.specs.Serving.{StopsUsing, UsesAll}
use Rattle.hm_shell.proofs.volume.run_lines.Goals as goal

pub returns-clause-ok : goal.returns-clause-ok
returns-clause-ok g c =
    subst (λ d. OnOk c.use_core-outcome.result (UsesAll c.args.lines.items (g.D.Disk.left_since (devices_of c.args.core).disk) (g.D.Disk.left_since d)
    (seen_core c.args.core) (seen g.D.Disk.told g.D.Disk.faults d) (g.K.Sink.held c.args.out.now) (g.K.Sink.held c.use_core-outcome.new.out)))
    (sym c.into_devices-disk.ensures.disk_is) c.use_core-outcome.ensures.ok

pub returns-clause-err : goal.returns-clause-err
returns-clause-err g c =
    subst (λ d. IfErr c.use_core-outcome.result (StopsUsing c.args.lines.items (g.D.Disk.left_since (devices_of c.args.core).disk) (g.D.Disk.left_since d)
    (seen_core c.args.core) (seen g.D.Disk.told g.D.Disk.faults d)
    (seen g.K.Sink.held g.K.Sink.faults c.args.out.now) (seen g.K.Sink.held g.K.Sink.faults c.use_core-outcome.new.out)))
    (sym c.into_devices-disk.ensures.disk_is) c.use_core-outcome.ensures.err
