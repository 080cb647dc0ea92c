use Rattle.std.proofs.Common.{refl}
use Rattle.hm_shell.specs.Devices.{Sight, sight}
use Rattle.hm_shell.specs.Seen.{seen}
use Rattle.hm_shell.specs.Words.{texts}
use Rattle.hm_shell.proofs.EndLemmas.{HasEnded-from, status_from, stopped_from}
use Rattle.hm_shell.proofs.ExactLemmas.{Brings-ended}
use Rattle.hm_shell.proofs.run.run.Goals as goal

pub returns-clause-exact : goal.returns-clause-exact
returns-clause-exact g c =
    let words = texts c.args.words.now in
    let past = g.D.Disk.left_since c.args.devices.disk in
    let since = g.D.Disk.left_since c.perform-devices.result.0.disk in
    let old : Sight = sight c.args.devices in
    let mid : Sight = sight c.perform-devices.result.0 in
    let new : Sight = record mid { out = seen g.K.Sink.held g.K.Sink.faults c.end-status.new.out } in
    Brings-ended words past since old new c.end-status.result (HasEnded-from words past since old mid new c.perform-devices.result.1 c.end-status.result
    c.perform-devices.ensures.ok c.perform-devices.ensures.err c.end-status.ensures.done c.end-status.ensures.stopped refl refl)

pub returns-clause-statuses : goal.returns-clause-statuses
returns-clause-statuses g c =
    let words = texts c.args.words.now in
    let past = g.D.Disk.left_since c.args.devices.disk in
    let since = g.D.Disk.left_since c.perform-devices.result.0.disk in
    let old : Sight = sight c.args.devices in
    let mid : Sight = sight c.perform-devices.result.0 in
    let new : Sight = record mid { out = seen g.K.Sink.held g.K.Sink.faults c.end-status.new.out } in
    status_from words past since old new c.end-status.result (HasEnded-from words past since old mid new c.perform-devices.result.1 c.end-status.result
    c.perform-devices.ensures.ok c.perform-devices.ensures.err c.end-status.ensures.done c.end-status.ensures.stopped refl refl)

pub returns-clause-stopped : goal.returns-clause-stopped
returns-clause-stopped g c =
    let words = texts c.args.words.now in
    let past = g.D.Disk.left_since c.args.devices.disk in
    let since = g.D.Disk.left_since c.perform-devices.result.0.disk in
    let old : Sight = sight c.args.devices in
    let mid : Sight = sight c.perform-devices.result.0 in
    let new : Sight = record mid { out = seen g.K.Sink.held g.K.Sink.faults c.end-status.new.out } in
    stopped_from words past since old new c.end-status.result (HasEnded-from words past since old mid new c.perform-devices.result.1 c.end-status.result
    c.perform-devices.ensures.ok c.perform-devices.ensures.err c.end-status.ensures.done c.end-status.ensures.stopped refl refl)
