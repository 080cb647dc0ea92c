use Rattle.std.proofs.Common.{sym, subst}
use Rattle.std.specs.Prelude.{OnErr, OnOk}
use Rattle.hm_core.specs.Seen.{devices as devices_of, seen as seen_core}
use Rattle.hm_shell.specs.Seen.{seen}
use Rattle.hm_shell.specs.Serving.{Served, ServedInPart}
use Rattle.hm_shell.proofs.PrintLemmas.{on_err}
use Rattle.hm_shell.proofs.ServeLemmas.{ServedInPart-none, behind_after, part_after, served_after}
use Rattle.hm_shell.proofs.serve.serve_script.Goals as goal

-- the disk is as it was while room was made
pub returns-in_err-reserve-clause-err : goal.returns-in_err-reserve-clause-err
returns-in_err-reserve-clause-err g c =
    let old = seen_core c.args.core.now in
    let new = seen_core c.reserve.new.self in
    let out = seen g.K.Sink.held g.K.Sink.faults c.args.out.now in
    on_err c.from_residual.result
    (subst (λ d. ServedInPart c.args.lines.items (g.D.Disk.left_since (devices_of c.args.core.now).disk) (g.D.Disk.left_since d.disk) old new
    out out) (sym c.reserve.ensures.streams)
    (ServedInPart-none c.args.lines.items (g.D.Disk.left_since (devices_of c.args.core.now).disk) old new out
    c.core_is_sound.ensures c.reserve.ensures.keeps c.requires.start))

pub returns-clause-ok : goal.returns-clause-ok
returns-clause-ok g c =
    let new = seen_core c.serve_lines.new.core in
    let left = g.D.Disk.left_since (devices_of c.serve_lines.new.core).disk in
    served_after c.args.lines.items (g.D.Disk.left_since (devices_of c.args.core.now).disk) left (seen_core c.args.core.now)
    (seen_core c.reserve.new.self) new c.core_is_sound.ensures c.reserve.ensures.keeps
    (g.K.Sink.held c.args.out.now) (g.K.Sink.held c.serve_lines.new.out) c.serve_lines.result
    (subst (λ d. OnOk c.serve_lines.result (Served c.args.lines.items (g.D.Disk.left_since d.disk) left (seen_core c.reserve.new.self) new
    (g.K.Sink.held c.args.out.now) (g.K.Sink.held c.serve_lines.new.out))) c.reserve.ensures.streams c.serve_lines.ensures.ok)

pub returns-clause-behind : goal.returns-clause-behind
returns-clause-behind g c =
    behind_after c.args.lines.items (g.D.Disk.left_since (devices_of c.args.core.now).disk)
    (g.D.Disk.left_since (devices_of c.serve_lines.new.core).disk) (seen_core c.args.core.now) (seen_core c.reserve.new.self)
    (seen_core c.serve_lines.new.core) c.core_is_sound.ensures c.reserve.ensures.keeps c.serve_lines.result c.serve_lines.ensures.behind

pub returns-clause-err : goal.returns-clause-err
returns-clause-err g c =
    let new = seen_core c.serve_lines.new.core in
    let left = g.D.Disk.left_since (devices_of c.serve_lines.new.core).disk in
    let before = seen g.K.Sink.held g.K.Sink.faults c.args.out.now in
    let after = seen g.K.Sink.held g.K.Sink.faults c.serve_lines.new.out in
    part_after c.args.lines.items (g.D.Disk.left_since (devices_of c.args.core.now).disk) left (seen_core c.args.core.now)
    (seen_core c.reserve.new.self) new c.core_is_sound.ensures c.reserve.ensures.keeps before after c.serve_lines.result
    (subst (λ d. OnErr c.serve_lines.result (ServedInPart c.args.lines.items (g.D.Disk.left_since d.disk) left (seen_core c.reserve.new.self) new
    before after)) c.reserve.ensures.streams c.serve_lines.ensures.err)
