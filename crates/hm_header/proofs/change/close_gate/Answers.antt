use Rattle.hm_header.proofs.AnswerLemmas.{OnErr-map, OnOk-map}
use Rattle.hm_header.proofs.CloseLemmas.{closed-done, closed-elapses, open-done, open-elapses, open-failed, unwritten-elapses}
use Rattle.hm_header.proofs.change.close_gate.Goals as goal

pub returns-in_err-read_at-clause-any_moment : goal.returns-in_err-read_at-clause-any_moment
returns-in_err-read_at-clause-any_moment g c =
    let r = c.requires in
    unwritten-elapses c.args.header.now c.args.slot r.slot _ _ r.before c.in_err-read_at.ensures.same
    (g.D.Disk.left_since c.args.disk.now) (g.D.Disk.left_since c.read_at.new.self) c.in_err-read_at.ensures.any_moment

pub returns-then-gate-clause-ok : goal.returns-then-gate-clause-ok
returns-then-gate-clause-ok g c =
    let r = c.requires in
    let read = c.in_ok-read_at.ensures in
    OnOk-map _ _ _ (open-done c.args.header.now c.args.slot r.slot _ _ r.before read.same _ c.gate_place-place.result c.read_at.new.buf
    c.gate_place-place.ensures read.ok)
    c.write_synced.ensures.ok

pub returns-then-gate-clause-err : goal.returns-then-gate-clause-err
returns-then-gate-clause-err g c =
    let r = c.requires in
    let read = c.in_ok-read_at.ensures in
    OnErr-map _ _ _ (open-failed c.args.header.now c.args.slot r.slot _ _ r.before read.same _ c.gate_place-place.result c.read_at.new.buf
    c.gate_place-place.ensures read.ok c.if-gate.true)
    c.write_synced.ensures.err

pub returns-then-gate-clause-any_moment : goal.returns-then-gate-clause-any_moment
returns-then-gate-clause-any_moment g c =
    let r = c.requires in
    let read = c.in_ok-read_at.ensures in
    open-elapses c.args.header.now c.args.slot r.slot _ _ r.before read.same _ c.gate_place-place.result c.read_at.new.buf
    c.gate_place-place.ensures read.ok
    (g.D.Disk.left_since c.args.disk.now) (g.D.Disk.left_since c.read_at.new.self) _ read.any_moment c.if-gate.true c.write_synced.ensures.any_moment

pub returns-else-gate-clause-ok : goal.returns-else-gate-clause-ok
returns-else-gate-clause-ok g c =
    let r = c.requires in
    let read = c.in_ok-read_at.ensures in
    OnOk-map _ _ _ (closed-done c.args.header.now c.args.slot r.slot _ _ r.before read.same _ c.gate_place-place.result c.read_at.new.buf
    c.gate_place-place.ensures read.ok c.if-gate.false)
    c.sync.ensures.ok

pub returns-else-gate-clause-any_moment : goal.returns-else-gate-clause-any_moment
returns-else-gate-clause-any_moment g c =
    let r = c.requires in
    let read = c.in_ok-read_at.ensures in
    closed-elapses c.args.header.now c.args.slot r.slot _ _ r.before read.same _ c.gate_place-place.result c.read_at.new.buf
    c.gate_place-place.ensures read.ok
    (g.D.Disk.left_since c.args.disk.now) (g.D.Disk.left_since c.read_at.new.self) _ read.any_moment c.sync.ensures.any_moment
