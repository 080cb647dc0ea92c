use Rattle.std.proofs.Common.{◌-◌}
use Rattle.hm_disk.proofs.DiskLemmas.{BothTell-map, BothTell-then, IfSome-then, BothTell-and}
use Rattle.hm_header.specs.Change.{AnyCrash, HasNextBody, IsClosedBeside, IsCounting, StageElapses}
use Rattle.hm_header.specs.OnDisk.{gate_place, slot_place}
use Rattle.hm_header.proofs.AnswerLemmas.{OnErr-all, OnErr-map, OnOk-map}
use Rattle.hm_header.proofs.ChangeLemmas.{Closing, body-elapses, changes, close-elapses, failed-body, failed-close}
use Rattle.hm_header.proofs.ChangeLemmas.{failed-open, open-elapses, prepared, settled-any}
use Rattle.hm_header.proofs.change.change_header.Goals as goal

pub returns-in_err-close_gate-clause-err : goal.returns-in_err-close_gate-clause-err
returns-in_err-close_gate-clause-err g c =
    let r = c.requires in
    OnErr-all _ _ (BothTell-map _ _ (AnyCrash (IsCounting c.args.header.now c.args.slot)) _ _
    (λ s t safe failed. failed-close c.args.header.now c.args.next.now c.args.slot r.slot s t failed) r.before c.in_err-close_gate.ensures.err)

pub returns-in_err-close_gate-clause-any_moment : goal.returns-in_err-close_gate-clause-any_moment
returns-in_err-close_gate-clause-any_moment g c =
    let r = c.requires in
    BothTell-map _ _ (AnyCrash (IsCounting c.args.header.now c.args.slot)) _ _
    (λ s t safe time. close-elapses c.args.header.now c.args.next.now c.args.slot r.slot _ _ s t time) r.before c.in_err-close_gate.ensures.any_moment

pub write_body-requires-clause-before : goal.write_body-requires-clause-before
write_body-requires-clause-before g c =
    IfSome-then _ _ (AnyCrash (IsCounting c.args.header.now c.args.slot)) (AnyCrash (IsClosedBeside c.args.header.now c.args.slot)) _
    (λ s t safe closing. settled-any (IsClosedBeside c.args.header.now c.args.slot) t closing.settled closing.has) c.requires.before
    c.in_ok-close_gate.ensures.ok

pub returns-in_err-write_body-clause-err : goal.returns-in_err-write_body-clause-err
returns-in_err-write_body-clause-err g c =
    let r = c.requires in
    OnErr-all _ _ (BothTell-then _ _ _ (AnyCrash (IsCounting c.args.header.now c.args.slot)) _ _ _
    (λ s t u safe closing failed. failed-body c.args.header.now c.args.next.now c.args.slot r.slot s t u closing failed)
    r.before c.in_ok-close_gate.ensures.ok c.in_err-write_body.ensures.err)

pub returns-in_err-write_body-clause-any_moment : goal.returns-in_err-write_body-clause-any_moment
returns-in_err-write_body-clause-any_moment g c =
    let r = c.requires in
    let first = c.in_ok-close_gate.ensures in
    let past = g.D.Disk.left_since c.args.disk.now in
    let middle = g.D.Disk.left_since c.close_gate.new.disk in
    let since = g.D.Disk.left_since c.write_body.new.disk in
    BothTell-then (g.D.Disk.told c.args.disk.now) (g.D.Disk.told c.close_gate.new.disk) (g.D.Disk.told c.write_body.new.disk)
    (AnyCrash (IsCounting c.args.header.now c.args.slot))
    (λ s t. Closing c.args.header.now c.args.next.now c.args.slot r.slot s t × StageElapses (IsCounting c.args.header.now c.args.slot)
    (gate_place (1 - c.args.slot)) 1 past middle s t)
    (StageElapses (IsClosedBeside c.args.header.now c.args.slot) (slot_place (1 - c.args.slot)) 16383 middle since) _
    (λ s t u safe p then. body-elapses c.args.header.now c.args.next.now c.args.slot r.slot past middle since s t u p.0 p.1 then)
    r.before (BothTell-and _ _ _ _ first.ok first.any_moment) c.in_err-write_body.ensures.any_moment

pub open_gate-requires-clause-before : goal.open_gate-requires-clause-before
open_gate-requires-clause-before g c =
    IfSome-then _ _ (AnyCrash (IsClosedBeside c.args.header.now c.args.slot)) (AnyCrash (HasNextBody c.args.header.now c.args.slot c.args.next.now)) _
    (λ s t safe writing. settled-any (HasNextBody c.args.header.now c.args.slot c.args.next.now) t writing.settled writing.has.1)
    (IfSome-then _ _ (AnyCrash (IsCounting c.args.header.now c.args.slot)) (AnyCrash (IsClosedBeside c.args.header.now c.args.slot)) _
    (λ s t safe closing. settled-any (IsClosedBeside c.args.header.now c.args.slot) t closing.settled closing.has) c.requires.before
    c.in_ok-close_gate.ensures.ok)
    c.in_ok-write_body.ensures.ok

pub returns-clause-ok : goal.returns-clause-ok
returns-clause-ok g c =
    let r = c.requires in
    let first = c.in_ok-close_gate.ensures in
    let then = c.in_ok-write_body.ensures in
    let past = g.D.Disk.left_since c.args.disk.now in
    let later = g.D.Disk.left_since c.write_body.new.disk in
    let ready = prepared c.args.header.now c.args.next.now c.args.slot r.slot past
    (g.D.Disk.left_since c.close_gate.new.disk) later _ _ _ r.before first.ok first.any_moment then.ok then.any_moment in
    OnOk-map _ _ _ (BothTell-then _ _ _ (AnyCrash (IsCounting c.args.header.now c.args.slot)) _ _ _
    (λ s u v safe p opening. changes c.args.header.now c.args.next.now c.args.slot r.slot past later s u v p opening) r.before ready) c.open_gate.ensures.ok

pub returns-clause-err : goal.returns-clause-err
returns-clause-err g c =
    let r = c.requires in
    let first = c.in_ok-close_gate.ensures in
    let then = c.in_ok-write_body.ensures in
    let past = g.D.Disk.left_since c.args.disk.now in
    let later = g.D.Disk.left_since c.write_body.new.disk in
    let ready = prepared c.args.header.now c.args.next.now c.args.slot r.slot past
    (g.D.Disk.left_since c.close_gate.new.disk) later _ _ _ r.before first.ok first.any_moment then.ok then.any_moment in
    OnErr-map _ _ _ (BothTell-then _ _ _ (AnyCrash (IsCounting c.args.header.now c.args.slot)) _ _ _
    (λ s u v safe p failed. failed-open c.args.header.now c.args.next.now c.args.slot r.slot past later s u v p failed) r.before ready) c.open_gate.ensures.err

pub returns-clause-any_moment : goal.returns-clause-any_moment
returns-clause-any_moment g c =
    let r = c.requires in
    let first = c.in_ok-close_gate.ensures in
    let then = c.in_ok-write_body.ensures in
    let past = g.D.Disk.left_since c.args.disk.now in
    let later = g.D.Disk.left_since c.write_body.new.disk in
    let since = g.D.Disk.left_since c.open_gate.new.disk in
    let ready = prepared c.args.header.now c.args.next.now c.args.slot r.slot past
    (g.D.Disk.left_since c.close_gate.new.disk) later _ _ _ r.before first.ok first.any_moment then.ok then.any_moment in
    BothTell-then _ _ _ (AnyCrash (IsCounting c.args.header.now c.args.slot)) _ _ _
    (λ s u v safe p opening. open-elapses c.args.header.now c.args.next.now c.args.slot r.slot past later s u v p since opening) r.before ready
    c.open_gate.ensures.any_moment
