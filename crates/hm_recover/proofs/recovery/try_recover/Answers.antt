use Rattle.std.proofs.Common.{◌∙◌, ◌<◌, arith}
use Rattle.std.proofs.lemmas.Result.{IfErr-weaker, IfOk-at_ok}
use Rattle.hm_disk.proofs.MomentLemmas.{SameLeft-then}
use Rattle.hm_recover.proofs.AnswerLemmas.{IfOk-map}
use Rattle.hm_recover.proofs.RecoverLemmas.{checked-whole, range-stops, reads-keep, reads-recover, untouched-all}
use Rattle.hm_recover.proofs.recovery.try_recover.Goals as goal

pub returns-in_err-answer-clause-any_moment : goal.returns-in_err-answer-clause-any_moment
returns-in_err-answer-clause-any_moment g c =
    untouched-all (g.D.Disk.left_since c.args.disk.now) (g.D.Disk.left_since c.read_header.new.disk) (g.D.Disk.told c.args.disk.now)
    (g.D.Disk.told c.read_header.new.disk) c.read_header.ensures.same c.read_header.ensures.any_moment

pub returns-in-Err-clause-any_moment : goal.returns-in-Err-clause-any_moment
returns-in-Err-clause-any_moment g c =
    untouched-all (g.D.Disk.left_since c.args.disk.now) (g.D.Disk.left_since c.read_header.new.disk) (g.D.Disk.told c.args.disk.now)
    (g.D.Disk.told c.read_header.new.disk) c.read_header.ensures.same c.read_header.ensures.any_moment

pub returns-then-header-eq0-clause-any_moment : goal.returns-then-header-eq0-clause-any_moment
returns-then-header-eq0-clause-any_moment g c =
    untouched-all (g.D.Disk.left_since c.args.disk.now) (g.D.Disk.left_since c.read_header.new.disk) (g.D.Disk.told c.args.disk.now)
    (g.D.Disk.told c.read_header.new.disk) c.read_header.ensures.same c.read_header.ensures.any_moment

pub returns-in_err-check_range-clause-any_moment : goal.returns-in_err-check_range-clause-any_moment
returns-in_err-check_range-clause-any_moment g c =
    untouched-all (g.D.Disk.left_since c.args.disk.now) (g.D.Disk.left_since c.check_range.new.disk) (g.D.Disk.told c.args.disk.now)
    (g.D.Disk.told c.check_range.new.disk) (c.check_range.ensures.same ∙ c.read_header.ensures.same)
    (SameLeft-then _ _ _ c.read_header.ensures.any_moment c.check_range.ensures.any_moment)

pub returns-clause-any_moment : goal.returns-clause-any_moment
returns-clause-any_moment g c =
    reads-keep (g.D.Disk.left_since c.args.disk.now) (g.D.Disk.left_since c.check_range.new.disk) (g.D.Disk.left_since c.undo_range.new.disk)
    (g.D.Disk.told c.args.disk.now) (g.D.Disk.told c.check_range.new.disk) (g.D.Disk.told c.undo_range.new.disk)
    (c.check_range.ensures.same ∙ c.read_header.ensures.same)
    (SameLeft-then _ _ _ c.read_header.ensures.any_moment c.check_range.ensures.any_moment) c.undo_range.ensures.any_moment

pub returns-clause-ok : goal.returns-clause-ok
returns-clause-ok g c =
    IfOk-map c.undo_range.result _ _
    (λ opened. reads-recover (g.D.Disk.left_since c.args.disk.now) (g.D.Disk.left_since c.check_range.new.disk) (g.D.Disk.left_since c.undo_range.new.disk)
    (g.D.Disk.told c.args.disk.now) (g.D.Disk.told c.check_range.new.disk) (g.D.Disk.told c.undo_range.new.disk)
    (c.check_range.ensures.same ∙ c.read_header.ensures.same)
    (SameLeft-then _ _ _ c.read_header.ensures.any_moment c.check_range.ensures.any_moment) opened) c.undo_range.ensures.ok

pub returns-clause-err : goal.returns-clause-err
returns-clause-err g c =
    let some : 0 < c.in-Ok.answer.0.undo_count = omega (arith, c.if-header-eq0.false) in
    let whole = checked-whole (g.D.Disk.told c.args.disk.now) (g.D.Disk.told c.read_header.new.disk) c.in-Ok.answer.0 c.in-Ok.answer.1
    c.read_header.ensures.same some (IfOk-at_ok _ c.in-Ok.is c.in_ok-answer.ensures.chosen) c.in_ok-check_range.ensures.ok in
    IfErr-weaker c.undo_range.result _ _
    (λ stop failed. range-stops (g.D.Disk.left_since c.args.disk.now) (g.D.Disk.left_since c.check_range.new.disk) (g.D.Disk.left_since c.undo_range.new.disk)
    (g.D.Disk.told c.args.disk.now) (g.D.Disk.told c.check_range.new.disk) (g.D.Disk.told c.undo_range.new.disk) stop
    (c.check_range.ensures.same ∙ c.read_header.ensures.same) whole c.undo_range.ensures.any_moment failed) c.undo_range.ensures.err
