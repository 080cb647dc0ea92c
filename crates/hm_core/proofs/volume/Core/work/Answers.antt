-- A unit of an open call is done, or a stage made in its place.
use Rattle.std.proofs.Common.{ℕ, List, ap, subst, sym}
use Rattle.hm_relocate.specs.Leaving.{LeavesChoice}
use Rattle.hm_core.specs.Running.{choice_among}
use Rattle.hm_core.specs.Seen.{choice_of, seen}
use Rattle.hm_core.proofs.ChoiceLemmas.{none_left}
use Rattle.hm_core.proofs.WorkLemmas.{fault_lacks, stage_ends, stop_lacks, unit_done}
use Rattle.hm_core.proofs.volume.Core.work.Goals as goal

pub returns-in-Ok-Done-clause-works : goal.returns-in-Ok-Done-clause-works
returns-in-Ok-Done-clause-works g c =
    unit_done c.args.opening.0 (seen c.args.self.now) (seen c.do_unit.new.self) (rw c.in-Ok-Done.field-0-is at c.in-Ok-Done.ensures.does)

pub returns-in-Ok-clause-choice : goal.returns-in-Ok-clause-choice
returns-in-Ok-clause-choice g c =
    let s = c.args.self.now in
    let m = c.make_stage.new.self in
    let had = choice_of c.args.opening.0 s in
    let same = ap (λ v. choice_among c.args.opening.0 v.items) c.make_stage.ensures.running in
    subst (λ (l : List ℕ). LeavesChoice (seen s).heap (seen m).heap had l) (sym same) (none_left (seen s).heap (seen m).heap had)

pub returns-in-Err-clause-works : goal.returns-in-Err-clause-works
returns-in-Err-clause-works g c =
    stage_ends c.args.opening.0 (seen c.args.self.now) (seen c.make_stage.new.self) c.in-Err.fault c.failure.result c.in-Err.ensures.stage
    c.in-Err.ensures.cause c.failure.ensures

pub returns-in-Err-clause-space : goal.returns-in-Err-clause-space
returns-in-Err-clause-space g c =
    fault_lacks (choice_of c.args.opening.0 c.args.self.now) (seen c.args.self.now) c.in-Err.fault c.failure.result c.failure.ensures

pub returns-in-Err-do_unit-clause-space : goal.returns-in-Err-do_unit-clause-space
returns-in-Err-do_unit-clause-space g c =
    stop_lacks (choice_of c.args.opening.0 c.args.self.now) (seen c.args.self.now) c.in-Err-do_unit.fault c.stop_reply.result c.stop_reply.ensures
    c.in-Err-do_unit.ensures.space
