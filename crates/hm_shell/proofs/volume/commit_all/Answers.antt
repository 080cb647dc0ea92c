use Rattle.std.proofs.Common.{Bool, refl, subst}
use Rattle.std.specs.Prelude.{Ok}
use Rattle.hm_core.specs.Seen.{seen as seen_core}
use Rattle.hm_core.specs.Staged.{EndsBy}
use Rattle.hm_core.proofs.CoreLemmas.{follows_further}
use Rattle.hm_shell.proofs.CommitLemmas.{commits_all, size_at_end, so_far_more, waits_at_end, write_cause}
use Rattle.hm_shell.proofs.FlushLemmas.{stages_fall, unflushed_open}
use Rattle.hm_shell.proofs.WaitLemmas.{streams_more}
use Rattle.hm_shell.proofs.volume.commit_all.Goals as goal

pub returns-in-Ok-true-clause-ok : goal.returns-in-Ok-true-clause-ok
returns-in-Ok-true-clause-ok g c =
    let mid = seen_core c.flushing.core in
    let new = seen_core c.end_stage.new.self in
    commits_all (seen_core c.args.core.now) mid new c.flushing.invariant.so_far
    (subst (λ (b : Bool). EndsBy mid new (Ok b)) c.in-Ok-true.field-0-test c.in-Ok-true.ensures.ends)
    (c.in-Ok-true.ensures.committed c.in-Ok-true.field-0-test)

pub returns-in-Ok-true-clause-waits : goal.returns-in-Ok-true-clause-waits
returns-in-Ok-true-clause-waits g c =
    waits_at_end (seen_core c.args.core.now) (seen_core c.flushing.core) (seen_core c.end_stage.new.self) c.end_stage.result
    c.flushing.invariant.waits c.end_stage.ensures.ends

pub returns-in-Ok-true-clause-follows : goal.returns-in-Ok-true-clause-follows
returns-in-Ok-true-clause-follows g c =
    follows_further _ _ _ (seen_core c.args.core.now) (seen_core c.flushing.core) (seen_core c.end_stage.new.self) c.flushing.invariant.follows
    c.end_stage.ensures.follows

pub returns-in-Ok-true-clause-size : goal.returns-in-Ok-true-clause-size
returns-in-Ok-true-clause-size g c =
    size_at_end (seen_core c.args.core.now) (seen_core c.flushing.core) (seen_core c.end_stage.new.self) c.end_stage.result
    c.flushing.invariant.size c.end_stage.ensures.ends

pub returns-in-Err-clause-size : goal.returns-in-Err-clause-size
returns-in-Err-clause-size g c =
    size_at_end (seen_core c.args.core.now) (seen_core c.flushing.core) (seen_core c.end_stage.new.self) c.end_stage.result
    c.flushing.invariant.size c.end_stage.ensures.ends

pub flushing-preserved : goal.flushing-preserved
flushing-preserved g c =
    let old = seen_core c.args.core.now in
    let mid = seen_core c.flushing.core in
    let new = seen_core c.end_stage.new.self in
    record {
      so_far = so_far_more old mid new c.flushing.invariant.so_far
          (subst (λ (b : Bool). EndsBy mid new (Ok b)) c.in-Ok-false.field-0-test c.in-Ok-false.ensures.ends);
      waits = waits_at_end old mid new c.end_stage.result c.flushing.invariant.waits c.end_stage.ensures.ends;
      follows = follows_further _ _ _ old mid new c.flushing.invariant.follows c.end_stage.ensures.follows;
      size = size_at_end old mid new c.end_stage.result c.flushing.invariant.size c.end_stage.ensures.ends;
      streams = streams_more _ _ _ c.flushing.invariant.streams c.end_stage.ensures.streams;
    }

pub flushing-smaller : goal.flushing-smaller
flushing-smaller g c =
    let mid = seen_core c.flushing.core in
    let new = seen_core c.end_stage.new.self in
    let ends = subst (λ (b : Bool). EndsBy mid new (Ok b)) c.in-Ok-false.field-0-test c.in-Ok-false.ensures.ends in
    stages_fall mid new ends.2 (unflushed_open mid refl ends.0)

pub returns-in-Err-clause-err : goal.returns-in-Err-clause-err
returns-in-Err-clause-err g c =
    rw c.of_fault.ensures (write_cause (seen_core c.args.core.now).counts.disk (seen_core c.flushing.core).counts.disk
    (seen_core c.end_stage.new.self).counts.disk (seen_core c.flushing.core).flush.at c.in-Err.fault
    c.flushing.invariant.follows.never_falls.disk c.in-Err.ensures.cause)

pub returns-in-Err-clause-waits : goal.returns-in-Err-clause-waits
returns-in-Err-clause-waits g c =
    waits_at_end (seen_core c.args.core.now) (seen_core c.flushing.core) (seen_core c.end_stage.new.self) c.end_stage.result
    c.flushing.invariant.waits c.end_stage.ensures.ends

pub returns-in-Err-clause-follows : goal.returns-in-Err-clause-follows
returns-in-Err-clause-follows g c =
    follows_further _ _ _ (seen_core c.args.core.now) (seen_core c.flushing.core) (seen_core c.end_stage.new.self) c.flushing.invariant.follows
    c.end_stage.ensures.follows
