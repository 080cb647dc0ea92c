use Rattle.std.proofs.Common.{inl, refl}
use Rattle.hm_stored.specs.Heap.{heap_of}
use Rattle.hm_core.specs.Seen.{devices as devices_of, seen as seen_core}
use Rattle.hm_shell.specs.Seen.{Seen, seen}
use Rattle.hm_shell.proofs.CommitLemmas.{StopsUsing-failed, UsesAll-committed}
use Rattle.hm_shell.proofs.volume.use_core.Goals as goal

pub returns-in-Err-clause-err : goal.returns-in-Err-clause-err
unfolding heap_of
returns-in-Err-clause-err g c = inl (record {
  core = seen_core c.serve_script.new.core;
  served = c.in-Err.ensures.err;
  cause = c.in-Err.ensures.cause;
  disk_is = record { told = refl; faults = refl };
})

pub returns-in-Ok-clause-ok : goal.returns-in-Ok-clause-ok
unfolding heap_of
returns-in-Ok-clause-ok g c =
    UsesAll-committed c.args.lines.items (g.D.Disk.left_since (devices_of c.args.core.now).disk)
    (g.D.Disk.left_since (devices_of c.serve_script.new.core).disk) (g.D.Disk.left_since (devices_of c.commit_all.new.core).disk)
    (seen_core c.args.core.now) (seen_core c.serve_script.new.core) (seen_core c.commit_all.new.core)
    (g.K.Sink.held c.args.out.now) (g.K.Sink.held c.serve_script.new.out) c.in-Ok.ensures.ok c.commit_all.ensures.waits c.commit_all.ensures.follows
    c.commit_all.ensures.size c.requires.flushed c.in-Ok.ensures.behind c.commit_all.result c.commit_all.ensures.ok

pub returns-in-Ok-clause-err : goal.returns-in-Ok-clause-err
unfolding heap_of
returns-in-Ok-clause-err g c =
    StopsUsing-failed c.args.lines.items (g.D.Disk.left_since (devices_of c.args.core.now).disk)
    (g.D.Disk.left_since (devices_of c.serve_script.new.core).disk) (g.D.Disk.left_since (devices_of c.commit_all.new.core).disk)
    (seen_core c.args.core.now) (seen_core c.serve_script.new.core) (seen_core c.commit_all.new.core)
    (seen g.K.Sink.held g.K.Sink.faults c.args.out.now) (seen g.K.Sink.held g.K.Sink.faults c.serve_script.new.out) c.in-Ok.ensures.ok
    c.commit_all.ensures.waits c.commit_all.ensures.follows c.commit_all.ensures.size c.commit_all.result c.commit_all.ensures.err
