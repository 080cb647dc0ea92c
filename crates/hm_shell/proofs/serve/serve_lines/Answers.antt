use Rattle.std.proofs.Common.{◌≡◌, List, [], arith, refl, rules, subst, sym}
use Rattle.hm_model.specs.declared.line.Line.{Line}
use Rattle.hm_core.specs.Seen.{devices as devices_of, seen as seen_core}
use Rattle.hm_shell.specs.Seen.{seen}
use Rattle.hm_shell.specs.Serving.{Serving}
use Rattle.hm_shell.proofs.PrintLemmas.{on_err}
use Rattle.hm_shell.proofs.ServeLemmas.{ServedInPart-stopped, Serving-more, Serving-none}
use Rattle.hm_shell.proofs.WaitLemmas.{streams_more}
use Rattle.hm_shell.proofs.serve.serve_lines.Goals as goal

pub loop-line-init : goal.loop-line-init
loop-line-init g c =
    let left = g.D.Disk.left_since (devices_of c.args.core.now).disk in
    let core = seen_core c.args.core.now in
    let held = g.K.Sink.held c.args.out.now in
    let all : c.into_iter-line-iterator.result.rest.items ≡ c.args.lines.items = search rules in (
      subst (λ (rest : List Line). Serving c.args.lines.items [] rest left left core core held held) (sym all)
          (Serving-none c.args.lines.items left core held c.core_is_sound.ensures c.requires.start c.requires.room),
      omega arith,
      record { input = refl; output = refl },
    )

pub loop-line-preserved : goal.loop-line-preserved
loop-line-preserved g c = (
  Serving-more c.args.lines.items c.loop-line.yielded c.next.new.self.rest.items c.in-Some.line c.requires.each c.requires.rising
      (g.D.Disk.left_since (devices_of c.args.core.now).disk) (g.D.Disk.left_since (devices_of c.loop-line.core).disk)
      (g.D.Disk.left_since (devices_of c.serve_line.new.core).disk)
      (seen_core c.args.core.now) (seen_core c.loop-line.core) (seen_core c.serve_line.new.core) c.serve_line.ensures.follows c.serve_line.ensures.size
      (g.K.Sink.held c.args.out.now) (g.K.Sink.held c.loop-line.out) (g.K.Sink.held c.serve_line.new.out)
      (rw c.in-Some.ensures.steps.0 at c.loop-line.invariant.0) c.in_ok-serve_line.ensures.ok,
  omega (arith, c.loop-line.invariant.1, c.serve_line.ensures.never_falls),
  streams_more _ _ _ c.loop-line.invariant.2 c.serve_line.ensures.streams,
)

pub returns-in_err-serve_line-clause-streams : goal.returns-in_err-serve_line-clause-streams
returns-in_err-serve_line-clause-streams g c = streams_more _ _ _ c.loop-line.invariant.2 c.serve_line.ensures.streams

pub returns-in_err-serve_line-clause-err : goal.returns-in_err-serve_line-clause-err
returns-in_err-serve_line-clause-err g c =
    on_err c.from_residual.result
    (ServedInPart-stopped c.args.lines.items c.loop-line.yielded c.next.new.self.rest.items c.in-Some.line c.requires.each c.requires.rising
    (g.D.Disk.left_since (devices_of c.args.core.now).disk) (g.D.Disk.left_since (devices_of c.loop-line.core).disk)
    (g.D.Disk.left_since (devices_of c.serve_line.new.core).disk)
    (seen_core c.args.core.now) (seen_core c.loop-line.core) (seen_core c.serve_line.new.core) c.serve_line.ensures.follows c.serve_line.ensures.size
    (seen g.K.Sink.held g.K.Sink.faults c.args.out.now) _ _ _ (rw c.in-Some.ensures.steps.0 at c.loop-line.invariant.0) c.loop-line.invariant.1
    c.in_err-serve_line.ensures.err)
