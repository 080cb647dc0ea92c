use Rattle.std.proofs.Common.{arith}
use Rattle.hm_pages.specs.Store.{contents}
use Rattle.hm_flush.proofs.CallLemmas.{freeze-tells, stage-does, stage-ends, stage-tells}
use Rattle.hm_flush.proofs.flusher.Flusher.stage.Goals as goal

pub returns-then-eq-clause-disk : goal.returns-then-eq-clause-disk
returns-then-eq-clause-disk g c =
    freeze-tells c.args.self.now c.freeze.new.self (contents c.args.pages.now) (contents c.freeze.new.pages) c.freeze.result
    (g.D.Disk.left_since c.args.disk.now) (g.D.Disk.told c.args.disk.now) (grind arith) c.freeze.ensures.guards

pub returns-else-eq-clause-ends : goal.returns-else-eq-clause-ends
returns-else-eq-clause-ends g c =
    stage-ends c.args.now.now c.args.self.now c.go_on.new.self (contents c.args.pages.now) (contents c.go_on.new.pages) c.go_on.result
    (c.go_on.ensures.ok c.args.now.now) c.go_on.ensures.err

pub returns-else-eq-clause-disk : goal.returns-else-eq-clause-disk
returns-else-eq-clause-disk g c =
    let f = c.args.self.now in
    let s = contents c.args.pages.now in
    let old = g.D.Disk.told c.args.disk.now in
    let new = g.D.Disk.told c.go_on.new.disk in
    stage-tells f c.go_on.new.self s (contents c.go_on.new.pages) c.go_on.result (g.D.Disk.left_since c.args.disk.now)
    (g.D.Disk.left_since c.go_on.new.disk) old new (stage-does f s c.go_on.result old new c.go_on.ensures.made c.go_on.ensures.failed)
    c.go_on.ensures.any_moment c.go_on.ensures.guards c.go_on.ensures.recoverable
