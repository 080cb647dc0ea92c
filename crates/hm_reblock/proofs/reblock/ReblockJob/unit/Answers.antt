use Rattle.std.specs.Prelude.{None}
use Rattle.hm_reblock.proofs.UnitLemmas.{keeps_one, unit_keeps, unit_moves}
use Rattle.hm_reblock.proofs.reblock.ReblockJob.unit.Goals as goal

pub returns-in-Collect-Some-clause-store : goal.returns-in-Collect-Some-clause-store
returns-in-Collect-Some-clause-store g c =
    unit_keeps g.T.HasElements.elements g.T.HasElements.mark g.T.HasRoom.extents (λ _. None) c.args.store.now c.collect_more.new.store c.collect_more.result
    c.collect_more.ensures.keeps

pub returns-in-Collect-None-clause-store : goal.returns-in-Collect-None-clause-store
returns-in-Collect-None-clause-store g c =
    unit_keeps g.T.HasElements.elements g.T.HasElements.mark g.T.HasRoom.extents (λ _. None) c.args.store.now c.end_collecting.new.store
    c.end_collecting.result c.end_collecting.ensures.keeps

pub returns-in-Move-clause-store : goal.returns-in-Move-clause-store
returns-in-Move-clause-store g c =
    unit_moves g.T.HasElements.elements g.T.HasElements.mark g.T.HasRoom.extents (λ _. None) c.args.store.now c.move_next.new.store c.move_next.result
    c.move_next.ensures.moves c.move_next.ensures.space.free

pub returns-in-Collect-Some-clause-reblock : goal.returns-in-Collect-Some-clause-reblock
returns-in-Collect-Some-clause-reblock g c =
    keeps_one g.T.HasElements.elements g.T.HasElements.mark g.T.HasRoom.extents (λ _. None) c.args.store.now c.collect_more.new.store c.args.self.now
    c.collect_more.new.self c.collect_more.result c.collect_more.ensures.choice c.collect_more.ensures.keeps

pub returns-in-Collect-None-clause-reblock : goal.returns-in-Collect-None-clause-reblock
returns-in-Collect-None-clause-reblock g c =
    keeps_one g.T.HasElements.elements g.T.HasElements.mark g.T.HasRoom.extents (λ _. None) c.args.store.now c.end_collecting.new.store c.args.self.now
    c.end_collecting.new.self c.end_collecting.result c.end_collecting.ensures.choice c.end_collecting.ensures.keeps
