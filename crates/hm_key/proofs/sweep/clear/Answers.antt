use Rattle.hm_key.proofs.SweepLemmas.{cleared, held_live}
use Rattle.hm_key.proofs.sweep.clear.Goals as goal

pub give_back-requires : goal.give_back-requires
give_back-requires g c = record {
  live =
      held_live c.args.element.now (g.T.HasElements.elements c.args.store.now) (g.T.HasRoom.extents c.args.store.now) (g.T.HasRoom.extents c.remove.new.self)
      (g.met.T.Extents.together c.args.store.now) c.in_ok-remove.ensures.ok.extents c.requires.balanced c.requires.there;
}

pub returns-clause-ok : goal.returns-clause-ok
returns-clause-ok g c =
    cleared g.T.HasElements.elements g.T.HasElements.mark g.T.HasRoom.extents c.args.is_over c.args.element.now c.args.store.now c.remove.new.self
    c.give_back.new.self c.give_back.result c.if-not-is_over.false c.in_ok-remove.ensures.ok c.give_back.ensures.ok
