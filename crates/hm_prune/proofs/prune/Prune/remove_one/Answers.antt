use Rattle.std.proofs.Common.{refl, true}
use Rattle.hm_key.proofs.SweepLemmas.{cleared, held_live}
use Rattle.hm_prune.specs.Dead.{keeps_in}
use Rattle.hm_prune.proofs.PruneLemmas.{may_go, prunes_given}
use Rattle.hm_prune.proofs.prune.Prune.remove_one.Goals as goal

pub give_back-requires : goal.give_back-requires
give_back-requires g c = record {
  live = held_live c.args.element.now (g.T.HasElements.elements c.args.store.now) (g.T.HasRoom.extents c.args.store.now) (g.T.HasRoom.extents c.remove.new.self)
      (g.met.T.Extents.together c.args.store.now) c.in_ok-remove.ensures.ok.extents c.requires.balanced c.requires.there;
}

pub returns-clause-ok : goal.returns-clause-ok
returns-clause-ok g c =
    let e = c.args.element.now in
    let clears =
    cleared g.T.HasElements.elements g.T.HasElements.mark g.T.HasRoom.extents true e c.args.store.now c.remove.new.self c.give_back.new.self
    c.give_back.result refl
    c.in_ok-remove.ensures.ok c.give_back.ensures.ok in
    prunes_given g.T.HasElements.elements g.T.HasElements.mark g.T.HasRoom.extents (keeps_in c.args.self.now.pfs.0 c.args.self.now.kept)
    c.give_back.result e c.args.store.now c.give_back.new.self clears
    c.requires.there (g.met.T.Extents.live c.args.store.now) (λ xs. may_go c.args.self.now.pfs.0 c.args.self.now.kept e xs c.requires.dead)
