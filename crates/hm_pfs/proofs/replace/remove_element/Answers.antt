use Rattle.std.proofs.Common.{refl, true}
use Rattle.hm_key.proofs.SweepLemmas.{cleared, held_live}
use Rattle.hm_pfs.proofs.KeyLemmas.{lacks_ok, removed_ok}
use Rattle.hm_pfs.proofs.replace.remove_element.Goals as goal

pub give_back-requires : goal.give_back-requires
give_back-requires g c = record {
  live = held_live c.args.element.now (g.T.HasElements.elements c.args.store.now) (g.T.HasRoom.extents c.args.store.now)
      (g.T.HasRoom.extents c.remove.new.self) (g.met.T.Extents.together c.args.store.now) c.in_ok-remove.ensures.ok.extents
      c.requires.balanced c.requires.there;
}

pub returns-clause-ok : goal.returns-clause-ok
returns-clause-ok g c =
    removed_ok g.T.HasElements.elements g.T.HasElements.mark g.T.HasRoom.extents c.args.element.now c.args.store.now c.give_back.new.self
    (g.met.T.ElementStore.sorted c.args.store.now) c.give_back.result
    (cleared g.T.HasElements.elements g.T.HasElements.mark g.T.HasRoom.extents true c.args.element.now c.args.store.now c.remove.new.self
    c.give_back.new.self c.give_back.result refl c.in_ok-remove.ensures.ok c.give_back.ensures.ok)
    c.requires.there (g.met.T.Extents.live c.args.store.now)

pub returns-clause-gone : goal.returns-clause-gone
returns-clause-gone g c =
    lacks_ok g.T.HasElements.elements g.T.HasElements.mark g.T.HasRoom.extents c.args.element.now c.args.store.now c.give_back.new.self
    (g.met.T.ElementStore.sorted c.args.store.now) c.give_back.result
    (cleared g.T.HasElements.elements g.T.HasElements.mark g.T.HasRoom.extents true c.args.element.now c.args.store.now c.remove.new.self
    c.give_back.new.self c.give_back.result refl c.in_ok-remove.ensures.ok c.give_back.ensures.ok)
