use Rattle.std.proofs.Common.{inr, refl}
use Rattle.hm_key.specs.declared.job.Progress.TheVariants.{Done}
use Rattle.hm_prune.specs.Dead.{keeps_in}
use Rattle.hm_prune.proofs.PruneLemmas.{first_there, prunes_none, spends_none, touched, unit_done}
use Rattle.hm_prune.proofs.prune.PruneJob.unit.Goals as goal

pub returns-in_default-2-clause-store : goal.returns-in_default-2-clause-store
returns-in_default-2-clause-store g c =
    let ids = keeps_in c.args.self.now.pfs.0 c.args.self.now.kept in
    unit_done g.T.HasElements.elements g.T.HasElements.mark g.T.HasRoom.extents ids Done c.args.store.now c.first_dead.new.store
    (prunes_none g.T.HasElements.elements g.T.HasElements.mark g.T.HasRoom.extents ids c.args.store.now c.first_dead.new.store c.first_dead.ensures.keeps)
    (spends_none c.args.store.now c.first_dead.new.store c.first_dead.ensures.keeps)

pub returns-clause-more : goal.returns-clause-more
returns-clause-more g c =
    let was = g.T.HasElements.elements c.args.store.now in
    let e = c.in-Some-2.element in
    let there = first_there c.args.self.now.pfs.0 c.args.self.now.kept e was was c.in_ok-element.field-0 refl c.in-Some-2.is c.in_ok-element.ensures.ok in
    inr (touched e was (g.T.HasElements.elements c.first_dead.new.store) (g.T.HasElements.elements c.remove_one.new.store) c.first_dead.ensures.keeps.elements
    c.in_ok-remove_one.ensures.gone (g.met.T.ElementStore.sorted c.args.store.now) there)
