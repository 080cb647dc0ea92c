use Rattle.std.proofs.Common.{Some, refl}
use Rattle.hm_key.specs.Key.{key_of}
use Rattle.hm_key.proofs.SweepLemmas.{found_there, goes_further}
use Rattle.hm_prune.specs.Dead.{keeps_in}
use Rattle.hm_prune.proofs.PruneLemmas.{loses_one, prunes_none, spends_none}
use Rattle.hm_prune.proofs.prune.Prune.step.Goals as goal

pub returns-in_default-clause-ok : goal.returns-in_default-clause-ok
returns-in_default-clause-ok g c =
    prunes_none g.T.HasElements.elements g.T.HasElements.mark g.T.HasRoom.extents (keeps_in c.args.self.now.pfs.0 c.args.self.now.kept)
    c.args.store.now c.first_at_or_after.new.self c.first_at_or_after.ensures.keeps

pub returns-then-element-from-clause-ok : goal.returns-then-element-from-clause-ok
returns-then-element-from-clause-ok g c =
    prunes_none g.T.HasElements.elements g.T.HasElements.mark g.T.HasRoom.extents (keeps_in c.args.self.now.pfs.0 c.args.self.now.kept)
    c.args.store.now c.first_at_or_after.new.self c.first_at_or_after.ensures.keeps

pub returns-then-not-is_dead-clause-ok : goal.returns-then-not-is_dead-clause-ok
returns-then-not-is_dead-clause-ok g c =
    prunes_none g.T.HasElements.elements g.T.HasElements.mark g.T.HasRoom.extents (keeps_in c.args.self.now.pfs.0 c.args.self.now.kept)
    c.args.store.now c.first_at_or_after.new.self c.first_at_or_after.ensures.keeps

pub returns-then-not-is_dead-clause-further : goal.returns-then-not-is_dead-clause-further
returns-then-not-is_dead-clause-further g c =
    goes_further (Some c.args.at.now) c.args.at.now c.in-Some.element c.in_ok-element.field-0 c.key_after-next.result refl c.in-Some.is
    c.in_ok-element.ensures.found c.key_after-next.ensures

pub returns-clause-further : goal.returns-clause-further
returns-clause-further g c =
    goes_further (Some c.args.at.now) c.args.at.now c.in-Some.element c.in_ok-element.field-0 c.key_after-next.result refl c.in-Some.is
    c.in_ok-element.ensures.found c.key_after-next.ensures

pub remove_one-requires-clause-there : goal.remove_one-requires-clause-there
remove_one-requires-clause-there g c =
    found_there (key_of c.args.at.now) c.in-Some.element c.in_ok-element.field-0 (g.T.HasElements.elements c.args.store.now)
    (g.T.HasElements.elements c.first_at_or_after.new.self) c.first_at_or_after.ensures.keeps.elements (g.met.T.ElementStore.sorted c.args.store.now)
    c.in_ok-element.ensures.ok c.in-Some.is

pub returns-in_default-clause-space : goal.returns-in_default-clause-space
returns-in_default-clause-space g c = spends_none c.args.store.now c.first_at_or_after.new.self c.first_at_or_after.ensures.keeps

pub returns-then-element-from-clause-space : goal.returns-then-element-from-clause-space
returns-then-element-from-clause-space g c = spends_none c.args.store.now c.first_at_or_after.new.self c.first_at_or_after.ensures.keeps

pub returns-then-not-is_dead-clause-space : goal.returns-then-not-is_dead-clause-space
returns-then-not-is_dead-clause-space g c = spends_none c.args.store.now c.first_at_or_after.new.self c.first_at_or_after.ensures.keeps

pub returns-clause-few : goal.returns-clause-few
returns-clause-few g c =
    loses_one c.in-Some.element (g.T.HasElements.elements c.args.store.now) (g.T.HasElements.elements c.first_at_or_after.new.self)
    (g.T.HasElements.elements c.remove_one.new.store) c.first_at_or_after.ensures.keeps.elements c.in_ok-remove_one.ensures.gone
