use Rattle.hm_key.specs.Key.{key_of}
use Rattle.hm_btree.proofs.FindLemmas.{stands_there, stands_nowhere}
use Rattle.hm_btree_tests.proofs.tests.stands.Goals as goal

pub returns-in-Some : goal.returns-in-Some
returns-in-Some g c =
    stands_there (key_of c.args.at.now) c.in-Some.found c.in_ok-found.field-0 (g.T.HasElements.elements c.args.store.now)
    (g.T.HasElements.elements c.first_at_or_after.new.self)
    c.order.result c.eq.result c.first_at_or_after.ensures.keeps.elements (g.met.T.ElementStore.sorted c.args.store.now)
    c.in_ok-found.ensures.ok c.in-Some.is c.order.ensures c.eq.ensures

pub returns-in-None : goal.returns-in-None
returns-in-None g c =
    stands_nowhere (key_of c.args.at.now) c.in_ok-found.field-0 (g.T.HasElements.elements c.args.store.now)
    (g.T.HasElements.elements c.first_at_or_after.new.self)
    c.first_at_or_after.ensures.keeps.elements (g.met.T.ElementStore.sorted c.args.store.now) c.in_ok-found.ensures.ok c.in-None.is
