use Rattle.hm_key.proofs.PlaceLemmas.{found_inserted}
use Rattle.hm_key.proofs.callers.insert_and_find.Goals as goal

pub returns-clause-found : goal.returns-clause-found
returns-clause-found g c =
    found_inserted c.args.e.now (g.T.HasElements.elements c.args.store.now)
    (g.T.HasElements.elements c.insert.new.self) c.first_at_or_after.result c.in_ok-insert.ensures.ok.elements c.first_at_or_after.ensures.ok
