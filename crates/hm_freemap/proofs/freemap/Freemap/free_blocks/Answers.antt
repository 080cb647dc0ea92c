use Rattle.hm_types.specs.References.{pool}
use Rattle.hm_freemap.specs.Calls.{CountsFree}
use Rattle.hm_freemap.specs.Scan.{Finds}
use Rattle.hm_freemap.specs.Stand.{is_free_by}
use Rattle.hm_freemap.proofs.FreeLemmas.{counts}
use Rattle.hm_freemap.proofs.ToldLemmas.{where_map}
use Rattle.hm_freemap.proofs.freemap.Freemap.free_blocks.Goals as goal

pub returns-clause-ok : goal.returns-clause-ok
returns-clause-ok g c =
    let self = c.args.self.now in
    where_map (g.P.States.committed self.pages) (g.P.States.frozen self.pages) (g.P.Pages.pages self.pages)
    (λ maps. Finds (is_free_by self.append maps) self.bigblocks (pool self.bigblocks) c.in_ok-found.found)
    (λ maps. CountsFree self.bigblocks self.append maps c.in_ok-found.found.count)
    (λ maps finds. counts self.bigblocks self.append maps c.in_ok-found.found finds)
    c.in_ok-found.ensures.ok
