use Rattle.hm_freemap.specs.Fresh.{HoldsFresh}
use Rattle.hm_freemap.proofs.fresh.fresh_page.Given as goal

abbrev pub invariant-loop-i : goal.invariant-loop-i
invariant-loop-i l = HoldsFresh l.bigblocks l.taken l.first l.i l.page
