use Rattle.std.proofs.Common.{arith}
use Rattle.hm_key.specs.Key.{key_of}
use Rattle.hm_search.proofs.DescentLemmas.{root_levels}
use Rattle.hm_search.proofs.SearchLemmas.{quiet_by, root_asked}
use Rattle.hm_search.proofs.search.unchanged_until.Goals as goal

pub quiet_below-requires : goal.quiet_below-requires
quiet_below-requires g c = record {
  asked = root_asked c.args.root (key_of c.args.at.now) c.root.result c.root.ensures c.requires.root c.requires.before;
  levels = omega (arith, root_levels c.root.result c.args.root c.root.ensures);
}

pub returns-clause-steps : goal.returns-clause-steps
returns-clause-steps g c = omega (arith, c.quiet_below.ensures.steps, root_levels c.root.result c.args.root c.root.ensures)

pub returns-clause-ok : goal.returns-clause-ok
returns-clause-ok g c =
    quiet_by (g.P.Pages.pages c.args.pages.now) c.args.root (key_of c.args.at.now) c.args.since.0 c.root.result c.quiet_below.result c.root.ensures
    c.quiet_below.ensures.ok
