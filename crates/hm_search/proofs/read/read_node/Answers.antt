use Rattle.hm_search.proofs.read.read_node.Goals as goal

pub returns-clause-cause : goal.returns-clause-cause
returns-clause-cause g c = record {
  never_falls = c.in_ok-page.ensures.cause.counted.never_falls;
  caused = c.checked_node.ensures.cause (g.P.Counted.faults c.args.pages.now) (g.P.Counted.faults c.page.new.self);
}
