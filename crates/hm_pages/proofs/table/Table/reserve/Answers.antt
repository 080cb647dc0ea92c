use Rattle.hm_pages.specs.Counts.{bytes_of}
use Rattle.hm_pages.proofs.MapLemmas.{viewed_same}
use Rattle.hm_pages.proofs.table.Table.reserve.Goals as goal

pub returns-clause-same : goal.returns-clause-same
returns-clause-same c = viewed_same bytes_of c.args.self.now.pages c.reserve.new.self c.reserve.ensures.entries.2
