use Rattle.std.proofs.Common.{None}
use Rattle.hm_pages.specs.Counts.{bytes_of}
use Rattle.hm_pages.proofs.MapLemmas.{viewed_update}
use Rattle.hm_pages.proofs.table.Table.remove.Goals as goal

pub returns-clause-value : goal.returns-clause-value
returns-clause-value c = viewed_update bytes_of c.args.self.now.pages c.remove.new.self c.args.at None c.remove.ensures.updates
