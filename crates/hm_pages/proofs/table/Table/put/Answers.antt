use Rattle.std.proofs.Common.{Some}
use Rattle.hm_pages.specs.Counts.{bytes_of}
use Rattle.hm_pages.proofs.MapLemmas.{viewed_update}
use Rattle.hm_pages.proofs.ResultLemmas.{on_ok}
use Rattle.hm_pages.proofs.table.Table.put.Goals as goal

pub returns-clause-value : goal.returns-clause-value
returns-clause-value c = viewed_update bytes_of c.args.self.now.pages c.insert.new.self c.args.at (Some c.args.page)
    (on_ok c.insert.result (c.insert.ensures.succeeds c.requires.room) c.insert.ensures.updates)
