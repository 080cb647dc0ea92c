use Rattle.hm_pages.specs.Store.{contents}
use Rattle.hm_load.proofs.StoreLemmas.{on_ok, plain_puts}
use Rattle.hm_load.proofs.put.put.Goals as goal

pub returns : goal.returns
returns c = on_ok c.load.result (plain_puts c.args.at c.args.page.now (contents c.args.store.now)
    (contents c.load.new.self) c.requires.plain) c.load.ensures.ok
