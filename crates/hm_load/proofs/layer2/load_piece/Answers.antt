use Rattle.hm_pages.specs.Store.{contents}
use Rattle.hm_load.proofs.LayerLemmas.{pages_of_more}
use Rattle.hm_load.proofs.layer2.load_piece.Goals as goal

pub loop-k-preserved : goal.loop-k-preserved
loop-k-preserved c =
    pages_of_more c.args.header.now c.args.number c.loop-k.k c.args.bytes.now c.copy_from.new.self (contents c.args.store.now) (contents c.loop-k.store)
    (contents c.load_page.new.store)
    c.copy_from.ensures c.loop-k.invariant c.in_ok-load_page.ensures.ok
