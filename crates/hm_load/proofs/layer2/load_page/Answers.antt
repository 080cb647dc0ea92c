use Rattle.std.proofs.Common.{ap, ◌∙◌}
use Rattle.hm_freemap.specs.Places.{page_of}
use Rattle.hm_pages.specs.Store.{contents}
use Rattle.hm_load.proofs.LayerLemmas.{page_free}
use Rattle.hm_load.proofs.layer2.load_page.Goals as goal

pub put-requires-clause-free : goal.put-requires-clause-free
put-requires-clause-free c =
    let map = (contents c.args.store.now).current in
    ap map (c.page_of-at.ensures ∙ ap page_of c.from.ensures) ∙ page_free c.args.header.now c.args.number map c.requires.layer
