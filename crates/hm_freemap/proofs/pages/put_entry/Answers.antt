use Rattle.std.proofs.Common.{sym, ◌∙◌}
use Rattle.hm_freemap.proofs.PlaceLemmas.{page_zone}
use Rattle.hm_freemap.proofs.PutLemmas.{told_put}
use Rattle.hm_freemap.proofs.pages.put_entry.Goals as goal

pub change-requires : goal.change-requires
change-requires g c = record {
  kept = g.met.P.FreemapPages.freemap_is_kept c.page_of.result c.write.new.page
      (rw c.page_of.ensures (page_zone c.args.block c.requires.block));
}

pub returns-clause-ok : goal.returns-clause-ok
returns-clause-ok g c =
    told_put c.args.block c.args.entry.now c.args.page.now c.write.new.page (g.P.Pages.pages c.args.pages.now) (g.P.Pages.pages c.change.new.self)
    c.change.result c.requires.read
    (rw (← c.page_of.ensures) c.change.ensures.ok)
    (rw (← c.place_of.ensures.value) c.write.ensures.value)
    (rw (← c.place_of.ensures.value) c.write.ensures.zero)
    (rw (← c.place_of.ensures.value) c.write.ensures.others)
    (c.write.ensures.sized ∙ sym c.bytes-sized.ensures.sized)
