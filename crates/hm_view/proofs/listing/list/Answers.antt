use Rattle.std.proofs.Common.{◌≡◌, List, rules, sym, subst}
use Rattle.hm_model.specs.Answer.{listing}
use Rattle.hm_view.specs.Trees.{OnTrees}
use Rattle.hm_view.proofs.ListingLemmas.{listed_sorted}
use Rattle.hm_view.proofs.OrderLemmas.{Item, names_sorted}
use Rattle.hm_view.proofs.listing.list.Goals as goal

pub returns-clause-ok : goal.returns-clause-ok
returns-clause-ok g c =
    let es = g.T.HasElements.elements c.args.store.now in
    let xs = g.T.HasRoom.extents c.args.store.now in
    subst (λ (items : List Item). OnTrees es xs c.args.pfs.0 c.args.as_of.0 (λ lists tree. items ≡ listing tree c.args.directory)) (sym c.of.ensures)
    (listed_sorted es xs c.args.pfs.0 c.args.as_of.0 c.args.directory (g.met.T.ElementStore.sorted c.args.store.now) c.in_ok-names.names.items
    c.sort_unstable_by.new.self.items c.sort_unstable_by.ensures.permutation
    (names_sorted c.sort_unstable_by.new.self.items c.sort_unstable_by.ensures.sorted (λ a r f' k. search rules)) c.in_ok-names.ensures.ok)
