use Rattle.std.proofs.Common.{◌≡◌, ◌∙◌, ◌%◌, ap, sym, arith, length}
use Rattle.std.proofs.lemmas.Grind.{common_steps}
use Rattle.std.specs.Box.{with_value}
use Rattle.std.specs.Ordering.{nat_cmp}
use Rattle.std.specs.BTreeMap as tree
use Rattle.hm_disk.specs.Disk.{overwritten}
use Rattle.hm_disk_forms.proofs.PageLemmas.{Overwrites-page}
use Rattle.hm_disk_forms.proofs.pages.Pages.put_piece.Goals as goal

pub returns-in-Some-clause-written : goal.returns-in-Some-clause-written
returns-in-Some-clause-written c =
    let page = c.in-Some.page.now in
    let changed = with_value page c.overwrite.new.page in
    let was = sym c.in-Some.ensures.value in
    let updates = (c.get_mut.follows.holds changed).3 c.requires.there in
    let sized : length page.value ≡ 4096 = ap length (sym c.deref_mut.ensures.value) ∙ c.overwrite.ensures.sized in
    Overwrites-page (tree.get nat_cmp c.args.self.now.pages) (tree.get nat_cmp (c.get_mut.follows.lender changed)) c.args.place c.args.bytes.now page changed
    was updates.1 (λ number elsewhere. updates.2 number (grind (arith, common_steps))) sized c.requires.within
    (c.overwrite.ensures.value ∙ ap (λ xs. overwritten xs (c.args.place % 4096) c.args.bytes.now) c.deref_mut.ensures.value)
