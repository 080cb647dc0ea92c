use Rattle.std.proofs.Common.{◌≡◌, ◌/◌, ◌%◌, ⊎_elim, arith, sym, ◌∙◌, ap, None}
use Rattle.std.proofs.lemmas.Bool.{cases_eq}
use Rattle.std.proofs.lemmas.Grind.{common_steps}
use Rattle.std.specs.Ordering.{nat_cmp}
use Rattle.std.specs.BTreeMap as tree
use Rattle.hm_disk_forms.proofs.PageLemmas.{byte_in-zeros}
use Rattle.hm_disk_forms.proofs.pages.Pages.make.Goals as goal

pub returns-in_ok-insert-clause-same : goal.returns-in_ok-insert-clause-same
returns-in_ok-insert-clause-same c = λ byte.
    let h = c.in_ok-insert.ensures.updates in
    let absent : tree.get nat_cmp c.args.self.now.pages c.args.number ≡ None = grind (arith, common_steps) in
    ⊎_elim
    (λ e. byte_in-zeros _ _ c.in_ok-page.page (byte % 4096) (ap (tree.get nat_cmp c.args.self.now.pages) (sym e) ∙ absent)
    (ap (tree.get nat_cmp c.insert.new.self) (sym e) ∙ h.1) c.in_ok-page.ensures (omega arith))
    (λ ne. grind (arith, common_steps, h.0 (byte / 4096), h.2 (byte / 4096))) (cases_eq c.args.number (byte / 4096))
