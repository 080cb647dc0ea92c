use Rattle.std.proofs.Common.{◌≡◌, ◌∙◌, ap, refl, Some, None, if◌then◌else◌}
use Rattle.hm_fields.specs.Pages.{PageMap}
use Rattle.hm_pages.specs.Changes.{change_at}
use Rattle.hm_pages.specs.Table.{page_at}
use Rattle.hm_pages.specs.Maps.{over}
use Rattle.hm_pages.specs.Store.{contents}
use Rattle.hm_pages.proofs.StoreLemmas.{emptied}
use Rattle.hm_pages.proofs.store.PageStore.commit.Goals as goal

pub returns : goal.returns
unfolding contents
returns c =
    let left = emptied c.replace-frozen.new.dest c.new.result c.replace-frozen.ensures.after c.new.ensures.none c.new.ensures.len c.new.ensures.pages in
    let value = c.apply.ensures ∙ ap (λ d. over (change_at d) (page_at c.args.self.now.committed)) c.replace-frozen.ensures.value in
    let frozen : over (change_at c.replace-frozen.new.dest) (page_at c.apply.new.self) ≡
    over (change_at c.args.self.now.frozen) (page_at c.args.self.now.committed) =
    λ i. over (left.none i) (value i) in
    record {
      committed = value;
      frozen = frozen;
      current = ap (λ (map : PageMap). over (change_at c.args.self.now.call) (over (change_at c.args.self.now.group) map)) frozen;
      group = refl;
      call = (refl, ap (λ (map : PageMap). if c.args.self.now.is_open then Some (over (change_at c.args.self.now.group) map) else None) frozen);
      frozen_group = c.clear.ensures.items;
      boundary = refl;
    }
