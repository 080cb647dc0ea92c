use Rattle.std.proofs.Common.{◌∙◌, ap, refl, arith}
use Rattle.hm_pages.specs.Changes.{change_at}
use Rattle.hm_pages.specs.Table.{page_at}
use Rattle.hm_pages.specs.Maps.{over, joined}
use Rattle.hm_pages.specs.Store.{contents}
use Rattle.hm_pages.proofs.StoreLemmas.{kept_map, changed_joined, nothing_set, keeps_joined, keeps_none, emptied}
use Rattle.hm_pages.proofs.store.PageStore.keep.Goals as goal

pub invariant_of-self : goal.invariant_of-self
invariant_of-self c =
    let left = emptied c.replace-call.new.dest c.new.result c.replace-call.ensures.after c.new.ensures.none c.new.ensures.len c.new.ensures.pages in
    let moved = c.replace-call.ensures.value in
    let both = c.absorb.ensures.value ∙ ap (λ d. joined (change_at d) (change_at c.args.self.now.group)) moved in
    record {
      room = omega (arith, left.len);
      flush_room = c.args.self.now.flush_room;
      few = omega (arith, left.pages, c.absorb.ensures.pages, ap (λ d. d.pages) moved, c.args.self.now.few);
      few_frozen = c.args.self.now.few_frozen;
      closed = left.len;
      idle = c.args.self.now.idle;
      rising = c.args.self.now.rising;
      listed = c.args.self.now.listed;
      len = c.args.self.now.len;
      call_keeps = keeps_none (change_at c.replace-call.new.dest) left.none;
      group_keeps = keeps_joined (change_at c.args.self.now.call) (change_at c.args.self.now.group) (change_at c.absorb.new.self) both
          c.args.self.now.call_keeps c.args.self.now.group_keeps;
      frozen_keeps = c.args.self.now.frozen_keeps;
    }

pub returns : goal.returns
unfolding contents
returns c =
    let left = emptied c.replace-call.new.dest c.new.result c.replace-call.ensures.after c.new.ensures.none c.new.ensures.len c.new.ensures.pages in
    let moved = c.replace-call.ensures.value in
    let both = c.absorb.ensures.value ∙ ap (λ d. joined (change_at d) (change_at c.args.self.now.group)) moved in
    record {
      flush = record { committed = refl; frozen = refl; frozen_group = refl; boundary = refl };
      current = kept_map (change_at c.replace-call.new.dest) (change_at c.args.self.now.call) (change_at c.args.self.now.group) (change_at c.absorb.new.self)
          (over (change_at c.args.self.now.frozen) (page_at c.args.self.now.committed)) left.none both;
      begin = refl;
      call = nothing_set (change_at c.replace-call.new.dest) c.replace-call.new.dest.pages left.none left.pages;
      group = changed_joined (change_at c.args.self.now.call) (change_at c.args.self.now.group) (change_at c.absorb.new.self) both;
      pages = omega (arith, c.absorb.ensures.pages, ap (λ d. d.pages) moved);
    }
