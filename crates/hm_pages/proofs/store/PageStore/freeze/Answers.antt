use Rattle.std.proofs.Common.{◌≡◌, ◌&&◌, ◌∙◌, ap, sym, subst, refl, arith, Bool, Some, None, is_some, if◌then◌else◌}
use Rattle.std.specs.HashMap.{hash_map_len}
use Rattle.hm_pages.specs.Changes.{change_at}
use Rattle.hm_pages.specs.Table.{page_at}
use Rattle.hm_pages.specs.Maps.{ChangeMap, over, is_page}
use Rattle.hm_pages.specs.Sets.{KeepsFreemap}
use Rattle.hm_pages.specs.Store.{contents}
use Rattle.hm_pages.specs.declared.changes.Changes.{Changes}
use Rattle.hm_pages.proofs.ShutLemmas.{shut, call_len, frozen_none}
use Rattle.hm_pages.proofs.StoreLemmas.{emptied, none_from_len, page_there, nothing_set, keeps_none}
use Rattle.hm_pages.proofs.store.PageStore.freeze.Goals as goal

pub invariant_of-self-2 : goal.invariant_of-self-2
invariant_of-self-2 c =
    let s = c.args.self.now in
    let left = emptied c.replace.new.dest c.new.result c.replace.ensures.after c.new.ensures.none c.new.ensures.len c.new.ensures.pages in
    let moved = c.replace.ensures.value in
    record {
      room = omega (arith, call_len s c.requires.closed);
      flush_room = omega (arith, c.len.ensures, ap (λ (d : Changes). hash_map_len d.places) moved, c.in_ok-reserve.ensures.ok);
      few = omega (arith, left.pages, s.few);
      few_frozen = omega (arith, ap (λ (d : Changes). d.pages) moved, s.few);
      closed = s.closed;
      idle = refl;
      rising = c.in_ok-places.ensures.rising;
      listed = λ at. c.in_ok-places.ensures.each at ∙ ap (λ (d : Changes). is_page (change_at d at)) (sym moved);
      len = c.in_ok-places.ensures.len ∙ ap (λ (d : Changes). d.pages) (sym moved);
      call_keeps = s.call_keeps;
      group_keeps = keeps_none (change_at c.replace.new.dest) left.none;
      frozen_keeps = subst (λ (d : Changes). KeepsFreemap (change_at d)) (sym moved) s.group_keeps;
    }

pub returns-clause-ok : goal.returns-clause-ok
unfolding contents
returns-clause-ok c =
    let s = c.args.self.now in
    let left = emptied c.replace.new.dest c.new.result c.replace.ensures.after c.new.ensures.none c.new.ensures.len c.new.ensures.pages in
    let moved = ap change_at c.replace.ensures.value in
    let same = c.reserve.ensures.same in
    let idle = frozen_none s c.requires.idle in
    let none = none_from_len s.call (call_len s c.requires.closed) in
    let current : over (change_at s.call) (over (change_at c.replace.new.dest) (over (change_at c.replace.result) (page_at c.reserve.new.self))) ≡
    over (change_at s.call) (over (change_at s.group) (over (change_at s.frozen) (page_at s.committed))) =
    (λ i. over (change_at s.call) (over (left.none i) (over (moved i) (same i)))) ∙
    sym (λ i. over (change_at s.call) (over (change_at s.group) (over (idle i) (page_at s.committed)))) in
    record {
      committed = same;
      frozen = (λ i. over (moved i) (same i)) ∙ sym (λ i. over (none i) (over (change_at s.group) (over (idle i) (page_at s.committed))));
      current = current;
      group = nothing_set (change_at c.replace.new.dest) c.replace.new.dest.pages left.none left.pages;
      each = λ at. c.in_ok-places.ensures.each at ∙ page_there (change_at s.group at) (over (change_at s.frozen) (page_at s.committed) at) ∙
          ap (λ (k : ChangeMap). is_some (change_at s.group at) &&
          is_some (over k (over (change_at s.group) (over (change_at s.frozen) (page_at s.committed))) at)) (sym none);
      len = c.in_ok-places.ensures.len;
      boundary_is = refl;
      call = (
        refl,
        ap (λ (b : Bool). if b then Some (over (change_at c.replace.new.dest) (over (change_at c.replace.result) (page_at c.reserve.new.self))) else None)
            (shut s c.requires.closed) ∙ sym c.requires.closed,
      );
    }
