use Rattle.std.proofs.Common.{◌≡◌, ◌∙◌, ◌+◌, Bool, ap, sym, subst, refl, arith, Some, None, option_map, if◌then◌else◌}
use Rattle.std.specs.HashMap.{hash_map_len}
use Rattle.std.specs.Option.{MatchOption}
use Rattle.hm_pages.specs.Changes.{change_at}
use Rattle.hm_pages.specs.Table.{page_at}
use Rattle.hm_pages.specs.Counts.{bytes_of}
use Rattle.hm_pages.specs.Maps.{ChangeMap, is_page, over, set_at}
use Rattle.hm_pages.specs.Sets.{KeepsFreemap, HasChanged, set_of}
use Rattle.hm_pages.specs.Store.{contents}
use Rattle.hm_pages.proofs.PutLemmas.{over_set, has_changed, has_room, keeps_set}
use Rattle.hm_pages.proofs.ResultLemmas.{on_both, each_way}
use Rattle.hm_pages.proofs.StoreLemmas.{closed_len, none_from_len}
use Rattle.hm_pages.proofs.store.PageStore.put_in_group.Goals as goal

pub invariant_of-self : goal.invariant_of-self
invariant_of-self c =
    let s = c.args.self.now in
    let stands = ap (λ (b : Bool). is_page ((if b then change_at s.call else change_at s.group) c.args.at)) c.requires.closed in
    let fits = has_room c.args.page (change_at s.group c.args.at) c.is_full_for.result (s.group.pages + s.call.pages)
    (λ full. c.is_full_for.ensures.1 (full.0, stands ∙ full.1, full.2)) c.if-is_full_for.false s.few in
    record {
      room = omega (arith, closed_len s.is_open (hash_map_len s.call.places) s.closed c.requires.closed);
      flush_room = s.flush_room;
      few = each_way c.put.result
          (λ count. omega (arith, count, fits, s.few))
          (λ count. omega (arith, count, s.few))
          c.put.ensures.pages c.put.ensures.pages_at_err;
      few_frozen = s.few_frozen;
      closed = s.closed;
      idle = s.idle;
      rising = s.rising;
      listed = s.listed;
      len = s.len;
      call_keeps = s.call_keeps;
      group_keeps = each_way c.put.result
          (λ value. keeps_set c.args.at c.args.page (change_at s.group) (change_at c.put.new.self) value c.requires.kept s.group_keeps)
          (λ same. subst (λ (f : ChangeMap). KeepsFreemap f) (sym same) s.group_keeps)
          c.put.ensures.ok c.put.ensures.err;
      frozen_keeps = s.frozen_keeps;
    }

pub returns-clause-ok : goal.returns-clause-ok
unfolding contents
returns-clause-ok c =
    let s = c.args.self.now in
    let page = option_map bytes_of c.args.page in
    let frozen = over (change_at s.frozen) (page_at s.committed) in
    let shut = c.requires.closed in
    let none = none_from_len s.call (closed_len s.is_open (hash_map_len s.call.places) s.closed shut) in
    on_both c.put.result
    (λ value count. record {
      flush = record { committed = refl; frozen = refl; frozen_group = refl; boundary = refl };
      current = (λ i. over (none i) (over (value i) frozen)) ∙ over_set c.args.at page (change_at s.group) frozen ∙
          sym (λ i. set_at c.args.at page (over (none i) (over (change_at s.group) frozen)));
      begin = (λ i. if shut i then Some (over (change_at c.put.new.self) frozen) else None) ∙
          sym (λ i. if shut i then Some (over (change_at s.group) frozen) else None);
      sets = subst (λ (b : Bool). MatchOption (if b then Some (over (change_at s.group) frozen) else None)
          (HasChanged c.args.at (over (change_at s.call) (over (change_at s.group) frozen) c.args.at) page
          (set_of (change_at s.group) s.group.pages) (set_of (change_at c.put.new.self) c.put.new.self.pages)
          × (set_of (change_at s.call) s.call.pages ≡ set_of (change_at s.call) s.call.pages))
          (λ _. HasChanged c.args.at (over (change_at s.call) (over (change_at s.group) frozen) c.args.at) page
          (set_of (change_at s.call) s.call.pages) (set_of (change_at s.call) s.call.pages)
          × (set_of (change_at c.put.new.self) c.put.new.self.pages ≡ set_of (change_at s.group) s.group.pages)))
          (sym shut) (
            subst (λ (f : ChangeMap). HasChanged c.args.at (over f (over (change_at s.group) frozen) c.args.at) page
                (set_of (change_at s.group) s.group.pages) (set_of (change_at c.put.new.self) c.put.new.self.pages)) (sym none)
                (has_changed c.args.at page (change_at s.group) (change_at c.put.new.self) s.group.pages c.put.new.self.pages frozen value count),
            refl,
          );
    })
    c.put.ensures.ok c.put.ensures.pages
