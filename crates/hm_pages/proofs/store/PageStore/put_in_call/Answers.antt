use Rattle.std.proofs.Common.{◌≡◌, ◌∙◌, ◌+◌, Bool, ap, sym, subst, refl, arith, Some, None, option_map, if◌then◌else◌}
use Rattle.std.specs.HashMap.{hash_map_len}
use Rattle.std.specs.Option.{MatchOption}
use Rattle.hm_pages.specs.Changes.{change_at}
use Rattle.hm_pages.specs.Table.{page_at}
use Rattle.hm_pages.specs.Counts.{bytes_of}
use Rattle.hm_pages.specs.Maps.{ChangeMap, is_page, over}
use Rattle.hm_pages.specs.Sets.{KeepsFreemap, HasChanged, set_of}
use Rattle.hm_pages.specs.Store.{contents}
use Rattle.hm_pages.proofs.PutLemmas.{over_set, has_changed, has_room, keeps_set}
use Rattle.hm_pages.proofs.ResultLemmas.{on_both, each_way}
use Rattle.hm_pages.proofs.store.PageStore.put_in_call.Goals as goal

pub invariant_of-self : goal.invariant_of-self
invariant_of-self c =
    let s = c.args.self.now in
    record {
      room = omega (arith, s.room, c.reserve.ensures.spare);
      flush_room = s.flush_room;
      few = omega (arith, c.reserve.ensures.pages, s.few);
      few_frozen = s.few_frozen;
      closed = s.closed;
      idle = s.idle;
      rising = s.rising;
      listed = s.listed;
      len = s.len;
      call_keeps = s.call_keeps;
      group_keeps = subst (λ (f : ChangeMap). KeepsFreemap f) (sym c.reserve.ensures.same) s.group_keeps;
      frozen_keeps = s.frozen_keeps;
    }

pub invariant_of-self-2 : goal.invariant_of-self-2
invariant_of-self-2 c =
    let s = c.args.self.now in
    let stands = ap (λ (b : Bool). is_page ((if b then change_at s.call else change_at s.group) c.args.at)) c.requires.opened in
    let fits = has_room c.args.page (change_at s.call c.args.at) c.is_full_for.result (s.group.pages + s.call.pages)
    (λ full. c.is_full_for.ensures.1 (full.0, stands ∙ full.1, full.2)) c.if-is_full_for.false s.few in
    record {
      room = omega (arith, c.put.ensures.len, c.len.ensures.len, c.in_ok-reserve.ensures.ok);
      flush_room = s.flush_room;
      few = each_way c.put.result
          (λ count. omega (arith, count, fits, c.reserve.ensures.pages, s.few))
          (λ count. omega (arith, count, c.reserve.ensures.pages, s.few))
          c.put.ensures.pages c.put.ensures.pages_at_err;
      few_frozen = s.few_frozen;
      closed = subst (λ (b : Bool). (if b then 0 else hash_map_len c.put.new.self.places) ≡ 0) (sym c.requires.opened) refl;
      idle = s.idle;
      rising = s.rising;
      listed = s.listed;
      len = s.len;
      call_keeps = each_way c.put.result
          (λ value. keeps_set c.args.at c.args.page (change_at s.call) (change_at c.put.new.self) value c.requires.kept s.call_keeps)
          (λ same. subst (λ (f : ChangeMap). KeepsFreemap f) (sym same) s.call_keeps)
          c.put.ensures.ok c.put.ensures.err;
      group_keeps = subst (λ (f : ChangeMap). KeepsFreemap f) (sym c.reserve.ensures.same) s.group_keeps;
      frozen_keeps = s.frozen_keeps;
    }

pub returns-clause-ok : goal.returns-clause-ok
unfolding contents
returns-clause-ok c =
    let s = c.args.self.now in
    let page = option_map bytes_of c.args.page in
    let frozen = over (change_at s.frozen) (page_at s.committed) in
    let same = c.reserve.ensures.same in
    on_both c.put.result
    (λ value count. record {
      flush = record { committed = refl; frozen = refl; frozen_group = refl; boundary = refl };
      current = (λ i. over (value i) (over (same i) frozen)) ∙ over_set c.args.at page (change_at s.call) (over (change_at s.group) frozen);
      begin = ap (λ (g : ChangeMap). if s.is_open then Some (over g frozen) else None) same;
      sets = subst (λ (b : Bool). MatchOption (if b then Some (over (change_at s.group) frozen) else None)
          (HasChanged c.args.at (over (change_at s.call) (over (change_at s.group) frozen) c.args.at) page
          (set_of (change_at s.group) s.group.pages) (set_of (change_at c.reserve.new.self) c.reserve.new.self.pages)
          × (set_of (change_at c.put.new.self) c.put.new.self.pages ≡ set_of (change_at s.call) s.call.pages))
          (λ _. HasChanged c.args.at (over (change_at s.call) (over (change_at s.group) frozen) c.args.at) page
          (set_of (change_at s.call) s.call.pages) (set_of (change_at c.put.new.self) c.put.new.self.pages)
          × (set_of (change_at c.reserve.new.self) c.reserve.new.self.pages ≡ set_of (change_at s.group) s.group.pages)))
          (sym c.requires.opened) (
            has_changed c.args.at page (change_at s.call) (change_at c.put.new.self)
                s.call.pages c.put.new.self.pages (over (change_at s.group) frozen) value count,
            λ i. set_of (same i) (c.reserve.ensures.pages i),
          );
    })
    c.put.ensures.ok c.put.ensures.pages
