use Rattle.std.proofs.Common.{◌≡◌, ◌∙◌, ℕ, false, ap, sym, refl, arith, Some, None, is_some, if◌then◌else◌}
use Rattle.std.specs.HashMap.{hash_map_len}
use Rattle.hm_pages.specs.Changes.{change_at}
use Rattle.hm_pages.specs.Table.{page_at}
use Rattle.hm_pages.specs.Maps.{ChangeMap, over, set_at, is_page}
use Rattle.hm_pages.specs.Store.{contents}
use Rattle.hm_pages.specs.declared.held.HeldPage.{HeldPage}
use Rattle.hm_pages.specs.declared.store.PageStore.{PageStore}
use Rattle.hm_pages.proofs.LoadLemmas.{over_load, changed_forget, no_page, no_pages_at, listed_forget, keeps_forget}
use Rattle.hm_pages.proofs.ShutLemmas.{shut, call_len}
use Rattle.hm_pages.proofs.StoreLemmas.{none_from_len, idle_fewer}
use Rattle.hm_pages.proofs.store.PageStore.load.Goals as goal

-- no page was put where none of the maps has one
no_frozen : (s : PageStore) (at : ℕ) → (contents s).frozen at ≡ None → is_page (change_at s.frozen at) ≡ false
unfolding contents
no_frozen s at none = no_page (change_at s.frozen at) (page_at s.committed at) none

no_group : (s : PageStore) (at : ℕ) → (contents s).current at ≡ None → (contents s).begin ≡ None → is_page (change_at s.group at) ≡ false
unfolding contents
no_group s at none closed =
    no_page (change_at s.group at) (over (change_at s.frozen) (page_at s.committed) at)
    (sym (ap (λ (k : ChangeMap). over k (over (change_at s.group) (over (change_at s.frozen) (page_at s.committed))) at)
    (none_from_len s.call (call_len s closed))) ∙ none)

pub invariant_of-self-2 : goal.invariant_of-self-2
invariant_of-self-2 c =
    let s = c.args.self.now in
    let at = c.args.at in
    let frozen = no_frozen s at c.requires.frozen in
    let count = no_pages_at (change_at s.frozen at) frozen in
    let group = no_pages_at (change_at s.group at) (no_group s at c.requires.current c.requires.closed) in
    record {
      room = omega (arith, call_len s c.requires.closed);
      flush_room = omega (arith, c.forget.ensures.len, c.put.ensures.spare, c.in_ok-reserve.ensures.ok, c.len.ensures.len);
      few = omega (arith, c.forget-2.ensures.pages, s.few);
      few_frozen = omega (arith, c.forget.ensures.pages, s.few_frozen);
      closed = s.closed;
      idle = idle_fewer (is_some s.boundary) (hash_map_len s.frozen.places) (hash_map_len c.forget.new.self.places) s.idle c.forget.ensures.len;
      rising = s.rising;
      listed = λ other. s.listed other ∙ listed_forget at other (change_at s.frozen) (change_at c.forget.new.self) c.forget.ensures.value frozen;
      len = omega (arith, c.forget.ensures.pages, count, s.len);
      call_keeps = s.call_keeps;
      group_keeps = keeps_forget at (change_at s.group) (change_at c.forget-2.new.self) c.forget-2.ensures.value s.group_keeps;
      frozen_keeps = keeps_forget at (change_at s.frozen) (change_at c.forget.new.self) c.forget.ensures.value s.frozen_keeps;
    }

pub returns-clause-ok : goal.returns-clause-ok
unfolding contents
returns-clause-ok c =
    let s = c.args.self.now in
    let at = c.args.at in
    let page = c.args.page.now in
    let none = none_from_len s.call (call_len s c.requires.closed) in
    let is_shut = shut s c.requires.closed in
    let same = ap (λ (held : HeldPage). held.page) c.in_ok-page.ensures.ok ∙ c.of.ensures in
    let committed : page_at c.put.new.self ≡ set_at at (Some page) (page_at s.committed) =
    c.put.ensures.value ∙ (λ i. set_at at (Some (same i)) (c.reserve.ensures.same i)) in
    let frozen = (λ i. over (c.forget.ensures.value i) (committed i)) ∙ over_load at (Some page) (change_at s.frozen) (page_at s.committed) in
    let group = (λ i. over (c.forget-2.ensures.value i) (frozen i)) ∙
    over_load at (Some page) (change_at s.group) (over (change_at s.frozen) (page_at s.committed)) in
    let count = no_pages_at (change_at s.group at) (no_group s at c.requires.current c.requires.closed) in
    record {
      committed = committed;
      frozen = frozen;
      current = (λ i. over (none i) (group i)) ∙
          sym (λ i. set_at at (Some page) (over (none i) (over (change_at s.group) (over (change_at s.frozen) (page_at s.committed)))));
      changed = changed_forget at (change_at s.group) (change_at c.forget-2.new.self) c.forget-2.ensures.value;
      pages = omega (arith, c.forget-2.ensures.pages, count);
      call = (
        refl,
        (λ i. if is_shut i then Some (over (change_at c.forget-2.new.self) (over (change_at c.forget.new.self) (page_at c.put.new.self))) else None)
            ∙ sym (λ i. if is_shut i then Some (over (change_at s.group) (over (change_at s.frozen) (page_at s.committed))) else None),
      );
      flush = (refl, refl);
    }
