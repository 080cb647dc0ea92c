-- That a store is sound.
use Rattle.std.proofs.Common.{◌≡◌, ℕ, Bool, true, false, List, Option, Some, None, unwrap_or, is_some, IfSome, if◌then◌else◌, refl, sym, ap, ◌∙◌, arith}
use Rattle.std.specs.HashMap.{hash_map_len}
use Rattle.hm_fields.specs.Pages.{PageMap}
use Rattle.hm_pages.specs.Maps.{ChangeMap, over, is_page}
use Rattle.hm_pages.specs.Changes.{change_at}
use Rattle.hm_pages.specs.Table.{page_at}
use Rattle.hm_pages.specs.Store.{contents}
use Rattle.hm_pages.specs.Sound.{AgreeBeside, IsSoundFlush, IsSound}
use Rattle.hm_pages.specs.States.{there}
use Rattle.hm_pages.specs.declared.store.PageStore.{PageStore}
use Rattle.hm_pages.proofs.CountLemmas.{pages-le-length}
use Rattle.hm_pages.proofs.ShutLemmas.{call_len, frozen_none}
use Rattle.hm_pages.proofs.StoreLemmas.{empty_from_length, idle_len, none_from_len, nothing_set}

-- a page that was put is there, and where none was and one is, it is the one below
put_there : (change : Option (Option (List ℕ))) (below : Option (List ℕ)) → is_page change ≡ true → is_some (unwrap_or change below) ≡ true
put_there None below put = absurd (grind (arith, put))
put_there (Some None) below put = absurd (grind (arith, put))
put_there (Some (Some bytes)) below put = refl

below_there : (change : Option (Option (List ℕ))) (below : Option (List ℕ)) → is_page change ≡ false → is_some (unwrap_or change below) ≡ true →
    unwrap_or change below ≡ below
below_there None below put there = refl
below_there (Some None) below put there = absurd (grind (arith, there))
below_there (Some (Some bytes)) below put there = absurd (grind (arith, put))

-- where nothing was changed, the page is the one below
unchanged : (change : Option (Option (List ℕ))) (below : Option (List ℕ)) → is_some change ≡ false → unwrap_or change below ≡ below
unchanged None below none = refl
unchanged (Some change) below none = absurd (grind (arith, none))

-- what holds of the map at the beginning of the open call, if one is open
in_open : (is_open : Bool) (map : PageMap) (P : PageMap → Type 0) → P map → IfSome (if is_open then Some map else None) P
in_open true map P holds = holds
in_open false map P holds = tt

sound_flush : (s : PageStore) → IsSoundFlush (contents s)
unfolding contents
sound_flush s = record {
  rising = s.rising;
  frozen = λ at member. put_there (change_at s.frozen at) (page_at s.committed at) (sym (s.listed at) ∙ member);
  beside = λ at member. below_there (change_at s.frozen at) (page_at s.committed at) (sym (s.listed at) ∙ member);
  idle = λ idle. (
    ap (λ (f : ChangeMap). over f (page_at s.committed)) (frozen_none s idle),
    empty_from_length s.places.items
        (omega (arith, s.len, s.frozen.counted, pages-le-length s.frozen.places.entries, idle_len s.boundary (hash_map_len s.frozen.places) s.idle idle)),
  );
}

pub sound : (s : PageStore) → IsSound (contents s)
unfolding contents
sound s =
    let frozen = over (change_at s.frozen) (page_at s.committed) in
    let kept = over (change_at s.group) frozen in
    record {
      flush = sound_flush s;
      closed = λ closed.
          let none = none_from_len s.call (call_len s closed) in (
            nothing_set (change_at s.call) s.call.pages none (omega (arith, s.call.counted, pages-le-length s.call.places.entries, call_len s closed)),
            λ at same. ap (λ (k : ChangeMap). over k kept at) none ∙ unchanged (change_at s.group at) (frozen at) same,
          );
      call = in_open s.is_open kept (λ map. AgreeBeside (λ at. is_some (change_at s.call at)) (over (change_at s.call) kept) map)
          (λ at same. unchanged (change_at s.call at) (kept at) same);
      group = in_open s.is_open kept (λ map. AgreeBeside (λ at. is_some (change_at s.group at)) map frozen)
          (λ at same. unchanged (change_at s.group at) (frozen at) same);
      few = s.few;
      few_frozen = omega (arith, s.len, s.few_frozen);
      layer2 = λ at holds. (grind (arith, (there s).in_frozen at holds), grind (arith, (there s).in_current at holds));
    }
