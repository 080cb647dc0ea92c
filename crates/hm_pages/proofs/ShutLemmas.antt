-- A store in which no call is open, or nothing is frozen.
use Rattle.std.proofs.Common.{◌≡◌, false, None}
use Rattle.std.specs.HashMap.{hash_map_len}
use Rattle.hm_pages.specs.Changes.{change_at}
use Rattle.hm_pages.specs.Table.{page_at}
use Rattle.hm_pages.specs.Maps.{no_changes, over}
use Rattle.hm_pages.specs.Store.{contents}
use Rattle.hm_pages.specs.declared.store.PageStore.{PageStore}
use Rattle.hm_pages.proofs.StoreLemmas.{none_from_len, not_open, closed_len, idle_len}

pub shut : (s : PageStore) → (contents s).begin ≡ None → s.is_open ≡ false
unfolding contents
shut s closed = not_open s.is_open (over (change_at s.group) (over (change_at s.frozen) (page_at s.committed))) closed

pub call_len : (s : PageStore) → (contents s).begin ≡ None → hash_map_len s.call.places ≡ 0
call_len s closed = closed_len s.is_open (hash_map_len s.call.places) s.closed (shut s closed)

pub frozen_none : (s : PageStore) → (contents s).boundary ≡ None → change_at s.frozen ≡ no_changes
unfolding contents
frozen_none s idle = none_from_len s.frozen (idle_len s.boundary (hash_map_len s.frozen.places) s.idle idle)
