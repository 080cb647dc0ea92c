-- The pages of a store are bytes.
use Rattle.std.proofs.Common.{◌≡◌, ℕ, List, Option, Some, None, option_map, unwrap_or, ap, subst}
use Rattle.std.specs.Prelude.{nat_eq}
use Rattle.std.specs.HashMap as hash
use Rattle.hm_fields.specs.Fields.{AreBytes}
use Rattle.hm_fields.specs.Pages.{PageMap}
use Rattle.hm_fields.specs.declared.states.State.{State}
use Rattle.hm_fields.specs.declared.states.State.TheVariants.{Committed, Frozen, Current}
use Rattle.hm_pages.specs.Changes.{change_at}
use Rattle.hm_pages.specs.Counts.{Boxed, bytes_of}
use Rattle.hm_pages.specs.Maps.{ChangeMap, over}
use Rattle.hm_pages.specs.Store.{contents, in_state}
use Rattle.hm_pages.specs.Table.{page_at}
use Rattle.hm_pages.specs.declared.changes.Changes.{Changes}
use Rattle.hm_pages.specs.declared.store.PageStore.{PageStore}
use Rattle.hm_pages.specs.declared.table.Table.{Table}

-- each page of a map is one of bytes, and each that changes put
abbrev HasBytes : PageMap → Type 0
HasBytes map = (at : ℕ) (page : List ℕ) → map at ≡ Some page → AreBytes page

abbrev PutsBytes : ChangeMap → Type 0
PutsBytes changes = (at : ℕ) (page : List ℕ) → changes at ≡ Some (Some page) → AreBytes page

held_bytes : (o : Option Boxed) (page : List ℕ) → option_map bytes_of o ≡ Some page → AreBytes page
held_bytes None page is = absurd cc
held_bytes (Some held) page is = let same : bytes_of held ≡ page = cc in subst AreBytes same held.value.bytes

table_bytes : (table : Table) → HasBytes (page_at table)
table_bytes table at page is = held_bytes (hash.get nat_eq table.pages at) page is

change_bytes : (changes : Changes) → PutsBytes (change_at changes)
change_bytes changes at page is = by_change (hash.get nat_eq changes.places at) is where
  by_change : (o : Option (Option Boxed)) → option_map (option_map bytes_of) o ≡ Some (Some page) → AreBytes page
  by_change None is = absurd cc
  by_change (Some held) is = let same : option_map bytes_of held ≡ Some page = cc in held_bytes held page same

over_bytes : (changes : ChangeMap) (map : PageMap) → PutsBytes changes → HasBytes map → HasBytes (over changes map)
over_bytes changes map puts below at page is = by_change (changes at) (puts at page) is where
  by_change : (o : Option (Option (List ℕ))) → (o ≡ Some (Some page) → AreBytes page) → unwrap_or o (map at) ≡ Some page → AreBytes page
  by_change None put is = below at page is
  by_change (Some change) put is = put (ap Some is)

pub state_bytes : (s : PageStore) (state : State) → HasBytes (in_state (contents s) state)
unfolding contents
state_bytes s Committed = table_bytes s.committed
state_bytes s Frozen = over_bytes (change_at s.frozen) (page_at s.committed) (change_bytes s.frozen) (table_bytes s.committed)
state_bytes s Current =
    over_bytes (change_at s.call) _ (change_bytes s.call)
    (over_bytes (change_at s.group) _ (change_bytes s.group)
    (over_bytes (change_at s.frozen) (page_at s.committed) (change_bytes s.frozen) (table_bytes s.committed)))
