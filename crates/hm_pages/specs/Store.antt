-- What a store of pages in three states tells.
use Rattle.std.specs.Prelude.{ℕ, Bool, ◌&&◌, List, [], Option, Some, None, is_some, if◌then◌else◌}
use Rattle.hm_types.specs.declared.id.Id.{Id}
use Rattle.hm_fields.specs.Pages.{PageMap}
use Rattle.hm_fields.specs.declared.states.State.{State}
use Rattle.hm_fields.specs.declared.states.State.TheVariants.{Committed, Frozen, Current}
use Rattle.hm_pages.specs.Maps.{ChangeMap, no_pages, over, is_page}
use Rattle.hm_pages.specs.Sets.{ChangeSet, no_set, set_of, in_freemap}
use Rattle.hm_pages.specs.Changes.{change_at}
use Rattle.hm_pages.specs.Table.{page_at}
use Rattle.hm_pages.specs.declared.store.PageStore.{PageStore}

-- The three maps, the map at the beginning of the open call, what this call changed, what the calls that were
-- kept have changed since the last freeze, the offsets of the frozen pages that a flush has to place, and the
-- boundary of what is frozen.
pub record Store : Type 0 where
  pub committed : PageMap
  pub frozen : PageMap
  pub current : PageMap
  pub begin : Option PageMap
  pub call : ChangeSet
  pub group : ChangeSet
  pub frozen_group : List ℕ
  pub boundary : Option Id

-- no page, and nothing changed or frozen
abbrev pub empty_store : Store
empty_store = record {
  committed = no_pages;
  frozen = no_pages;
  current = no_pages;
  begin = None;
  call = no_set;
  group = no_set;
  frozen_group = [];
  boundary = None;
}

-- what these tell: the committed map, what was frozen over it, what the group and the open call changed, whether one is
-- open, how many pages the group and the call put, the offsets to place, and the boundary
abbrev pub store_of : PageMap → ChangeMap → ChangeMap → ChangeMap → Bool → ℕ → ℕ → List ℕ → Option Id → Store
store_of committed frozen group call is_open group_pages call_pages places boundary = record {
  committed = committed;
  frozen = over frozen committed;
  current = over call (over group (over frozen committed));
  begin = if is_open then Some (over group (over frozen committed)) else None;
  call = set_of call call_pages;
  group = set_of group group_pages;
  frozen_group = places;
  boundary = boundary;
}

unfoldable pub contents : PageStore → Store
contents s = store_of (page_at s.committed) (change_at s.frozen) (change_at s.group) (change_at s.call) s.is_open
    s.group.pages s.call.pages s.places.items s.boundary

-- What no change of a call alters: the committed and the frozen pages, what a flush has to place, and the map
-- and the group at the beginning of the open call.
pub record Frame : Type 0 where
  pub committed : PageMap
  pub frozen : PageMap
  pub frozen_group : List ℕ
  pub boundary : Option Id
  pub begin : Option PageMap
  pub begin_group : Option ChangeSet

abbrev pub frame_of : Store → Frame
frame_of s = record {
  committed = s.committed;
  frozen = s.frozen;
  frozen_group = s.frozen_group;
  boundary = s.boundary;
  begin = s.begin;
  begin_group = if is_some s.begin then Some s.group else None;
}

-- the pages of layer 2: those of the freemap that are committed
abbrev pub layer2 : Store → ℕ → Bool
layer2 s at = in_freemap at && is_some (s.committed at)

-- the map of one of the states
abbrev pub in_state : Store → State → PageMap
in_state s Committed = s.committed
in_state s Frozen = s.frozen
in_state s Current = s.current

-- whether a page was put at an offset: by the open call, or in the group where none is open
abbrev pub stands_in : PageStore → ℕ → Bool
stands_in s at = is_page ((if s.is_open then change_at s.call else change_at s.group) at)
