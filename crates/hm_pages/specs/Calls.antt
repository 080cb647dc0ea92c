-- What each call of a store of pages changes.
use Rattle.std.specs.Prelude.{◌≡◌, ℕ, ◌+◌, ◌≤◌, ◌&&◌, ◌||◌, false, List, [], Option, Some, None, length, is_some, nat_eq}
use Rattle.std.specs.Option.{MatchOption}
use Rattle.std.specs.Set.{is_member}
use Rattle.hm_types.specs.declared.id.Id.{Id}
use Rattle.hm_pages.specs.Maps.{set_at}
use Rattle.hm_pages.specs.Sets.{no_set, HasChanged}
use Rattle.hm_pages.specs.Store.{Store}

-- what is committed and what is frozen stays
pub record IsSameFlush (old new : Store) : Type 0 where
  pub committed : new.committed ≡ old.committed
  pub frozen : new.frozen ≡ old.frozen
  pub frozen_group : new.frozen_group ≡ old.frozen_group
  pub boundary : new.boundary ≡ old.boundary

-- a page was put or taken out at an offset, by the open call, or straight in the group where none is open
pub record IsChanged (at : ℕ) (page : Option (List ℕ)) (old new : Store) : Type 0 where
  pub flush : IsSameFlush old new
  pub current : new.current ≡ set_at at page old.current
  pub begin : new.begin ≡ old.begin
  pub sets : MatchOption old.begin
      (HasChanged at (old.current at) page old.group new.group × (new.call ≡ old.call))
      (λ _. HasChanged at (old.current at) page old.call new.call × (new.group ≡ old.group))

-- a page was put into all three maps, where none had one
pub record IsLoaded (at : ℕ) (bytes : List ℕ) (old new : Store) : Type 0 where
  pub committed : new.committed ≡ set_at at (Some bytes) old.committed
  pub frozen : new.frozen ≡ set_at at (Some bytes) old.frozen
  pub current : new.current ≡ set_at at (Some bytes) old.current
  pub changed : new.group.changed ≡ set_at at false old.group.changed
  pub pages : new.group.pages ≡ old.group.pages
  pub call : (new.call ≡ old.call) × (new.begin ≡ old.begin)
  pub flush : (new.frozen_group ≡ old.frozen_group) × (new.boundary ≡ old.boundary)

-- a call was opened
pub record IsBegun (old new : Store) : Type 0 where
  pub flush : IsSameFlush old new
  pub current : new.current ≡ old.current
  pub begin : new.begin ≡ Some old.current
  pub call : new.call ≡ no_set
  pub group : new.group ≡ old.group

-- the changes of the open call became those of the group
pub record IsKept (old new : Store) : Type 0 where
  pub flush : IsSameFlush old new
  pub current : new.current ≡ old.current
  pub begin : new.begin ≡ None
  pub call : new.call ≡ no_set
  pub group : new.group.changed ≡ (λ at. old.call.changed at || old.group.changed at)
  pub pages : new.group.pages ≤ old.group.pages + old.call.pages

-- the changes of the open call were dropped: the map is that at its beginning
pub record IsUndone (old new : Store) : Type 0 where
  pub flush : IsSameFlush old new
  pub current : Some new.current ≡ old.begin
  pub begin : new.begin ≡ None
  pub call : new.call ≡ no_set
  pub group : new.group ≡ old.group

-- the current map became the frozen one, and the group the frozen one: its pages are listed
pub record IsFrozen (boundary : Id) (old new : Store) : Type 0 where
  pub committed : new.committed ≡ old.committed
  pub frozen : new.frozen ≡ old.current
  pub current : new.current ≡ old.current
  pub group : new.group ≡ no_set
  pub each : (at : ℕ) → is_member nat_eq new.frozen_group at ≡ (old.group.changed at && is_some (old.current at))
  pub len : length new.frozen_group ≡ old.group.pages
  pub boundary_is : new.boundary ≡ Some boundary
  pub call : (new.call ≡ old.call) × (new.begin ≡ old.begin)

-- the frozen map became the committed one
pub record IsCommitted (old new : Store) : Type 0 where
  pub committed : new.committed ≡ old.frozen
  pub frozen : new.frozen ≡ old.frozen
  pub current : new.current ≡ old.current
  pub group : new.group ≡ old.group
  pub call : (new.call ≡ old.call) × (new.begin ≡ old.begin)
  pub frozen_group : new.frozen_group ≡ []
  pub boundary : new.boundary ≡ None
