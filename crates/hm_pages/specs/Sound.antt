-- What always holds of a store of pages.
use Rattle.std.specs.Prelude.{◌≡◌, ℕ, ◌+◌, ◌≤◌, Bool, true, false, [], None, length, is_some, nat_eq, IfSome}
use Rattle.std.specs.Set.{is_member}
use Rattle.std.specs.List.Sorted.{IsStrictlyIncreasing}
use Rattle.hm_types.specs.declared.limits.TheConstants.{MOST_GROUP_PAGES}
use Rattle.hm_fields.specs.Pages.{PageMap}
use Rattle.hm_pages.specs.Sets.{no_set}
use Rattle.hm_pages.specs.Store.{Store, layer2}

-- two maps agree where nothing was changed between them
abbrev pub AgreeBeside : (ℕ → Bool) → PageMap → PageMap → Type 0
AgreeBeside changed new old = (at : ℕ) → changed at ≡ false → new at ≡ old at

-- What a flush has to place. The list has each offset once, of a frozen page, and a frozen page whose offset is not
-- in it is the committed one. Where nothing is frozen, the frozen map is the committed one.
pub record IsSoundFlush (s : Store) : Type 0 where
  pub rising : IsStrictlyIncreasing s.frozen_group
  pub frozen : (at : ℕ) → is_member nat_eq s.frozen_group at ≡ true → is_some (s.frozen at) ≡ true
  pub beside : (at : ℕ) → is_member nat_eq s.frozen_group at ≡ false → is_some (s.frozen at) ≡ true → s.frozen at ≡ s.committed at
  pub idle : s.boundary ≡ None → (s.frozen ≡ s.committed) × (s.frozen_group ≡ [])

pub record IsSound (s : Store) : Type 0 where
  -- what was changed: by the open call since its beginning, and by the group since the freeze
  pub flush : IsSoundFlush s
  pub closed : s.begin ≡ None → (s.call ≡ no_set) × AgreeBeside s.group.changed s.current s.frozen
  pub call : IfSome s.begin (λ map. AgreeBeside s.call.changed s.current map)
  pub group : IfSome s.begin (λ map. AgreeBeside s.group.changed map s.frozen)
  -- how many pages a group has
  pub few : s.group.pages + s.call.pages ≤ MOST_GROUP_PAGES
  pub few_frozen : length s.frozen_group ≤ MOST_GROUP_PAGES
  -- the committed pages of the freemap are in all three maps
  pub layer2 : (at : ℕ) → layer2 s at ≡ true → (is_some (s.frozen at) ≡ true) × (is_some (s.current at) ≡ true)
