-- Pages in three states.
use Rattle.std.specs.Prelude.{◌≡◌, ℕ, Bool, Option, is_some, IfSome, IsTrue}
use Rattle.hm_fields.specs.Pages.{PageMap}
use Rattle.hm_fields.specs.declared.states.State.{State}
use Rattle.hm_fields.specs.declared.states.State.TheVariants.{Committed, Frozen, Current}

-- the map of one of the three
abbrev pub map_of : Option PageMap → Option PageMap → Option PageMap → State → Option PageMap
map_of committed frozen current Committed = committed
map_of committed frozen current Frozen = frozen
map_of committed frozen current Current = current

-- a map that is told has a page at each of these offsets
abbrev pub HasEach : (ℕ → Bool) → Option PageMap → Type 0
HasEach offsets told = IfSome told (λ map. (at : ℕ) → IsTrue (offsets at) → IsTrue (is_some (map at)))

-- the maps of all three states have them, and all are told, or none is
pub record HaveAll (offsets : ℕ → Bool) (committed frozen current : Option PageMap) : Type 0 where
  pub in_committed : HasEach offsets committed
  pub in_frozen : HasEach offsets frozen
  pub in_current : HasEach offsets current
  pub together : (is_some committed ≡ is_some current) × (is_some frozen ≡ is_some current)
