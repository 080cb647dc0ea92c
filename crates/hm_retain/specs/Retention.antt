-- Retentions, and what is cut from them or joined to them, as sets of ids.
use Rattle.std.specs.Prelude.{◌≡◌, ◌⊎◌, ℕ, ◌-◌, ◌^◌, ◌<◌, ◌≤◌, List, length, min, Option, None, Some}
use Rattle.std.specs.List.{Contains}
use Rattle.hm_types.specs.declared.id.Id.{Id}
use Rattle.hm_types.specs.declared.limits.TheConstants.{MOST_INTERVALS}
use Rattle.hm_retain.specs.declared.fault.RetainFault.{RetainFault}
use Rattle.hm_retain.specs.declared.fault.RetainFault.TheVariants.{TooMany, NoMemory}
use Rattle.hm_types.specs.Intervals.{Keeps}
use Rattle.hm_retain.specs.Intervals.{KeepsExactly, IsIntervals}

-- a retention: at most 4,096 maximal intervals
pub record IsRetention (list : List (ℕ × ℕ)) : Type 0 where
  pub intervals : IsIntervals list
  pub few : length list ≤ MOST_INTERVALS

-- an id is kept, and none from a number on that is kept is less
pub record IsLeastKept (list : List (ℕ × ℕ)) (from id : ℕ) : Type 0 where
  pub onward : from ≤ id
  pub kept : Keeps list id
  pub least : (other : ℕ) → Keeps list other → from ≤ other → id ≤ other

-- the least id that is kept from a number on, if there is one
abbrev pub IsFirstKept : List (ℕ × ℕ) → ℕ → Option Id → Type 0
IsFirstKept list from None = (other : ℕ) → Keeps list other → other < from
IsFirstKept list from (Some id) = IsLeastKept list from id.0

-- the id is one of these
abbrev pub IsListed : List Id → ℕ → Type 0
IsListed ids id = Contains ids (record { 0 = id })

-- what a cut keeps of a retention: the listed ids, and all from `from` on
abbrev pub IsCut : List (ℕ × ℕ) → List Id → ℕ → List (ℕ × ℕ) → Type 0
IsCut retention ids from list = KeepsExactly list (λ id. Keeps retention id × (IsListed ids id ⊎ (from ≤ id)))

-- a retention with what another has from `begin` + 1 to `end`
abbrev pub IsJoin : List (ℕ × ℕ) → List (ℕ × ℕ) → ℕ → ℕ → List (ℕ × ℕ) → Type 0
IsJoin retention other begin end list = KeepsExactly list (λ id. Keeps retention id ⊎ (Keeps other id × (begin < id) × (id ≤ end)))

-- the maximal intervals that meet a sentence are too many for a retention: `count` is their number,
-- or the greatest `u32` where that is less
pub record IsTooMany (Meets : List (ℕ × ℕ) → Type 0) (count : ℕ) : Type 0 where
  pub list : List (ℕ × ℕ)
  pub intervals : IsIntervals list
  pub meets : Meets list
  pub many : MOST_INTERVALS < length list
  pub told : count ≡ min (length list) (2 ^ 32 - 1)

-- a fault tells of too many intervals only where there are, and with their number
abbrev pub TellsOf : (List (ℕ × ℕ) → Type 0) → RetainFault → Type 0
TellsOf Meets (TooMany count) = IsTooMany Meets count
TellsOf Meets NoMemory = Unit {0}
