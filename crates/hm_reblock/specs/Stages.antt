-- How far a reblock came, and what its next unit moves.
use Rattle.std.specs.Prelude.{◌≡◌, ◌⊎◌, ℕ, ◌+◌, ◌*◌, ◌≤◌, ◌<◌, Bool, true, false, IsFalse, IsTrue, List}
use Rattle.std.specs.Prelude.{Option, None, Some, Result, IfSome, IsSomeAnd, OnOk, slice_get}
use Rattle.std.specs.List.{Contains}
use Rattle.hm_types.specs.Elements.{Key}
use Rattle.hm_types.specs.Offset.{zone_of}
use Rattle.hm_types.specs.Space.{Spends, in_zone, nothing}
use Rattle.hm_types.specs.declared.fault.Fault.{Fault}
use Rattle.hm_types.specs.declared.space.TheConstants.{PAYLOAD_RESERVE}
use Rattle.hm_key.specs.Balance.{Balanced}
use Rattle.hm_key.specs.Extents.{Extent}
use Rattle.hm_key.specs.Job.{ComesFurther, Place}
use Rattle.hm_key.specs.Key.{key_of, least_key, IsBoundary}
use Rattle.hm_key.specs.declared.base.Base.{Base}
use Rattle.hm_key.specs.declared.element.Element.{Element}
use Rattle.hm_cursor.specs.Shown.{IsToCome}
use Rattle.hm_reblock.specs.Choice.{IsFront, NoneChosen, SomeChosen}
use Rattle.hm_reblock.specs.Moving.{MovesPayloads}
use Rattle.hm_reblock.specs.declared.reblock.Reblock.{Reblock}
use Rattle.hm_reblock.specs.declared.stage.Left.{Left}
use Rattle.hm_reblock.specs.declared.stage.Stage.{Stage}
use Rattle.hm_reblock.specs.declared.stage.Stage.TheVariants.{Collect, Move}

-- where a stage stands: at a key of the elements, or at a place of those that were collected
abbrev pub stage_key : Stage → Key
stage_key (Collect None) = least_key
stage_key (Collect (Some from)) = key_of from
stage_key (Move at) = record { localization = 0; obj = 0; rec_type = 0; key = 0; create = at }

-- one where elements were collected to the end
abbrev pub end_number : Stage → ℕ
end_number (Collect None) = 1
end_number (Collect (Some from)) = 0
end_number (Move at) = 0

-- how far a reblock came: each walk has two numbers, of which the second one is that of its end
abbrev pub place_at : ℕ → Stage → Place
place_at walk stage = record { walk = 2 * walk + end_number stage; at = stage_key stage }

abbrev pub reblock_place : Reblock → Place
reblock_place j = place_at j.walk j.stage

-- a reblock stands where it stood, or came further
abbrev pub StandsOrComes : Place → Place → Type 0
StandsOrComes old new = (new ≡ old) ⊎ ComesFurther old new

-- the element that the next unit is to move, of those that were collected; none while it collects
abbrev pub known_in : List Element → Stage → Option Element
known_in known (Collect from) = None
known_in known (Move at) = slice_get known at

abbrev pub next_of : Reblock → Option Element
next_of j = known_in j.known.items j.stage

-- the zone of an element has room for whatever may be admitted for it
abbrev pub HasReserveFor : (ℕ → ℕ) → Option Element → Type 0
HasReserveFor room next = IfSome next (λ e. PAYLOAD_RESERVE ≤ room (zone_of e.payload))

-- what is spent for it at most
abbrev pub most_for : Option Element → ℕ → ℕ
most_for None = nothing
most_for (Some e) = in_zone (zone_of e.payload) PAYLOAD_RESERVE

-- a reblock of this choice, before its first unit
pub record BeginsWithChoice (chosen : List ℕ) (j : Reblock) : Type 0 where
  pub choice : j.choice ≡ chosen
  pub collects : (from : Base) × (j.stage ≡ Collect (Some from)) × IsBoundary from least_key

-- what is left in the choice: an element that stands there, and none exactly where none does
abbrev pub IsLeft : List ℕ → List Element → Option Left → Type 0
IsLeft choice es None = NoneChosen choice es
IsLeft choice es (Some left) = Contains es left.element

-- a walk goes on from a key or a later one, or is at its end
abbrev pub GoesFrom : Option Base → Option Base → Type 0
GoesFrom from None = Unit {0}
GoesFrom from (Some next) = IsToCome from (key_of next)

-- A stage leads on to another one: while it collects, to a later key; else to a later place, of an element with the same
-- payload, or to a new walk.
abbrev pub LeadsOn : List Element → Element → Stage → Stage → Type 0
LeadsOn known e (Collect from) (Collect next) = GoesFrom from next
LeadsOn known e (Collect from) (Move at) = ⊥
LeadsOn known e (Move at) (Collect next) = Unit {0}
LeadsOn known e (Move at) (Move next) = (at ≤ next) × IsSomeAnd (slice_get known next) (λ k. k.payload ≡ e.payload)

-- a unit that failed left a reblock at its start
pub record IsAtStart (old new : Reblock) : Type 0 where
  pub choice : new.choice ≡ old.choice
  pub known : new.known.items ≡ old.known.items
  pub walk : new.walk ≡ old.walk
  pub stage : new.stage ≡ old.stage

-- the same, but that elements were noted
pub record Notes (old new : Reblock) : Type 0 where
  pub choice : new.choice ≡ old.choice
  pub noted : IsFront old.known.items new.known.items
  pub walk : new.walk ≡ old.walk
  pub stage : new.stage ≡ old.stage

-- whether elements are collected anew after a stage
abbrev pub begins_anew : Stage → Stage → Bool
begins_anew (Collect from) next = false
begins_anew (Move at) (Collect from) = true
begins_anew (Move at) (Move next) = false

-- a reblock goes on with a stage: in the same walk, or in another one where it collects anew
pub record GoesOnWith (old : Reblock) (stage : Stage) (new : Reblock) : Type 0 where
  pub to : new.stage ≡ stage
  pub same : IsFalse (begins_anew old.stage stage) → (new.walk ≡ old.walk) × (new.known ≡ old.known)
  pub anew : IsTrue (begins_anew old.stage stage) → old.walk < new.walk

-- What a unit of a reblock does besides what any job may do: the choice stays, one extent moves at most, and of its zone no
-- more is spent than may be admitted for it.
pub record MovesOne {S : Type 0} (elements_of : S → Option (List Element)) (mark_of : S → Key → ℕ) (extents_of : S → Option (List Extent))
    (room_of : S → ℕ → ℕ) (free_of : S → ℕ) (j k : Reblock) (old new : S) {A : Type 0} (result : Result A Fault) : Type 0 where
  pub choice : k.choice ≡ j.choice
  pub moves : OnOk result (MovesPayloads elements_of mark_of extents_of old new)
  pub space : Spends room_of free_of (most_for (next_of j)) old new

-- what a reblock says of a store goes by what that tells, and by its room
pub carried : (choice : List ℕ) (next : Option Element) (es fs : Option (List Element)) (xs ys : Option (List Extent)) (room other : ℕ → ℕ)
    → fs ≡ es → ys ≡ xs → ((zone : ℕ) → other zone ≡ room zone)
    → (Balanced es xs × HasReserveFor room next → Balanced fs ys × HasReserveFor other next)
    × (Balanced es xs × IfSome es (SomeChosen choice) → Balanced fs ys × IfSome fs (SomeChosen choice))
    × (Balanced es xs × IfSome es (NoneChosen choice) → Balanced fs ys × IfSome fs (NoneChosen choice))
carried choice None es fs xs ys room other elements extents same = rw (elements, extents) (λ fits. fits, λ goes. goes, λ ends. ends)
carried choice (Some e) es fs xs ys room other elements extents same =
    rw (elements, extents, same (zone_of e.payload)) (λ fits. fits, λ goes. goes, λ ends. ends)
