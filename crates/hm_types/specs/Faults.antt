-- What a count of faults says of a call.
use Rattle.std.specs.Prelude.{◌≡◌, ℕ, ◌+◌, ◌-◌, ◌^◌, ◌≤◌, min, Option, Result, IfSome, OnErr, IfErr}
use Rattle.hm_types.specs.declared.fault.Fault.{Fault}
use Rattle.hm_types.specs.declared.fault.Fault.TheVariants.{Media, Damaged, NoMemory}
use Rattle.hm_types.specs.declared.fault.SpaceFault.{SpaceFault}
use Rattle.hm_types.specs.declared.fault.SpaceFault.TheVariants.{NoSpace, Fault as of_store}

-- a count rose, or stands at the greatest that it can be
abbrev pub Rose : ℕ → ℕ → Type 0
Rose before after = min (before + 1) (2 ^ 64 - 1) ≤ after

-- a call kept or raised the count, and failed only where it rose
pub record HasCause {T E : Type 0} (before after : ℕ) (result : Result T E) : Type 0 where
  pub never_falls : before ≤ after
  pub failed : OnErr result (Rose before after)

-- the device failed: its count rose from `before` to `after`, within a call over which the count of
-- faults went from `old` to `new`
pub record IsMedia (old new before after : ℕ) : Type 0 where
  pub begin : old ≤ before
  pub rose : Rose before after
  pub end : after ≤ new

-- a fault has its cause in such a call; damage and want of memory have theirs elsewhere
abbrev pub IsCaused : ℕ → ℕ → Fault → Type 0
IsCaused old new (Media before after) = IsMedia old new before after
IsCaused old new (Damaged at kind) = Unit {0}
IsCaused old new NoMemory = Unit {0}

-- a call kept or raised the count, and each fault that it answers has its cause
pub record HasFaultCause {T : Type 0} (old new : ℕ) (result : Result T Fault) : Type 0 where
  pub never_falls : old ≤ new
  pub caused : IfErr result (IsCaused old new)

-- a refusal for want of space has its cause elsewhere
abbrev pub IsSpaceCaused : ℕ → ℕ → SpaceFault → Type 0
IsSpaceCaused old new (NoSpace free needed) = Unit {0}
IsSpaceCaused old new (of_store fault) = IsCaused old new fault

-- a call kept or raised the count, and each fault of the store that it answers has its cause
pub record HasSpaceCause {T : Type 0} (old new : ℕ) (result : Result T SpaceFault) : Type 0 where
  pub never_falls : old ≤ new
  pub caused : IfErr result (IsSpaceCaused old new)

-- a fault that tells of no damage
abbrev pub IsUndamaged : Fault → Type 0
IsUndamaged (Media before after) = Unit {0}
IsUndamaged (Damaged at kind) = ⊥
IsUndamaged NoMemory = Unit {0}

-- the same of a fault of a call that takes space
abbrev pub IsSpaceUndamaged : SpaceFault → Type 0
IsSpaceUndamaged (NoSpace free needed) = Unit {0}
IsSpaceUndamaged (of_store fault) = IsUndamaged fault

-- a fault that tells damage tells it of what stands at this offset
abbrev pub IsDamageOnlyAt : ℕ → Fault → Type 0
IsDamageOnlyAt here (Media before after) = Unit {0}
IsDamageOnlyAt here (Damaged at kind) = at ≡ here
IsDamageOnlyAt here NoMemory = Unit {0}

-- each fault of a call has its cause in it, and tells of no damage where content is told
pub record HasStoreCause {A T : Type 0} (told : Option A) (old new : ℕ) (result : Result T Fault) : Type 0 where
  pub counted : HasFaultCause old new result
  pub undamaged : IfSome told (λ _. IfErr result IsUndamaged)

-- the same of a call that takes space
pub record HasAdmitCause {A T : Type 0} (told : Option A) (old new : ℕ) (result : Result T SpaceFault) : Type 0 where
  pub counted : HasSpaceCause old new result
  pub undamaged : IfSome told (λ _. IfErr result IsSpaceUndamaged)
