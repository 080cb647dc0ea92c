-- What reading a payload answers.
use Rattle.std.specs.Prelude.{◌≡◌, ◌⊎◌, ℕ, Result, Ok, Err}
use Rattle.hm_types.specs.declared.damage.TheConstants.{BAD_PAYLOAD}
use Rattle.hm_types.specs.declared.fault.Fault.{Fault}
use Rattle.hm_types.specs.declared.fault.Fault.TheVariants.{Damaged, NoMemory}

-- the payload at this offset breaks its grammar
abbrev pub IsBadPayload : ℕ → Fault → Type 0
IsBadPayload at fault = fault ≡ Damaged at BAD_PAYLOAD

-- so it does, or an allocation was refused
abbrev pub IsReadFault : ℕ → Fault → Type 0
IsReadFault at fault = IsBadPayload at fault ⊎ (fault ≡ NoMemory)

-- this value was read, or an allocation was refused
abbrev pub Reads : {A : Type 0} → A → Result A Fault → Type 0
Reads value (Ok read) = read ≡ value
Reads value (Err fault) = fault ≡ NoMemory
