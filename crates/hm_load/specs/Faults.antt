-- Where damage comes first.
use Rattle.std.specs.Prelude.{ℕ, ◌<◌}
use Rattle.hm_types.specs.declared.fault.Fault.{Fault}
use Rattle.hm_types.specs.declared.fault.Fault.TheVariants.{Media, Damaged, NoMemory}

-- a fact holds of each number below this one, and not of it
pub record IsFirstBad (Good : ℕ → Type 0) (i : ℕ) : Type 0 where
  pub before : (j : ℕ) → j < i → Good j
  pub bad : Good i → ⊥

-- a fault that tells damage tells such an offset and kind
abbrev pub Tells : (ℕ → ℕ → Type 0) → Fault → Type 0
Tells Damage (Media before after) = Unit {0}
Tells Damage (Damaged at kind) = Damage at kind
Tells Damage NoMemory = Unit {0}

-- a fault that is none of the disk
abbrev pub IsNoMedia : Fault → Type 0
IsNoMedia (Media before after) = ⊥
IsNoMedia (Damaged at kind) = Unit {0}
IsNoMedia NoMemory = Unit {0}
