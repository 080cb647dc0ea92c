-- The commands that a core serves.
use Rattle.std.specs.Prelude.{◌≡◌, ◌⊎◌}
use Rattle.hm_model.specs.Forms.{IsInRange}
use Rattle.hm_model.specs.declared.command.Command.{Command}
use Rattle.hm_model.specs.declared.command.Command.TheVariants.{Df, Sync, Synctid}
use Rattle.hm_calls.specs.Answered.{IsAnswerable}
use Rattle.hm_core.specs.Open.{IsReblock}

-- a call that a store answers: on names, on the bytes of files, or on pseudo file systems; or one that tells the space, or opens a reblock
abbrev pub IsOnStore : Command → Type 0
IsOnStore command = IsAnswerable command ⊎ ((command ≡ Df) ⊎ IsReblock command)

-- a call that waits until all that was answered before it is committed
abbrev pub IsSync : Command → Type 0
IsSync command = (command ≡ Sync) ⊎ (command ≡ Synctid)

abbrev pub IsServed : Command → Type 0
IsServed command = IsOnStore command ⊎ IsSync command

-- the same with values that a line may have
pub record IsAsked (command : Command) : Type 0 where
  pub served : IsServed command
  pub in_range : IsInRange command
