-- A disk on which a volume is to be opened.
use Rattle.std.specs.Prelude.{◌≡◌, ℕ, Option, None, Some}
use Rattle.hm_types.specs.Told.{BothTell}
use Rattle.hm_disk.specs.Crash.{Told}
use Rattle.hm_core.specs.Opened.{IsMade}

-- it is as before, or a volume of this size was made on it
abbrev pub MakesWhereAsked : Option ℕ → Option Told → Option Told → Type 0
MakesWhereAsked None old new = new ≡ old
MakesWhereAsked (Some size) old new = BothTell old new (IsMade size)
