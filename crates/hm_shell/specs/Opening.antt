-- What making and opening a volume on a disk came to.
use Rattle.std.specs.Prelude.{◌≡◌, ◌⊎◌, ℕ, List, [], Option, None, Some}
use Rattle.hm_types.specs.Told.{BothTell}
use Rattle.hm_disk.specs.Crash.{Told}
use Rattle.hm_disk.specs.Moments.{Each, LeftSince}
use Rattle.hm_header.specs.OnDisk.{HasHeader}
use Rattle.hm_header.specs.declared.header.Header.{Header}
use Rattle.hm_load.specs.Damage.{IsWhole}
use Rattle.hm_undo.specs.Recovered.{RecoversTo}
use Rattle.hm_recover.specs.Recovery.{HasWholeRange}
use Rattle.hm_recover.specs.declared.fault.OpenFault.{OpenFault}
use Rattle.hm_core.specs.Opened.{IsFailure, IsMade, IsNotMade, IsNotMounted, IsOpenCaused}
use Rattle.hm_shell.specs.declared.stop.RunStop.{RunStop}
use Rattle.hm_shell.specs.Seen.{Seen}
use Rattle.hm_shell.specs.Stop.{of_open}

-- the bytes have a header that counts and names no entries of the UNDO log, and nothing below it is damaged
pub record HasWhole (bytes : List ℕ) : Type 0 where
  pub header : Header
  pub slot : ℕ
  pub counts : HasHeader bytes header slot
  pub whole : IsWhole bytes header
  pub unarmed : header.undo_count ≡ 0

-- A volume was opened on a disk that told this, and tells that: it was recovered, and nothing was written but where its header named
-- entries of the UNDO log, and then all is settled. What it tells now is whole.
pub record OpensDisk (old new : Told) : Type 0 where
  pub recovers : RecoversTo old.bytes new.bytes
  pub written : (new ≡ old) ⊎ (HasWholeRange old.bytes × (new.unsettled ≡ []))
  pub whole : HasWhole new.bytes

-- A volume of this size was made on a disk that told the one, and none was opened, since the disk or memory failed then. It is on the
-- disk as it was made, and a crash at any moment since that one leaves it so.
pub record StaysAsMade (size : ℕ) (fault : OpenFault) (since : LeftSince) (old new : Told) : Type 0 where
  pub made : Told
  pub makes : IsMade size old made
  pub failed : IsFailure fault
  pub unwritten : new ≡ made
  pub crashed : Each (since made.moment) (λ image. image ≡ made.bytes)

-- No volume was opened on a disk that told this, and tells that. Without `--newfs` what it recovers to stays, and this is why. With
-- it none was made; or it was made, and stays so.
abbrev pub IsUnopened : Option ℕ → LeftSince → LeftSince → Option Told → Option Told → OpenFault → Type 0
IsUnopened None past since old new fault = BothTell old new (IsNotMounted fault past since)
IsUnopened (Some size) past since old new fault =
    IsNotMade size old new fault ⊎ BothTell old new (StaysAsMade size fault since)

-- a run stopped before a volume was open
pub record StoppedOpening (newfs : Option ℕ) (past since : LeftSince) (old new : Seen Told) (stop : RunStop) : Type 0 where
  pub fault : OpenFault
  pub stop_is : stop ≡ of_open fault
  pub unopened : IsUnopened newfs past since old.told new.told fault
  pub caused : IsOpenCaused old.faults new.faults fault
