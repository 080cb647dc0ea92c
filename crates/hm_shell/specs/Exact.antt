-- Which status the words, the script and the disk bring, where nothing fails.
use Rattle.std.specs.Prelude.{◌≡◌, ℕ, List, [], ◌∷◌, Option, None, Some, IfSome, Contains}
use Rattle.hm_disk.specs.Crash.{Told}
use Rattle.hm_header.specs.OnDisk.{HasFault}
use Rattle.hm_header.specs.declared.fault.HeaderFault.{HeaderFault}
use Rattle.hm_undo.specs.Recovered.{RecoversTo}
use Rattle.hm_recover.specs.Damage.{HasRangeDamage}
use Rattle.hm_model.specs.Script.{IsTooLong}
use Rattle.hm_model.specs.Volume.{Volume}
use Rattle.hm_core.specs.Crash.{StandsRecovered}
use Rattle.hm_core.specs.Opened.{HasDamage, IsTooSmall}
use Rattle.hm_shell.specs.Devices.{Sight}
use Rattle.hm_shell.specs.Lines.{IsFirstRefused, IsGoodScript}
use Rattle.hm_shell.specs.Opening.{HasWhole}
use Rattle.hm_shell.specs.Words.{HasPlan, IsPlan}

-- the statuses that a run may end with
abbrev pub IsStatus : ℕ → Type 0
IsStatus status = Contains (0 ∷ 2 ∷ 3 ∷ 4 ∷ 5 ∷ 6 ∷ 7 ∷ 8 ∷ 9 ∷ 10 ∷ []) status

-- Which status a disk brings on which a volume is to be made: it is too small for it, or the lines are run on it. 4, 5, 6
-- and 7 come for other causes alone.
pub record NewBrings (size : ℕ) (t : Told) (status : ℕ) : Type 0 where
  pub small : IsTooSmall size t → Contains (3 ∷ 4 ∷ 5 ∷ 7 ∷ []) status
  pub made : (IsTooSmall size t → ⊥) → Contains (0 ∷ 4 ∷ 5 ∷ 6 ∷ 7 ∷ []) status

-- The same of a disk as it is: no header counts, or an entry of the UNDO log that it names is damaged, or, once it is recovered, what
-- stands below it is; or the lines are run on it. Where what it holds then is whole no damage is told, also where it stands for no volume.
pub record OldBrings (t : Told) (status : ℕ) : Type 0 where
  pub none : (fault : HeaderFault) → HasFault t.bytes fault → Contains (3 ∷ 4 ∷ 5 ∷ 7 ∷ []) status
  pub range : (at kind : ℕ) → HasRangeDamage t.bytes at kind → Contains (10 ∷ 4 ∷ 5 ∷ 7 ∷ []) status
  pub damaged : (at kind : ℕ) → HasDamage t.bytes at kind → Contains (10 ∷ 4 ∷ 5 ∷ 7 ∷ []) status
  pub stands : (volume : Volume) → StandsRecovered t.bytes volume → Contains (0 ∷ 4 ∷ 5 ∷ 6 ∷ 7 ∷ []) status
  pub whole : (result : List ℕ) → RecoversTo t.bytes result → HasWhole result → Contains (0 ∷ 4 ∷ 5 ∷ 6 ∷ 7 ∷ []) status
  pub recovers : (result : List ℕ) → RecoversTo t.bytes result → Contains (0 ∷ 4 ∷ 5 ∷ 6 ∷ 7 ∷ 10 ∷ []) status

abbrev pub DiskBrings : Option ℕ → Told → ℕ → Type 0
DiskBrings None t status = OldBrings t status
DiskBrings (Some size) t status = NewBrings size t status

-- Which status a script brings: it is too long, or it has a line that is not served, or the disk says which.
pub record ScriptBrings (newfs : Option ℕ) (disk : Option Told) (script : List ℕ) (status : ℕ) : Type 0 where
  pub too_long : IsTooLong script → Contains (9 ∷ 5 ∷ 7 ∷ []) status
  pub bad : (number : ℕ) → (IsTooLong script → ⊥) → IsFirstRefused script number →
      Contains (8 ∷ 5 ∷ 7 ∷ []) status
  pub good : (IsTooLong script → ⊥) → IsGoodScript script →
      Contains (0 ∷ 3 ∷ 4 ∷ 5 ∷ 6 ∷ 7 ∷ 10 ∷ []) status × IfSome disk (λ t. DiskBrings newfs t status)

-- which status is brought by words that keep the rule, and by devices that tell
abbrev pub Brings : List (List ℕ) → Sight → ℕ → Type 0
Brings words old status =
    HasPlan words → (volume : List ℕ) × (newfs : Option ℕ) × IsPlan words volume newfs
    × IfSome old.script.told (λ script. ScriptBrings newfs old.disk.told script status)
