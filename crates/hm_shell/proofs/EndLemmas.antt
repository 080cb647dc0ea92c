-- How a run ended, and what its status says.
use Rattle.std.proofs.Common.{◌≡◌, ◌≢◌, ℕ, List, [], refl, sym, ◌∙◌, ap, subst, inl, inr, lit<}
use Rattle.std.specs.Prelude.{◌⊎◌, Err, IfErr, Ok, OnOk, Result}
use Rattle.hm_disk.specs.Moments.{LeftSince}
use Rattle.hm_shell.specs.declared.stop.RunStop.{RunStop}
use Rattle.hm_shell.specs.declared.stop.RunStop.TheVariants.{Usage, NotVolume, BadField, DiskFault, Damaged, ScriptFault, OutFault, NoMemory, BadLine, TooLong}
use Rattle.hm_shell.specs.Devices.{Sight}
use Rattle.hm_shell.specs.Exact.{IsStatus}
use Rattle.hm_shell.specs.Printing.{Prints}
use Rattle.hm_shell.specs.Run.{Completes, Stops, StopsWith}
use Rattle.hm_shell.specs.Seen.{Seen}
use Rattle.hm_shell.specs.Stop.{last_line, status_of}

-- how a run ended
abbrev pub HasEnded : List (List ℕ) → LeftSince → LeftSince → Sight → Sight → ℕ → Type 0
HasEnded words past since old new status = ((status ≡ 0) × Completes words since old new) ⊎ StopsWith words status past since old new

-- from what was done, and the last line
pub HasEnded-from : (words : List (List ℕ)) (past since : LeftSince) (old mid new : Sight) (outcome : Result (Unit {0}) RunStop) (status : ℕ)
    → OnOk outcome (Completes words since old mid) → IfErr outcome (Stops words past since old mid)
    → OnOk outcome ((status ≡ 0) × (new.out.told ≡ mid.out.told))
    → IfErr outcome (λ stop. (status ≡ status_of stop) × Prints [] (last_line stop) mid.out new.out) → new.disk ≡ mid.disk
    → new.script ≡ mid.script → HasEnded words past since old new status
HasEnded-from words past since old mid new (Ok done) status completes stops ended line disk script =
    inl (
      ended.0,
      record {
        newfs = completes.newfs;
        lines = completes.lines;
        prepared = rw script completes.prepared;
        runs = rw (disk, ended.1) completes.runs;
      },
    )
HasEnded-from words past since old mid new (Err stop) status completes stops ended line disk script =
    let there : Sight = record { disk = new.disk; script = new.script; out = mid.out } in
    let make : Seen _ → Seen _ → Sight = λ d s. record { disk = d; script = s; out = mid.out } in
    let same : mid ≡ there = ap (λ d. make d mid.script) (sym disk) ∙ ap (λ s. make new.disk s) (sym script) in
    inr (stop, line.0, record { out = mid.out; stops = subst (λ m. Stops words past since old m stop) same stops; line = line.1 })

pub stopped_from : (words : List (List ℕ)) (past since : LeftSince) (old new : Sight) (status : ℕ)
    → HasEnded words past since old new status → status ≢ 0 → StopsWith words status past since old new
stopped_from words past since old new status (inl done) other = absurd (other done.0)
stopped_from words past since old new status (inr stopped) other = stopped

-- each stop has one of the statuses
IsStatus-status_of : (stop : RunStop) → IsStatus (status_of stop)
IsStatus-status_of Usage = (1, lit< tt, refl)
IsStatus-status_of NotVolume = (2, lit< tt, refl)
IsStatus-status_of (BadField place) = (2, lit< tt, refl)
IsStatus-status_of (DiskFault before after) = (3, lit< tt, refl)
IsStatus-status_of (ScriptFault before after) = (4, lit< tt, refl)
IsStatus-status_of OutFault = (5, lit< tt, refl)
IsStatus-status_of NoMemory = (6, lit< tt, refl)
IsStatus-status_of (BadLine number why) = (7, lit< tt, refl)
IsStatus-status_of TooLong = (8, lit< tt, refl)
IsStatus-status_of (Damaged at kind) = (9, lit< tt, refl)

pub status_from : (words : List (List ℕ)) (past since : LeftSince) (old new : Sight) (status : ℕ)
    → HasEnded words past since old new status → IsStatus status
status_from words past since old new status (inl done) = rw done.0 (0, lit< tt, refl)
status_from words past since old new status (inr stopped) = rw stopped.1 (IsStatus-status_of stopped.0)
