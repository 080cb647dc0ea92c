-- Ranges of a volume, as they are read from its disk.
use Rattle.std.specs.Prelude.{ℕ, ◌+◌, ◌-◌, List, ◌++◌, Result, IfErr, length, min, replicate, slice_range}
use Rattle.hm_types.specs.Faults.{HasFaultCause, IsUndamaged}
use Rattle.hm_types.specs.Layout.{start_of}
use Rattle.hm_types.specs.declared.fault.Fault.{Fault}

-- how many of so many bytes from one on are inside the volume
abbrev pub inside : ℕ → ℕ → ℕ → ℕ
inside bigblocks place len = min len (start_of bigblocks - place)

-- so many bytes of a volume, from one on: those that are outside of it are 0
abbrev pub volume_bytes : List ℕ → ℕ → ℕ → ℕ → List ℕ
volume_bytes image bigblocks place len =
    slice_range image place (place + inside bigblocks place len) ++ replicate (len - inside bigblocks place len) 0

-- Each fault of a call has its cause in it, and none tells of damage.
pub record HasDiskCause {T : Type 0} (old new : ℕ) (result : Result T Fault) : Type 0 where
  pub counted : HasFaultCause old new result
  pub undamaged : IfErr result IsUndamaged
