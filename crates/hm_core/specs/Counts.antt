-- Counts of the faults of devices, at two moments.
use Rattle.std.specs.Prelude.{ℕ, ◌≤◌}
use Rattle.hm_model.specs.Caused.{Counts}

-- counts of a core that takes nothing from its streams: those of its disk
abbrev pub disk_counts : ℕ → Counts
disk_counts faults = record { disk = faults; input = 0; output = 0 }

-- the same counts with another one of the disk
abbrev pub with_disk : Counts → ℕ → Counts
with_disk counts faults = record counts { disk = faults }

-- no count fell
pub record AreLater (old new : Counts) : Type 0 where
  pub disk : old.disk ≤ new.disk
  pub input : old.input ≤ new.input
  pub output : old.output ≤ new.output
