-- What a contract sees of the devices of a run.
use Rattle.std.specs.Prelude.{ℕ, ◌≤◌, List}
use Rattle.hm_disk.specs.Crash.{Told}
use Rattle.hm_disk.specs.declared.disk.Disk.{Ghosts as DiskGhosts}
use Rattle.hm_pipe.specs.declared.sink.Sink.{Ghosts as SinkGhosts}
use Rattle.hm_pipe.specs.declared.source.Source.{Ghosts as SourceGhosts}
use Rattle.hm_shell.specs.declared.devices.Devices.{Devices}
use Rattle.hm_shell.specs.Seen.{Seen, seen}

-- the disk, the script's source and the sink at one moment
pub record Sight : Type 0 where
  pub disk : Seen Told
  pub script : Seen (List ℕ)
  pub out : Seen (List ℕ)

-- some devices as they are seen
abbrev pub sight : {D S K I O : Type 0} {d : DiskGhosts D} {s : SourceGhosts S} {k : SinkGhosts K}
    → Devices D S K I O d s k → Sight
sight {d = d} {s = s} {k = k} devices = record {
  disk = seen d.told d.faults devices.disk;
  script = seen s.left s.faults devices.script;
  out = seen k.held k.faults devices.out;
}

-- no count of faults falls
abbrev pub NeverFall : Sight → Sight → Type 0
NeverFall old new =
    (old.disk.faults ≤ new.disk.faults) × (old.script.faults ≤ new.script.faults)
    × (old.out.faults ≤ new.out.faults)
