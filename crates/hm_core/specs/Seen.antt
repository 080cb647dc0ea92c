-- A core, as a contract sees it.
use Rattle.std.specs.Prelude.{ℕ, ◌-◌, List, length, vec_capacity, vec_len}
use Rattle.hm_disk.specs.declared.disk.Disk.{Ghosts}
use Rattle.hm_stored.specs.Space.{heap as heap_of_space}
use Rattle.hm_stored.specs.declared.stored.Stored.{Stored}
use Rattle.hm_core.specs.Counts.{disk_counts}
use Rattle.hm_relocate.specs.Unit.{Way}
use Rattle.hm_core.specs.Running.{choice_among, open_jobs, way_among}
use Rattle.hm_core.specs.State.{CoreDevices, CoreState}
use Rattle.hm_core.specs.declared.volume.Core.{Core}

-- so many entries fit, with one for the ending of each call that is open
abbrev pub spare_of : ℕ → ℕ → ℕ → ℕ
spare_of capacity entries running = capacity - entries - running

abbrev pub seen : {D I O : Type 0} {g : Ghosts D} → Core D I O g → CoreState
seen {g = g} c = record {
  history = c.history.items;
  running = open_jobs c.running.items;
  spare = spare_of (vec_capacity c.history) (vec_len c.history) (length c.running.items);
  last = c.last.0;
  boundary = c.flusher.header.last.0;
  mounted = record { first = c.first.0; free = c.free; counts = disk_counts c.start };
  counts = disk_counts (g.faults c.stored.space.disk);
  flush = c.flusher;
  heap = heap_of_space c.stored.space;
  root = c.stored.root;
}

-- what it is over
abbrev pub devices : {D I O : Type 0} {g : Ghosts D} → Core D I O g → CoreDevices D I O
devices c = record { disk = c.stored.space.disk; input = c.input; output = c.output }

-- its store
abbrev pub store_in : {D I O : Type 0} {g : Ghosts D} → Core D I O g → Stored D g
store_in c = c.stored

-- how far the call came that was opened with an id
abbrev pub progress_of : {D I O : Type 0} {g : Ghosts D} → ℕ → Core D I O g → Way
progress_of opening c = way_among opening c.running.items

-- the big-blocks that the reblock is to empty that was opened with an id
abbrev pub choice_of : {D I O : Type 0} {g : Ghosts D} → ℕ → Core D I O g → List ℕ
choice_of opening c = choice_among opening c.running.items
