-- What a contract sees of a core.
use Rattle.std.specs.Prelude.{ℕ, List, Option, true, false, ◌==◌, if◌then◌else◌, filter, find}
use Rattle.hm_flush.specs.declared.flush.Flush.{Flush}
use Rattle.hm_model.specs.Caused.{Counts}
use Rattle.hm_model.specs.declared.entry.Entry.{Entry}
use Rattle.hm_stored.specs.Heap.{Heap}

-- What there was as a volume was mounted: the last id, how many big-blocks were free, and how many faults of the devices were
-- counted. No step changes it.
pub record Mounted : Type 0 where
  pub first : ℕ
  pub free : ℕ
  pub counts : Counts

-- What an open call of housekeeping does: it prunes a PFS, of which it keeps these ids, or it reblocks the volume.
pub data OpenWork : Type 0 where
  pruning : ℕ → List (ℕ × ℕ) → OpenWork
  reblocking : OpenWork

-- A call of housekeeping that is open: the id, the lane and the line of its opening, and what it does.
pub record OpenJob : Type 0 where
  pub opening : ℕ
  pub lane : ℕ
  pub line : ℕ
  pub work : OpenWork

-- the open call that was opened with an id, and those that are open beside it
abbrev pub job_with : ℕ → List OpenJob → Option OpenJob
job_with opening running = find (λ (p : OpenJob). p.opening == opening) running

abbrev pub jobs_beside : ℕ → List OpenJob → List OpenJob
jobs_beside opening running = filter (λ (p : OpenJob). if p.opening == opening then false else true) running

-- The run's history, the calls of housekeeping that are open, and how many more entries there is room for beside the endings of
-- these; the last id that was drawn, and the last one that is committed; what there was at mounting, and the counts of faults by now; the
-- header that counts on the disk and how far a flush has come; what its space holds, and where the tree begins in it. No device is part of
-- it.
pub record CoreState : Type 0 where
  pub history : List Entry
  pub running : List OpenJob
  pub spare : ℕ
  pub last : ℕ
  pub boundary : ℕ
  pub mounted : Mounted
  pub counts : Counts
  pub flush : Flush
  pub heap : Heap
  pub root : ℕ

-- the disk of a core, and the two streams that it keeps
pub record CoreDevices (D I O : Type 0) : Type 0 where
  pub disk : D
  pub input : I
  pub output : O
