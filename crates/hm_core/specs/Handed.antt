-- A job that is handed in: what it says of the store of a core, and what a unit of it makes of both.
use Rattle.std.specs.Prelude.{◌≡◌, ◌⊎◌, ℕ, List, IfErr, IsTrue, Result, Ok, Err}
use Rattle.hm_types.specs.Elements.{FullElement}
use Rattle.hm_types.specs.declared.fault.Fault.{Fault}
use Rattle.hm_disk.specs.declared.disk.Disk.{Ghosts}
use Rattle.hm_key.specs.declared.job.Progress.{Progress}
use Rattle.hm_key.specs.declared.job.Progress.TheVariants.{Done, More}
use Rattle.hm_stored.specs.Heap.{Heap, does_tell}
use Rattle.hm_stored.specs.Known.{AreKnown}
use Rattle.hm_stored.specs.Space.{heap}
use Rattle.hm_stored.specs.Standing.{Holds}
use Rattle.hm_stored.specs.Turn.{IsOpened}
use Rattle.hm_stored.specs.declared.stored.Stored.{Stored}
use Rattle.hm_core.specs.Core.{Waits}
use Rattle.hm_core.specs.Jobs.{FailsWith, IsFull}
use Rattle.hm_core.specs.Staged.{FailsStage, KeepsTree, MakesStage}
use Rattle.hm_core.specs.State.{CoreState}

-- ---- what a job says of a store

-- The elements with their payloads that a space holds, with ids that are known: these a store over it tells as a call is opened.
abbrev pub HasKnown : ℕ → Heap → ℕ → Type 0
HasKnown last h root = (es : List FullElement) × Holds h root es × AreKnown last es

-- each of them a space holds still
abbrev pub KeepsKnown : ℕ → Heap → Heap → ℕ → ℕ → Type 0
KeepsKnown last h h' root root' = (es : List FullElement) → AreKnown last es → Holds h root es → Holds h' root' es

module _ {D : Type 0} {g : Ghosts D} where
  -- A store, as a call opens over one in which none is open, with the last id that was drawn.
  pub record BeginsAs (last : ℕ) (old new : Stored D g) : Type 0 where
    pub turn : IsOpened old.root last (heap old.space) (heap new.space)
    pub root : new.root ≡ old.root
    pub disk : new.space.disk ≡ old.space.disk

  -- A fact of a store as a call opens over it. Between two calls a store tells nothing, so what a job says of one is said of this.
  abbrev pub AsOpened : ℕ → (Stored D g → Type 0) → Stored D g → Type 0
  AsOpened last Fact stored = (s : Stored D g) → BeginsAs last stored s → Fact s

  -- The same after a unit over a space, where that held elements whose ids are known, or the store tells none now.
  abbrev pub AsOpenedAfter : ℕ → Heap → ℕ → (Stored D g → Type 0) → Stored D g → Type 0
  AsOpenedAfter last h root Fact stored = (s : Stored D g) → BeginsAs last stored s → (IsTrue (does_tell (heap s.space)) → HasKnown last h root) → Fact s

-- ---- what a unit makes of a store

-- A call over a space was dropped: all is as before but the bytes of the disk to which no tree refers, and what only an open call reads.
pub record IsAsBefore (last : ℕ) (h h' : Heap) (root root' : ℕ) : Type 0 where
  pub root_is : root' ≡ root
  pub pages : h'.pages ≡ record h.pages { call = h'.pages.call }
  pub rest : h' ≡ record h {
    pages = h'.pages;
    disk = h'.disk;
    begun = h.append;
    roots = record h.roots { current = root };
    last = last;
    log = h'.log;
    gave = h'.gave;
  }

-- ---- what it makes of a core

-- A stage was made in place of a unit, after which there is more to do, or it failed.
abbrev pub StagesFor : CoreState → CoreState → Result Progress Fault → Type 0
StagesFor old new (Ok More) = MakesStage old new
StagesFor old new (Ok Done) = ⊥
StagesFor old new (Err fault) = FailsStage old new

-- a unit was done, or it failed and was dropped; the flush is as before
pub record DoesHanded (old new : CoreState) (result : Result Progress Fault) : Type 0 where
  pub flush : new.flush ≡ old.flush
  pub known : KeepsKnown old.last old.heap new.heap old.root new.root
  pub dropped : IfErr result (λ _. IsAsBefore old.last old.heap new.heap old.root new.root)

-- What a unit of a job that was handed in came to, or the stage in its place. Nothing was entered, and the calls that are open are as before.
pub record Hands (old new : CoreState) (result : Result Progress Fault) : Type 0 where
  pub waits : Waits old new
  pub does : (IsFull old × StagesFor old new result × KeepsTree old new) ⊎ ((¬ IsFull old) × DoesHanded old new result)
  pub fails : IfErr result (FailsWith old new)
