-- A guard as reads give it: it is one where all is settled, and each stage keeps it.
use Rattle.std.proofs.Common.{◌≡◌, ◌≢◌, ℕ, ◌+◌, List, [], ◌∷◌, length, refl, sym, ◌∙◌, ap, subst, slice_index, slice_range, Result, Ok, Err}
use Rattle.hm_types.specs.declared.fault.Fault.{Fault}
use Rattle.hm_types.specs.declared.limits.TheConstants.{PAGE_BYTES}
use Rattle.hm_types.specs.Offset.{byte_of}
use Rattle.hm_disk.specs.Crash.{Told, MayLeave}
use Rattle.hm_disk.proofs.CrashLemmas.{MayLeave-fewer}
use Rattle.hm_header.specs.declared.header.Header.{Header}
use Rattle.hm_header.specs.Change.{AnyCrash, StageFailed}
use Rattle.hm_header.specs.Range.{HasRoom}
use Rattle.hm_undo.specs.Entry.{undo_entry_of}
use Rattle.hm_pages.specs.Calls.{IsFrozen}
use Rattle.hm_pages.specs.Sound.{IsSound}
use Rattle.hm_pages.specs.Store.{Store}
use Rattle.hm_flush.specs.declared.change.Change.{Change}
use Rattle.hm_flush.specs.declared.change.Change.TheVariants.{Close, Write, Open}
use Rattle.hm_flush.specs.declared.flush.Flush.{Flush}
use Rattle.hm_flush.specs.declared.flush.Position.{Position}
use Rattle.hm_flush.specs.declared.flush.Position.TheVariants.{Idle, Undoing, Arming, Placing, Committing}
use Rattle.hm_flush.specs.declared.stage.Stage.{Stage}
use Rattle.hm_flush.specs.declared.stage.Stage.TheVariants.{Freeze, Undo, UndoSync, Arm, Place, PlaceSync, Commit}
use Rattle.hm_flush.specs.Calls.{FlushStands, HeaderStands, IsFlushReady, IsMoved, PagesMove, StandsForChange}
use Rattle.hm_flush.specs.Ends.{StageDoes, StageEnds, as_read}
use Rattle.hm_flush.specs.Flush.{IsFlush, begun_flush, next_generation, tried, tried_at}
use Rattle.hm_flush.specs.Group.{Group, group_of, live_before}
use Rattle.hm_flush.specs.Guard.{Guards, guarded_at}
use Rattle.hm_flush.specs.Stages.{DueStageMade, IsStageMade, MakesStage, asks, due_stage, due_stage_at, moved_flush, range_of, stage_range, undo_range}
use Rattle.hm_flush.proofs.CallLemmas.{guards-begun}
use Rattle.hm_flush.proofs.MakeLemmas.{made-place, made-undo}
use Rattle.hm_flush.proofs.StandLemmas.{LiesPast, group-len, header-none, lies-past, stands-on, stands-tried}
use Rattle.hm_flush.proofs.StepLemmas.{Fits, guards-on, guards-tried}

-- an image of the bytes alone is one that a crash may leave
as-read-any : (Has : List ℕ → Type 0) (t : Told) → AnyCrash Has t → AnyCrash Has (as_read t)
as-read-any Has t any image left = any image (MayLeave-fewer t.bytes image t.unsettled [] (λ byte outside. tt) left)

change-as-read : (change : Change) (f : Flush) (t : Told) → StandsForChange change f t → StandsForChange change f (as_read t)
change-as-read Close f t stands = as-read-any _ t stands
change-as-read Write f t stands = as-read-any _ t stands
change-as-read (Open tried) f t stands = (as-read-any _ t stands.0, λ first. as-read-any _ t (stands.1 first))

header-as-read : (p : Position) (f : Flush) (t : Told) → HeaderStands p f t → HeaderStands p f (as_read t)
header-as-read Idle f t stands = stands
header-as-read (Undoing from) f t stands = stands
header-as-read (Arming change) f t stands = change-as-read change f t stands
header-as-read (Placing i) f t stands = as-read-any _ t stands
header-as-read (Committing change) f t stands = change-as-read change f t stands

guards-as-read : (f : Flush) (s : Store) (t : Told) → Guards f s t → Guards f s (as_read t)
guards-as-read f s t guards = record {
  stands = record { room = guards.stands.room; header = header-as-read f.at f t guards.stands.header };
  committed = guards.committed;
  frozen = guards.frozen;
  unarmed = guards.unarmed;
  crash = as-read-any (guarded_at f.at f s) t guards.crash;
  read = guards.read;
}

-- A stage does the same from the bytes alone, to a disk that reads as the one after it: no more is unsettled there than the range
-- that the stage itself writes.
record MadeAsRead (stage : Stage) (f : Flush) (g : Group) (old new : Told) : Type 0 where
  told : Told
  reads : as_read told ≡ as_read new
  made : MakesStage stage f g (as_read old) told

synced-as-read : (stage : Stage) (f : Flush) (g : Group) (old new : Told) → MakesStage stage f g old new
    → IsStageMade stage f g (as_read old) (as_read new) → MadeAsRead stage f g old new
synced-as-read stage f g old new made did = record {
  told = as_read new;
  reads = refl;
  made = record { made = did; others = made.others; unsettled = λ byte outside. tt; settled = λ synced. refl };
}

made-as-read : (stage : Stage) (f : Flush) (g : Group) (old new : Told) → LiesPast stage f g (length old.bytes) → MakesStage stage f g old new
    → MadeAsRead stage f g old new
made-as-read Freeze f g old new past made = synced-as-read Freeze f g old new made (ap as_read made.made)
made-as-read (Undo i) f g old new past made =
    let at = slice_index g.places i in
    let entry = undo_entry_of at (next_generation f.header) (slice_range old.bytes (byte_of at) (byte_of at + PAGE_BYTES)) in
    let told : Told = record { bytes = new.bytes; unsettled = ((undo_range f).0, length entry) ∷ []; moment = new.moment } in record {
      told = told;
      reads = refl;
      made = made-undo f g i (as_read old) told past.1 past.2
          (record { bytes_are = made.made.bytes_are; unsettled_are = refl; moment_is = made.made.moment_is });
    }
made-as-read UndoSync f g old new past made =
    synced-as-read UndoSync f g old new made (record { bytes_are = made.made.bytes_are; unsettled_are = refl; later = made.made.later })
made-as-read (Arm number) f g old new past made =
    synced-as-read (Arm number) f g old new made
    (record { has = made.made.has; others = made.made.others; settled = refl; later = made.made.later })
made-as-read (Place i) f g old new past made =
    let place = byte_of (slice_index g.places i) in
    let told : Told = record { bytes = new.bytes; unsettled = (place, length made.made.page) ∷ []; moment = new.moment } in record {
      told = told;
      reads = refl;
      made = made-place f g i (as_read old) told past.1 (record {
        page = made.made.page;
        page_is = made.made.page_is;
        sized = made.made.sized;
        written = record { bytes_are = made.made.written.bytes_are; unsettled_are = refl; moment_is = made.made.written.moment_is };
      });
    }
made-as-read PlaceSync f g old new past made =
    synced-as-read PlaceSync f g old new made (record { bytes_are = made.made.bytes_are; unsettled_are = refl; later = made.made.later })
made-as-read (Commit number) f g old new past made =
    synced-as-read (Commit number) f g old new made
    (record { has = made.made.has; others = made.made.others; settled = refl; later = made.made.later })

failed-as-read : (Has : List ℕ → Type 0) (place count : ℕ) (old new : Told) → StageFailed Has place count old new
    → StageFailed Has place count (as_read old) (as_read new)
failed-as-read Has place count old new failed = record {
  torn = record { bytes_are = failed.torn.bytes_are; unsettled_are = λ byte outside. tt; moment_is = failed.torn.moment_is };
  crash = as-read-any Has new failed.crash;
}

module _ (f : Flush) (s : Store) (sound : IsFlush f) (ready : IsFlushReady f s) (store : IsSound s) (old new : Told) (guards : Guards f s (as_read old)) where
  fits : Fits f s
  fits = record { sound = sound; len = λ flight. group-len f.at f s flight ready.group; placed = ready.placed; store = store.flush }

  past : f.at ≢ Idle → LiesPast (due_stage f (group_of s)) f (group_of s) (length old.bytes)
  past flight = lies-past f s (length old.bytes) flight sound ready.group ready.placed guards.stands.room

  -- a stage of a flush in flight
  moved-as-read : (after : Flush) (pages : Store) (now : Header) (stage : Stage) → f.at ≢ Idle → stage ≡ due_stage f (group_of s)
      → after ≡ moved_flush stage f → PagesMove f.at now s pages → DueStageMade f (group_of s) old new → Guards after pages (as_read new)
  moved-as-read after pages now stage flight stage_is is move made =
      let did = made-as-read (due_stage f (group_of s)) f (group_of s) old new (past flight) made in
      let here = guards-on f s pages now flight fits move (as_read old) did.told guards did.made
      (stands-on f (group_of s) (as_read old) did.told flight guards.stands (past flight) did.made) in
      subst (λ (x : Flush). Guards x pages (as_read new)) (sym (is ∙ ap (λ (st : Stage). moved_flush st f) stage_is))
      (subst (λ (t : Told). Guards (moved_flush (due_stage f (group_of s)) f) pages t) did.reads
      (guards-as-read (moved_flush (due_stage f (group_of s)) f) pages did.told here))

  -- Freeze
  begun-as-read : (after : Flush) (pages : Store) (now : Header) → f.at ≡ Idle
      → after ≡ begun_flush now (length pages.frozen_group) (live_before (group_of pages).was_live (length pages.frozen_group)) f
      → IsFrozen now.last s pages → DueStageMade f (group_of s) old new → Guards after pages (as_read new)
  begun-as-read after pages now idle is move made =
      let same : MakesStage Freeze f (group_of s) old new =
      subst (λ (p : Position). MakesStage (due_stage_at p f (group_of s)) f (group_of s) old new) idle made in
      guards-begun f after now (length pages.frozen_group) (live_before (group_of pages).was_live (length pages.frozen_group)) now.last s pages idle store
      ready.closed ready.placed move is (as_read new) (subst (λ (t : Told). Guards f s (as_read t)) (sym same.made) guards)

  made-at : (p : Position) (after : Flush) (pages : Store) (now : Header) (stage : Stage) → f.at ≡ p → stage ≡ due_stage f (group_of s)
      → IsMoved p now stage pages f after → PagesMove p now s pages → PagesMove f.at now s pages → DueStageMade f (group_of s) old new
      → Guards after pages (as_read new)
  made-at Idle after pages now stage at stage_is is move move' made = begun-as-read after pages now at is move made
  made-at (Undoing from) after pages now stage at stage_is is move move' made = moved-as-read after pages now stage (λ idle. cc) stage_is is move' made
  made-at (Arming change) after pages now stage at stage_is is move move' made = moved-as-read after pages now stage (λ idle. cc) stage_is is move' made
  made-at (Placing i) after pages now stage at stage_is is move move' made = moved-as-read after pages now stage (λ idle. cc) stage_is is move' made
  made-at (Committing change) after pages now stage at stage_is is move move' made = moved-as-read after pages now stage (λ idle. cc) stage_is is move' made

  -- the header stands where a stage failed
  idle-tried : f.at ≡ Idle → StageFailed (asks f) (range_of f (group_of s)).0 (range_of f (group_of s)).1 old new → FlushStands (tried f) (as_read new)
  idle-tried idle failed =
      let change : MayLeave old.bytes ((0, 0) ∷ []) new.bytes =
      subst (λ (p : Position). MayLeave old.bytes (stage_range (due_stage_at p f (group_of s)) f (group_of s) ∷ []) new.bytes) idle failed.torn.bytes_are in
      record {
        room = subst (λ (n : ℕ). HasRoom n f.header.bigblocks) (sym change.size) guards.stands.room;
        header = subst (λ (p : Position). HeaderStands (tried_at p) (tried f) (as_read new)) (sym idle)
            (header-none old.bytes new.bytes f.header f.slot change
            (subst (λ (p : Position). HeaderStands p f (as_read old)) idle guards.stands.header));
      }

  in-flight : f.at ≢ Idle → StageFailed (asks f) (range_of f (group_of s)).0 (range_of f (group_of s)).1 old new → FlushStands (tried f) (as_read new)
  in-flight flight failed =
      stands-tried f (group_of s) (as_read old) (as_read new) flight guards.stands (past flight)
      (failed-as-read (asks f) (range_of f (group_of s)).0 (range_of f (group_of s)).1 old new failed)

  tried-stands : (p : Position) → f.at ≡ p → StageFailed (asks f) (range_of f (group_of s)).0 (range_of f (group_of s)).1 old new
      → FlushStands (tried f) (as_read new)
  tried-stands Idle at failed = idle-tried at failed
  tried-stands (Undoing from) at failed = in-flight (λ idle. cc) failed
  tried-stands (Arming change) at failed = in-flight (λ idle. cc) failed
  tried-stands (Placing i) at failed = in-flight (λ idle. cc) failed
  tried-stands (Committing change) at failed = in-flight (λ idle. cc) failed

pub read-on : (now : Header) (f after : Flush) (s pages : Store) (result : Result Stage Fault) (old new : Told) → IsFlush f → IsFlushReady f s → IsSound s
    → StageEnds now f after s pages result → StageDoes f (group_of s) result old new → Guards f s (as_read old) → Guards after pages (as_read new)
read-on now f after s pages (Ok stage) old new sound ready store ends does guards =
    made-at f s sound ready store old new guards f.at after pages now stage refl ends.stage_is ends.flush ends.store ends.store does
read-on now f after s pages (Err fault) old new sound ready store ends does guards =
    subst (λ (x : Store). Guards after x (as_read new)) (sym ends.store)
    (subst (λ (x : Flush). Guards x s (as_read new)) (sym ends.flush)
    (guards-tried f s (fits f s sound ready store old new guards) (as_read old) (as_read new) guards
    (failed-as-read (asks f) (range_of f (group_of s)).0 (range_of f (group_of s)).1 old new does)
    (tried-stands f s sound ready store old new guards f.at refl does)))
