-- What a stage does to the disk, in the words that all stages share.
use Rattle.std.proofs.Common.{◌≡◌, ℕ, ◌+◌, ◌-◌, ◌*◌, ◌<◌, ◌≤◌, Bool, true, false, List, [], ◌∷◌, length, refl, sym, ◌∙◌, ap, subst, arith, Option}
use Rattle.std.proofs.Common.{Some, None, IfSome, slice_index, slice_range, nat_lt, if◌then◌else◌}
use Rattle.hm_types.specs.declared.limits.TheConstants.{PAGE_BYTES, UNDO_ENTRY_BYTES}
use Rattle.hm_types.specs.Offset.{byte_of}
use Rattle.hm_types.specs.Told.{BothTell}
use Rattle.hm_disk.specs.Crash.{Told, MayLeave, Outside}
use Rattle.hm_disk.specs.Disk.{Synced, Written}
use Rattle.hm_disk.specs.Moments.{Each, LeftSince, SyncElapses, WriteElapses}
use Rattle.hm_disk.specs.Transfer.{TornAll}
use Rattle.hm_disk.proofs.CrashLemmas.{MayLeave-same}
use Rattle.hm_disk.proofs.OverwriteLemmas.{MayLeave-overwritten}
use Rattle.hm_header.specs.declared.header.Header.{Header}
use Rattle.hm_header.specs.declared.header.TheConstants.{SLOT_BYTES}
use Rattle.hm_header.specs.Change.{AnyCrash, IsCounting, StageElapses, StageFailed}
use Rattle.hm_header.proofs.KeptLemmas.{past-counting}
use Rattle.hm_header.proofs.SliceLemmas.{length-slice}
use Rattle.hm_header.proofs.StageLemmas.{failed-write, write-elapses}
use Rattle.hm_undo.specs.Entry.{undo_entry_of}
use Rattle.hm_undo.proofs.EntryLemmas.{length-entry}
use Rattle.hm_flush.specs.declared.change.Change.{Change}
use Rattle.hm_flush.specs.declared.flush.Flush.{Flush}
use Rattle.hm_flush.specs.declared.flush.Position.{Position}
use Rattle.hm_flush.specs.declared.flush.Position.TheVariants.{Idle, Undoing, Arming, Placing, Committing}
use Rattle.hm_flush.specs.declared.stage.Stage.{Stage}
use Rattle.hm_flush.specs.declared.stage.Stage.TheVariants.{Freeze, Undo, UndoSync, Arm, Place, PlaceSync, Commit}
use Rattle.hm_flush.specs.Calls.{HeaderStands, FlushStands}
use Rattle.hm_flush.specs.Change.{change_asks, change_range}
use Rattle.hm_flush.specs.Device.{IsPageWritten, IsSaved}
use Rattle.hm_flush.specs.Flush.{due_change, next_generation, header_to_write_at}
use Rattle.hm_flush.specs.Group.{Group, next_live}
use Rattle.hm_flush.specs.Stages.{IsChangeMade, MakesStage, asks_at, due_stage_at, place_range, undo_range}

-- a write that succeeded
written-torn : (place : ℕ) (bytes : List ℕ) (s t : Told) → place + length bytes ≤ length s.bytes → Written place bytes s t
    → TornAll place (length bytes) s t
written-torn place bytes s t within written = record {
  bytes_are = subst (λ (bs : List ℕ). MayLeave s.bytes ((place, length bytes) ∷ []) bs) (sym written.bytes_are)
      (MayLeave-overwritten s.bytes place (length bytes) bytes (omega arith) within);
  unsettled_are = λ byte outside. subst (λ (ranges : List (ℕ × ℕ)). Outside ranges byte) (sym written.unsettled_are) outside;
  moment_is = written.moment_is;
}

-- a range that was written, of so many bytes
torn-sized : (place count : ℕ) (bytes : List ℕ) (s t : Told) → length bytes ≡ count → place + count ≤ length s.bytes → Written place bytes s t
    → TornAll place count s t
torn-sized place count bytes s t sized within written =
    subst (λ (n : ℕ). TornAll place n s t) sized (written-torn place bytes s t (omega (arith, sized, within)) written)

pub saved-torn : (place generation at : ℕ) (s t : Told) → place + UNDO_ENTRY_BYTES ≤ length s.bytes → byte_of at + PAGE_BYTES ≤ length s.bytes
    → IsSaved place generation at s t → TornAll place UNDO_ENTRY_BYTES s t
saved-torn place generation at s t room inside written = torn-sized place UNDO_ENTRY_BYTES _ s t sized room written
  where
    page : List ℕ
    page = slice_range s.bytes (byte_of at) (byte_of at + PAGE_BYTES)

    sized : length (undo_entry_of at generation page) ≡ 4128
    sized = omega (arith, length-entry at generation page, length-slice s.bytes (byte_of at) (byte_of at + PAGE_BYTES) inside)

pub placed-torn : (g : Group) (i : ℕ) (s t : Told) → byte_of (slice_index g.places i) + PAGE_BYTES ≤ length s.bytes → IsPageWritten g i s t
    → TornAll (byte_of (slice_index g.places i)) PAGE_BYTES s t
placed-torn g i s t inside placed = torn-sized (byte_of (slice_index g.places i)) PAGE_BYTES placed.page s t placed.sized inside placed.written

-- each stage that succeeded
pub made-undo : (f : Flush) (g : Group) (i : ℕ) (s t : Told) → (undo_range f).0 + UNDO_ENTRY_BYTES ≤ length s.bytes
    → byte_of (slice_index g.places i) + PAGE_BYTES ≤ length s.bytes
    → IsSaved (undo_range f).0 (next_generation f.header) (slice_index g.places i) s t → MakesStage (Undo i) f g s t
made-undo f g i s t room inside written =
    let torn = saved-torn (undo_range f).0 (next_generation f.header) (slice_index g.places i) s t room inside written in
    record { made = written; others = torn.bytes_are; unsettled = torn.unsettled_are; settled = λ synced. absurd (cc) }

pub made-place : (f : Flush) (g : Group) (i : ℕ) (s t : Told) → byte_of (slice_index g.places i) + PAGE_BYTES ≤ length s.bytes → IsPageWritten g i s t
    → MakesStage (Place i) f g s t
made-place f g i s t inside placed =
    let torn = placed-torn g i s t inside placed in
    record { made = placed; others = torn.bytes_are; unsettled = torn.unsettled_are; settled = λ synced. absurd (cc) }

none-outside : (s t : Told) → t.unsettled ≡ [] → (byte : ℕ) → Outside t.unsettled byte
none-outside s t settled byte = subst (λ (ranges : List (ℕ × ℕ)). Outside ranges byte) (sym settled) tt

synced-others : (s t : Told) → Synced s t → MayLeave s.bytes ((0, 0) ∷ []) t.bytes
synced-others s t synced = subst (λ (bs : List ℕ). MayLeave s.bytes ((0, 0) ∷ []) bs) (sym synced.bytes_are) (MayLeave-same s.bytes ((0, 0) ∷ []))

pub made-undo_sync : (f : Flush) (g : Group) (s t : Told) → Synced s t → MakesStage UndoSync f g s t
made-undo_sync f g s t synced = record {
  made = synced;
  others = synced-others s t synced;
  unsettled = λ byte outside. none-outside s t synced.unsettled_are byte;
  settled = λ yes. synced.unsettled_are;
}

pub made-place_sync : (f : Flush) (g : Group) (s t : Told) → Synced s t → MakesStage PlaceSync f g s t
made-place_sync f g s t synced = record {
  made = synced;
  others = synced-others s t synced;
  unsettled = λ byte outside. none-outside s t synced.unsettled_are byte;
  settled = λ yes. synced.unsettled_are;
}

pub made-arm : (f : Flush) (g : Group) (number : ℕ) (s t : Told) → IsChangeMade f s t → MakesStage (Arm number) f g s t
made-arm f g number s t done = record {
  made = done;
  others = done.others;
  unsettled = λ byte outside. none-outside s t done.settled byte;
  settled = λ yes. done.settled;
}

pub made-commit : (f : Flush) (g : Group) (number : ℕ) (s t : Told) → IsChangeMade f s t → MakesStage (Commit number) f g s t
made-commit f g number s t done = record {
  made = done;
  others = done.others;
  unsettled = λ byte outside. none-outside s t done.settled byte;
  settled = λ yes. done.settled;
}

-- a page that is placed leaves the header that counts
pub counting-within : (header : Header) (slot : ℕ) (s : Told) (place count : ℕ) → 2 * SLOT_BYTES ≤ place → place + count ≤ length s.bytes
    → AnyCrash (IsCounting header slot) s → Each (MayLeave s.bytes ((place, count) ∷ s.unsettled)) (IsCounting header slot)
counting-within header slot s place count past within safe =
    let writing : Told = record { bytes = s.bytes; unsettled = (place, count) ∷ s.unsettled; moment = s.moment } in
    past-counting s writing place count header slot past within
    (record { bytes_are = MayLeave-same s.bytes ((place, count) ∷ []); unsettled_are = λ byte outside. outside; moment_is = refl }) safe

-- What a stage asks for, by what is due_stage.
other-stage : (b : Bool) (i j : ℕ) → (if b then Place i else PlaceSync) ≡ Undo j → ⊥
other-stage true i j is = cc
other-stage false i j is = cc

pub undo-asks : (p : Position) (f : Flush) (g : Group) (i : ℕ) → due_stage_at p f g ≡ Undo i → (bytes : List ℕ) → asks_at p f bytes
undo-asks Idle f g i is bytes = tt
undo-asks (Undoing from) f g i is bytes = tt
undo-asks (Arming change) f g i is bytes = absurd (cc)
undo-asks (Placing j) f g i is bytes = absurd (other-stage (nat_lt j f.pages) j i is)
undo-asks (Committing change) f g i is bytes = absurd (cc)

place-none : (b : Bool) (i j : ℕ) → (if b then Undo i else UndoSync) ≡ Place j → ⊥
place-none true i j is = cc
place-none false i j is = cc

-- where a page is placed, the header counts whatever a crash leaves
pub place-asks : (p : Position) (f : Flush) (g : Group) (i : ℕ) (t : Told) → due_stage_at p f g ≡ Place i → HeaderStands p f t
    → AnyCrash (IsCounting f.header f.slot) t
place-asks Idle f g i t is stands = absurd (cc)
place-asks (Undoing from) f g i t is stands = absurd (place-none (nat_lt (next_live g.was_live from (f.pages - from)) f.pages) _ i is)
place-asks (Arming change) f g i t is stands = absurd (cc)
place-asks (Placing j) f g i t is stands = stands
place-asks (Committing change) f g i t is stands = absurd (cc)

pub asks-place : (F : (List ℕ → Type 0) → Type 0) (p : Position) (f : Flush) (g : Group) (i : ℕ) → due_stage_at p f g ≡ Place i
    → F (IsCounting f.header f.slot) → F (asks_at p f)
asks-place F Idle f g i is of = absurd (cc)
asks-place F (Undoing from) f g i is of = absurd (place-none (nat_lt (next_live g.was_live from (f.pages - from)) f.pages) _ i is)
asks-place F (Arming change) f g i is of = absurd (cc)
asks-place F (Placing j) f g i is of = of
asks-place F (Committing change) f g i is of = absurd (cc)
