-- Where a flush in flight stands on a disk, there is a disk on which the stage that is due was made.
use Rattle.std.proofs.Common.{◌≡◌, ◌≢◌, ◌⊎◌, inl, inr, ℕ, ◌+◌, ◌-◌, ◌<◌, ◌≤◌, List, [], ◌∷◌, length, refl, sym, subst, arith, slice_index, slice_range, Some}
use Rattle.hm_types.specs.declared.limits.TheConstants.{PAGE_BYTES}
use Rattle.hm_types.specs.Offset.{byte_of}
use Rattle.hm_disk.specs.Crash.{Told}
use Rattle.hm_disk.specs.Disk.{Synced, Written, overwritten}
use Rattle.hm_disk.specs.Transfer.{WrittenSynced}
use Rattle.hm_header.specs.declared.header.Header.{Header}
use Rattle.hm_header.specs.declared.header.TheConstants.{GATE_OPEN}
use Rattle.hm_header.specs.Change.{AnyCrash, IsNext, StageDone}
use Rattle.hm_header.specs.Layout.{body_of}
use Rattle.hm_header.specs.OnDisk.{gate_place, slot_place}
use Rattle.hm_header.specs.Range.{IsHeader}
use Rattle.hm_header.proofs.StageLemmas.{body-done, close-written, open-done}
use Rattle.hm_pages.specs.Store.{Store}
use Rattle.hm_undo.specs.Entry.{undo_entry_of}
use Rattle.hm_flush.specs.declared.change.Change.{Change}
use Rattle.hm_flush.specs.declared.change.Change.TheVariants.{Close, Write, Open}
use Rattle.hm_flush.specs.declared.flush.Flush.{Flush}
use Rattle.hm_flush.specs.declared.flush.Position.{Position}
use Rattle.hm_flush.specs.declared.flush.Position.TheVariants.{Idle, Undoing, Arming, Placing, Committing}
use Rattle.hm_flush.specs.declared.stage.Stage.{Stage}
use Rattle.hm_flush.specs.declared.stage.Stage.TheVariants.{Freeze, Undo, UndoSync, Arm, Place, PlaceSync, Commit}
use Rattle.hm_flush.specs.Calls.{FlushStands, IsFlushReady}
use Rattle.hm_flush.specs.Change.{change_asks, change_brings, change_range}
use Rattle.hm_flush.specs.Flush.{IsFlush, due_change, header_to_write, header_to_write_at, next_generation}
use Rattle.hm_flush.specs.Group.{group_of}
use Rattle.hm_flush.specs.Stages.{IsNumbered, MakesStage, due_stage, undo_range}
use Rattle.hm_flush.proofs.HeaderLemmas.{armed-header, armed-next, committed-header, committed-next}
use Rattle.hm_flush.proofs.MakeLemmas.{made-arm, made-commit, made-place, made-place_sync, made-undo, made-undo_sync}
use Rattle.hm_flush.proofs.StageLemmas.{change-stands}
use Rattle.hm_flush.proofs.StandLemmas.{LiesPast, group-len, lies-past, numbered}

-- a disk after a write, and one after a sync
abbrev written_told : Told → ℕ → List ℕ → Told
written_told t place bytes = record { bytes = overwritten t.bytes place bytes; unsettled = (place, length bytes) ∷ t.unsettled; moment = t.moment }

abbrev synced_told : Told → Told
synced_told t = record { bytes = t.bytes; unsettled = []; moment = t.moment + 1 }

written-is : (t : Told) (place : ℕ) (bytes : List ℕ) → Written place bytes t (written_told t place bytes)
written-is t place bytes = record { bytes_are = refl; unsettled_are = refl; moment_is = refl }

synced-is : (t : Told) → Synced t (synced_told t)
synced-is t = record { bytes_are = refl; unsettled_are = refl; later = omega arith }

settled-is : (t : Told) (place : ℕ) (bytes : List ℕ) → WrittenSynced place bytes t (synced_told (written_told t place bytes))
settled-is t place bytes = record { bytes_are = refl; unsettled_are = refl; later = omega arith }

-- a stage of a header change
change-possible : (change : Change) (header : Header) (slot : ℕ) (next : Header) (t : Told) → slot ≤ 1 → IsHeader next → IsNext header next
    → AnyCrash (change_asks change header slot next) t
    → (b : Told) × StageDone (change_brings change header slot next) (change_range change slot).0 (change_range change slot).1 t b
change-possible Close header slot next t small is follows safe = (
  synced_told (written_told t (gate_place (1 - slot)) (0 ∷ [])),
  close-written header slot small t (synced_told (written_told t (gate_place (1 - slot)) (0 ∷ []))) safe (settled-is t (gate_place (1 - slot)) (0 ∷ [])),
)
change-possible Write header slot next t small is follows safe = (
  synced_told (written_told t (slot_place (1 - slot)) (body_of next)),
  body-done header slot small next t (synced_told (written_told t (slot_place (1 - slot)) (body_of next))) safe
      (settled-is t (slot_place (1 - slot)) (body_of next)),
)
change-possible (Open tried) header slot next t small is follows safe = (
  synced_told (written_told t (gate_place (1 - slot)) (GATE_OPEN ∷ [])),
  open-done header slot small next is follows t (synced_told (written_told t (gate_place (1 - slot)) (GATE_OPEN ∷ []))) safe
      (settled-is t (gate_place (1 - slot)) (GATE_OPEN ∷ [])),
)

-- the header that is written next is one, and the next one
to-write : (p : Position) (f : Flush) → IsFlush f → IsHeader (header_to_write_at p f)
to-write Idle f sound = armed-header f.header f.written sound.header (omega (arith, sound.written, sound.live, sound.pages))
to-write (Undoing from) f sound = armed-header f.header f.written sound.header (omega (arith, sound.written, sound.live, sound.pages))
to-write (Arming change) f sound = armed-header f.header f.written sound.header (omega (arith, sound.written, sound.live, sound.pages))
to-write (Placing i) f sound = committed-header f.header f.target sound.header sound.target sound.bigblocks
to-write (Committing change) f sound = committed-header f.header f.target sound.header sound.target sound.bigblocks

to-write-next : (p : Position) (f : Flush) → IsNext f.header (header_to_write_at p f)
to-write-next Idle f = armed-next f.header f.written
to-write-next (Undoing from) f = armed-next f.header f.written
to-write-next (Arming change) f = armed-next f.header f.written
to-write-next (Placing i) f = committed-next f.header f.target
to-write-next (Committing change) f = committed-next f.header f.target

-- each page that is to be placed is one
abbrev pub ArePages : Store → Type 0
ArePages s = (i : ℕ) → i < length s.frozen_group → (page : List ℕ) × (s.frozen (slice_index s.frozen_group i) ≡ Some page) × (length page ≡ PAGE_BYTES)

module _ (f : Flush) (s : Store) (t : Told) (sound : IsFlush f) (ready : IsFlushReady f s) (flight : f.at ≢ Idle) (stands : FlushStands f t)
    (pages : ArePages s) where
  past : (stage : Stage) → due_stage f (group_of s) ≡ stage → LiesPast stage f (group_of s) (length t.bytes)
  past stage is =
      subst (λ (st : Stage). LiesPast st f (group_of s) (length t.bytes)) is
      (lies-past f s (length t.bytes) flight sound ready.group ready.placed stands.room)

  change : (stage : Stage) → ((number : ℕ) × (stage ≡ Arm number)) ⊎ ((number : ℕ) × (stage ≡ Commit number)) → due_stage f (group_of s) ≡ stage
      → (b : Told) × StageDone (change_brings (due_change f.at) f.header f.slot (header_to_write f)) (change_range (due_change f.at) f.slot).0
      (change_range (due_change f.at) f.slot).1 t b
  change stage due is =
      change-possible (due_change f.at) f.header f.slot (header_to_write f) t sound.slot (to-write f.at f sound) (to-write-next f.at f)
      (change-stands f.at f (group_of s) t
      (subst (λ (st : Stage). ((number : ℕ) × (st ≡ Arm number)) ⊎ ((number : ℕ) × (st ≡ Commit number))) (sym is) due) stands.header)

  placed : (i : ℕ) → due_stage f (group_of s) ≡ Place i → (b : Told) × MakesStage (Place i) f (group_of s) t b
  placed i is = (
    written_told t (byte_of (slice_index s.frozen_group i)) page.0,
    made-place f (group_of s) i t (written_told t (byte_of (slice_index s.frozen_group i)) page.0) (past (Place i) is).1 (record {
      page = page.0;
      page_is = page.1;
      sized = page.2;
      written = written-is t (byte_of (slice_index s.frozen_group i)) page.0;
    }),
  )
    where
      number : i < f.pages
      number = subst (λ (st : Stage). IsNumbered st f.pages) is (numbered f.at f (group_of s))

      page : (page : List ℕ) × (s.frozen (slice_index s.frozen_group i) ≡ Some page) × (length page ≡ PAGE_BYTES)
      page = pages i (omega (arith, number, group-len f.at f s flight ready.group))

  saved : (i : ℕ) → due_stage f (group_of s) ≡ Undo i → (b : Told) × MakesStage (Undo i) f (group_of s) t b
  saved i is =
      let at = slice_index s.frozen_group i in
      let entry = undo_entry_of at (next_generation f.header) (slice_range t.bytes (byte_of at) (byte_of at + PAGE_BYTES)) in (
        written_told t (undo_range f).0 entry,
        made-undo f (group_of s) i t (written_told t (undo_range f).0 entry) (past (Undo i) is).1 (past (Undo i) is).2
            (written-is t (undo_range f).0 entry),
      )

  pub possible : (stage : Stage) → stage ≢ Freeze → due_stage f (group_of s) ≡ stage → (b : Told) × MakesStage stage f (group_of s) t b
  possible Freeze flies is = absurd (flies refl)
  possible (Undo i) flies is = saved i is
  possible UndoSync flies is = (synced_told t, made-undo_sync f (group_of s) t (synced_told t) (synced-is t))
  possible (Arm number) flies is =
      let done = change (Arm number) (inl (number, refl)) is in (done.0, made-arm f (group_of s) number t done.0 done.1)
  possible (Place i) flies is = placed i is
  possible PlaceSync flies is = (synced_told t, made-place_sync f (group_of s) t (synced_told t) (synced-is t))
  possible (Commit number) flies is =
      let done = change (Commit number) (inr (number, refl)) is in (done.0, made-commit f (group_of s) number t done.0 done.1)
