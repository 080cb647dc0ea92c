-- The header counts as each stage needs it, before it and after it.
use Rattle.std.proofs.Common.{◌≡◌, ◌≢◌, ◌⊎◌, inl, inr, ℕ, zero, suc, ◌+◌, ◌-◌, ◌*◌, ◌<◌, ◌≤◌, Bool, true, false, List, [], ◌∷◌, length, refl, sym}
use Rattle.std.proofs.Common.{◌∙◌, ap, subst, arith, nat_lt, slice_index, if◌then◌else◌}
use Rattle.std.proofs.lemmas.Bool.{ltb-true}
use Rattle.hm_types.specs.declared.limits.TheConstants.{PAGE_BYTES, UNDO_ENTRY_BYTES}
use Rattle.hm_types.specs.Offset.{byte_of}
use Rattle.hm_disk.specs.Crash.{Told, MayLeave}
use Rattle.hm_disk.proofs.CrashLemmas.{MayLeave-same}
use Rattle.hm_header.specs.declared.header.Header.{Header}
use Rattle.hm_header.specs.declared.header.TheConstants.{SLOT_BYTES}
use Rattle.hm_header.specs.Change.{AnyCrash, HasNextBody, IsBodyWritten, IsClosedBeside, IsCounting, StageFailed}
use Rattle.hm_header.specs.OnDisk.{HasHeader}
use Rattle.hm_header.specs.Range.{HasRoom}
use Rattle.hm_header.proofs.ChangeLemmas.{settled-any}
use Rattle.hm_header.proofs.HeaderLemmas.{header-same}
use Rattle.hm_header.proofs.KeptLemmas.{same-slots}
use Rattle.hm_header.proofs.StageLemmas.{torn-leaves}
use Rattle.hm_undo.proofs.LogLemmas.{entry-past_slots, entry-within, page-past_slots, page-within}
use Rattle.hm_undo.specs.Log.{entry_at}
use Rattle.hm_pages.specs.Store.{Store}
use Rattle.hm_flush.specs.declared.change.Change.{Change}
use Rattle.hm_flush.specs.declared.change.Change.TheVariants.{Close, Write, Open}
use Rattle.hm_flush.specs.declared.flush.Flush.{Flush}
use Rattle.hm_flush.specs.declared.flush.Position.{Position}
use Rattle.hm_flush.specs.declared.flush.Position.TheVariants.{Idle, Undoing, Arming, Placing, Committing}
use Rattle.hm_flush.specs.declared.stage.Stage.{Stage}
use Rattle.hm_flush.specs.declared.stage.Stage.TheVariants.{Freeze, Undo, UndoSync, Arm, Place, PlaceSync, Commit}
use Rattle.hm_flush.specs.Calls.{AreFlushPlaces, FlushStands}
use Rattle.hm_flush.specs.Device.{IsPageWritten}
use Rattle.hm_flush.specs.Flush.{IsFlush, IsGroupAt, IsGroupOf, header_to_write, header_to_write_at, tried}
use Rattle.hm_flush.specs.Group.{Group, group_of, next_live}
use Rattle.hm_flush.specs.Stages.{IsNumbered, MakesStage, asks, due_stage, due_stage_at, moved_flush, range_of, stage_range, undo_range}
use Rattle.hm_flush.proofs.MakeLemmas.{counting-within, placed-torn}
use Rattle.hm_flush.proofs.MoveLemmas.{flush_at}

-- the range of a stage that writes a page or an entry lies past the header slots, and inside a disk of so many bytes
abbrev pub LiesPast : Stage → Flush → Group → ℕ → Type 0
LiesPast Freeze f g size = Unit {0}
LiesPast (Undo i) f g size =
    (2 * SLOT_BYTES ≤ (undo_range f).0) × ((undo_range f).0 + UNDO_ENTRY_BYTES ≤ size) × (byte_of (slice_index g.places i) + PAGE_BYTES ≤ size)
LiesPast UndoSync f g size = Unit {0}
LiesPast (Arm number) f g size = Unit {0}
LiesPast (Place i) f g size = (2 * SLOT_BYTES ≤ byte_of (slice_index g.places i)) × (byte_of (slice_index g.places i) + PAGE_BYTES ≤ size)
LiesPast PlaceSync f g size = Unit {0}
LiesPast (Commit number) f g size = Unit {0}

-- the stage that is due_stage has the number of a page of the group, or none
numbered-undo : (b : Bool) (n pages : ℕ) → nat_lt n pages ≡ b → IsNumbered (if b then Undo n else UndoSync) pages
numbered-undo true n pages is = ltb-true _ _ is
numbered-undo false n pages is = tt

numbered-place : (b : Bool) (n pages : ℕ) → nat_lt n pages ≡ b → IsNumbered (if b then Place n else PlaceSync) pages
numbered-place true n pages is = ltb-true _ _ is
numbered-place false n pages is = tt

pub numbered : (p : Position) (f : Flush) (g : Group) → IsNumbered (due_stage_at p f g) f.pages
numbered Idle f g = tt
numbered (Undoing from) f g =
    numbered-undo (nat_lt (next_live g.was_live from (f.pages - from)) f.pages) (next_live g.was_live from (f.pages - from)) f.pages refl
numbered (Arming change) f g = tt
numbered (Placing i) f g = numbered-place (nat_lt i f.pages) i f.pages refl
numbered (Committing change) f g = tt

lies : (stage : Stage) (f : Flush) (s : Store) (size : ℕ) → IsFlush f → length s.frozen_group ≡ f.pages → AreFlushPlaces f.header.bigblocks s
    → HasRoom size f.header.bigblocks → IsNumbered stage f.pages → LiesPast stage f (group_of s) size
lies Freeze f s size sound len placed room number = tt
lies (Undo i) f s size sound len placed room number =
    let page = placed.frozen i (omega (arith, number, len)) in (
      entry-past_slots f.header.bigblocks (entry_at f.header.undo_next f.written),
      omega (arith, room, entry-within f.header.bigblocks (entry_at f.header.undo_next f.written) sound.header.bigblocks (omega arith)),
      omega (arith, room, page-within f.header.bigblocks (slice_index s.frozen_group i) sound.header.bigblocks page),
    )
lies UndoSync f s size sound len placed room number = tt
lies (Arm n) f s size sound len placed room number = tt
lies (Place i) f s size sound len placed room number =
    let page = placed.frozen i (omega (arith, number, len)) in (
      page-past_slots f.header.bigblocks (slice_index s.frozen_group i) page,
      omega (arith, room, page-within f.header.bigblocks (slice_index s.frozen_group i) sound.header.bigblocks page),
    )
lies PlaceSync f s size sound len placed room number = tt
lies (Commit n) f s size sound len placed room number = tt

pub group-len : (p : Position) (f : Flush) (s : Store) → p ≢ Idle → IsGroupAt p f s → length s.frozen_group ≡ f.pages
group-len Idle f s flight group = absurd (flight refl)
group-len (Undoing from) f s flight group = group.pages
group-len (Arming change) f s flight group = group.pages
group-len (Placing i) f s flight group = group.pages
group-len (Committing change) f s flight group = group.pages

pub lies-past : (f : Flush) (s : Store) (size : ℕ) → f.at ≢ Idle → IsFlush f → IsGroupOf f s → AreFlushPlaces f.header.bigblocks s
    → HasRoom size f.header.bigblocks
    → LiesPast (due_stage f (group_of s)) f (group_of s) size
lies-past f s size flight sound group placed room =
    lies (due_stage f (group_of s)) f s size sound (group-len f.at f s flight group) placed room (numbered f.at f (group_of s))

-- a header counts still where the range that was written has no byte of a slot
header-beside : (old new : List ℕ) (header : Header) (slot place count : ℕ)
    → ((byte : ℕ) → byte < 2 * SLOT_BYTES → (byte < place) ⊎ (place + count ≤ byte)) → MayLeave old ((place, count) ∷ []) new
    → HasHeader old header slot → HasHeader new header slot
header-beside old new header slot place count beside change was =
    let same = same-slots old new change.size (λ byte below inside. change.same byte inside (beside byte below, tt)) in
    header-same old new header slot change.size same.first same.second was

header-past : (old new : List ℕ) (header : Header) (slot place count : ℕ) → 2 * SLOT_BYTES ≤ place → MayLeave old ((place, count) ∷ []) new
    → HasHeader old header slot → HasHeader new header slot
header-past old new header slot place count past change was =
    header-beside old new header slot place count (λ byte below. inl (omega (arith, below, past))) change was

pub header-none : (old new : List ℕ) (header : Header) (slot : ℕ) → MayLeave old ((0, 0) ∷ []) new → HasHeader old header slot → HasHeader new header slot
header-none old new header slot change was = header-beside old new header slot 0 0 (λ byte below. inr (omega arith)) change was

module _ (header : Header) (slot : ℕ) (target : Header) (pages live written : ℕ) where
  abbrev at_position : Position → Flush
  at_position at = flush_at header slot target pages live written at

  roomy : (s t : Told) (range : ℕ × ℕ) → MayLeave s.bytes (range ∷ []) t.bytes → HasRoom (length s.bytes) header.bigblocks
      → HasRoom (length t.bytes) header.bigblocks
  roomy s t range change room = subst (λ (n : ℕ). HasRoom n header.bigblocks) (sym change.size) room

  undoing-stands : (from : ℕ) (g : Group) (s t : Told) → FlushStands (at_position (Undoing from)) s
      → LiesPast (due_stage (at_position (Undoing from)) g) (at_position (Undoing from)) g (length s.bytes)
      → MakesStage (due_stage (at_position (Undoing from)) g) (at_position (Undoing from)) g s t
      → FlushStands (moved_flush (due_stage (at_position (Undoing from)) g) (at_position (Undoing from))) t
  undoing-stands from g s t stands past made = step (nat_lt next pages) past made
    where
      next : ℕ
      next = next_live g.was_live from (pages - from)

      step : (b : Bool) → LiesPast (if b then Undo next else UndoSync) (at_position (Undoing from)) g (length s.bytes)
          → MakesStage (if b then Undo next else UndoSync) (at_position (Undoing from)) g s t
          → FlushStands (moved_flush (if b then Undo next else UndoSync) (at_position (Undoing from))) t
      step true past made = record {
        room = roomy s t _ made.others stands.room;
        header = header-past s.bytes t.bytes header slot _ _ past.0 made.others stands.header;
      }
      step false past made = record {
        room = roomy s t _ made.others stands.room;
        header = settled-any (IsCounting header slot) t (made.settled refl) (header-none s.bytes t.bytes header slot made.others stands.header);
      }

  placing-stands : (i : ℕ) (g : Group) (s t : Told) → FlushStands (at_position (Placing i)) s
      → LiesPast (due_stage (at_position (Placing i)) g) (at_position (Placing i)) g (length s.bytes)
      → MakesStage (due_stage (at_position (Placing i)) g) (at_position (Placing i)) g s t
      → FlushStands (moved_flush (due_stage (at_position (Placing i)) g) (at_position (Placing i))) t
  placing-stands i g s t stands past made = step (nat_lt i pages) past made
    where
      step : (b : Bool) → LiesPast (if b then Place i else PlaceSync) (at_position (Placing i)) g (length s.bytes)
          → MakesStage (if b then Place i else PlaceSync) (at_position (Placing i)) g s t
          → FlushStands (moved_flush (if b then Place i else PlaceSync) (at_position (Placing i))) t
      step true past made = record {
        room = roomy s t _ made.others stands.room;
        header = λ image left.
            counting-within header slot s (byte_of (slice_index g.places i)) PAGE_BYTES past.0 past.1 stands.header image
            (torn-leaves (byte_of (slice_index g.places i)) PAGE_BYTES s t (placed-torn g i s t past.1 made.made) image left);
      }
      step false past made = record {
        room = roomy s t _ made.others stands.room;
        header = settled-any (IsCounting header slot) t (made.settled refl)
            (header-none s.bytes t.bytes header slot made.others (stands.header s.bytes (MayLeave-same s.bytes s.unsettled)));
      }

  arming-stands : (change : Change) (g : Group) (s t : Told) → FlushStands (at_position (Arming change)) s
      → MakesStage (due_stage (at_position (Arming change)) g) (at_position (Arming change)) g s t
      → FlushStands (moved_flush (due_stage (at_position (Arming change)) g) (at_position (Arming change))) t
  arming-stands Close g s t stands made = record {
    room = roomy s t _ made.others stands.room;
    header = settled-any (IsClosedBeside header slot) t made.made.settled made.made.has;
  }
  arming-stands Write g s t stands made = record {
    room = roomy s t _ made.others stands.room;
    header = (
      settled-any (HasNextBody header slot (header_to_write (at_position (Arming Write)))) t made.made.settled made.made.has.1,
      λ first. settled-any (IsBodyWritten header slot (header_to_write (at_position (Arming Write)))) t made.made.settled made.made.has,
    );
  }
  arming-stands (Open tried) g s t stands made = record {
    room = roomy s t _ made.others stands.room;
    header = settled-any (IsCounting (header_to_write (at_position (Arming (Open tried)))) (1 - slot)) t made.made.settled made.made.has;
  }

  committing-stands : (change : Change) (g : Group) (s t : Told) → FlushStands (at_position (Committing change)) s
      → MakesStage (due_stage (at_position (Committing change)) g) (at_position (Committing change)) g s t
      → FlushStands (moved_flush (due_stage (at_position (Committing change)) g) (at_position (Committing change))) t
  committing-stands Close g s t stands made = record {
    room = roomy s t _ made.others stands.room;
    header = settled-any (IsClosedBeside header slot) t made.made.settled made.made.has;
  }
  committing-stands Write g s t stands made = record {
    room = roomy s t _ made.others stands.room;
    header = (
      settled-any (HasNextBody header slot (header_to_write (at_position (Committing Write)))) t made.made.settled made.made.has.1,
      λ first. settled-any (IsBodyWritten header slot (header_to_write (at_position (Committing Write)))) t made.made.settled made.made.has,
    );
  }
  committing-stands (Open tried) g s t stands made = record { room = roomy s t _ made.others stands.room; header = made.made.has }

  stands-on_at : (at : Position) (g : Group) (s t : Told) → at ≢ Idle → FlushStands (at_position at) s
      → LiesPast (due_stage (at_position at) g) (at_position at) g (length s.bytes)
      → MakesStage (due_stage (at_position at) g) (at_position at) g s t → FlushStands (moved_flush (due_stage (at_position at) g) (at_position at)) t
  stands-on_at Idle g s t flight stands past made = absurd (flight refl)
  stands-on_at (Undoing from) g s t flight stands past made = undoing-stands from g s t stands past made
  stands-on_at (Arming change) g s t flight stands past made = arming-stands change g s t stands made
  stands-on_at (Placing i) g s t flight stands past made = placing-stands i g s t stands past made
  stands-on_at (Committing change) g s t flight stands past made = committing-stands change g s t stands made

  -- a stage that failed
  tried-undoing : (from : ℕ) (g : Group) (s t : Told) → FlushStands (at_position (Undoing from)) s
      → LiesPast (due_stage (at_position (Undoing from)) g) (at_position (Undoing from)) g (length s.bytes)
      → MayLeave s.bytes (range_of (at_position (Undoing from)) g ∷ []) t.bytes → FlushStands (at_position (Undoing from)) t
  tried-undoing from g s t stands past change = step (nat_lt next pages) past change
    where
      next : ℕ
      next = next_live g.was_live from (pages - from)

      step : (b : Bool) → LiesPast (if b then Undo next else UndoSync) (at_position (Undoing from)) g (length s.bytes)
          → MayLeave s.bytes (stage_range (if b then Undo next else UndoSync) (at_position (Undoing from)) g ∷ []) t.bytes
          → FlushStands (at_position (Undoing from)) t
      step true past change = record {
        room = roomy s t _ change stands.room;
        header = header-past s.bytes t.bytes header slot _ _ past.0 change stands.header;
      }
      step false past change = record { room = roomy s t _ change stands.room; header = header-none s.bytes t.bytes header slot change stands.header }

  stands-tried_at : (at : Position) (g : Group) (s t : Told) → at ≢ Idle → FlushStands (at_position at) s
      → LiesPast (due_stage (at_position at) g) (at_position at) g (length s.bytes)
      → StageFailed (asks (at_position at)) (range_of (at_position at) g).0 (range_of (at_position at) g).1 s t → FlushStands (tried (at_position at)) t
  stands-tried_at Idle g s t flight stands past failed = absurd (flight refl)
  stands-tried_at (Undoing from) g s t flight stands past failed = tried-undoing from g s t stands past failed.torn.bytes_are
  stands-tried_at (Arming Close) g s t flight stands past failed = record { room = roomy s t _ failed.torn.bytes_are stands.room; header = failed.crash }
  stands-tried_at (Arming Write) g s t flight stands past failed = record { room = roomy s t _ failed.torn.bytes_are stands.room; header = failed.crash }
  stands-tried_at (Arming (Open tried)) g s t flight stands past failed = record {
    room = roomy s t _ failed.torn.bytes_are stands.room;
    header = (failed.crash, λ first. absurd (cc));
  }
  stands-tried_at (Placing i) g s t flight stands past failed = record { room = roomy s t _ failed.torn.bytes_are stands.room; header = failed.crash }
  stands-tried_at (Committing Close) g s t flight stands past failed = record { room = roomy s t _ failed.torn.bytes_are stands.room; header = failed.crash }
  stands-tried_at (Committing Write) g s t flight stands past failed = record { room = roomy s t _ failed.torn.bytes_are stands.room; header = failed.crash }
  stands-tried_at (Committing (Open tried)) g s t flight stands past failed = record {
    room = roomy s t _ failed.torn.bytes_are stands.room;
    header = (failed.crash, λ first. absurd (cc));
  }

pub stands-on : (f : Flush) (g : Group) (s t : Told) → f.at ≢ Idle → FlushStands f s → LiesPast (due_stage f g) f g (length s.bytes)
    → MakesStage (due_stage f g) f g s t
    → FlushStands (moved_flush (due_stage f g) f) t
stands-on f g s t flight stands past made = stands-on_at f.header f.slot f.target f.pages f.live f.written f.at g s t flight stands past made

pub stands-tried : (f : Flush) (g : Group) (s t : Told) → f.at ≢ Idle → FlushStands f s → LiesPast (due_stage f g) f g (length s.bytes)
    → StageFailed (asks f) (range_of f g).0 (range_of f g).1 s t → FlushStands (tried f) t
stands-tried f g s t flight stands past failed = stands-tried_at f.header f.slot f.target f.pages f.live f.written f.at g s t flight stands past failed
