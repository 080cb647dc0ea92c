-- What the stage that is due_stage does to a disk, where it tells.
use Rattle.std.proofs.Common.{◌≡◌, ◌≢◌, ◌⊎◌, inl, inr, ℕ, ◌+◌, ◌-◌, Bool, true, false, List, ◌∷◌, length, refl, sym, ap, subst, Option, IfSome}
use Rattle.std.proofs.Common.{slice_index, nat_lt, if◌then◌else◌}
use Rattle.hm_types.specs.declared.limits.TheConstants.{PAGE_BYTES, UNDO_ENTRY_BYTES}
use Rattle.hm_types.specs.Offset.{byte_of}
use Rattle.hm_types.specs.Told.{BothTell}
use Rattle.hm_disk.specs.Crash.{Told, MayLeave}
use Rattle.hm_disk.specs.Moments.{Each, LeftSince, SyncElapses, WriteElapses}
use Rattle.hm_disk.specs.Transfer.{TornAll}
use Rattle.hm_disk.proofs.DiskLemmas.{BothTell-map, BothTell-same, IfSome-then}
use Rattle.hm_header.specs.declared.header.Header.{Header}
use Rattle.hm_header.specs.Change.{AnyCrash, IsCounting, StageElapses, StageFailed}
use Rattle.hm_header.proofs.AnswerLemmas.{IfSome-map}
use Rattle.hm_header.proofs.StageLemmas.{failed-same, failed-write, synced-elapses, write-elapses}
use Rattle.hm_pages.specs.Store.{Store}
use Rattle.hm_flush.specs.declared.change.Change.{Change}
use Rattle.hm_flush.specs.declared.change.Change.TheVariants.{Close, Write, Open}
use Rattle.hm_flush.specs.declared.flush.Flush.{Flush}
use Rattle.hm_flush.specs.declared.flush.Position.{Position}
use Rattle.hm_flush.specs.declared.flush.Position.TheVariants.{Idle, Undoing, Arming, Placing, Committing}
use Rattle.hm_flush.specs.declared.stage.Stage.{Stage}
use Rattle.hm_flush.specs.declared.stage.Stage.TheVariants.{Freeze, Undo, UndoSync, Arm, Place, PlaceSync, Commit}
use Rattle.hm_flush.specs.Calls.{AreFlushPlaces, HeaderStands, FlushStands, StandsForChange}
use Rattle.hm_flush.specs.Change.{change_asks, change_range}
use Rattle.hm_flush.specs.Device.{IsPageWritten, IsSaved}
use Rattle.hm_flush.specs.Flush.{IsFlush, IsGroupOf, due_change, next_generation, header_to_write, header_to_write_at, tried}
use Rattle.hm_flush.specs.Group.{Group, group_of, next_live}
use Rattle.hm_flush.specs.Stages.{DueStageMade, MakesStage, asks, asks_at, due_stage, due_stage_at, moved_flush, range_of, stage_range, undo_range}
use Rattle.hm_flush.proofs.MakeLemmas.{asks-place, counting-within, made-place, made-undo, place-asks, undo-asks}
use Rattle.hm_flush.proofs.StandLemmas.{LiesPast, lies-past, stands-on, stands-tried}

-- what the next stage of a header change asks for holds
for-change : (change : Change) (f : Flush) (t : Told) → StandsForChange change f t → AnyCrash (change_asks change f.header f.slot (header_to_write f)) t
for-change Close f t stands = stands
for-change Write f t stands = stands
for-change (Open tried) f t stands = stands.0

module _ (f : Flush) (s : Store) (sound : IsFlush f) (group : IsGroupOf f s) (placed : AreFlushPlaces f.header.bigblocks s) (flight : f.at ≢ Idle)
    (old new : Option Told) (stands : IfSome old (FlushStands f)) where
  g : Group
  g = group_of s

  past : (stage : Stage) → due_stage f (group_of s) ≡ stage → (t : Told) → FlushStands f t → LiesPast stage f (group_of s) (length t.bytes)
  past stage is t stands =
      subst (λ (st : Stage). LiesPast st f (group_of s) (length t.bytes)) is (lies-past f s (length t.bytes) flight sound group placed stands.room)

  pub undo-made : (i : ℕ) → due_stage f (group_of s) ≡ Undo i → BothTell old new
      (IsSaved (undo_range f).0 (next_generation f.header) (slice_index s.frozen_group i))
      → BothTell old new (DueStageMade f (group_of s))
  undo-made i is saved = BothTell-map old new (FlushStands f) _ (DueStageMade f (group_of s)) each stands saved
    where
      each : (a b : Told) → FlushStands f a → IsSaved (undo_range f).0 (next_generation f.header) (slice_index s.frozen_group i) a b
          → DueStageMade f (group_of s) a b
      each a b here write =
          let lies = past (Undo i) is a here in
          subst (λ (st : Stage). MakesStage st f (group_of s) a b) (sym is) (made-undo f (group_of s) i a b lies.1 lies.2 write)

  pub undo-failed : (i : ℕ) → due_stage f (group_of s) ≡ Undo i → BothTell old new (TornAll (undo_range f).0 (undo_range f).1)
      → BothTell old new (StageFailed (asks f) (range_of f (group_of s)).0 (range_of f (group_of s)).1)
  undo-failed i is torn = BothTell-map old new (FlushStands f) _ _ each stands torn
    where
      each : (a b : Told) → FlushStands f a → TornAll (undo_range f).0 (undo_range f).1 a b
          → StageFailed (asks f) (range_of f (group_of s)).0 (range_of f (group_of s)).1 a b
      each a b here write =
          subst (λ (st : Stage). StageFailed (asks f) (stage_range st f (group_of s)).0 (stage_range st f (group_of s)).1 a b) (sym is)
          (failed-write (asks f) (undo_range f).0 (undo_range f).1 a b (λ image left. undo-asks f.at f (group_of s) i is image) write)

  pub undo-elapses : (i : ℕ) (before since : LeftSince) → due_stage f (group_of s) ≡ Undo i
      → BothTell old new (WriteElapses (undo_range f).0 (undo_range f).1 before since)
      → BothTell old new (StageElapses (asks f) (range_of f (group_of s)).0 (range_of f (group_of s)).1 before since)
  undo-elapses i before since is time = BothTell-map old new (FlushStands f) _ _ each stands time
    where
      each : (a b : Told) → FlushStands f a → WriteElapses (undo_range f).0 (undo_range f).1 before since a b
          → StageElapses (asks f) (range_of f (group_of s)).0 (range_of f (group_of s)).1 before since a b
      each a b here write =
          subst (λ (st : Stage). StageElapses (asks f) (stage_range st f (group_of s)).0 (stage_range st f (group_of s)).1 before since a b) (sym is)
          (write-elapses (asks f) (undo_range f).0 (undo_range f).1 before since a b (λ image left. undo-asks f.at f (group_of s) i is image) write)

  place : ℕ → ℕ
  place i = byte_of (slice_index s.frozen_group i)

  pub place-made : (i : ℕ) → due_stage f (group_of s) ≡ Place i → BothTell old new (IsPageWritten (group_of s) i)
      → BothTell old new (DueStageMade f (group_of s))
  place-made i is written = BothTell-map old new (FlushStands f) _ (DueStageMade f (group_of s)) each stands written
    where
      each : (a b : Told) → FlushStands f a → IsPageWritten (group_of s) i a b → DueStageMade f (group_of s) a b
      each a b here write =
          let lies = past (Place i) is a here in
          subst (λ (st : Stage). MakesStage st f (group_of s) a b) (sym is) (made-place f (group_of s) i a b lies.1 write)

  -- where a page is placed, each image within has the header that counts
  within : (i : ℕ) → due_stage f (group_of s) ≡ Place i → (a : Told) → FlushStands f a
      → Each (MayLeave a.bytes ((byte_of (slice_index s.frozen_group i), PAGE_BYTES) ∷ a.unsettled)) (asks f)
  within i is a here =
      let lies = past (Place i) is a here in
      asks-place (λ (Has : List ℕ → Type 0). Each (MayLeave a.bytes ((byte_of (slice_index s.frozen_group i), PAGE_BYTES) ∷ a.unsettled)) Has) f.at f
      (group_of s) i is
      (counting-within f.header f.slot a (byte_of (slice_index s.frozen_group i)) PAGE_BYTES lies.0 lies.1 (place-asks f.at f (group_of s) i a is here.header))

  pub place-failed : (i : ℕ) → due_stage f (group_of s) ≡ Place i → BothTell old new (TornAll (byte_of (slice_index s.frozen_group i)) PAGE_BYTES)
      → BothTell old new (StageFailed (asks f) (range_of f (group_of s)).0 (range_of f (group_of s)).1)
  place-failed i is torn = BothTell-map old new (FlushStands f) _ _ each stands torn
    where
      each : (a b : Told) → FlushStands f a → TornAll (byte_of (slice_index s.frozen_group i)) PAGE_BYTES a b
          → StageFailed (asks f) (range_of f (group_of s)).0 (range_of f (group_of s)).1 a b
      each a b here write =
          subst (λ (st : Stage). StageFailed (asks f) (stage_range st f (group_of s)).0 (stage_range st f (group_of s)).1 a b) (sym is)
          (failed-write (asks f) (byte_of (slice_index s.frozen_group i)) PAGE_BYTES a b (within i is a here) write)

  pub place-elapses : (i : ℕ) (before since : LeftSince) → due_stage f (group_of s) ≡ Place i
      → BothTell old new (WriteElapses (byte_of (slice_index s.frozen_group i)) PAGE_BYTES before since)
      → BothTell old new (StageElapses (asks f) (range_of f (group_of s)).0 (range_of f (group_of s)).1 before since)
  place-elapses i before since is time = BothTell-map old new (FlushStands f) _ _ each stands time
    where
      each : (a b : Told) → FlushStands f a → WriteElapses (byte_of (slice_index s.frozen_group i)) PAGE_BYTES before since a b
          → StageElapses (asks f) (range_of f (group_of s)).0 (range_of f (group_of s)).1 before since a b
      each a b here write =
          subst (λ (st : Stage). StageElapses (asks f) (stage_range st f (group_of s)).0 (stage_range st f (group_of s)).1 before since a b) (sym is)
          (write-elapses (asks f) (byte_of (slice_index s.frozen_group i)) PAGE_BYTES before since a b (within i is a here) write)

  -- the flush goes on, on the disk as it is now
  pub stands-then : BothTell old new (DueStageMade f (group_of s)) → IfSome new (FlushStands (moved_flush (due_stage f (group_of s)) f))
  stands-then made = IfSome-then old new (FlushStands f) _ (DueStageMade f (group_of s)) each stands made
    where
      each : (a b : Told) → FlushStands f a → DueStageMade f (group_of s) a b → FlushStands (moved_flush (due_stage f (group_of s)) f) b
      each a b here did = stands-on f (group_of s) a b flight here (past (due_stage f (group_of s)) refl a here) did

  pub stands-still : BothTell old new (StageFailed (asks f) (range_of f (group_of s)).0 (range_of f (group_of s)).1) → IfSome new (FlushStands (tried f))
  stands-still failed = IfSome-then old new (FlushStands f) _ _ each stands failed
    where
      each : (a b : Told) → FlushStands f a → StageFailed (asks f) (range_of f (group_of s)).0 (range_of f (group_of s)).1 a b → FlushStands (tried f) b
      each a b here did = stands-tried f (group_of s) a b flight here (past (due_stage f (group_of s)) refl a here) did

-- What a stage asks for stands where the flush does.
pub asks-stand : (p : Position) (f : Flush) (t : Told) → HeaderStands p f t → AnyCrash (asks_at p f) t
asks-stand Idle f t stands = λ image left. tt
asks-stand (Undoing from) f t stands = λ image left. tt
asks-stand (Arming change) f t stands = for-change change f t stands
asks-stand (Placing i) f t stands = stands
asks-stand (Committing change) f t stands = for-change change f t stands

pub sync-elapses : (f : Flush) (place count : ℕ) (before since : LeftSince) (old new : Option Told) → IfSome old (FlushStands f)
    → BothTell old new (SyncElapses before since) → BothTell old new (StageElapses (asks f) place count before since)
sync-elapses f place count before since old new stands time =
    BothTell-map old new (FlushStands f) (SyncElapses before since) (StageElapses (asks f) place count before since) each stands time
  where
    each : (a b : Told) → FlushStands f a → SyncElapses before since a b → StageElapses (asks f) place count before since a b
    each a b here sync =
        synced-elapses (asks f) place count before before since a b (asks-stand f.at f a here.header)
        (λ moment image. ((λ left. left), (λ left. left))) sync

pub sync-failed : (f : Flush) (place count : ℕ) (old new : Option Told) → IfSome old (FlushStands f) → new ≡ old
    → BothTell old new (StageFailed (asks f) place count)
sync-failed f place count old new stands same =
    subst (λ (o : Option Told). BothTell old o (StageFailed (asks f) place count)) (sym same)
    (BothTell-same old (StageFailed (asks f) place count)
    (IfSome-map old (FlushStands f) (λ t. StageFailed (asks f) place count t t)
    (λ t here. failed-same (asks f) place count t (asks-stand f.at f t here.header)) stands))

-- the stage that is due_stage is one of a header change
abbrev pub IsChangeDue : Stage → Type 0
IsChangeDue stage = ((number : ℕ) × (stage ≡ Arm number)) ⊎ ((number : ℕ) × (stage ≡ Commit number))

undo-no : (b : Bool) (n : ℕ) → IsChangeDue (if b then Undo n else UndoSync) → ⊥
undo-no true n (inl (x, is)) = cc
undo-no true n (inr (x, is)) = cc
undo-no false n (inl (x, is)) = cc
undo-no false n (inr (x, is)) = cc

place-no : (b : Bool) (n : ℕ) → IsChangeDue (if b then Place n else PlaceSync) → ⊥
place-no true n (inl (x, is)) = cc
place-no true n (inr (x, is)) = cc
place-no false n (inl (x, is)) = cc
place-no false n (inr (x, is)) = cc

freeze-no : IsChangeDue Freeze → ⊥
freeze-no (inl (x, is)) = cc
freeze-no (inr (x, is)) = cc

pub change-stands : (p : Position) (f : Flush) (g : Group) (t : Told) → IsChangeDue (due_stage_at p f g) → HeaderStands p f t
    → AnyCrash (change_asks (due_change p) f.header f.slot (header_to_write f)) t
change-stands Idle f g t is stands = absurd (freeze-no is)
change-stands (Undoing from) f g t is stands = absurd (undo-no (nat_lt (next_live g.was_live from (f.pages - from)) f.pages) _ is)
change-stands (Arming change) f g t is stands = for-change change f t stands
change-stands (Placing i) f g t is stands = absurd (place-no (nat_lt i f.pages) i is)
change-stands (Committing change) f g t is stands = for-change change f t stands

asks-change : (F : (List ℕ → Type 0) → Type 0) (p : Position) (f : Flush) (g : Group) → IsChangeDue (due_stage_at p f g)
    → F (change_asks (due_change p) f.header f.slot (header_to_write f)) → F (asks_at p f)
asks-change F Idle f g is of = absurd (freeze-no is)
asks-change F (Undoing from) f g is of = absurd (undo-no (nat_lt (next_live g.was_live from (f.pages - from)) f.pages) _ is)
asks-change F (Arming change) f g is of = of
asks-change F (Placing i) f g is of = absurd (place-no (nat_lt i f.pages) i is)
asks-change F (Committing change) f g is of = of

range-change : (f : Flush) (g : Group) (stage : Stage) → IsChangeDue stage → stage_range stage f g ≡ change_range (due_change f.at) f.slot
range-change f g stage (inl (x, is)) = ap (λ (st : Stage). stage_range st f g) is
range-change f g stage (inr (x, is)) = ap (λ (st : Stage). stage_range st f g) is

pub change-before : (f : Flush) (g : Group) (change : Change) (next : Header) (old : Option Told) → IsChangeDue (due_stage f g) → change ≡ due_change f.at
    → next ≡ header_to_write f → IfSome old (FlushStands f) → IfSome old (AnyCrash (change_asks change f.header f.slot next))
change-before f g change next old is same same' stands =
    subst (λ (n : Header). IfSome old (AnyCrash (change_asks change f.header f.slot n))) (sym same')
    (subst (λ (c : Change). IfSome old (AnyCrash (change_asks c f.header f.slot (header_to_write f)))) (sym same)
    (IfSome-map old (FlushStands f) _ (λ t here. change-stands f.at f g t is here.header) stands))

-- what a stage of a header change is said to do, in the words of all stages
pub as-change : (F : (List ℕ → Type 0) → ℕ × ℕ → Type 0) (f : Flush) (g : Group) (change : Change) (next : Header) → IsChangeDue (due_stage f g)
    → change ≡ due_change f.at → next ≡ header_to_write f → F (change_asks change f.header f.slot next) (change_range change f.slot) → F (asks f) (range_of f g)
as-change F f g change next is same same' of =
    asks-change (λ (Has : List ℕ → Type 0). F Has (range_of f g)) f.at f g is
    (subst (λ (range : ℕ × ℕ). F (change_asks (due_change f.at) f.header f.slot (header_to_write f)) range) (sym (range-change f g (due_stage f g) is))
    (subst (λ (n : Header). F (change_asks (due_change f.at) f.header f.slot n) (change_range (due_change f.at) f.slot)) same'
    (subst (λ (c : Change). F (change_asks c f.header f.slot next) (change_range c f.slot)) same of)))
