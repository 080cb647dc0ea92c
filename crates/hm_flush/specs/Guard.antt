-- What guards the committed pages over a flush: at each position, what each image has that a crash may leave, and what stands
-- on the disk as reads give it. It speaks of told data alone.
use Rattle.std.specs.Prelude.{◌≡◌, ◌⊎◌, ℕ, ◌<◌, ◌≤◌, false, List, [], ◌∷◌, Some, length, nat_eq, slice_index}
use Rattle.std.specs.List.{AllByRecursion}
use Rattle.std.specs.Set.{is_member}
use Rattle.hm_types.specs.Layout.{first_pool, start_of}
use Rattle.hm_disk.specs.Crash.{Told, is_outside}
use Rattle.hm_disk.specs.Moments.{Elapses, LeftSince}
use Rattle.hm_fields.specs.Pages.{PageMap}
use Rattle.hm_header.specs.declared.header.Header.{Header}
use Rattle.hm_header.specs.Change.{AnyCrash}
use Rattle.hm_header.specs.OnDisk.{HasHeader}
use Rattle.hm_pages.specs.Store.{Store}
use Rattle.hm_undo.specs.Entry.{IsUndoPageOf}
use Rattle.hm_undo.specs.Range.{HasRange, OldPage}
use Rattle.hm_flush.specs.declared.flush.Flush.{Flush}
use Rattle.hm_flush.specs.declared.flush.Position.{Position}
use Rattle.hm_flush.specs.declared.flush.Position.TheVariants.{Idle, Undoing, Arming, Placing, Committing}
use Rattle.hm_flush.specs.Calls.{FlushStands}
use Rattle.hm_flush.specs.Flush.{armed_header, tried}
use Rattle.hm_flush.specs.Recoverable.{HoldsPage, HoldsPages, IsInPages, Recoverable}

-- each page of a map stands where an entry of the log may name it
abbrev pub ArePlaced : ℕ → PageMap → Type 0
ArePlaced bigblocks map = (at : ℕ) (page : List ℕ) → map at ≡ Some page → IsUndoPageOf bigblocks at

-- one of the pages of a range is that at this offset
abbrev pub IsSavedAt : ℕ → List OldPage → Type 0
IsSavedAt at [] = ⊥
IsSavedAt at (old ∷ olds) = (old.at ≡ at) ⊎ IsSavedAt at olds

-- The entries that this header names hold committed pages, and among them each of the first so many frozen pages that was live as
-- committed.
pub record HasSaved (header : Header) (s : Store) (to : ℕ) (bytes : List ℕ) : Type 0 where
  pub olds : List OldPage
  pub range : HasRange bytes header olds
  pub committed : AllByRecursion (λ old. s.committed old.at ≡ Some old.bytes) olds
  pub live : (i : ℕ) → i < to → (page : List ℕ) → s.committed (slice_index s.frozen_group i) ≡ Some page
      → IsSavedAt (slice_index s.frozen_group i) olds

-- each committed page stands where it belongs that no page of the frozen group overwrites
abbrev pub HoldsRest : Store → List ℕ → Type 0
HoldsRest s bytes =
    (at : ℕ) (page : List ℕ) → s.committed at ≡ Some page → is_member nat_eq s.frozen_group at ≡ false → HoldsPage bytes at page

-- the first so many pages of the frozen group stand where they belong
abbrev pub HoldsPlaced : Store → ℕ → List ℕ → Type 0
HoldsPlaced s to bytes =
    (i : ℕ) → i < to → (page : List ℕ) → s.frozen (slice_index s.frozen_group i) ≡ Some page
    → HoldsPage bytes (slice_index s.frozen_group i) page

-- What each image has that a crash may leave, beside the header that counts in it: until Arm 3 each committed page where it
-- belongs, and from UndoSync on the whole log. From PlaceSync on the frozen pages stand too.
abbrev pub guarded_at : Position → Flush → Store → List ℕ → Type 0
guarded_at Idle f s image = HasHeader image f.header f.slot × HoldsPages s.committed image
guarded_at (Undoing from) f s image = HasHeader image f.header f.slot × HoldsPages s.committed image
guarded_at (Arming change) f s image =
    HoldsPages s.committed image × HasSaved (armed_header f.header f.written) s (length s.frozen_group) image
guarded_at (Placing i) f s image = HoldsRest s image × HasSaved f.header s (length s.frozen_group) image
guarded_at (Committing change) f s image =
    HoldsRest s image × HasSaved f.header s (length s.frozen_group) image × HoldsPages s.frozen image

-- what stands as reads give it, settled or not: the entries so far, and the pages that were placed so far
abbrev pub read_at : Position → Flush → Store → List ℕ → Type 0
read_at Idle f s bytes = Unit {0}
read_at (Undoing from) f s bytes = HasSaved (armed_header f.header f.written) s from bytes
read_at (Arming change) f s bytes = Unit {0}
read_at (Placing i) f s bytes = HoldsPlaced s i bytes
read_at (Committing change) f s bytes = Unit {0}

-- the header that counts names no range until Arm 3
abbrev pub IsUnarmedAt : Position → Header → Type 0
IsUnarmedAt Idle header = header.undo_count ≡ 0
IsUnarmedAt (Undoing from) header = header.undo_count ≡ 0
IsUnarmedAt (Arming change) header = header.undo_count ≡ 0
IsUnarmedAt (Placing i) header = Unit {0}
IsUnarmedAt (Committing change) header = Unit {0}

-- The committed pages are guarded, at whatever position a flush is.
pub record Guards (f : Flush) (s : Store) (t : Told) : Type 0 where
  pub stands : FlushStands f t
  pub committed : ArePlaced f.header.bigblocks s.committed
  pub frozen : ArePlaced f.header.bigblocks s.frozen
  pub unarmed : IsUnarmedAt f.at f.header
  pub crash : AnyCrash (guarded_at f.at f s) t
  pub read : read_at f.at f s t.bytes

-- where they were guarded they are guarded still, with the flush and the store as they are now
abbrev pub GuardsOn : Flush → Store → Flush → Store → Told → Told → Type 0
GuardsOn f s f' s' old new = Guards f s old → Guards f' s' new

-- Where they were guarded, whatever a crash within a stage leaves is recoverable, as where the stage was tried.
abbrev pub ElapsesRecoverable : Flush → Store → LeftSince → LeftSince → Told → Told → Type 0
ElapsesRecoverable f s past since old new = Guards f s old → Elapses (Recoverable (tried f) s) past since old new

-- a byte on which the guard hangs: one before the pool, or one of a page that is committed or frozen
abbrev pub IsGuarded : ℕ → Store → ℕ → Type 0
IsGuarded bigblocks s byte = (byte < start_of (first_pool bigblocks)) ⊎ IsInPages s.committed byte ⊎ IsInPages s.frozen byte

-- Two disks of one size have the same guarded bytes: each reads the same, and is settled in both or in neither.
pub record HaveSameGuarded (bigblocks : ℕ) (s : Store) (old new : Told) : Type 0 where
  pub size : length new.bytes ≡ length old.bytes
  pub bytes : (byte : ℕ) → IsGuarded bigblocks s byte → slice_index new.bytes byte ≡ slice_index old.bytes byte
  pub settled : (byte : ℕ) → IsGuarded bigblocks s byte → is_outside new.unsettled byte ≡ is_outside old.unsettled byte
