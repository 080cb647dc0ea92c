-- What the guard of each position gives, and on which bytes it hangs.
use Rattle.std.proofs.Common.{◌≡◌, ◌⊎◌, inl, inr, ⊎_elim, ℕ, zero, suc, ◌+◌, ◌-◌, ◌*◌, ◌<◌, ◌≤◌, Bool, true, false, List, [], ◌∷◌, length, get_or}
use Rattle.std.proofs.Common.{refl, sym, ◌∙◌, ap, subst, arith, nat_eq, slice_index, Some}
use Rattle.std.specs.Set.{is_member}
use Rattle.hm_types.specs.declared.limits.TheConstants.{PAGE_BYTES, UNDO_ENTRY_BYTES}
use Rattle.hm_types.specs.Offset.{byte_of}
use Rattle.hm_disk.specs.Crash.{Told, MayLeave}
use Rattle.hm_fields.specs.Pages.{PageMap}
use Rattle.hm_header.specs.declared.header.Header.{Header}
use Rattle.hm_header.specs.declared.header.TheConstants.{SLOT_BYTES}
use Rattle.hm_header.specs.OnDisk.{HasHeader}
use Rattle.hm_header.proofs.HeaderLemmas.{header-same}
use Rattle.hm_header.proofs.KeptLemmas.{same-slots}
use Rattle.hm_pages.specs.Store.{Store}
use Rattle.hm_undo.specs.Log.{IsInEntry, entry_at}
use Rattle.hm_flush.specs.declared.change.Change.{Change}
use Rattle.hm_flush.specs.declared.change.Change.TheVariants.{Close, Write, Open}
use Rattle.hm_flush.specs.declared.flush.Flush.{Flush}
use Rattle.hm_flush.specs.declared.flush.Position.{Position}
use Rattle.hm_flush.specs.declared.flush.Position.TheVariants.{Idle, Undoing, Arming, Placing, Committing}
use Rattle.hm_flush.specs.Calls.{FlushStands, HeaderStands, StandsForChange}
use Rattle.hm_flush.specs.Flush.{armed_header, committed_header, tried, tried_at}
use Rattle.hm_flush.specs.Guard.{ArePlaced, Guards, HasSaved, HoldsPlaced, HoldsRest, IsUnarmedAt, guarded_at, read_at}
use Rattle.hm_flush.specs.Recoverable.{HasStateOf, HoldsPages, IsInPage, IsInPages, Recoverable, RecoversToState}
use Rattle.hm_flush.specs.Stages.{asks_at}
use Rattle.hm_flush.proofs.MoveLemmas.{flush_at}
use Rattle.hm_flush.proofs.PageLemmas.{page-same}
use Rattle.hm_flush.proofs.RecoverLemmas.{recovers-armed, recovers-itself}
use Rattle.hm_flush.proofs.SavedLemmas.{saved-same}

-- which header counts in an image: the next one may, where its gate was tried
abbrev MayCount : Change → Flush → Header → List ℕ → Type 0
MayCount Close f next image = HasHeader image f.header f.slot
MayCount Write f next image = HasHeader image f.header f.slot
MayCount (Open false) f next image = HasHeader image f.header f.slot
MayCount (Open true) f next image = HasHeader image f.header f.slot ⊎ HasHeader image next (1 - f.slot)

abbrev counts_at : Position → Flush → List ℕ → Type 0
counts_at Idle f image = HasHeader image f.header f.slot
counts_at (Undoing from) f image = HasHeader image f.header f.slot
counts_at (Arming change) f image = MayCount change f (armed_header f.header f.written) image
counts_at (Placing i) f image = HasHeader image f.header f.slot
counts_at (Committing change) f image = MayCount change f (committed_header f.header f.target) image

same-state : (header : Header) → HasStateOf header header
same-state header = record { version = refl; bigblocks = refl; last = refl; root = refl; append = refl }

armed-state : (header : Header) (entries : ℕ) → HasStateOf header (armed_header header entries)
armed-state header entries = record { version = refl; bigblocks = refl; last = refl; root = refl; append = refl }

committed-state : (header target : Header) → target.bigblocks ≡ header.bigblocks → HasStateOf target (committed_header header target)
committed-state header target same = record { version = refl; bigblocks = sym same; last = refl; root = refl; append = refl }

module _ (header : Header) (slot : ℕ) (target : Header) (pages live written : ℕ) where
  abbrev at_position : Position → Flush
  at_position at = flush_at header slot target pages live written at

  module _ (s : Store) (image : List ℕ) (placed : ArePlaced header.bigblocks s.committed) where
    -- by the old header, and by the armed one
    unarmed-recovers : (p : Position) → header.undo_count ≡ 0 → HoldsPages s.committed image → HasHeader image header slot → Recoverable (at_position p) s image
    unarmed-recovers p none holds counts = inl (recovers-itself header header slot s.committed image counts (same-state header) none holds)

    armed-recovers : (p : Position) → HoldsRest s image → HasSaved header s (length s.frozen_group) image → HasHeader image header slot
        → Recoverable (at_position p) s image
    armed-recovers p rest saved counts = inl (recovers-armed header header slot s image counts (same-state header) placed rest saved)

    arming-recovers : (change : Change) → header.undo_count ≡ 0 → guarded_at (Arming change) (at_position (Arming change)) s image
        → MayCount change (at_position (Arming change)) (armed_header header written) image → Recoverable (at_position (Arming change)) s image
    arming-recovers Close none guarded counts = unarmed-recovers (Arming Close) none guarded.0 counts
    arming-recovers Write none guarded counts = unarmed-recovers (Arming Write) none guarded.0 counts
    arming-recovers (Open false) none guarded counts = unarmed-recovers (Arming (Open false)) none guarded.0 counts
    arming-recovers (Open true) none guarded (inl counts) = unarmed-recovers (Arming (Open true)) none guarded.0 counts
    arming-recovers (Open true) none guarded (inr counts) =
        inl (recovers-armed header (armed_header header written) (1 - slot) s image counts (armed-state header written) placed
        (λ at page is beside. guarded.0 at page is) guarded.1)

    committing-recovers : (change : Change) → target.bigblocks ≡ header.bigblocks → guarded_at (Committing change) (at_position (Committing change)) s image
        → MayCount change (at_position (Committing change)) (committed_header header target) image
        → Recoverable (at_position (Committing change)) s image
    committing-recovers Close same guarded counts = armed-recovers (Committing Close) guarded.0 guarded.1 counts
    committing-recovers Write same guarded counts = armed-recovers (Committing Write) guarded.0 guarded.1 counts
    committing-recovers (Open false) same guarded counts = armed-recovers (Committing (Open false)) guarded.0 guarded.1 counts
    committing-recovers (Open true) same guarded (inl counts) = armed-recovers (Committing (Open true)) guarded.0 guarded.1 counts
    committing-recovers (Open true) same guarded (inr counts) =
        inr (refl, recovers-itself target (committed_header header target) (1 - slot) s.frozen image counts (committed-state header target same) refl guarded.2)

    recovers-at : (p : Position) → target.bigblocks ≡ header.bigblocks → IsUnarmedAt p header → guarded_at p (at_position p) s image
        → counts_at p (at_position p) image → Recoverable (at_position p) s image
    recovers-at Idle same none guarded counts = unarmed-recovers Idle none guarded.1 counts
    recovers-at (Undoing from) same none guarded counts = unarmed-recovers (Undoing from) none guarded.1 counts
    recovers-at (Arming change) same none guarded counts = arming-recovers change none guarded counts
    recovers-at (Placing i) same none guarded counts = armed-recovers (Placing i) guarded.0 guarded.1 counts
    recovers-at (Committing change) same none guarded counts = committing-recovers change same guarded counts

    -- within a stage, as where it was tried
    recovers-within : (p : Position) → target.bigblocks ≡ header.bigblocks → IsUnarmedAt p header → guarded_at p (at_position p) s image
        → asks_at p (at_position p) image → Recoverable (at_position (tried_at p)) s image
    recovers-within Idle same none guarded asked = recovers-at Idle same none guarded guarded.0
    recovers-within (Undoing from) same none guarded asked = recovers-at (Undoing from) same none guarded guarded.0
    recovers-within (Arming Close) same none guarded asked = recovers-at (Arming Close) same none guarded asked
    recovers-within (Arming Write) same none guarded asked = recovers-at (Arming Write) same none guarded asked.header_is
    recovers-within (Arming (Open tried)) same none guarded asked = recovers-at (Arming (Open true)) same none guarded asked.header_is
    recovers-within (Placing i) same none guarded asked = recovers-at (Placing i) same none guarded asked
    recovers-within (Committing Close) same none guarded asked = recovers-at (Committing Close) same none guarded asked
    recovers-within (Committing Write) same none guarded asked = recovers-at (Committing Write) same none guarded asked.header_is
    recovers-within (Committing (Open tried)) same none guarded asked = recovers-at (Committing (Open true)) same none guarded asked.header_is

  -- between two stages
  counts-now : (p : Position) (s : Store) (t : Told) (image : List ℕ) → MayLeave t.bytes t.unsettled image → HeaderStands p (at_position p) t
      → guarded_at p (at_position p) s image → counts_at p (at_position p) image
  counts-now Idle s t image left stands guarded = guarded.0
  counts-now (Undoing from) s t image left stands guarded = guarded.0
  counts-now (Arming Close) s t image left stands guarded = stands image left
  counts-now (Arming Write) s t image left stands guarded = (stands image left).header_is
  counts-now (Arming (Open false)) s t image left stands guarded = (stands.1 refl image left).0.header_is
  counts-now (Arming (Open true)) s t image left stands guarded = (stands.0 image left).header_is
  counts-now (Placing i) s t image left stands guarded = stands image left
  counts-now (Committing Close) s t image left stands guarded = stands image left
  counts-now (Committing Write) s t image left stands guarded = (stands image left).header_is
  counts-now (Committing (Open false)) s t image left stands guarded = (stands.1 refl image left).0.header_is
  counts-now (Committing (Open true)) s t image left stands guarded = (stands.0 image left).header_is

  recoverable-at : (p : Position) (s : Store) (t : Told) → target.bigblocks ≡ header.bigblocks → Guards (at_position p) s t → (image : List ℕ)
      → MayLeave t.bytes t.unsettled image → Recoverable (at_position p) s image
  recoverable-at p s t same guards image left =
      recovers-at s image guards.committed p same guards.unarmed (guards.crash image left)
      (counts-now p s t image left guards.stands.header (guards.crash image left))

-- Where the committed pages are guarded, whatever a crash leaves is recoverable.
pub guarded-recovers : (f : Flush) (s : Store) (t : Told) → f.target.bigblocks ≡ f.header.bigblocks → Guards f s t → (image : List ℕ)
    → MayLeave t.bytes t.unsettled image → Recoverable f s image
guarded-recovers f s t same guards image left =
    recoverable-at f.header f.slot f.target f.pages f.live f.written f.at s t same guards image left

pub within-recovers : (f : Flush) (s : Store) (image : List ℕ) → ArePlaced f.header.bigblocks s.committed → f.target.bigblocks ≡ f.header.bigblocks
    → IsUnarmedAt f.at f.header → guarded_at f.at f s image → asks_at f.at f image → Recoverable (tried f) s image
within-recovers f s image placed same none guarded asked =
    recovers-within f.header f.slot f.target f.pages f.live f.written s image placed f.at same none guarded asked

-- a byte of an entry that a header names
abbrev pub IsInLog : Header → ℕ → Type 0
IsInLog header byte = (i : ℕ) × (i < header.undo_count) × IsInEntry header.bigblocks (entry_at header.undo_first i) byte

-- a byte of a committed page that no page of the frozen group overwrites
abbrev pub IsInRest : Store → ℕ → Type 0
IsInRest s byte = (at : ℕ) × (page : List ℕ) × (s.committed at ≡ Some page) × (is_member nat_eq s.frozen_group at ≡ false) × IsInPage at byte

-- a byte of one of the first so many pages of the frozen group
abbrev pub IsInPlaced : Store → ℕ → ℕ → Type 0
IsInPlaced s to byte =
    (i : ℕ) × (i < to) × (page : List ℕ) × (s.frozen (slice_index s.frozen_group i) ≡ Some page) × IsInPage (slice_index s.frozen_group i) byte

-- the bytes on which hangs what each image has
abbrev pub needs_at : Position → Flush → Store → ℕ → Type 0
needs_at Idle f s byte = (byte < 2 * SLOT_BYTES) ⊎ IsInPages s.committed byte
needs_at (Undoing from) f s byte = (byte < 2 * SLOT_BYTES) ⊎ IsInPages s.committed byte
needs_at (Arming change) f s byte = IsInPages s.committed byte ⊎ IsInLog (armed_header f.header f.written) byte
needs_at (Placing i) f s byte = IsInRest s byte ⊎ IsInLog f.header byte
needs_at (Committing change) f s byte = IsInRest s byte ⊎ IsInLog f.header byte ⊎ IsInPages s.frozen byte

-- and what reads give
abbrev pub reads_at : Position → Flush → Store → ℕ → Type 0
reads_at Idle f s byte = ⊥
reads_at (Undoing from) f s byte = IsInLog (armed_header f.header f.written) byte
reads_at (Arming change) f s byte = ⊥
reads_at (Placing i) f s byte = IsInPlaced s i byte
reads_at (Committing change) f s byte = ⊥

module _ (old new : List ℕ) (size : length new ≡ length old) where
  -- the bytes of which this is said are the same
  abbrev pub AreSame : (ℕ → Type 0) → Type 0
  AreSame Needed = (byte : ℕ) → Needed byte → byte < length old → get_or new byte 0 ≡ get_or old byte 0

  header-still : (header : Header) (slot : ℕ) → AreSame (λ byte. byte < 2 * SLOT_BYTES) → HasHeader old header slot → HasHeader new header slot
  header-still header slot same was =
      let slots = same-slots old new size (λ byte below inside. same byte below inside) in header-same old new header slot size slots.first slots.second was

  pages-still : (map : PageMap) → AreSame (IsInPages map) → HoldsPages map old → HoldsPages map new
  pages-still map same was at page is = page-same old new at page size (λ byte within below. same byte (at, page, is, within) below) (was at page is)

  rest-still : (s : Store) → AreSame (IsInRest s) → HoldsRest s old → HoldsRest s new
  rest-still s same was at page is beside =
      page-same old new at page size (λ byte within below. same byte (at, page, is, beside, within) below) (was at page is beside)

  placed-still : (s : Store) (to : ℕ) → AreSame (IsInPlaced s to) → HoldsPlaced s to old → HoldsPlaced s to new
  placed-still s to same was i few page is =
      page-same old new (slice_index s.frozen_group i) page size (λ byte within below. same byte (i, few, page, is, within) below) (was i few page is)

  saved-still : (header : Header) (s : Store) (to : ℕ) → AreSame (IsInLog header) → HasSaved header s to old → HasSaved header s to new
  saved-still header s to same was = saved-same header s to old new size (λ i byte few within below. same byte (i, few, within) below) was

  pub guarded-same : (p : Position) (f : Flush) (s : Store) → AreSame (needs_at p f s) → guarded_at p f s old → guarded_at p f s new
  guarded-same Idle f s same was = (
    header-still f.header f.slot (λ byte is below. same byte (inl is) below) was.0,
    pages-still s.committed (λ byte is below. same byte (inr is) below) was.1,
  )
  guarded-same (Undoing from) f s same was = (
    header-still f.header f.slot (λ byte is below. same byte (inl is) below) was.0,
    pages-still s.committed (λ byte is below. same byte (inr is) below) was.1,
  )
  guarded-same (Arming change) f s same was = (
    pages-still s.committed (λ byte is below. same byte (inl is) below) was.0,
    saved-still (armed_header f.header f.written) s (length s.frozen_group) (λ byte is below. same byte (inr is) below) was.1,
  )
  guarded-same (Placing i) f s same was = (
    rest-still s (λ byte is below. same byte (inl is) below) was.0,
    saved-still f.header s (length s.frozen_group) (λ byte is below. same byte (inr is) below) was.1,
  )
  guarded-same (Committing change) f s same was = (
    rest-still s (λ byte is below. same byte (inl is) below) was.0,
    saved-still f.header s (length s.frozen_group) (λ byte is below. same byte (inr (inl is)) below) was.1,
    pages-still s.frozen (λ byte is below. same byte (inr (inr is)) below) was.2,
  )

  pub read-same : (p : Position) (f : Flush) (s : Store) → AreSame (reads_at p f s) → read_at p f s old → read_at p f s new
  read-same Idle f s same was = tt
  read-same (Undoing from) f s same was = saved-still (armed_header f.header f.written) s from same was
  read-same (Arming change) f s same was = tt
  read-same (Placing i) f s same was = placed-still s i same was
  read-same (Committing change) f s same was = tt
