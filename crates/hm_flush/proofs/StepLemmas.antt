-- Each stage keeps the guard, and whatever a crash within it leaves is recoverable.
use Rattle.std.proofs.Common.{◌≡◌, ◌≢◌, ◌⊎◌, inl, inr, ⊎_elim, ℕ, ◌+◌, ◌-◌, ◌*◌, ◌<◌, ◌≤◌, Bool, true, false, List, [], ◌∷◌, length, refl, sym, ◌∙◌}
use Rattle.std.proofs.Common.{ap, subst, arith, is_some, nat_eq, nat_lt, slice_index, slice_range, Option, None, Some, unwrap_or, if◌then◌else◌}
use Rattle.std.specs.Set.{is_member}
use Rattle.std.proofs.lemmas.Bool.{cases_lt, ltb-true, ltb-false, true≢false}
use Rattle.hm_types.specs.declared.limits.TheConstants.{MOST_GROUP_PAGES, PAGE_BYTES}
use Rattle.hm_types.specs.Offset.{byte_of}
use Rattle.hm_disk.specs.Crash.{Told, MayLeave}
use Rattle.hm_disk.specs.Disk.{overwritten}
use Rattle.hm_disk.specs.Moments.{Each, Elapses, LeftSince}
use Rattle.hm_disk.specs.Transfer.{UnsettlesAtMost}
use Rattle.hm_disk.proofs.CrashLemmas.{MayLeave-fewer, MayLeave-same, MayLeave-through}
use Rattle.hm_fields.specs.Pages.{PageMap}
use Rattle.hm_header.specs.declared.header.Header.{Header}
use Rattle.hm_header.specs.Change.{AnyCrash, StageElapses, StageFailed, StageLeaves}
use Rattle.hm_header.specs.OnDisk.{HasHeader}
use Rattle.hm_header.specs.Range.{HasRoom, IsHeader}
use Rattle.hm_header.proofs.ChangeLemmas.{settled-any}
use Rattle.hm_header.proofs.SliceLemmas.{length-slice}
use Rattle.hm_header.proofs.StageLemmas.{Elapses-within, left-before}
use Rattle.hm_pages.specs.Calls.{IsCommitted}
use Rattle.hm_pages.specs.Sound.{IsSound, IsSoundFlush}
use Rattle.hm_pages.specs.Store.{Store}
use Rattle.hm_undo.specs.Entry.{IsUndoPageOf, undo_entry_of}
use Rattle.hm_undo.specs.Log.{entry_at, entry_place}
use Rattle.hm_undo.proofs.LogLemmas.{page-within}
use Rattle.hm_flush.specs.declared.change.Change.{Change}
use Rattle.hm_flush.specs.declared.change.Change.TheVariants.{Close, Write, Open}
use Rattle.hm_flush.specs.declared.flush.Flush.{Flush}
use Rattle.hm_flush.specs.declared.flush.Position.{Position}
use Rattle.hm_flush.specs.declared.flush.Position.TheVariants.{Idle, Undoing, Arming, Placing, Committing}
use Rattle.hm_flush.specs.declared.stage.Stage.{Stage}
use Rattle.hm_flush.specs.declared.stage.Stage.TheVariants.{Undo, UndoSync, Place, PlaceSync}
use Rattle.hm_flush.specs.Calls.{AreFlushPlaces, FlushStands, PagesMove}
use Rattle.hm_flush.specs.Flush.{IsFlush, armed_header, next_generation, tried, tried_at}
use Rattle.hm_flush.specs.Group.{Group, group_of, next_live}
use Rattle.hm_flush.specs.Device.{IsPageWritten, IsSaved}
use Rattle.hm_flush.specs.Guard.{ArePlaced, Guards, HasSaved, HoldsPlaced, HoldsRest, IsUnarmedAt, guarded_at, read_at}
use Rattle.hm_flush.specs.Recoverable.{HoldsPage, HoldsPages, Recoverable}
use Rattle.hm_flush.specs.Stages.{IsChangeMade, MakesStage, armed, asks, committed, due_stage, moved_flush, range_of, stage_range}
use Rattle.hm_flush.proofs.GroupLemmas.{next_live-is, next_live-skips}
use Rattle.hm_flush.proofs.GuardLemmas.{guarded-same, read-same, within-recovers}
use Rattle.hm_flush.proofs.MoveLemmas.{flush_at}
use Rattle.hm_flush.proofs.PageLemmas.{member-at, page-is-one, page-written}
use Rattle.hm_flush.proofs.RangeLemmas.{needs-out, range-inside, reads-out}
use Rattle.hm_flush.proofs.SaveLemmas.{saved-more}

-- what a crash leaves after a stage it might have left within it
pub made-leaves : (place count : ℕ) (s t : Told) → MayLeave s.bytes ((place, count) ∷ []) t.bytes → UnsettlesAtMost place count s t
    → Each (MayLeave t.bytes t.unsettled) (MayLeave s.bytes ((place, count) ∷ s.unsettled))
made-leaves place count s t others unsettled image left =
    MayLeave-through s.bytes t.bytes image ((place, count) ∷ s.unsettled) t.unsettled
    (MayLeave-fewer s.bytes t.bytes ((place, count) ∷ s.unsettled) ((place, count) ∷ []) (λ byte outside. (outside.0, tt)) others)
    unsettled left

-- what holds of a flush and a store whose stage is due, beside the guard
pub record Fits (f : Flush) (s : Store) : Type 0 where
  pub sound : IsFlush f
  pub len : f.at ≢ Idle → length s.frozen_group ≡ f.pages
  pub placed : AreFlushPlaces f.header.bigblocks s
  pub store : IsSoundFlush s

few-written : (f : Flush) → IsFlush f → f.written ≤ MOST_GROUP_PAGES
few-written f sound = omega (arith, sound.written, sound.live, sound.pages)

module _ (f : Flush) (s : Store) (fits : Fits f s) (a : Told) (guards : Guards f s a) where
  -- whatever a crash within the stage leaves is guarded
  pub kept-within : Each (MayLeave a.bytes (range_of f (group_of s) ∷ a.unsettled)) (guarded_at f.at f s)
  kept-within image left =
      let inside = range-inside f s fits.len fits.placed (length a.bytes) fits.sound.header.bigblocks guards.stands.room in
      let b = left-before a.bytes a.unsettled (range_of f (group_of s)).0 (range_of f (group_of s)).1 image inside left in
      guarded-same b.before image b.change.size f.at f s
      (λ byte need below. b.change.same byte below (needs-out f s fits.len fits.placed guards.committed guards.frozen byte need, tt))
      (guards.crash b.before b.left)

  -- what reads give stands after it
  pub read-within : (bytes : List ℕ) → MayLeave a.bytes (range_of f (group_of s) ∷ []) bytes → read_at f.at f s bytes
  read-within bytes change =
      read-same a.bytes bytes change.size f.at f s
      (λ byte need below.
      change.same byte below (reads-out f s fits.len fits.placed (few-written f fits.sound) fits.store.rising byte need, tt)) guards.read

  -- each image within a stage is recoverable
  pub recovers-within : (image : List ℕ) → StageLeaves (asks f) (range_of f (group_of s)).0 (range_of f (group_of s)).1 a image
      → Recoverable (tried f) s image
  recovers-within image within =
      within-recovers f s image guards.committed fits.sound.bigblocks guards.unarmed (kept-within image within.others) within.has

  pub elapses-recoverable : (past since : LeftSince) (b : Told)
      → StageElapses (asks f) (range_of f (group_of s)).0 (range_of f (group_of s)).1 past since a b → Elapses (Recoverable (tried f) s) past since a b
  elapses-recoverable past since b time = Elapses-within _ _ past since a b recovers-within time

-- a stage that failed
tried-guarded : (p : Position) (f : Flush) (s : Store) (image : List ℕ) → guarded_at p f s image → guarded_at (tried_at p) (tried f) s image
tried-guarded Idle f s image was = was
tried-guarded (Undoing from) f s image was = was
tried-guarded (Arming Close) f s image was = was
tried-guarded (Arming Write) f s image was = was
tried-guarded (Arming (Open tried)) f s image was = was
tried-guarded (Placing i) f s image was = was
tried-guarded (Committing Close) f s image was = was
tried-guarded (Committing Write) f s image was = was
tried-guarded (Committing (Open tried)) f s image was = was

tried-read : (p : Position) (f : Flush) (s : Store) (bytes : List ℕ) → read_at p f s bytes → read_at (tried_at p) (tried f) s bytes
tried-read Idle f s bytes was = tt
tried-read (Undoing from) f s bytes was = was
tried-read (Arming change) f s bytes was = tt
tried-read (Placing i) f s bytes was = was
tried-read (Committing change) f s bytes was = tt

tried-unarmed : (p : Position) (header : Header) → IsUnarmedAt p header → IsUnarmedAt (tried_at p) header
tried-unarmed Idle header was = was
tried-unarmed (Undoing from) header was = was
tried-unarmed (Arming change) header was = was
tried-unarmed (Placing i) header was = tt
tried-unarmed (Committing change) header was = tt

pub guards-tried : (f : Flush) (s : Store) → Fits f s → (a b : Told) → Guards f s a
    → StageFailed (asks f) (range_of f (group_of s)).0 (range_of f (group_of s)).1 a b → FlushStands (tried f) b → Guards (tried f) s b
guards-tried f s fits a b guards failed stands = record {
  stands = stands;
  committed = guards.committed;
  frozen = guards.frozen;
  unarmed = tried-unarmed f.at f.header guards.unarmed;
  crash = λ image left.
      tried-guarded f.at f s image
      (kept-within f s fits a guards image
      (made-leaves (range_of f (group_of s)).0 (range_of f (group_of s)).1 a b failed.torn.bytes_are failed.torn.unsettled_are image left));
  read = tried-read f.at f s b.bytes (read-within f s fits a guards b.bytes failed.torn.bytes_are);
}

-- a page that was live as committed
some-page : (o : Option (List ℕ)) → is_some o ≡ true → (page : List ℕ) × (o ≡ Some page)
some-page None is = absurd (true≢false (sym is))
some-page (Some page) is = (page, refl)

-- one entry more stands in the log
saved-on : (header : Header) (written : ℕ) (s : Store) (a b : Told) (from next : ℕ) (page : List ℕ) → IsHeader header
    → HasRoom (length a.bytes) header.bigblocks → written ≤ MOST_GROUP_PAGES → IsUndoPageOf header.bigblocks (slice_index s.frozen_group next)
    → s.committed (slice_index s.frozen_group next) ≡ Some page → HoldsPage a.bytes (slice_index s.frozen_group next) page
    → ((i : ℕ) → from ≤ i → i < next → is_some (s.committed (slice_index s.frozen_group i)) ≡ false)
    → IsSaved (entry_place header.bigblocks (entry_at header.undo_next written)) (next_generation header) (slice_index s.frozen_group next) a b
    → HasSaved (armed_header header written) s from a.bytes → HasSaved (armed_header header (written + 1)) s (next + 1) b.bytes
saved-on header written s a b from next page is room few named live stood skips written_are saved =
    subst (λ (bytes : List ℕ). HasSaved (armed_header header (written + 1)) s (next + 1) bytes)
    (sym (written_are.bytes_are
    ∙ ap (λ (p : List ℕ). overwritten a.bytes (entry_place header.bigblocks (entry_at header.undo_next written))
    (undo_entry_of at (next_generation header) p)) stood))
    (saved-more header s written a.bytes at page is room few named live sized from next refl skips saved)
  where
    at : ℕ
    at = slice_index s.frozen_group next

    inside : byte_of (slice_index s.frozen_group next) + PAGE_BYTES ≤ length a.bytes
    inside = omega (arith, room, page-within header.bigblocks (slice_index s.frozen_group next) is.bigblocks named)

    sized : length page ≡ PAGE_BYTES
    sized =
        let cut : byte_of (slice_index s.frozen_group next) + PAGE_BYTES - byte_of (slice_index s.frozen_group next) ≡ PAGE_BYTES = omega arith in
        ap length (sym stood)
        ∙ (length-slice a.bytes (byte_of (slice_index s.frozen_group next)) (byte_of (slice_index s.frozen_group next) + PAGE_BYTES) inside ∙ cut)

-- all of them do
pub saved-all : (header : Header) (s : Store) (from to len : ℕ) (bytes : List ℕ) → len ≤ to
    → ((i : ℕ) → from ≤ i → i < to → is_some (s.committed (slice_index s.frozen_group i)) ≡ false)
    → HasSaved header s from bytes → HasSaved header s len bytes
saved-all header s from to len bytes past skips saved = record {
  olds = saved.olds;
  range = saved.range;
  committed = saved.committed;
  live = λ i below page is.
      ⊎_elim (λ early. saved.live i early page is)
      (λ late. absurd (true≢false (ap is_some (sym is) ∙ skips i late (omega (arith, below, past))))) (cases_lt i from);
}

-- the frozen pages stand, where those of the group were placed
frozen-stand : (s : Store) (to : ℕ) (bytes : List ℕ) → IsSoundFlush s → length s.frozen_group ≤ to → HoldsPlaced s to bytes → HoldsRest s bytes
    → HoldsPages s.frozen bytes
frozen-stand s to bytes store all placed rest at page is = step (is_member nat_eq s.frozen_group at) refl
  where
    step : (c : Bool) → is_member nat_eq s.frozen_group at ≡ c → HoldsPage bytes at page
    step false none = rest at page (sym (store.beside at none (ap is_some is)) ∙ is) none
    step true found =
        let i = member-at s.frozen_group at found in
        subst (λ (k : ℕ). HoldsPage bytes k page) i.2
        (placed i.0 (omega (arith, i.1, all)) page (ap (λ (k : ℕ). s.frozen k) i.2 ∙ is))

-- one page more is placed
placed-on : (s : Store) (a b : Told) (i : ℕ) → byte_of (slice_index s.frozen_group i) + PAGE_BYTES ≤ length a.bytes → IsPageWritten (group_of s) i a b
    → HoldsPlaced s i b.bytes → HoldsPlaced s (i + 1) b.bytes
placed-on s a b i inside made placed k below page is = ⊎_elim (λ less. placed k less page is) last (cases_lt k i)
  where
    last : i ≤ k → HoldsPage b.bytes (slice_index s.frozen_group k) page
    last past =
        let here : i ≡ k = omega (arith, past, below) in
        let at : slice_index s.frozen_group i ≡ slice_index s.frozen_group k = ap (λ (n : ℕ). slice_index s.frozen_group n) here in
        let same : made.page ≡ page = page-is-one s.frozen (slice_index s.frozen_group i) (slice_index s.frozen_group k) made.page page at made.page_is is in
        subst (λ (n : ℕ). HoldsPage b.bytes n page) at
        (subst (λ (bytes : List ℕ). HoldsPage bytes (slice_index s.frozen_group i) page) (sym made.written.bytes_are)
        (page-written a.bytes (slice_index s.frozen_group i) made.page made.sized inside ∙ same))

module _ (header : Header) (slot : ℕ) (target : Header) (pages live written : ℕ) (s : Store) (a b : Told) where
  abbrev at_position : Position → Flush
  at_position at = flush_at header slot target pages live written at

  -- one entry more, or all of them settled
  undoing-on : (from next : ℕ) (c : Bool) → nat_lt next pages ≡ c → Fits (at_position (Undoing from)) s → Guards (at_position (Undoing from)) s a
      → (next < pages → is_some (s.committed (slice_index s.frozen_group next)) ≡ true)
      → ((i : ℕ) → from ≤ i → i < next → is_some (s.committed (slice_index s.frozen_group i)) ≡ false)
      → AnyCrash (guarded_at (Undoing from) (at_position (Undoing from)) s) b
      → MakesStage (if c then Undo next else UndoSync) (at_position (Undoing from)) (group_of s) a b
      → FlushStands (moved_flush (if c then Undo next else UndoSync) (at_position (Undoing from))) b
      → Guards (moved_flush (if c then Undo next else UndoSync) (at_position (Undoing from))) s b
  undoing-on from next true is fits guards live skips within made stands = record {
    stands = stands;
    committed = guards.committed;
    frozen = guards.frozen;
    unarmed = guards.unarmed;
    crash = within;
    read = more (some-page (s.committed (slice_index s.frozen_group next)) (live less));
  }
    where
      less : next < pages
      less = ltb-true _ _ is

      below : next < length s.frozen_group
      below = omega (arith, ltb-true _ _ is, fits.len (λ idle. absurd (cc)))

      more : (page : List ℕ) × (s.committed (slice_index s.frozen_group next) ≡ Some page) → HasSaved (armed_header header (written + 1)) s (next + 1) b.bytes
      more found =
          saved-on header written s a b from next found.0 fits.sound.header guards.stands.room (few-written (at_position (Undoing from)) fits.sound)
          (fits.placed.frozen next below) found.1
          ((guards.crash a.bytes (MayLeave-same a.bytes a.unsettled)).1 (slice_index s.frozen_group next) found.0 found.1) skips made.made guards.read
  undoing-on from next false is fits guards live skips within made stands = record {
    stands = stands;
    committed = guards.committed;
    frozen = guards.frozen;
    unarmed = guards.unarmed;
    crash = settled-any (guarded_at (Arming Close) (at_position (Arming Close)) s) b (made.settled refl) (
      (within b.bytes (MayLeave-same b.bytes b.unsettled)).1,
      subst (λ (bytes : List ℕ). HasSaved (armed_header header written) s (length s.frozen_group) bytes) (sym made.made.bytes_are)
          (saved-all (armed_header header written) s from next (length s.frozen_group) a.bytes
          (omega (arith, ltb-false _ _ is, fits.len (λ idle. absurd (cc)))) skips guards.read),
    );
    read = tt;
  }

  placing-on : (i : ℕ) (c : Bool) → nat_lt i pages ≡ c → Fits (at_position (Placing i)) s → Guards (at_position (Placing i)) s a
      → AnyCrash (guarded_at (Placing i) (at_position (Placing i)) s) b → HoldsPlaced s i b.bytes
      → MakesStage (if c then Place i else PlaceSync) (at_position (Placing i)) (group_of s) a b
      → FlushStands (moved_flush (if c then Place i else PlaceSync) (at_position (Placing i))) b
      → Guards (moved_flush (if c then Place i else PlaceSync) (at_position (Placing i))) s b
  placing-on i true is fits guards within placed made stands = record {
    stands = stands;
    committed = guards.committed;
    frozen = guards.frozen;
    unarmed = tt;
    crash = within;
    read = placed-on s a b i inside made.made placed;
  }
    where
      below : i < length s.frozen_group
      below = omega (arith, ltb-true _ _ is, fits.len (λ idle. absurd (cc)))

      inside : byte_of (slice_index s.frozen_group i) + PAGE_BYTES ≤ length a.bytes
      inside =
          omega (
            arith,
            guards.stands.room,
            page-within header.bigblocks (slice_index s.frozen_group i) fits.sound.header.bigblocks (fits.placed.frozen i below),
          )
  placing-on i false is fits guards within placed made stands = record {
    stands = stands;
    committed = guards.committed;
    frozen = guards.frozen;
    unarmed = tt;
    crash = settled-any (guarded_at (Committing Close) (at_position (Committing Close)) s) b (made.settled refl)
        (let now = within b.bytes (MayLeave-same b.bytes b.unsettled) in (
          now.0,
          now.1,
          frozen-stand s i b.bytes fits.store (omega (arith, ltb-false _ _ is, fits.len (λ idle. absurd (cc)))) placed now.0,
        ));
    read = tt;
  }

  arming-on : (change : Change) → Guards (at_position (Arming change)) s a → AnyCrash (guarded_at (Arming change) (at_position (Arming change)) s) b
      → FlushStands (armed change (at_position (Arming change))) b → Guards (armed change (at_position (Arming change))) s b
  arming-on Close guards within stands = record {
    stands = stands;
    committed = guards.committed;
    frozen = guards.frozen;
    unarmed = guards.unarmed;
    crash = within;
    read = tt;
  }
  arming-on Write guards within stands = record {
    stands = stands;
    committed = guards.committed;
    frozen = guards.frozen;
    unarmed = guards.unarmed;
    crash = within;
    read = tt;
  }
  arming-on (Open tried) guards within stands = record {
    stands = stands;
    committed = guards.committed;
    frozen = guards.frozen;
    unarmed = tt;
    crash = λ image left. let was = within image left in ((λ at page is beside. was.0 at page is), was.1);
    read = λ i below. absurd (omega (arith, below));
  }

  committing-on : (change : Change) (s' : Store) (now : Header) → Guards (at_position (Committing change)) s a → PagesMove (Committing change) now s s'
      → AnyCrash (guarded_at (Committing change) (at_position (Committing change)) s) b
      → IsChangeMade (at_position (Committing change)) a b → FlushStands (committed change (at_position (Committing change))) b
      → Guards (committed change (at_position (Committing change))) s' b
  committing-on Close s' now guards store within made stands = subst (λ (x : Store). Guards (at_position (Committing Write)) x b) (sym store) (record {
    stands = stands;
    committed = guards.committed;
    frozen = guards.frozen;
    unarmed = tt;
    crash = within;
    read = tt;
  })
  committing-on Write s' now guards store within made stands =
      subst (λ (x : Store). Guards (at_position (Committing (Open false))) x b) (sym store) (record {
        stands = stands;
        committed = guards.committed;
        frozen = guards.frozen;
        unarmed = tt;
        crash = within;
        read = tt;
      })
  committing-on (Open tried) s' now guards store within made stands = record {
    stands = stands;
    committed = subst (λ (map : PageMap). ArePlaced header.bigblocks map) (sym store.committed) guards.frozen;
    frozen = subst (λ (map : PageMap). ArePlaced header.bigblocks map) (sym store.frozen) guards.frozen;
    unarmed = refl;
    crash = settled-any (guarded_at Idle (committed (Open tried) (at_position (Committing (Open tried)))) s') b made.settled (
      made.has,
      subst (λ (map : PageMap). HoldsPages map b.bytes) (sym store.committed) (within b.bytes (MayLeave-same b.bytes b.unsettled)).2,
    );
    read = tt;
  }

  on_at : (p : Position) (s' : Store) (now : Header) → p ≢ Idle → Fits (at_position p) s → PagesMove p now s s' → Guards (at_position p) s a
      → MakesStage (due_stage (at_position p) (group_of s)) (at_position p) (group_of s) a b
      → AnyCrash (guarded_at p (at_position p) s) b → read_at p (at_position p) s b.bytes
      → FlushStands (moved_flush (due_stage (at_position p) (group_of s)) (at_position p)) b
      → Guards (moved_flush (due_stage (at_position p) (group_of s)) (at_position p)) s' b
  on_at Idle s' now flight fits store guards made within read stands = absurd (flight refl)
  on_at (Undoing from) s' now flight fits store guards made within read stands =
      subst (λ (x : Store). Guards (moved_flush (due_stage (at_position (Undoing from)) (group_of s)) (at_position (Undoing from))) x b) (sym store)
      (undoing-on from (next_live (group_of s).was_live from (pages - from)) (nat_lt (next_live (group_of s).was_live from (pages - from)) pages) refl
      fits guards
      (λ less. next_live-is (group_of s).was_live from (pages - from) (omega (arith, less, fits.sound.counts.0)))
      (λ i past below. next_live-skips (group_of s).was_live from (pages - from) i past below) within made stands)
  on_at (Arming change) s' now flight fits store guards made within read stands =
      subst (λ (x : Store). Guards (armed change (at_position (Arming change))) x b) (sym store) (arming-on change guards within stands)
  on_at (Placing i) s' now flight fits store guards made within read stands =
      subst (λ (x : Store). Guards (moved_flush (due_stage (at_position (Placing i)) (group_of s)) (at_position (Placing i))) x b) (sym store)
      (placing-on i (nat_lt i pages) refl fits guards within read made stands)
  on_at (Committing change) s' now flight fits store guards made within read stands = committing-on change s' now guards store within made.made stands

-- a stage that succeeded
pub guards-on : (f : Flush) (s s' : Store) (now : Header) → f.at ≢ Idle → Fits f s → PagesMove f.at now s s' → (a b : Told) → Guards f s a
    → MakesStage (due_stage f (group_of s)) f (group_of s) a b → FlushStands (moved_flush (due_stage f (group_of s)) f) b
    → Guards (moved_flush (due_stage f (group_of s)) f) s' b
guards-on f s s' now flight fits store a b guards made stands =
    on_at f.header f.slot f.target f.pages f.live f.written s a b f.at s' now flight fits store guards made
    (λ image left. kept-within f s fits a guards image
    (made-leaves (range_of f (group_of s)).0 (range_of f (group_of s)).1 a b made.others made.unsettled image left))
    (read-within f s fits a guards b.bytes made.others) stands
