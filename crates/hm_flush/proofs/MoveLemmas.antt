-- How each stage brings a flush on: what always holds of it goes on, and one stage less is left.
use Rattle.std.proofs.Common.{◌≡◌, ◌≢◌, ℕ, zero, suc, ◌+◌, ◌-◌, ◌*◌, ◌<◌, ◌≤◌, Bool, true, false, List, Option, Some, None, is_some, length, nat_eq}
use Rattle.std.proofs.Common.{nat_lt, slice_index, refl, sym, ◌∙◌, ap, subst, arith, if◌then◌else◌}
use Rattle.std.specs.Set.{is_member}
use Rattle.std.proofs.lemmas.Bool.{and_parts, ltb-true, ltb-false, true≢false}
use Rattle.std.proofs.lemmas.Bool.Decides.{Decides-eqb}
use Rattle.std.proofs.lemmas.List.Elements.{Contains-get_or}
use Rattle.std.proofs.lemmas.Map.Made.{is_member-Decides}
use Rattle.hm_types.specs.declared.limits.TheConstants.{MOST_GROUP_PAGES}
use Rattle.hm_types.specs.declared.id.Id.{Id}
use Rattle.hm_fields.specs.Pages.{PageMap}
use Rattle.hm_header.specs.declared.header.Header.{Header}
use Rattle.hm_pages.specs.Store.{Store}
use Rattle.hm_pages.specs.Sets.{ChangeSet}
use Rattle.hm_pages.specs.Calls.{IsCommitted, IsFrozen}
use Rattle.hm_flush.specs.declared.change.Change.{Change}
use Rattle.hm_flush.specs.declared.change.Change.TheVariants.{Close, Write, Open}
use Rattle.hm_flush.specs.declared.flush.Flush.{Flush}
use Rattle.hm_flush.specs.declared.flush.Position.{Position}
use Rattle.hm_flush.specs.declared.flush.Position.TheVariants.{Idle, Undoing, Arming, Placing, Committing}
use Rattle.hm_flush.specs.declared.stage.Stage.{Stage}
use Rattle.hm_flush.specs.declared.stage.Stage.TheVariants.{Freeze, Undo, UndoSync, Arm, Place, PlaceSync, Commit}
use Rattle.hm_flush.specs.Calls.{AreFlushPlaces, IsMoved, IsFlushReady, LeftFalls, IsTarget, StageSucceeds, PagesMove}
use Rattle.hm_flush.specs.Flush.{AreCounts, IsFlush, IsGroup, IsGroupOf, begun_flush, due_change, left, header_to_write_at}
use Rattle.hm_flush.specs.Group.{group_of, live_before, next_live}
use Rattle.hm_flush.specs.Stages.{armed, committed, due_stage, due_stage_at, moved_flush}
use Rattle.hm_flush.proofs.GroupLemmas.{live_before-grows, live_before-more, next_live-counted, next_live-from, next_live-is, next_live-to}
use Rattle.hm_flush.proofs.HeaderLemmas.{armed-header, committed-header}

-- what the next live page says of the entries that were written
record Finds (w : ℕ → Bool) (pages live written next : ℕ) : Type 0 where
  some : next < pages → (live_before w (next + 1) ≡ written + 1) × (written + 1 ≤ live)
  none : pages ≤ next → written ≡ live

finds : (w : ℕ → Bool) (from pages live written : ℕ) → from ≤ pages → live_before w from ≡ written → live_before w pages ≡ live
    → Finds w pages live written (next_live w from (pages - from))
finds w from pages live written below so_far all = record {
  some = λ less.
      let is : w next ≡ true = next_live-is w from (pages - from) (omega (arith, less, below)) in
      let one : live_before w (next + 1) ≡ written + 1 = live_before-more w next is ∙ ap (λ (k : ℕ). k + 1) count in
      (one, omega (arith, one, all, live_before-grows w (next + 1) pages (omega (arith, less))));
  none = λ past.
      let last : next ≡ pages = omega (arith, past, to, below) in
      sym count ∙ (ap (λ (k : ℕ). live_before w k) last ∙ all);
}
  where
    next : ℕ
    next = next_live w from (pages - from)

    to : next ≤ from + (pages - from)
    to = next_live-to w from (pages - from)

    count : live_before w next ≡ written
    count = next_live-counted w from (pages - from) ∙ so_far

-- a stage that succeeded brings a flush on
pub record GoesOn (old new : Flush) (s : Store) : Type 0 where
  pub sound : IsFlush new
  pub left : left new + 1 ≡ left old
  pub group : IsGroupOf new s

same-store : (f : Flush) (s s' : Store) → s' ≡ s → IsGroup f s → IsGroup f s'
same-store f s s' same group = subst (λ (x : Store). IsGroup f x) (sym same) group

module _ (header : Header) (slot : ℕ) (target : Header) (pages live written : ℕ) where
  -- the flush at a position
  abbrev pub flush_at : Position → Flush
  flush_at at = record { header = header; slot = slot; target = target; at = at; pages = pages; live = live; written = written }

  -- what holds at one position holds at another, where the numbers fit it
  sound-to : (at to : Position) (n : ℕ) → IsFlush (flush_at at) → n ≤ live → AreCounts to (record (flush_at to) { written = n })
      → IsFlush (record (flush_at to) { written = n })
  sound-to at to n sound few counts = record {
    slot = sound.slot;
    header = sound.header;
    target = sound.target;
    bigblocks = sound.bigblocks;
    pages = sound.pages;
    live = sound.live;
    written = few;
    counts = counts;
  }

  undoing : (from : ℕ) (s s' : Store) → s' ≡ s → IsFlush (flush_at (Undoing from)) → IsGroup (flush_at (Undoing from)) s
      → GoesOn (flush_at (Undoing from)) (moved_flush (due_stage (flush_at (Undoing from)) (group_of s)) (flush_at (Undoing from))) s'
  undoing from s s' same sound group = step (nat_lt next pages) refl
    where
      next : ℕ
      next = next_live (group_of s).was_live from (pages - from)

      found : Finds (group_of s).was_live pages live written next
      found = finds (group_of s).was_live from pages live written sound.counts.0 group.written group.live

      step : (b : Bool) → nat_lt next pages ≡ b
          → GoesOn (flush_at (Undoing from)) (moved_flush (if b then Undo next else UndoSync) (flush_at (Undoing from))) s'
      step true is =
          let less : next < pages = ltb-true _ _ is in
          let some = found.some less in
          record {
            sound = sound-to (Undoing from) (Undoing (next + 1)) (written + 1) sound some.1 (omega (arith, less), some.1);
            left = omega (arith, some.1);
            group = same-store _ s s' same (record { boundary = group.boundary; pages = group.pages; live = group.live; written = some.0 });
          }
      step false is =
          let all : written ≡ live = found.none (ltb-false _ _ is) in
          record {
            sound = sound-to (Undoing from) (Arming Close) written sound sound.written all;
            left = omega (arith, all);
            group = same-store _ s s' same (record { boundary = group.boundary; pages = group.pages; live = group.live; written = tt });
          }

  placing : (i : ℕ) (s s' : Store) → s' ≡ s → IsFlush (flush_at (Placing i)) → IsGroup (flush_at (Placing i)) s
      → GoesOn (flush_at (Placing i)) (moved_flush (due_stage (flush_at (Placing i)) (group_of s)) (flush_at (Placing i))) s'
  placing i s s' same sound group = step (nat_lt i pages) refl
    where
      step : (b : Bool) → nat_lt i pages ≡ b → GoesOn (flush_at (Placing i)) (moved_flush (if b then Place i else PlaceSync) (flush_at (Placing i))) s'
      step true is =
          let less : i < pages = ltb-true _ _ is in
          record {
            sound = sound-to (Placing i) (Placing (i + 1)) written sound sound.written (omega (arith, less), sound.counts.1);
            left = omega (arith, less);
            group = same-store _ s s' same (record { boundary = group.boundary; pages = group.pages; live = group.live; written = tt });
          }
      step false is =
          let past : pages ≤ i = ltb-false _ _ is in
          record {
            sound = sound-to (Placing i) (Committing Close) written sound sound.written sound.counts.1;
            left = omega (arith, past);
            group = same-store _ s s' same (record { boundary = group.boundary; pages = group.pages; live = group.live; written = tt });
          }

  arming : (change : Change) (s s' : Store) → s' ≡ s → IsFlush (flush_at (Arming change)) → IsGroup (flush_at (Arming change)) s
      → GoesOn (flush_at (Arming change)) (moved_flush (due_stage (flush_at (Arming change)) (group_of s)) (flush_at (Arming change))) s'
  arming Close s s' same sound group = record {
    sound = sound-to (Arming Close) (Arming Write) written sound sound.written sound.counts;
    left = omega arith;
    group = same-store _ s s' same (record { boundary = group.boundary; pages = group.pages; live = group.live; written = tt });
  }
  arming Write s s' same sound group = record {
    sound = sound-to (Arming Write) (Arming (Open false)) written sound sound.written sound.counts;
    left = omega arith;
    group = same-store _ s s' same (record { boundary = group.boundary; pages = group.pages; live = group.live; written = tt });
  }
  arming (Open tried) s s' same sound group = record {
    sound = record {
      slot = omega arith;
      header = armed-header header written sound.header (omega (arith, sound.written, sound.live, sound.pages));
      target = sound.target;
      bigblocks = sound.bigblocks;
      pages = sound.pages;
      live = sound.live;
      written = sound.written;
      counts = (omega arith, sound.counts);
    };
    left = omega arith;
    group = same-store _ s s' same (record { boundary = group.boundary; pages = group.pages; live = group.live; written = tt });
  }

  committing : (change : Change) (now : Header) (s s' : Store) → PagesMove (Committing change) now s s' → IsFlush (flush_at (Committing change))
      → IsGroup (flush_at (Committing change)) s
      → GoesOn (flush_at (Committing change)) (moved_flush (due_stage (flush_at (Committing change)) (group_of s)) (flush_at (Committing change))) s'
  committing Close now s s' same sound group = record {
    sound = sound-to (Committing Close) (Committing Write) written sound sound.written sound.counts;
    left = omega arith;
    group = same-store _ s s' same (record { boundary = group.boundary; pages = group.pages; live = group.live; written = tt });
  }
  committing Write now s s' same sound group = record {
    sound = sound-to (Committing Write) (Committing (Open false)) written sound sound.written sound.counts;
    left = omega arith;
    group = same-store _ s s' same (record { boundary = group.boundary; pages = group.pages; live = group.live; written = tt });
  }
  committing (Open tried) now s s' done sound group = record {
    sound = record {
      slot = omega arith;
      header = committed-header header target sound.header sound.target sound.bigblocks;
      target = sound.target;
      bigblocks = sound.bigblocks;
      pages = sound.pages;
      live = sound.live;
      written = sound.written;
      counts = tt;
    };
    left = omega arith;
    group = done.boundary;
  }

  goes-on_at : (at : Position) (now : Header) (s s' : Store) → at ≢ Idle → IsFlush (flush_at at) → IsGroupOf (flush_at at) s → PagesMove at now s s'
      → GoesOn (flush_at at) (moved_flush (due_stage (flush_at at) (group_of s)) (flush_at at)) s'
  goes-on_at Idle now s s' flight sound group store = absurd (flight refl)
  goes-on_at (Undoing from) now s s' flight sound group store = undoing from s s' store sound group
  goes-on_at (Arming change) now s s' flight sound group store = arming change s s' store sound group
  goes-on_at (Placing i) now s s' flight sound group store = placing i s s' store sound group
  goes-on_at (Committing change) now s s' flight sound group store = committing change now s s' store sound group

pub goes-on : (f : Flush) (now : Header) (s s' : Store) → f.at ≢ Idle → IsFlush f → IsGroupOf f s → PagesMove f.at now s s'
    → GoesOn f (moved_flush (due_stage f (group_of s)) f) s'
goes-on f now s s' flight sound group store =
    goes-on_at f.header f.slot f.target f.pages f.live f.written f.at now s s' flight sound group store

-- a volume keeps its size
next-volume : (p : Position) (f : Flush) → (header_to_write_at p f).bigblocks ≡ f.header.bigblocks
next-volume Idle f = refl
next-volume (Undoing from) f = refl
next-volume (Arming change) f = refl
next-volume (Placing i) f = refl
next-volume (Committing change) f = refl

armed-volume : (change : Change) (f : Flush) → (armed change f).header.bigblocks ≡ f.header.bigblocks
armed-volume Close f = refl
armed-volume Write f = refl
armed-volume (Open tried) f = next-volume f.at f

committed-volume : (change : Change) (f : Flush) → (committed change f).header.bigblocks ≡ f.header.bigblocks
committed-volume Close f = refl
committed-volume Write f = refl
committed-volume (Open tried) f = next-volume f.at f

same-volume : (stage : Stage) (f : Flush) → (moved_flush stage f).header.bigblocks ≡ f.header.bigblocks
same-volume Freeze f = refl
same-volume (Undo i) f = refl
same-volume UndoSync f = refl
same-volume (Arm number) f = armed-volume (due_change f.at) f
same-volume (Place i) f = refl
same-volume PlaceSync f = refl
same-volume (Commit number) f = committed-volume (due_change f.at) f

-- no stage opens a call
begin-kept : (p : Position) (now : Header) (s s' : Store) → p ≢ Idle → PagesMove p now s s' → s'.begin ≡ s.begin
begin-kept Idle now s s' flight store = absurd (flight refl)
begin-kept (Undoing from) now s s' flight same = ap (λ (x : Store). x.begin) same
begin-kept (Arming change) now s s' flight same = ap (λ (x : Store). x.begin) same
begin-kept (Placing i) now s s' flight same = ap (λ (x : Store). x.begin) same
begin-kept (Committing Close) now s s' flight same = ap (λ (x : Store). x.begin) same
begin-kept (Committing Write) now s s' flight same = ap (λ (x : Store). x.begin) same
begin-kept (Committing (Open tried)) now s s' flight done = done.call.1

-- the pages stand where they may
still-placed : (bigblocks : ℕ) (s s' : Store) → s' ≡ s → AreFlushPlaces bigblocks s → AreFlushPlaces bigblocks s'
still-placed bigblocks s s' same placed = subst (λ (x : Store). AreFlushPlaces bigblocks x) (sym same) placed

places-kept : (p : Position) (now : Header) (bigblocks : ℕ) (s s' : Store) → p ≢ Idle → PagesMove p now s s' → AreFlushPlaces bigblocks s
    → AreFlushPlaces bigblocks s'
places-kept Idle now bigblocks s s' flight store placed = absurd (flight refl)
places-kept (Undoing from) now bigblocks s s' flight same placed = still-placed bigblocks s s' same placed
places-kept (Arming change) now bigblocks s s' flight same placed = still-placed bigblocks s s' same placed
places-kept (Placing i) now bigblocks s s' flight same placed = still-placed bigblocks s s' same placed
places-kept (Committing Close) now bigblocks s s' flight same placed = still-placed bigblocks s s' same placed
places-kept (Committing Write) now bigblocks s s' flight same placed = still-placed bigblocks s s' same placed
places-kept (Committing (Open tried)) now bigblocks s s' flight done placed = record {
  current = λ at changed there.
      placed.current at (sym (ap (λ (g : ChangeSet). g.changed at) done.group) ∙ changed)
      (subst (λ (map : PageMap). is_some (map at) ≡ true) done.current there);
  frozen = λ i below. absurd (omega (arith, subst (λ (xs : List ℕ). i < length xs) done.frozen_group below));
}

-- a number of a list is a member
pub place-member : (places : List ℕ) (i : ℕ) → i < length places → is_member nat_eq places (slice_index places i) ≡ true
place-member places i below = (is_member-Decides Decides-eqb places (slice_index places i)).1 (Contains-get_or places i 0 below)

pub places-frozen : (bigblocks : ℕ) (boundary : Id) (s s' : Store) → IsFrozen boundary s s' → AreFlushPlaces bigblocks s → AreFlushPlaces bigblocks s'
places-frozen bigblocks boundary s s' frozen placed = record {
  current = λ at changed there. absurd (true≢false (sym changed ∙ ap (λ (g : ChangeSet). g.changed at) frozen.group));
  frozen = λ i below.
      let at = slice_index s'.frozen_group i in
      let both = and_parts (s.group.changed at) (is_some (s.current at)) (sym (frozen.each at) ∙ place-member s'.frozen_group i below) in
      placed.current at both.0 both.1;
}

-- so it does in the words of the call
moves-at : (at : Position) (now : Header) (stage : Stage) (old new : Flush) (s s' : Store) → at ≢ Idle → new ≡ moved_flush stage old → left new + 1 ≡ left old
    → IsMoved at now stage s' old new × LeftFalls at s' old new
moves-at Idle now stage old new s s' flight is falls = absurd (flight refl)
moves-at (Undoing from) now stage old new s s' flight is falls = (is, falls)
moves-at (Arming change) now stage old new s s' flight is falls = (is, falls)
moves-at (Placing i) now stage old new s s' flight is falls = (is, falls)
moves-at (Committing change) now stage old new s s' flight is falls = (is, falls)

pub moves : (f new : Flush) (now : Header) (stage : Stage) (s s' : Store) → f.at ≢ Idle → IsFlush f → IsFlushReady f s → PagesMove f.at now s s'
    → stage ≡ due_stage f (group_of s) → new ≡ moved_flush stage f → StageSucceeds now stage f new s s'
moves f new now stage s s' flight sound ready store is_due is =
    let on : GoesOn f new s' = subst (λ (n : Flush). GoesOn f n s') (sym (is ∙ ap (λ (st : Stage). moved_flush st f) is_due))
    (goes-on f now s s' flight sound ready.group store) in
    let both = moves-at f.at now stage f new s s' flight is on.left in
    let volume : new.header.bigblocks ≡ f.header.bigblocks = ap (λ (n : Flush). n.header.bigblocks) is ∙ same-volume stage f in
    record {
      stage_is = is_due;
      flush = both.0;
      store = store;
      left = both.1;
      volume = volume;
      ready = record {
        closed = begin-kept f.at now s s' flight store ∙ ready.closed;
        group = on.group;
        placed = subst (λ (b : ℕ). AreFlushPlaces b s') (sym volume) (places-kept f.at now f.header.bigblocks s s' flight store ready.placed);
      };
    }

pub sound-moved : (f new : Flush) (now : Header) (stage : Stage) (s s' : Store) → f.at ≢ Idle → IsFlush f → IsGroupOf f s → PagesMove f.at now s s'
    → stage ≡ due_stage f (group_of s) → new ≡ moved_flush stage f → IsFlush new
sound-moved f new now stage s s' flight sound group store is_due is =
    subst IsFlush (sym (is ∙ ap (λ (st : Stage). moved_flush st f) is_due)) (goes-on f now s s' flight sound group store).sound

-- a flush that begins
pub sound-begun : (f new : Flush) (now : Header) (n count : ℕ) → IsFlush f → IsTarget f now → n ≤ MOST_GROUP_PAGES → count ≤ n → new ≡ begun_flush now n count f
    → IsFlush new
sound-begun f new now n count sound follows few live is = subst IsFlush (sym is) (record {
  slot = sound.slot;
  header = sound.header;
  target = follows.header;
  bigblocks = follows.bigblocks;
  pages = few;
  live = live;
  written = omega arith;
  counts = (omega arith, omega arith);
})

pub moves-begun : (f new : Flush) (now : Header) (s s' : Store) → f.at ≡ Idle → IsFlushReady f s → IsFrozen now.last s s'
    → live_before (group_of s').was_live (length s'.frozen_group) ≤ length s'.frozen_group
    → new ≡ begun_flush now (length s'.frozen_group) (live_before (group_of s').was_live (length s'.frozen_group)) f → StageSucceeds now Freeze f new s s'
moves-begun f new now s s' idle ready frozen few is = record {
  stage_is = sym (ap (λ (p : Position). due_stage_at p f (group_of s)) idle);
  flush = subst (λ (p : Position). IsMoved p now Freeze s' f new) (sym idle) is;
  store = subst (λ (p : Position). PagesMove p now s s') (sym idle) frozen;
  left = subst (λ (p : Position). LeftFalls p s' f new) (sym idle)
      (subst (λ (n : Flush). left n ≤ 2 * length s'.frozen_group + 8) (sym is) (omega (arith, few)));
  volume = ap (λ (n : Flush). n.header.bigblocks) is;
  ready = subst (λ (n : Flush). IsFlushReady n s') (sym is) (record {
    closed = frozen.call.1 ∙ ready.closed;
    group = record { boundary = frozen.boundary_is; pages = refl; live = refl; written = refl };
    placed = places-frozen f.header.bigblocks now.last s s' frozen ready.placed;
  });
}
