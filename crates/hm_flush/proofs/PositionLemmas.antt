-- A flush of two pages over a disk, brought from position to position: at each one the guard holds.
use Rattle.std.proofs.Common.{◌≡◌, ◌≢◌, ◌⊎◌, inl, inr, ⊎_elim, ℕ, zero, suc, ◌+◌, ◌-◌, ◌*◌, ◌<◌, ◌≤◌, ◌&&◌, ◌||◌, Bool, true, false, List, [], ◌∷◌}
use Rattle.std.proofs.Common.{is_some, length, refl, sym, ◌∙◌, ap, subst, arith, nat_eq, nat_le, nat_lt, slice_index, if◌then◌else◌}
use Rattle.std.specs.Set.{is_member}
use Rattle.hm_types.specs.declared.limits.TheConstants.{BIGBLOCK_BYTES, PAGE_BYTES}
use Rattle.hm_types.specs.Layout.{first_pool, start_of}
use Rattle.hm_types.specs.Offset.{byte_of}
use Rattle.hm_disk.specs.Crash.{Told, is_outside}
use Rattle.hm_fields.specs.Fields.{Apart}
use Rattle.hm_header.specs.declared.header.Header.{Header}
use Rattle.hm_header.specs.Change.{StageFailed}
use Rattle.hm_header.specs.Range.{IsHeader}
use Rattle.hm_header.proofs.StageLemmas.{failed-same}
use Rattle.hm_pages.specs.Calls.{IsFrozen}
use Rattle.hm_pages.specs.Sound.{IsSoundFlush}
use Rattle.hm_pages.specs.Store.{Store}
use Rattle.hm_undo.specs.Entry.{IsUndoPageOf}
use Rattle.hm_flush.specs.declared.change.Change.TheVariants.{Close, Write, Open}
use Rattle.hm_flush.specs.declared.flush.Flush.{Flush}
use Rattle.hm_flush.specs.declared.flush.Position.{Position}
use Rattle.hm_flush.specs.declared.flush.Position.TheVariants.{Idle, Undoing, Arming, Placing, Committing}
use Rattle.hm_flush.specs.declared.stage.Stage.{Stage}
use Rattle.hm_flush.specs.declared.stage.Stage.TheVariants.{Freeze, Undo, UndoSync, Arm, Place, PlaceSync, Commit}
use Rattle.hm_flush.specs.Calls.{IsFlushReady, PagesMove}
use Rattle.hm_flush.specs.Example.{GuardedAt, HasUnsettledPayload, IsGroupPage, IsPositionOf}
use Rattle.hm_flush.specs.Flush.{IsFlush, armed_header, begun_flush, idle_flush, tried}
use Rattle.hm_flush.specs.Group.{group_of, live_before, next_live}
use Rattle.hm_flush.specs.Guard.{ArePlaced, Guards, IsGuarded}
use Rattle.hm_flush.specs.Recoverable.{HoldsPage, HoldsPages, IsInPages}
use Rattle.hm_flush.specs.Stages.{MakesStage, asks, due_stage, moved_flush, range_of}
use Rattle.hm_flush.proofs.CallLemmas.{guards-begun}
use Rattle.hm_flush.proofs.ExampleLemmas.{are-pages, committed-only, committed-placed, committed-there, committed_map, current-only, current-there}
use Rattle.hm_flush.proofs.ExampleLemmas.{current_map, fresh-none, fresh-there, frozen-all, frozen-sound, frozen_store, idle-places, idle-sound}
use Rattle.hm_flush.proofs.ExampleLemmas.{idle_store, is-frozen, member-fresh, member-live, one-live}
use Rattle.hm_flush.proofs.GroupLemmas.{next_live-dead, next_live-live}
use Rattle.hm_flush.proofs.MadeUpLemmas.{counts, made-up, root-stands, settled-guarded}
use Rattle.hm_flush.proofs.MoveLemmas.{moves, moves-begun, sound-begun, sound-moved}
use Rattle.hm_flush.proofs.PossibleLemmas.{ArePages, possible}
use Rattle.hm_flush.proofs.SameGuardLemmas.{guards-same}
use Rattle.hm_flush.proofs.StageLemmas.{asks-stand}
use Rattle.hm_flush.proofs.StandLemmas.{group-len, lies-past, stands-on, stands-tried}
use Rattle.hm_flush.proofs.StepLemmas.{Fits, guards-on, guards-tried, saved-all}

-- a flush can go on over some disk, and the committed pages are guarded there
record OnDisk (s : Store) (f : Flush) : Type 0 where
  disk : Told
  sound : IsFlush f
  ready : IsFlushReady f s
  guards : Guards f s disk

module _ (s : Store) (pages : ArePages s) (sound : IsSoundFlush s) where
  fits : (f : Flush) → f.at ≢ Idle → OnDisk s f → Fits f s
  fits f flight was = record { sound = was.sound; len = λ flight. group-len f.at f s flight was.ready.group; placed = was.ready.placed; store = sound }

  -- after the stage that is due
  on : (f : Flush) (stage : Stage) → f.at ≢ Idle → stage ≢ Freeze → PagesMove f.at f.target s s → due_stage f (group_of s) ≡ stage → OnDisk s f
      → OnDisk s (moved_flush stage f)
  on f stage flight flies same due was = record {
    disk = b.0;
    sound = sound-moved f (moved_flush stage f) f.target stage s s flight was.sound was.ready.group same (sym due) refl;
    ready = (moves f (moved_flush stage f) f.target stage s s flight was.sound was.ready same (sym due) refl).ready;
    guards = subst (λ (st : Stage). Guards (moved_flush st f) s b.0) due
        (guards-on f s s f.target flight (fits f flight was) same was.disk b.0 was.guards made
        (stands-on f (group_of s) was.disk b.0 flight was.guards.stands
        (lies-past f s (length was.disk.bytes) flight was.sound was.ready.group was.ready.placed was.guards.stands.room) made));
  }
    where
      b : (b : Told) × MakesStage stage f (group_of s) was.disk b
      b = possible f s was.disk was.sound was.ready flight was.guards.stands pages stage flies due

      made : MakesStage (due_stage f (group_of s)) f (group_of s) was.disk b.0
      made = subst (λ (st : Stage). MakesStage st f (group_of s) was.disk b.0) (sym due) b.1

  -- after it failed, and did nothing
  on-tried : (f : Flush) → f.at ≢ Idle → OnDisk s f → IsFlush (tried f) → IsFlushReady (tried f) s → OnDisk s (tried f)
  on-tried f flight was still ready = record {
    disk = was.disk;
    sound = still;
    ready = ready;
    guards = guards-tried f s (fits f flight was) was.disk was.disk was.guards failed
        (stands-tried f (group_of s) was.disk was.disk flight was.guards.stands
        (lies-past f s (length was.disk.bytes) flight was.sound was.ready.group was.ready.placed was.guards.stands.room) failed);
  }
    where
      failed : StageFailed (asks f) (range_of f (group_of s)).0 (range_of f (group_of s)).1 was.disk was.disk
      failed =
          failed-same (asks f) (range_of f (group_of s)).0 (range_of f (group_of s)).1 was.disk (asks-stand f.at f was.disk was.guards.stands.header)

-- a range more is unsettled, on which the guard does not hang
abbrev unsettled_too : ℕ → ℕ → Told → Told
unsettled_too place count t = record t { unsettled = (place, count) ∷ t.unsettled }

module _ (f : Flush) (s : Store) (place count : ℕ)
    (beside : (byte : ℕ) → IsGuarded f.header.bigblocks s byte → (byte < place) ⊎ (place + count ≤ byte)) (t : Told) where
  out : (byte : ℕ) → (byte < place) ⊎ (place + count ≤ byte) → is_outside (unsettled_too place count t).unsettled byte ≡ is_outside t.unsettled byte
  out byte away = ap (λ (b : Bool). b && is_outside t.unsettled byte) (yes away)
    where
      yes : (byte < place) ⊎ (place + count ≤ byte) → (nat_lt byte place || nat_le (place + count) byte) ≡ true
      yes away = grind (arith, away)

  unsettled-guarded : Guards f s t → Guards f s (unsettled_too place count t)
  unsettled-guarded guards =
      guards-same f s s t (unsettled_too place count t) (record { committed = refl; frozen = refl; frozen_group = refl; boundary = refl })
      (record { size = refl; bytes = λ byte is. refl; settled = λ byte is. out byte (beside byte is) }) guards

module _ (header : Header) (fresh : ℕ) (old new added : List ℕ) (is : IsHeader header) (none : header.undo_count ≡ 0)
    (fresh_is : IsUndoPageOf header.bigblocks fresh) (rises : header.root < fresh) (sized : length old ≡ PAGE_BYTES) (sized' : length new ≡ PAGE_BYTES)
    (sized'' : length added ≡ PAGE_BYTES) where
  root_is : IsUndoPageOf header.bigblocks header.root
  root_is = record { volume = is.root.volume; page = is.root.page; zone = inl (is.root.zone, is.root.pool) }

  abbrev idle : Store
  idle = idle_store header.root fresh old new added

  abbrev frozen : Store
  frozen = frozen_store header.root fresh old new added header.last

  abbrev f0 : Flush
  f0 = idle_flush header 0

  f0-sound : IsFlush f0
  f0-sound = record {
    slot = omega arith;
    header = is;
    target = is;
    bigblocks = refl;
    pages = omega arith;
    live = omega arith;
    written = omega arith;
    counts = tt;
  }

  idle-on : OnDisk idle f0
  idle-on = record {
    disk = record { bytes = made-up header old is sized; unsettled = []; moment = 0 };
    sound = f0-sound;
    ready = record { closed = refl; group = refl; placed = idle-places header.root fresh old new added rises header.bigblocks root_is fresh_is };
    guards = settled-guarded header 0 idle (record { bytes = made-up header old is sized; unsettled = []; moment = 0 }) (counts header old is sized) none
        placed placed holds refl;
  }
    where
      placed : ArePlaced header.bigblocks (committed_map header.root fresh old new added)
      placed = committed-placed header.root fresh old new added rises header.bigblocks root_is fresh_is

      holds : HoldsPages (committed_map header.root fresh old new added) (made-up header old is sized)
      holds at page there =
          let only = committed-only header.root fresh old new added at page there in
          subst (λ (k : ℕ). HoldsPage (made-up header old is sized) k page) (sym only.0) (root-stands header old is sized ∙ sym only.1)

  -- Freeze
  abbrev f1 : Flush
  f1 = begun_flush header 2 1 f0

  pages : ArePages frozen
  pages = are-pages header.root fresh old new added header.last rises sized' sized''

  sound : IsSoundFlush frozen
  sound = frozen-sound header.root fresh old new added rises header.last

  live : live_before (group_of frozen).was_live 2 ≡ 1
  live = one-live header.root fresh old new added rises header.last

  frozen-on : OnDisk frozen f1
  frozen-on = record {
    disk = idle-on.disk;
    sound = sound-begun f0 f1 header 2 1 f0-sound (record { header = is; bigblocks = refl }) (omega arith) (omega arith) refl;
    ready = (moves-begun f0 f1 header idle frozen refl idle-on.ready now (omega (arith, live)) (ap (λ (n : ℕ). begun_flush header 2 n f0) (sym live))).ready;
    guards = guards-begun f0 f1 header 2 1 header.last idle frozen refl (idle-sound header.root fresh old new added) refl idle-on.ready.placed now refl
        idle-on.disk idle-on.guards;
  }
    where
      now : IsFrozen header.last idle frozen
      now = is-frozen header.root fresh old new added rises header.last

  was_live : ℕ → Bool
  was_live = (group_of frozen).was_live

  abbrev go : (f : Flush) (stage : Stage) → f.at ≢ Idle → stage ≢ Freeze → PagesMove f.at f.target frozen frozen
      → due_stage f (group_of frozen) ≡ stage → OnDisk frozen f → OnDisk frozen (moved_flush stage f)
  go = on frozen pages sound

  -- Undo of the page that was live
  abbrev f2 : Flush
  f2 = moved_flush (Undo 0) f1

  first : next_live (group_of frozen).was_live 0 2 ≡ 0
  first = next_live-live (group_of frozen).was_live 0 2 (omega arith) (ap is_some (committed-there header.root fresh old new added))

  undone : OnDisk frozen f2
  undone = go f1 (Undo 0) (λ i. absurd (cc)) (λ i. absurd (cc)) refl (ap (λ (n : ℕ). if nat_lt n 2 then Undo n else UndoSync) first) frozen-on

  -- the other was not, so the log is settled next
  dead : (group_of frozen).was_live 1 ≡ false
  dead = ap is_some (fresh-none header.root fresh old new added rises)

  last : next_live (group_of frozen).was_live 1 1 ≡ 2
  last = next_live-dead (group_of frozen).was_live 1 1 (omega arith) dead

  abbrev f2' : Flush
  f2' = record f2 { at = Undoing 2 }

  passed : OnDisk frozen f2'
  passed = record {
    disk = undone.disk;
    sound = record {
      slot = undone.sound.slot;
      header = undone.sound.header;
      target = undone.sound.target;
      bigblocks = refl;
      pages = undone.sound.pages;
      live = undone.sound.live;
      written = undone.sound.written;
      counts = (omega arith, omega arith);
    };
    ready = record {
      closed = refl;
      group = record { boundary = refl; pages = refl; live = live; written = live };
      placed = undone.ready.placed;
    };
    guards = record {
      stands = record { room = undone.guards.stands.room; header = undone.guards.stands.header };
      committed = undone.guards.committed;
      frozen = undone.guards.frozen;
      unarmed = undone.guards.unarmed;
      crash = undone.guards.crash;
      read = saved-all (armed_header header 1) frozen 1 2 2 undone.disk.bytes (omega arith) skips undone.guards.read;
    };
  }
    where
      skips : (i : ℕ) → 1 ≤ i → i < 2 → is_some (frozen.committed (slice_index frozen.frozen_group i)) ≡ false
      skips i from to = let one : 1 ≡ i = omega (arith, from, to) in subst (λ (k : ℕ). (group_of frozen).was_live k ≡ false) one dead

  -- UndoSync, and the header that names the log
  abbrev f3 : Flush
  f3 = moved_flush UndoSync f2

  settled : OnDisk frozen f3
  settled = go f2 UndoSync (λ i. absurd (cc)) (λ i. absurd (cc)) refl (ap (λ (n : ℕ). if nat_lt n 2 then Undo n else UndoSync) last) undone

  abbrev f4 : Flush
  f4 = moved_flush (Arm 1) f3

  closed : OnDisk frozen f4
  closed = go f3 (Arm 1) (λ i. absurd (cc)) (λ i. absurd (cc)) refl refl settled

  abbrev f5 : Flush
  f5 = moved_flush (Arm 2) f4

  written : OnDisk frozen f5
  written = go f4 (Arm 2) (λ i. absurd (cc)) (λ i. absurd (cc)) refl refl closed

  -- where a gate was tried to be opened
  written-tried : OnDisk frozen (tried f5)
  written-tried = on-tried frozen pages sound f5 (λ i. absurd (cc)) written
      (record {
        slot = written.sound.slot;
        header = written.sound.header;
        target = written.sound.target;
        bigblocks = refl;
        pages = written.sound.pages;
        live = written.sound.live;
        written = written.sound.written;
        counts = written.sound.counts;
      })
      (record { closed = refl; group = record { boundary = refl; pages = refl; live = live; written = tt }; placed = written.ready.placed })

  abbrev f6 : Flush
  f6 = moved_flush (Arm 3) f5

  armed : OnDisk frozen f6
  armed = go f5 (Arm 3) (λ i. absurd (cc)) (λ i. absurd (cc)) refl refl written

  -- the pages are placed
  abbrev f7 : Flush
  f7 = moved_flush (Place 0) f6

  one-placed : OnDisk frozen f7
  one-placed = go f6 (Place 0) (λ i. absurd (cc)) (λ i. absurd (cc)) refl refl armed

  abbrev f8 : Flush
  f8 = moved_flush (Place 1) f7

  both-placed : OnDisk frozen f8
  both-placed = go f7 (Place 1) (λ i. absurd (cc)) (λ i. absurd (cc)) refl refl one-placed

  -- PlaceSync, and the header with the new state
  abbrev f9 : Flush
  f9 = moved_flush PlaceSync f8

  placed-settled : OnDisk frozen f9
  placed-settled = go f8 PlaceSync (λ i. absurd (cc)) (λ i. absurd (cc)) refl refl both-placed

  abbrev f10 : Flush
  f10 = moved_flush (Commit 1) f9

  next-closed : OnDisk frozen f10
  next-closed = go f9 (Commit 1) (λ i. absurd (cc)) (λ i. absurd (cc)) refl refl placed-settled

  abbrev f11 : Flush
  f11 = moved_flush (Commit 2) f10

  next-written : OnDisk frozen f11
  next-written = go f10 (Commit 2) (λ i. absurd (cc)) (λ i. absurd (cc)) refl refl next-closed

  next-tried : OnDisk frozen (tried f11)
  next-tried = on-tried frozen pages sound f11 (λ i. absurd (cc)) next-written
      (record {
        slot = next-written.sound.slot;
        header = next-written.sound.header;
        target = next-written.sound.target;
        bigblocks = refl;
        pages = next-written.sound.pages;
        live = next-written.sound.live;
        written = next-written.sound.written;
        counts = next-written.sound.counts;
      })
      (record { closed = refl; group = record { boundary = refl; pages = refl; live = live; written = tt }; placed = next-written.ready.placed })

  module _ (place count : ℕ) (some : 0 < count) (away : start_of (first_pool header.bigblocks) ≤ place)
      (within : place + count ≤ header.bigblocks * BIGBLOCK_BYTES) (apart : Apart (byte_of header.root) PAGE_BYTES place count)
      (apart' : Apart (byte_of fresh) PAGE_BYTES place count) where
    -- a byte of a page that is apart from the range, by the page's place
    page-out : (at here byte : ℕ) → at ≡ here → Apart (byte_of here) PAGE_BYTES place count → (byte_of at ≤ byte) × (byte < byte_of at + PAGE_BYTES)
        → (byte < place) ⊎ (place + count ≤ byte)
    page-out at here byte same (inl low) inside = let p = ap (λ (k : ℕ). byte_of k) same in inl (omega (arith, low, inside, p))
    page-out at here byte same (inr high) inside = let p = ap (λ (k : ℕ). byte_of k) same in inr (omega (arith, high, inside, p))

    committed-out : (byte : ℕ) → IsInPages (committed_map header.root fresh old new added) byte → (byte < place) ⊎ (place + count ≤ byte)
    committed-out byte inside =
        page-out inside.0 header.root byte (committed-only header.root fresh old new added inside.0 inside.1 inside.2).0 apart inside.3

    current-out : (byte : ℕ) → IsInPages (current_map header.root fresh old new added) byte → (byte < place) ⊎ (place + count ≤ byte)
    current-out byte inside =
        ⊎_elim (λ here. page-out inside.0 header.root byte here.0 apart inside.3) (λ here. page-out inside.0 fresh byte here.0 apart' inside.3)
        (current-only header.root fresh old new added inside.0 inside.1 inside.2)

    idle-out : (byte : ℕ) → IsGuarded header.bigblocks idle byte → (byte < place) ⊎ (place + count ≤ byte)
    idle-out byte (inl low) = inl (omega (arith, low, away))
    idle-out byte (inr (inl inside)) = committed-out byte inside
    idle-out byte (inr (inr inside)) = committed-out byte inside

    frozen-out : (byte : ℕ) → IsGuarded header.bigblocks frozen byte → (byte < place) ⊎ (place + count ≤ byte)
    frozen-out byte (inl low) = inl (omega (arith, low, away))
    frozen-out byte (inr (inl inside)) = committed-out byte inside
    frozen-out byte (inr (inr inside)) = current-out byte inside

    payload : (s : Store) (t : Told) → ((byte : ℕ) → IsGuarded header.bigblocks s byte → (byte < place) ⊎ (place + count ≤ byte))
        → header.bigblocks * BIGBLOCK_BYTES ≤ length t.bytes → HasUnsettledPayload header.bigblocks s (unsettled_too place count t)
    payload s t out room = record {
      place = place;
      count = count;
      some = some;
      inside = omega (arith, within, room);
      others = t.unsettled;
      unsettled = refl;
      beside = λ byte from to is. ⊎_elim (λ low. omega (arith, low, from)) (λ high. omega (arith, high, to)) (out byte is);
    }

    -- where no flush is in flight
    guarded-idle : GuardedAt Idle
    guarded-idle = record {
      flush = f0;
      pages = idle;
      disk = unsettled_too place count idle-on.disk;
      position = refl;
      sound = (f0-sound, idle-sound header.root fresh old new added);
      ready = idle-on.ready;
      guards = unsettled-guarded f0 idle place count idle-out idle-on.disk idle-on.guards;
      both = record {
        live = (
          header.root,
          (member-live header.root fresh old new added, ap is_some (current-there header.root fresh old new added)),
          ap is_some (committed-there header.root fresh old new added),
        );
        fresh = (
          fresh,
          (member-fresh header.root fresh old new added, ap is_some (fresh-there header.root fresh old new added rises)),
          ap is_some (fresh-none header.root fresh old new added rises),
        );
      };
      payload = payload idle idle-on.disk idle-out idle-on.guards.stands.room;
    }

    -- where one is
    in-group : (p : Position) (at : ℕ) → p ≢ Idle → is_member nat_eq frozen.frozen_group at ≡ true → IsGroupPage p frozen at
    in-group Idle at flight member = absurd (flight refl)
    in-group (Undoing from) at flight member = member
    in-group (Arming change) at flight member = member
    in-group (Placing i) at flight member = member
    in-group (Committing change) at flight member = member

    guarded-on : (f : Flush) → f.at ≢ Idle → f.header.bigblocks ≡ header.bigblocks → OnDisk frozen f → GuardedAt f.at
    guarded-on f flight volume was = record {
      flush = f;
      pages = frozen;
      disk = unsettled_too place count was.disk;
      position = refl;
      sound = (was.sound, frozen-all header.root fresh old new added rises header.last);
      ready = was.ready;
      guards = unsettled-guarded f frozen place count out was.disk was.guards;
      both = record {
        live = (
          header.root,
          in-group f.at header.root flight (member-live header.root fresh old new added),
          ap is_some (committed-there header.root fresh old new added),
        );
        fresh = (
          fresh,
          in-group f.at fresh flight (member-fresh header.root fresh old new added),
          ap is_some (fresh-none header.root fresh old new added rises),
        );
      };
      payload = subst (λ (b : ℕ). HasUnsettledPayload b frozen (unsettled_too place count was.disk)) (sym volume)
          (payload frozen was.disk frozen-out (subst (λ (b : ℕ). b * BIGBLOCK_BYTES ≤ length was.disk.bytes) volume was.guards.stands.room));
    }
      where
        out : (byte : ℕ) → IsGuarded f.header.bigblocks frozen byte → (byte < place) ⊎ (place + count ≤ byte)
        out byte inside = frozen-out byte (subst (λ (b : ℕ). IsGuarded b frozen byte) volume inside)

    pub guarded-at : (p : Position) → IsPositionOf 2 p → GuardedAt p
    guarded-at Idle fits = guarded-idle
    guarded-at (Undoing zero) fits = guarded-on f1 (λ i. absurd (cc)) refl frozen-on
    guarded-at (Undoing (suc zero)) fits = guarded-on f2 (λ i. absurd (cc)) refl undone
    guarded-at (Undoing (suc (suc zero))) fits = guarded-on f2' (λ i. absurd (cc)) refl passed
    guarded-at (Undoing (suc (suc (suc from)))) fits = absurd (omega (arith, fits))
    guarded-at (Arming Close) fits = guarded-on f3 (λ i. absurd (cc)) refl settled
    guarded-at (Arming Write) fits = guarded-on f4 (λ i. absurd (cc)) refl closed
    guarded-at (Arming (Open false)) fits = guarded-on f5 (λ i. absurd (cc)) refl written
    guarded-at (Arming (Open true)) fits = guarded-on (tried f5) (λ i. absurd (cc)) refl written-tried
    guarded-at (Placing zero) fits = guarded-on f6 (λ i. absurd (cc)) refl armed
    guarded-at (Placing (suc zero)) fits = guarded-on f7 (λ i. absurd (cc)) refl one-placed
    guarded-at (Placing (suc (suc zero))) fits = guarded-on f8 (λ i. absurd (cc)) refl both-placed
    guarded-at (Placing (suc (suc (suc i)))) fits = absurd (omega (arith, fits))
    guarded-at (Committing Close) fits = guarded-on f9 (λ i. absurd (cc)) refl placed-settled
    guarded-at (Committing Write) fits = guarded-on f10 (λ i. absurd (cc)) refl next-closed
    guarded-at (Committing (Open false)) fits = guarded-on f11 (λ i. absurd (cc)) refl next-written
    guarded-at (Committing (Open true)) fits = guarded-on (tried f11) (λ i. absurd (cc)) refl next-tried
