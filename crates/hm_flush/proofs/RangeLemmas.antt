-- The range that a stage writes has no byte on which the guard hangs.
use Rattle.std.proofs.Common.{◌≡◌, ◌≢◌, ◌⊎◌, inl, inr, ⊎_elim, ℕ, zero, suc, ◌+◌, ◌-◌, ◌*◌, ◌<◌, ◌≤◌, Bool, true, false, List, [], ◌∷◌, length, refl}
use Rattle.std.proofs.Common.{sym, ◌∙◌, ap, subst, arith, nat_eq, nat_lt, slice_index, Some, if◌then◌else◌}
use Rattle.std.specs.List.Sorted.{IsStrictlyIncreasing}
use Rattle.std.specs.Set.{is_member}
use Rattle.std.proofs.lemmas.Bool.{ltb-true, true≢false}
use Rattle.hm_types.specs.declared.limits.TheConstants.{MOST_GROUP_PAGES, PAGE_BYTES, UNDO_ENTRY_BYTES}
use Rattle.hm_types.specs.Offset.{byte_of}
use Rattle.hm_fields.specs.Fields.{Apart}
use Rattle.hm_fields.specs.Pages.{PageMap}
use Rattle.hm_header.specs.declared.header.Header.{Header}
use Rattle.hm_header.specs.declared.header.TheConstants.{SLOT_BYTES}
use Rattle.hm_header.specs.Range.{HasRoom, IsSize}
use Rattle.hm_pages.specs.Store.{Store}
use Rattle.hm_undo.specs.Entry.{IsUndoPageOf}
use Rattle.hm_undo.specs.Log.{IsInEntry, entry_at, entry_place}
use Rattle.hm_undo.proofs.LogLemmas.{entries-apart, entry-past_slots, entry-within, page-apart, page-past_slots, page-within}
use Rattle.hm_flush.specs.declared.change.Change.{Change}
use Rattle.hm_flush.specs.declared.change.Change.TheVariants.{Close, Write, Open}
use Rattle.hm_flush.specs.declared.flush.Flush.{Flush}
use Rattle.hm_flush.specs.declared.flush.Position.{Position}
use Rattle.hm_flush.specs.declared.flush.Position.TheVariants.{Idle, Undoing, Arming, Placing, Committing}
use Rattle.hm_flush.specs.declared.stage.Stage.TheVariants.{Undo, UndoSync, Place, PlaceSync}
use Rattle.hm_flush.specs.Calls.{AreFlushPlaces}
use Rattle.hm_flush.specs.Change.{change_range}
use Rattle.hm_flush.specs.Flush.{armed_header}
use Rattle.hm_flush.specs.Group.{group_of, next_live}
use Rattle.hm_flush.specs.Guard.{ArePlaced}
use Rattle.hm_flush.specs.Recoverable.{IsInPage, IsInPages}
use Rattle.hm_flush.specs.Stages.{range_of, stage_range, undo_range}
use Rattle.hm_flush.proofs.GuardLemmas.{IsInLog, IsInPlaced, IsInRest, needs_at, reads_at}
use Rattle.hm_flush.proofs.MoveLemmas.{flush_at, place-member}
use Rattle.hm_flush.proofs.PageLemmas.{pages-apart}

-- a byte lies outside a range
abbrev pub IsOut : ℕ × ℕ → ℕ → Type 0
IsOut range byte = (byte < range.0) ⊎ (range.0 + range.1 ≤ byte)

-- rising places are different ones
pub rises : (xs : List ℕ) → IsStrictlyIncreasing xs → (k n : ℕ) → k + suc n < length xs → slice_index xs k < slice_index xs (k + suc n)
rises xs up k zero below =
    let next : k + 1 ≡ k + suc 0 = omega arith in subst (λ (j : ℕ). slice_index xs k < slice_index xs j) next (up k (omega (arith, below)))
rises xs up k (suc n) below =
    let next : k + suc n + 1 ≡ k + suc (suc n) = omega arith in
    let more = rises xs up k n (omega (arith, below)) in
    let last = up (k + suc n) (omega (arith, below)) in
    subst (λ (j : ℕ). slice_index xs k < slice_index xs j) next (omega (arith, more, last))

pub differ : (xs : List ℕ) → IsStrictlyIncreasing xs → (k i : ℕ) → k < i → i < length xs → slice_index xs i ≢ slice_index xs k
differ xs up k i less below same =
    let at : k + suc (i - suc k) ≡ i = omega (arith, less) in
    let more = subst (λ (j : ℕ). slice_index xs k < slice_index xs j) at (rises xs up k (i - suc k) (omega (arith, less, below))) in
    omega (arith, more, same)

-- a change of the header writes within the slots
in-slots : (change : Change) (slot : ℕ) → (change_range change slot).0 + (change_range change slot).1 ≤ 2 * SLOT_BYTES
in-slots Close slot = omega arith
in-slots Write slot = omega arith
in-slots (Open tried) slot = omega arith

change-out : (change : Change) (slot byte : ℕ) → 2 * SLOT_BYTES ≤ byte → IsOut (change_range change slot) byte
change-out change slot byte past = inr (omega (arith, past, in-slots change slot))

-- pages and entries lie past the slots
page-past : (bigblocks at byte : ℕ) → IsUndoPageOf bigblocks at → IsInPage at byte → 2 * SLOT_BYTES ≤ byte
page-past bigblocks at byte is within = omega (arith, within, page-past_slots bigblocks at is)

pages-past : (bigblocks : ℕ) (map : PageMap) (byte : ℕ) → ArePlaced bigblocks map → IsInPages map byte → 2 * SLOT_BYTES ≤ byte
pages-past bigblocks map byte placed inside = page-past bigblocks inside.0 byte (placed inside.0 inside.1 inside.2) inside.3

log-past : (header : Header) (byte : ℕ) → IsInLog header byte → 2 * SLOT_BYTES ≤ byte
log-past header byte inside = omega (arith, inside.2, entry-past_slots header.bigblocks (entry_at header.undo_first inside.0))

rest-past : (bigblocks : ℕ) (s : Store) (byte : ℕ) → ArePlaced bigblocks s.committed → IsInRest s byte → 2 * SLOT_BYTES ≤ byte
rest-past bigblocks s byte placed inside = page-past bigblocks inside.0 byte (placed inside.0 inside.1 inside.2) inside.4

-- a byte of one of two ranges that are apart
apart-out : (place size place' size' byte : ℕ) → Apart place size place' size' → place ≤ byte → byte < place + size → IsOut (place', size') byte
apart-out place size place' size' byte (inl low) from to = inl (omega (arith, low, to))
apart-out place size place' size' byte (inr high) from to = inr (omega (arith, high, from))

apart-out_back : (place size place' size' byte : ℕ) → Apart place size place' size' → place' ≤ byte → byte < place' + size' → IsOut (place, size) byte
apart-out_back place size place' size' byte (inl low) from to = inr (omega (arith, low, from))
apart-out_back place size place' size' byte (inr high) from to = inl (omega (arith, high, to))

-- entries of a range are different ones
pub entries-differ : (first i n : ℕ) → n ≤ MOST_GROUP_PAGES → i < n → entry_at first i ≢ entry_at first n
entries-differ first i n few less same = omega (arith, few, less, same)

none-out : (byte : ℕ) → IsOut (0, 0) byte
none-out byte = inr (omega arith)

module _ (header : Header) (slot : ℕ) (target : Header) (pages live written : ℕ) (s : Store) where
  abbrev at_position : Position → Flush
  at_position at = flush_at header slot target pages live written at

  undo-needs : (next : ℕ) (b : Bool) → ArePlaced header.bigblocks s.committed → (from byte : ℕ)
      → (byte < 2 * SLOT_BYTES) ⊎ IsInPages s.committed byte
      → IsOut (stage_range (if b then Undo next else UndoSync) (at_position (Undoing from)) (group_of s)) byte
  undo-needs next false placed from byte need = none-out byte
  undo-needs next true placed from byte (inl slots) =
      inl (omega (arith, slots, entry-past_slots header.bigblocks (entry_at header.undo_next written)))
  undo-needs next true placed from byte (inr inside) =
      apart-out (byte_of inside.0) PAGE_BYTES (entry_place header.bigblocks (entry_at header.undo_next written)) UNDO_ENTRY_BYTES byte
      (page-apart header.bigblocks inside.0 (entry_at header.undo_next written) (omega arith) (placed inside.0 inside.1 inside.2)) inside.3.0 inside.3.1

  place-needs : (i : ℕ) (b : Bool) → nat_lt i pages ≡ b → length s.frozen_group ≡ pages → AreFlushPlaces header.bigblocks s
      → ArePlaced header.bigblocks s.committed → (byte : ℕ) → IsInRest s byte ⊎ IsInLog header byte
      → IsOut (stage_range (if b then Place i else PlaceSync) (at_position (Placing i)) (group_of s)) byte
  place-needs i false is len group placed byte need = none-out byte
  place-needs i true is len group placed byte (inr log) =
      apart-out_back (byte_of (slice_index s.frozen_group i)) PAGE_BYTES (entry_place header.bigblocks (entry_at header.undo_first log.0)) UNDO_ENTRY_BYTES byte
      (page-apart header.bigblocks (slice_index s.frozen_group i) (entry_at header.undo_first log.0) (omega arith)
      (group.frozen i (omega (arith, len, ltb-true _ _ is)))) log.2.0 log.2.1
  place-needs i true is len group placed byte (inl rest) =
      apart-out (byte_of rest.0) PAGE_BYTES (byte_of (slice_index s.frozen_group i)) PAGE_BYTES byte
      (pages-apart header.bigblocks rest.0 (slice_index s.frozen_group i) (placed rest.0 rest.1 rest.2) (group.frozen i below) other) rest.4.0 rest.4.1
    where
      below : i < length s.frozen_group
      below = omega (arith, len, ltb-true _ _ is)

      other : rest.0 ≢ slice_index s.frozen_group i
      other same =
          true≢false (sym (ap (λ (k : ℕ). is_member nat_eq s.frozen_group k) same ∙ place-member s.frozen_group i below) ∙ rest.3)

  needs-out_at : (p : Position) → (p ≢ Idle → length s.frozen_group ≡ pages) → AreFlushPlaces header.bigblocks s
      → ArePlaced header.bigblocks s.committed → ArePlaced header.bigblocks s.frozen → (byte : ℕ) → needs_at p (at_position p) s byte
      → IsOut (range_of (at_position p) (group_of s)) byte
  needs-out_at Idle len group committed frozen byte need = none-out byte
  needs-out_at (Undoing from) len group committed frozen byte need =
      undo-needs (next_live (group_of s).was_live from (pages - from)) (nat_lt (next_live (group_of s).was_live from (pages - from)) pages) committed
      from byte need
  needs-out_at (Arming change) len group committed frozen byte (inl inside) =
      change-out change slot byte (pages-past header.bigblocks s.committed byte committed inside)
  needs-out_at (Arming change) len group committed frozen byte (inr log) =
      change-out change slot byte (log-past (armed_header header written) byte log)
  needs-out_at (Placing i) len group committed frozen byte need = place-needs i (nat_lt i pages) refl (len (λ idle. absurd (cc))) group committed byte need
  needs-out_at (Committing change) len group committed frozen byte (inl rest) =
      change-out change slot byte (rest-past header.bigblocks s byte committed rest)
  needs-out_at (Committing change) len group committed frozen byte (inr (inl log)) = change-out change slot byte (log-past header byte log)
  needs-out_at (Committing change) len group committed frozen byte (inr (inr inside)) =
      change-out change slot byte (pages-past header.bigblocks s.frozen byte frozen inside)

  undo-reads : (next : ℕ) (b : Bool) → written ≤ MOST_GROUP_PAGES → (from byte : ℕ) → IsInLog (armed_header header written) byte
      → IsOut (stage_range (if b then Undo next else UndoSync) (at_position (Undoing from)) (group_of s)) byte
  undo-reads next false few from byte log = none-out byte
  undo-reads next true few from byte log =
      apart-out (entry_place header.bigblocks (entry_at header.undo_next log.0)) UNDO_ENTRY_BYTES
      (entry_place header.bigblocks (entry_at header.undo_next written)) UNDO_ENTRY_BYTES byte
      (entries-apart header.bigblocks (entry_at header.undo_next log.0) (entry_at header.undo_next written)
      (entries-differ header.undo_next log.0 written few log.1)) log.2.0 log.2.1

  place-reads : (i : ℕ) (b : Bool) → nat_lt i pages ≡ b → length s.frozen_group ≡ pages → AreFlushPlaces header.bigblocks s
      → IsStrictlyIncreasing s.frozen_group → (byte : ℕ) → IsInPlaced s i byte
      → IsOut (stage_range (if b then Place i else PlaceSync) (at_position (Placing i)) (group_of s)) byte
  place-reads i false is len group up byte inside = none-out byte
  place-reads i true is len group up byte inside =
      apart-out_back (byte_of (slice_index s.frozen_group i)) PAGE_BYTES (byte_of (slice_index s.frozen_group inside.0)) PAGE_BYTES byte
      (pages-apart header.bigblocks (slice_index s.frozen_group i) (slice_index s.frozen_group inside.0) (group.frozen i below)
      (group.frozen inside.0 (omega (arith, below, inside.1))) (differ s.frozen_group up inside.0 i inside.1 below)) inside.4.0 inside.4.1
    where
      below : i < length s.frozen_group
      below = omega (arith, len, ltb-true _ _ is)

  reads-out_at : (p : Position) → (p ≢ Idle → length s.frozen_group ≡ pages) → written ≤ MOST_GROUP_PAGES → AreFlushPlaces header.bigblocks s
      → IsStrictlyIncreasing s.frozen_group → (byte : ℕ) → reads_at p (at_position p) s byte → IsOut (range_of (at_position p) (group_of s)) byte
  reads-out_at Idle len few group up byte none = absurd none
  reads-out_at (Undoing from) len few group up byte log =
      undo-reads (next_live (group_of s).was_live from (pages - from)) (nat_lt (next_live (group_of s).was_live from (pages - from)) pages) few from byte log
  reads-out_at (Arming change) len few group up byte none = absurd none
  reads-out_at (Placing i) len few group up byte inside = place-reads i (nat_lt i pages) refl (len (λ idle. absurd (cc))) group up byte inside
  reads-out_at (Committing change) len few group up byte none = absurd none

  -- the range lies inside the disk
  undo-inside : (next : ℕ) (b : Bool) (from size : ℕ) → IsSize header.bigblocks → HasRoom size header.bigblocks
      → (stage_range (if b then Undo next else UndoSync) (at_position (Undoing from)) (group_of s)).0
      + (stage_range (if b then Undo next else UndoSync) (at_position (Undoing from)) (group_of s)).1 ≤ size
  undo-inside next false from size is room = omega arith
  undo-inside next true from size is room =
      omega (arith, room, entry-within header.bigblocks (entry_at header.undo_next written) is (omega arith))

  place-inside : (i : ℕ) (b : Bool) → nat_lt i pages ≡ b → length s.frozen_group ≡ pages → AreFlushPlaces header.bigblocks s → (size : ℕ)
      → IsSize header.bigblocks → HasRoom size header.bigblocks
      → (stage_range (if b then Place i else PlaceSync) (at_position (Placing i)) (group_of s)).0
      + (stage_range (if b then Place i else PlaceSync) (at_position (Placing i)) (group_of s)).1 ≤ size
  place-inside i false is len group size sized room = omega arith
  place-inside i true is len group size sized room =
      omega (
        arith,
        room,
        page-within header.bigblocks (slice_index s.frozen_group i) sized (group.frozen i (omega (arith, len, ltb-true _ _ is))),
      )

  change-inside : (change : Change) (size : ℕ) → IsSize header.bigblocks → HasRoom size header.bigblocks
      → (change_range change slot).0 + (change_range change slot).1 ≤ size
  change-inside change size is room = omega (arith, is, room, in-slots change slot)

  inside_at : (p : Position) → (p ≢ Idle → length s.frozen_group ≡ pages) → AreFlushPlaces header.bigblocks s → (size : ℕ) → IsSize header.bigblocks
      → HasRoom size header.bigblocks → (range_of (at_position p) (group_of s)).0 + (range_of (at_position p) (group_of s)).1 ≤ size
  inside_at Idle len group size is room = omega arith
  inside_at (Undoing from) len group size is room =
      undo-inside (next_live (group_of s).was_live from (pages - from)) (nat_lt (next_live (group_of s).was_live from (pages - from)) pages) from size is room
  inside_at (Arming change) len group size is room = change-inside change size is room
  inside_at (Placing i) len group size is room = place-inside i (nat_lt i pages) refl (len (λ idle. absurd (cc))) group size is room
  inside_at (Committing change) len group size is room = change-inside change size is room

module _ (f : Flush) (s : Store) (len : f.at ≢ Idle → length s.frozen_group ≡ f.pages) (group : AreFlushPlaces f.header.bigblocks s) where
  pub needs-out : ArePlaced f.header.bigblocks s.committed → ArePlaced f.header.bigblocks s.frozen → (byte : ℕ) → needs_at f.at f s byte
      → IsOut (range_of f (group_of s)) byte
  needs-out committed frozen byte need =
      needs-out_at f.header f.slot f.target f.pages f.live f.written s f.at len group committed frozen byte need

  pub reads-out : f.written ≤ MOST_GROUP_PAGES → IsStrictlyIncreasing s.frozen_group → (byte : ℕ) → reads_at f.at f s byte
      → IsOut (range_of f (group_of s)) byte
  reads-out few up byte read = reads-out_at f.header f.slot f.target f.pages f.live f.written s f.at len few group up byte read

  pub range-inside : (size : ℕ) → IsSize f.header.bigblocks → HasRoom size f.header.bigblocks
      → (range_of f (group_of s)).0 + (range_of f (group_of s)).1 ≤ size
  range-inside size is room = inside_at f.header f.slot f.target f.pages f.live f.written s f.at len group size is room
