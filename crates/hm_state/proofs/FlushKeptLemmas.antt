-- What a flush holds hangs on fixed bytes: what lies before the pool, and what the committed and the frozen tree refer to.
use Rattle.std.proofs.Common.{◌≡◌, ◌≢◌, ◌⊎◌, inl, inr, ℕ, ◌+◌, ◌*◌, ◌<◌, ◌≤◌, true, List, Option, Some, IsSome}
use Rattle.std.proofs.Common.{refl, sym, ap, subst, ◌∙◌, arith, is_some, length, slice_index}
use Rattle.std.specs.List.{All, Contains}
use Rattle.std.proofs.lemmas.List.Elements.{All-contains, All-contains_itself, All-map, All-weaker}
use Rattle.hm_types.specs.Layout.{first_pool, start_of}
use Rattle.hm_types.specs.Offset.{byte_of}
use Rattle.hm_types.specs.References.{Reference, begin_of}
use Rattle.hm_types.specs.declared.limits.TheConstants.{PAGE_BYTES}
use Rattle.hm_disk.specs.Crash.{Outside, Told, is_outside}
use Rattle.hm_disk.proofs.CrashLemmas.{is_outside-from, is_outside-is}
use Rattle.hm_fields.specs.Pages.{PageMap}
use Rattle.hm_freemap.specs.Places.{page_of}
use Rattle.hm_header.specs.declared.header.Header.{Header}
use Rattle.hm_pages.specs.Calls.{IsSameFlush}
use Rattle.hm_pages.specs.Store.{Store}
use Rattle.hm_undo.specs.Entry.{IsUndoPageOf}
use Rattle.hm_flush.specs.declared.flush.Flush.{Flush}
use Rattle.hm_flush.specs.declared.flush.Position.{Position}
use Rattle.hm_flush.specs.declared.flush.Position.TheVariants.{Idle, Undoing, Arming, Placing, Committing}
use Rattle.hm_flush.specs.Ends.{as_read}
use Rattle.hm_flush.specs.Guard.{ArePlaced, Guards, IsGuarded, guarded_at, read_at}
use Rattle.hm_flush.specs.Recoverable.{IsInPages}
use Rattle.hm_flush.proofs.SameGuardLemmas.{guards-same}
use Rattle.hm_btree.specs.Tree.{IsTreeSpace}
use Rattle.hm_search.specs.Tree.{elements_of}
use Rattle.hm_image.specs.Image.{bytes_at, pages_of, to_node, to_payload}
use Rattle.hm_image.specs.Same.{HasSameBytes}
use Rattle.hm_image.proofs.PartLemmas.{part_same}
use Rattle.hm_model.specs.Volume.{Volume}
use Rattle.hm_stored.specs.Basis.{nodes, refers}
use Rattle.hm_stored.specs.Fixed.{is_fixed}
use Rattle.hm_stored.specs.Heap.{Frame, Heap, begun_content, frame_of}
use Rattle.hm_state.specs.Flushing.{ArePayloadsSettled, HoldsFlush, HoldsOutside, IsSettledAt, IsWholeState}
use Rattle.hm_state.proofs.CommittedLemmas.{byte_same, committed_among, frozen_among, known, low_fixed, named_fixed, page_low, refs, settled_same, size_same}
use Rattle.hm_state.proofs.CourseLemmas.{logged_flies, same_state}
use Rattle.hm_state.proofs.KeptLemmas.{page_referred, payload_named}
use Rattle.hm_state.proofs.StageHeldLemmas.{payloads, whole_moved}

-- ---- at rest the guard does not hang on the frozen pages

module _ (f : Flush) (s : Store) (pages : PageMap) where
  abbrev swapped : Store
  swapped = record s { frozen = pages }

  crash_swapped : (p : Position) → p ≡ Idle → (image : List ℕ) → guarded_at p f s image → guarded_at p f swapped image
  crash_swapped Idle is image was = was
  crash_swapped (Undoing from) is image was = was
  crash_swapped (Arming change) is image was = absurd (cc)
  crash_swapped (Placing i) is image was = absurd (cc)
  crash_swapped (Committing change) is image was = absurd (cc)

  read_swapped : (p : Position) → p ≡ Idle → (bytes : List ℕ) → read_at p f s bytes → read_at p f swapped bytes
  read_swapped Idle is bytes was = tt
  read_swapped (Undoing from) is bytes was = absurd (cc)
  read_swapped (Arming change) is bytes was = absurd (cc)
  read_swapped (Placing i) is bytes was = absurd (cc)
  read_swapped (Committing change) is bytes was = absurd (cc)

  guards_swapped : (t : Told) → f.at ≡ Idle → ArePlaced f.header.bigblocks pages → Guards f s t → Guards f swapped t
  guards_swapped t idle placed guards = record {
    stands = guards.stands;
    committed = guards.committed;
    frozen = placed;
    unarmed = guards.unarmed;
    crash = λ image left. crash_swapped f.at idle image (guards.crash image left);
    read = read_swapped f.at idle t.bytes guards.read;
  }

same_flush : (s : Store) → IsSameFlush s s
same_flush s = record { committed = refl; frozen = refl; frozen_group = refl; boundary = refl }

in_flight : (p : Position) → (p ≡ Idle) ⊎ (p ≢ Idle)
in_flight Idle = inl refl
in_flight (Undoing from) = inr (λ idle. absurd (cc))
in_flight (Arming change) = inr (λ idle. absurd (cc))
in_flight (Placing i) = inr (λ idle. absurd (cc))
in_flight (Committing change) = inr (λ idle. absurd (cc))

-- ---- another disk with the same fixed bytes

-- each byte that a reference names is fixed, and that each of these names
abbrev IsFixedAt : (ℕ → Type 0) → Reference → Type 0
IsFixedAt Fixed r = (byte : ℕ) → begin_of r ≤ byte → byte < begin_of r + r.len → Fixed byte

abbrev AreFixedIn : (ℕ → Type 0) → List Reference → Type 0
AreFixedIn Fixed rs = (r : Reference) → Contains rs r → IsFixedAt Fixed r

module _ (f : Flush) (h : Heap) (s t : Told) (committed frozen : Volume) (holds : HoldsFlush f h s committed frozen) (Fixed : ℕ → Type 0)
    (low : (byte : ℕ) → byte < start_of (first_pool h.bigblocks) → Fixed byte) (own : AreFixedIn Fixed (refers h.pages.committed h.roots.committed))
    (other : AreFixedIn Fixed (refers h.pages.frozen h.roots.frozen)) (size : length t.bytes ≡ length s.bytes)
    (bytes : (byte : ℕ) → Fixed byte → slice_index t.bytes byte ≡ slice_index s.bytes byte)
    (settled : (byte : ℕ) → Fixed byte → is_outside t.unsettled byte ≡ is_outside s.unsettled byte) where
  own_fixed : AreFixedIn Fixed (refers h.pages.committed f.header.root)
  own_fixed = subst (λ (x : ℕ). AreFixedIn Fixed (refers h.pages.committed x)) holds.committed_root own

  other_fixed : f.at ≢ Idle → AreFixedIn Fixed (refers h.pages.frozen f.target.root)
  other_fixed moving = subst (λ (x : ℕ). AreFixedIn Fixed (refers h.pages.frozen x)) (holds.frozen_root moving) other

  settled_on : (byte : ℕ) → Fixed byte → Outside s.unsettled byte → Outside t.unsettled byte
  settled_on byte fixed was = is_outside-is t.unsettled byte (settled byte fixed ∙ is_outside-from s.unsettled byte was)

  -- a state by itself
  module _ (header : Header) (pages : PageMap) (fixed : AreFixedIn Fixed (refers pages header.root)) where
    abbrev own_payloads : List Reference
    own_payloads = payloads pages header.root

    payloads_fixed : All (IsFixedAt Fixed) own_payloads
    payloads_fixed =
        let es = elements_of (nodes pages) header.root in
        All-map (IsFixedAt Fixed) to_payload es
        (All-weaker (Contains es) (λ e. IsFixedAt Fixed (to_payload e)) (λ e there. fixed (to_payload e) (payload_named pages header.root e there))
        es (All-contains_itself es))

    payloads_same : All (HasSameBytes s.bytes t.bytes) own_payloads
    payloads_same =
        All-weaker (IsFixedAt Fixed) (HasSameBytes s.bytes t.bytes)
        (λ r is. part_same s.bytes t.bytes (begin_of r) (begin_of r + r.len) size (λ byte from to. bytes byte (is byte from to)))
        own_payloads payloads_fixed

    state_on : (volume : Volume) → IsWholeState s header pages volume → IsWholeState t header pages volume
    state_on volume was = whole_moved s t header header pages volume (same_state header) payloads_same was

    payloads_on : ArePayloadsSettled s pages header.root → ArePayloadsSettled t pages header.root
    payloads_on was =
        All-weaker (Contains own_payloads) (IsSettledAt t)
        (λ r there byte from to.
        settled_on byte (All-contains (IsFixedAt Fixed) own_payloads r payloads_fixed there byte from to)
        (All-contains (IsSettledAt s) own_payloads r was there byte from to))
        own_payloads (All-contains_itself own_payloads)

    -- its pages are fixed
    pages_fixed : IsTreeSpace (nodes pages) header.root → ArePlaced f.header.bigblocks pages → (byte : ℕ) → IsInPages pages byte → Fixed byte
    pages_fixed tree placed byte (at, page, is, inside) = by_zone (placed at page is) where
      by_zone : IsUndoPageOf f.header.bigblocks at → Fixed byte
      by_zone one = elim one.zone [
        | inl pool ↦
            fixed (to_node at) (page_referred pages header.root at tree pool.0 (ap (λ (o : Option (List ℕ)). is_some o) is)) byte inside.0 inside.1
        | inr layer ↦ low byte (omega (arith, layer.1.1, one.page, inside.1, holds.bigblocks))
      ]

  outside_on : HoldsOutside t h.bigblocks h.pages.committed
  outside_on = record {
    size = omega (arith, size, holds.outside.size);
    layer1 = λ i few.
        part_same s.bytes t.bytes (start_of 1 + 32 * i) (start_of 1 + 32 * i + 32) size
        (λ byte from to. bytes byte (low byte (omega (arith, to, few)))) ∙ holds.outside.layer1 i few;
    past = λ block few none.
        let was = holds.outside.past block few none in
        let place = page_low h.bigblocks block few in
        let same : bytes_at t.bytes (page_of block) PAGE_BYTES ≡ bytes_at s.bytes (page_of block) PAGE_BYTES =
        part_same s.bytes t.bytes (byte_of (page_of block)) (byte_of (page_of block) + PAGE_BYTES) size
        (λ byte from to. bytes byte (low byte (omega (arith, to, place)))) in
        let whole : pages_of t.bytes (page_of block) ≡ pages_of s.bytes (page_of block) = rw (size, same) refl in
        record { page = was.page; there = whole ∙ was.there; spelled = was.spelled };
    settled = λ byte from to none. settled_on byte (low byte (omega (arith, to))) (holds.outside.settled byte from to none);
  }

  own_tree : IsTreeSpace (nodes h.pages.committed) f.header.root
  own_tree = holds.committed_is.holds.elements.1.firm.tree

  -- the guard of a store that has these committed pages
  guards_with : (pages : PageMap) → ((byte : ℕ) → IsInPages pages byte → Fixed byte) → Guards f (record h.pages { frozen = pages }) s
      → Guards f (record h.pages { frozen = pages }) t
  guards_with pages fixed guards =
      guards-same f (record h.pages { frozen = pages }) (record h.pages { frozen = pages }) s t (same_flush (record h.pages { frozen = pages }))
      (record {
        size = size;
        bytes = λ byte is. bytes byte (guarded byte is);
        settled = λ byte is. settled byte (guarded byte is);
      }) guards where
        guarded : (byte : ℕ) → IsGuarded f.header.bigblocks (record h.pages { frozen = pages }) byte → Fixed byte
        guarded byte (inl before) = low byte (omega (arith, before, holds.bigblocks))
        guarded byte (inr (inl inside)) = pages_fixed f.header h.pages.committed own_fixed own_tree holds.guarded.committed byte inside
        guarded byte (inr (inr inside)) = fixed byte inside

  guards_on : Guards f h.pages t
  guards_on = elim (in_flight f.at) [
    | inl idle ↦
        let plain = record h.pages { frozen = h.pages.committed } in
        let mine = pages_fixed f.header h.pages.committed own_fixed own_tree holds.guarded.committed in
        guards_swapped f plain h.pages.frozen t idle holds.guarded.frozen
        (guards_with h.pages.committed mine (guards_swapped f h.pages h.pages.committed s idle holds.guarded.committed holds.guarded))
    | inr moving ↦
        let tree = (holds.frozen_is moving).holds.elements.1.firm.tree in
        guards_with h.pages.frozen (pages_fixed f.target h.pages.frozen (other_fixed moving) tree holds.guarded.frozen) holds.guarded
  ]

  pub holds_on : HoldsFlush f h t committed frozen
  holds_on = record {
    bigblocks = holds.bigblocks;
    guarded = guards_on;
    committed_is = state_on f.header h.pages.committed own_fixed committed holds.committed_is;
    committed_root = holds.committed_root;
    committed_settled = payloads_on f.header h.pages.committed own_fixed holds.committed_settled;
    frozen_is = λ moving. state_on f.target h.pages.frozen (other_fixed moving) frozen (holds.frozen_is moving);
    frozen_root = holds.frozen_root;
    frozen_settled = λ logged. payloads_on f.target h.pages.frozen (other_fixed (logged_flies f.at logged)) (holds.frozen_settled logged);
    outside = outside_on;
  }

-- ---- another space with the same pages

module _ (f : Flush) (old new : Heap) (t : Told) (committed frozen : Volume) (flush : IsSameFlush old.pages new.pages)
    (bigblocks : new.bigblocks ≡ old.bigblocks) (committed_root : new.roots.committed ≡ old.roots.committed)
    (frozen_root : new.roots.frozen ≡ old.roots.frozen) (holds : HoldsFlush f old t committed frozen) where
  pub holds_same_flush : HoldsFlush f new t committed frozen
  holds_same_flush = record {
    bigblocks = bigblocks ∙ holds.bigblocks;
    guarded = guards-same f old.pages new.pages t t flush (record { size = refl; bytes = λ byte is. refl; settled = λ byte is. refl }) holds.guarded;
    committed_is = subst (λ (m : PageMap). IsWholeState t f.header m committed) (sym flush.committed) holds.committed_is;
    committed_root = committed_root ∙ holds.committed_root;
    committed_settled = subst (λ (m : PageMap). ArePayloadsSettled t m f.header.root) (sym flush.committed) holds.committed_settled;
    frozen_is = λ moving. subst (λ (m : PageMap). IsWholeState t f.target m frozen) (sym flush.frozen) (holds.frozen_is moving);
    frozen_root = λ moving. frozen_root ∙ holds.frozen_root moving;
    frozen_settled = λ logged. subst (λ (m : PageMap). ArePayloadsSettled t m f.target.root) (sym flush.frozen) (holds.frozen_settled logged);
    outside = subst (λ (n : ℕ). HoldsOutside t n new.pages.committed) (sym bigblocks)
        (subst (λ (m : PageMap). HoldsOutside t old.bigblocks m) (sym flush.committed) holds.outside);
  }

-- ---- calls

module _ (f : Flush) (old new : Heap) (s t : Told) (committed frozen : Volume) (same : frame_of new ≡ frame_of old) (was : old.disk ≡ Some s)
    (is : new.disk ≡ Some t) (told : IsSome (begun_content old)) where
  -- a byte that no call touches
  abbrev IsKept : ℕ → Type 0
  IsKept byte = is_fixed old.bigblocks (known old new same) (refs old new same) byte ≡ true

  low : (byte : ℕ) → byte < start_of (first_pool old.bigblocks) → IsKept byte
  low byte below = low_fixed old.bigblocks (known old new same) (refs old new same) byte below

  own : AreFixedIn IsKept (refers old.pages.committed old.roots.committed)
  own r there byte from to =
      named_fixed old.bigblocks (known old new same) (refs old new same) r byte told (committed_among old new same told r there) from to

  other : AreFixedIn IsKept (refers old.pages.frozen old.roots.frozen)
  other r there byte from to =
      named_fixed old.bigblocks (known old new same) (refs old new same) r byte told (frozen_among old new same told r there) from to

  -- the space after the calls, over any disk
  moved : (d : Told) → HoldsFlush f old d committed frozen → HoldsFlush f new d committed frozen
  moved d holds = holds_same_flush f old new d committed frozen (record {
    committed = ap (λ (x : Frame). x.pages.committed) same;
    frozen = ap (λ (x : Frame). x.pages.frozen) same;
    frozen_group = ap (λ (x : Frame). x.pages.frozen_group) same;
    boundary = ap (λ (x : Frame). x.pages.boundary) same;
  }) (ap (λ (x : Frame). x.bigblocks) same) (ap (λ (x : Frame). x.roots.committed) same) (ap (λ (x : Frame). x.roots.frozen) same) holds

  pub told_kept : HoldsFlush f old s committed frozen → HoldsFlush f new t committed frozen
  told_kept holds =
      moved t (holds_on f old s t committed frozen holds IsKept low own other (size_same old new same s t was is) (byte_same old new same s t was is)
      (settled_same old new same s t was is))

  pub read_kept : HoldsFlush f old (as_read s) committed frozen → HoldsFlush f new (as_read t) committed frozen
  read_kept holds =
      moved (as_read t) (holds_on f old (as_read s) (as_read t) committed frozen holds IsKept low own other (size_same old new same s t was is)
      (byte_same old new same s t was is) (λ byte fixed. refl))
