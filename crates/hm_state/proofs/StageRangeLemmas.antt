-- Where a stage of a flush writes there is no payload of the three trees, and nothing of the freemap but pages that are committed.
use Rattle.std.proofs.Common.{◌≡◌, ◌≢◌, ◌⊎◌, inl, inr, ℕ, ◌+◌, ◌-◌, ◌<◌, ◌≤◌, Bool, true, false, true≢false, List, [], ◌∷◌, ◌++◌, Option, None, Some, IsSome}
use Rattle.std.proofs.Common.{refl, sym, ap, subst, arith, if◌then◌else◌, is_some, length, map, nat_lt, slice_index}
use Rattle.std.specs.List.{All, Contains}
use Rattle.std.proofs.lemmas.Bool.{cases_lt, ltb-true}
use Rattle.std.proofs.lemmas.List.Elements.{All-contains, All-contains_itself, All-map, All-weaker, Contains-append_left, Contains-append_right}
use Rattle.hm_types.specs.Elements.{FullElement}
use Rattle.hm_types.specs.Layout.{first_pool, first_undo, start_of}
use Rattle.hm_types.specs.Offset.{byte_of, zone_of}
use Rattle.hm_types.specs.References.{DoNotOverlap, IsPlaced, Reference, begin_of}
use Rattle.hm_types.specs.Space.{IsPayloadZone}
use Rattle.hm_types.specs.declared.limits.TheConstants.{PAGE_BYTES}
use Rattle.hm_types.specs.declared.zone.TheConstants.{FREEMAP_ZONE, TREE_ZONE}
use Rattle.hm_disk.specs.Crash.{Outside, Told}
use Rattle.hm_fields.specs.Pages.{PageMap}
use Rattle.hm_freemap.specs.Places.{IsPageOf, page_of}
use Rattle.hm_freemap.specs.Stand.{all_of}
use Rattle.hm_freemap.proofs.BoundLemmas.{placed_low}
use Rattle.hm_freemap.proofs.ListLemmas.{and_right}
use Rattle.hm_pages.specs.Sets.{in_freemap}
use Rattle.hm_pages.specs.Store.{Store}
use Rattle.hm_undo.specs.Entry.{IsUndoPageOf}
use Rattle.hm_undo.specs.Log.{entry_at}
use Rattle.hm_undo.proofs.LogLemmas.{entry-from, entry-to}
use Rattle.hm_flush.specs.declared.change.Change.{Change}
use Rattle.hm_flush.specs.declared.change.Change.TheVariants.{Close, Write, Open}
use Rattle.hm_flush.specs.declared.flush.Flush.{Flush}
use Rattle.hm_flush.specs.declared.flush.Position.{Position}
use Rattle.hm_flush.specs.declared.flush.Position.TheVariants.{Idle, Undoing, Arming, Placing, Committing}
use Rattle.hm_flush.specs.declared.stage.Stage.TheVariants.{Undo, UndoSync, Place, PlaceSync}
use Rattle.hm_flush.specs.Calls.{IsFlushReady}
use Rattle.hm_flush.specs.Change.{change_range}
use Rattle.hm_flush.specs.Flush.{IsFlush, IsGroupAt, due_change}
use Rattle.hm_flush.specs.Group.{group_of, next_live}
use Rattle.hm_flush.specs.Recoverable.{IsInPages}
use Rattle.hm_flush.specs.Stages.{due_stage_at, range_of, stage_range}
use Rattle.hm_flush.proofs.MoveLemmas.{place-member}
use Rattle.hm_search.specs.Tree.{elements_of}
use Rattle.hm_image.specs.Image.{to_node, to_payload}
use Rattle.hm_image.specs.Sound.{IsAmongPayloads}
use Rattle.hm_image.proofs.ApartLemmas.{no_two_overlap}
use Rattle.hm_model.specs.Volume.{Volume}
use Rattle.hm_stored.specs.Basis.{IsFirm, elements_in, nodes, refers, states_of}
use Rattle.hm_stored.specs.Flushed.{AreSoundPages}
use Rattle.hm_stored.specs.Heap.{Heap}
use Rattle.hm_stored.specs.Standing.{basis_now}
use Rattle.hm_state.specs.Flushing.{HoldsFlush}
use Rattle.hm_state.specs.Volume.{HoldsVolume}
use Rattle.hm_state.proofs.KeptLemmas.{page_referred, payload_named}
use Rattle.hm_state.proofs.SameLemmas.{held_firm}

-- no byte that a reference names lies in a range
abbrev pub IsBesideRange : ℕ × ℕ → Reference → Type 0
IsBesideRange range r = (byte : ℕ) → begin_of r ≤ byte → byte < begin_of r + r.len → Outside (range ∷ []) byte

-- ---- where a stage writes

module _ (f : Flush) (s : Store) where
  -- before layer 1, in the log, or where a frozen page belongs
  abbrev pub Kind : Position → ℕ × ℕ → Type 0
  Kind at range =
      (range.0 + range.1 ≤ start_of 1)
      ⊎ ((start_of (first_undo f.header.bigblocks) ≤ range.0) × (range.0 + range.1 ≤ start_of (first_pool f.header.bigblocks)))
      ⊎ ((i : ℕ) × (at ≡ Placing i) × (i < length s.frozen_group) × (range ≡ (byte_of (slice_index s.frozen_group i), PAGE_BYTES)))

  in_slots : (at : Position) (change : Change) → Kind at (change_range change f.slot)
  in_slots at Close = inl (omega arith)
  in_slots at Write = inl (omega arith)
  in_slots at (Open tried) = inl (omega arith)

  saving : (from next : ℕ) (b : Bool) → Kind (Undoing from) (stage_range (if b then Undo next else UndoSync) f (group_of s))
  saving from next false = inl (omega arith)
  saving from next true =
      let entry = entry_at f.header.undo_next f.written in
      inr (inl (entry-from f.header.bigblocks entry, entry-to f.header.bigblocks entry (omega arith)))

  placing : (i : ℕ) (b : Bool) → nat_lt i f.pages ≡ b → length s.frozen_group ≡ f.pages
      → Kind (Placing i) (stage_range (if b then Place i else PlaceSync) f (group_of s))
  placing i false is len = inl (omega arith)
  placing i true is len = inr (inr (i, refl, omega (arith, len, ltb-true _ _ is), refl))

  pub kind_at : (p : Position) → IsGroupAt p f s → Kind p (stage_range (due_stage_at p f (group_of s)) f (group_of s))
  kind_at Idle group = inl (omega arith)
  kind_at (Undoing from) group =
      let next = next_live (group_of s).was_live from (f.pages - from) in
      saving from next (nat_lt next f.pages)
  kind_at (Arming change) group = in_slots (Arming change) (due_change f.at)
  kind_at (Placing i) group = placing i (nat_lt i f.pages) refl group.pages
  kind_at (Committing change) group = in_slots (Committing change) (due_change f.at)

-- while pages are placed a flush is in flight
not_idle : (p : Position) (i : ℕ) → p ≡ Placing i → p ≢ Idle
not_idle p i placing idle = absurd (cc)

-- ---- what stands beside it

module _ (f : Flush) (h : Heap) (flush : IsFlush f) (ready : IsFlushReady f h.pages) (sound : AreSoundPages h.bigblocks h.pages) (t : Told)
    (committed frozen : Volume) (holds : HoldsFlush f h t committed frozen) (root last : ℕ) (volume : Volume)
    (held : HoldsVolume h root last volume) where
  abbrev range : ℕ × ℕ
  range = range_of f (group_of h.pages)

  abbrev es : List FullElement
  es = held.elements.0

  firm : IsFirm (basis_now h root)
  firm = held_firm h root es held.elements.1

  -- what the three trees refer to
  abbrev all : List Reference
  all = all_of (states_of (basis_now h root))

  abbrev current_refs : List Reference
  current_refs = refers h.pages.current root

  abbrev frozen_refs : List Reference
  frozen_refs = refers h.pages.frozen h.roots.frozen

  abbrev committed_refs : List Reference
  committed_refs = refers h.pages.committed h.roots.committed

  current_among : (r : Reference) → Contains current_refs r → Contains all r
  current_among r there = Contains-append_left current_refs (frozen_refs ++ committed_refs) r there

  frozen_among : (r : Reference) → Contains frozen_refs r → Contains all r
  frozen_among r there = Contains-append_right current_refs (frozen_refs ++ committed_refs) r (Contains-append_left frozen_refs committed_refs r there)

  committed_among : (r : Reference) → Contains committed_refs r → Contains all r
  committed_among r there = Contains-append_right current_refs (frozen_refs ++ committed_refs) r (Contains-append_right frozen_refs committed_refs r there)

  frozen_named : f.at ≢ Idle → (r : Reference) → Contains (refers h.pages.frozen f.target.root) r → Contains all r
  frozen_named moving r there = frozen_among r (subst (λ (x : ℕ). Contains (refers h.pages.frozen x) r) (sym (holds.frozen_root moving)) there)

  committed_named : (r : Reference) → Contains (refers h.pages.committed f.header.root) r → Contains all r
  committed_named r there = committed_among r (subst (λ (x : ℕ). Contains (refers h.pages.committed x) r) (sym holds.committed_root) there)

  frozen_there : (i : ℕ) → i < length h.pages.frozen_group → IsSome (h.pages.frozen (slice_index h.pages.frozen_group i))
  frozen_there i below = sound.sound.flush.frozen (slice_index h.pages.frozen_group i) (place-member h.pages.frozen_group i below)

  -- a payload that one of them refers to, and the place of a frozen page
  node_beside : f.at ≢ Idle → (i : ℕ) → i < length h.pages.frozen_group → (r : Reference) → Contains all r → IsPayloadZone (zone_of r.at)
      → start_of (first_pool h.bigblocks) ≤ begin_of r → IsBesideRange (byte_of (slice_index h.pages.frozen_group i), PAGE_BYTES) r
  node_beside moving i below r there zone low byte from to = by_zone (ready.placed.frozen i below) where
    at : ℕ
    at = slice_index h.pages.frozen_group i

    by_overlap : zone_of (slice_index h.pages.frozen_group i) ≡ TREE_ZONE → DoNotOverlap (to_node (slice_index h.pages.frozen_group i)) r
        → Outside ((byte_of (slice_index h.pages.frozen_group i), PAGE_BYTES) ∷ []) byte
    by_overlap tree (inl one) = let other = ap zone_of one.place in absurd (omega (arith, other, tree, zone.0))
    by_overlap tree (inr (inl before)) = (inr (omega (arith, before, from)), tt)
    by_overlap tree (inr (inr after)) = (inl (omega (arith, after, to)), tt)

    by_zone : IsUndoPageOf f.header.bigblocks (slice_index h.pages.frozen_group i)
        → Outside ((byte_of (slice_index h.pages.frozen_group i), PAGE_BYTES) ∷ []) byte
    by_zone is = elim is.zone [
      | inl pool ↦
          let tree = (holds.frozen_is moving).holds.elements.1.firm.tree in
          let node = frozen_named moving (to_node (slice_index h.pages.frozen_group i))
          (page_referred h.pages.frozen f.target.root (slice_index h.pages.frozen_group i) tree pool.0 (frozen_there i below)) in
          by_overlap pool.0 (no_two_overlap all (to_node (slice_index h.pages.frozen_group i)) r firm.stand.apart node there)
      | inr layer ↦ (inr (omega (arith, layer.1.1, is.page, low, from, holds.bigblocks)), tt)
    ]

  beside : (r : Reference) → Contains all r → IsPayloadZone (zone_of r.at) → IsBesideRange range r
  beside r there zone byte from to = by_kind (kind_at f h.pages f.at ready.group) where
    low : start_of (first_pool h.bigblocks) ≤ begin_of r
    low =
        let is = All-contains (IsPlaced h.bigblocks) all r firm.stand.placed there in
        let first = placed_low h.bigblocks r is in
        omega (arith, first, is.pool.0)

    by_kind : Kind f h.pages f.at range → Outside (range ∷ []) byte
    by_kind (inl slots) = (inr (omega (arith, slots, low, from)), tt)
    by_kind (inr (inl log)) = (inr (omega (arith, log.1, low, from, holds.bigblocks)), tt)
    by_kind (inr (inr (i, placing, below, is))) =
        subst (λ (x : ℕ × ℕ). Outside (x ∷ []) byte) (sym is) (node_beside (not_idle f.at i placing) i below r there zone low byte from to)

  payloads_beside : (pages : PageMap) (x : ℕ) → ((r : Reference) → Contains (refers pages x) r → Contains all r)
      → All IsAmongPayloads (elements_of (nodes pages) x) → All (IsBesideRange range) (map to_payload (elements_of (nodes pages) x))
  payloads_beside pages x among zones =
      let own = elements_of (nodes pages) x in
      All-map (IsBesideRange range) to_payload own
      (All-weaker (Contains own) (λ e. IsBesideRange range (to_payload e))
      (λ e there. beside (to_payload e) (among (to_payload e) (payload_named pages x e there)) (All-contains IsAmongPayloads own e zones there))
      own (All-contains_itself own))

  -- of the tree that is committed, of the frozen one, and of the one that calls see
  pub committed_beside : All (IsBesideRange range) (map to_payload (elements_of (nodes h.pages.committed) f.header.root))
  committed_beside = payloads_beside h.pages.committed f.header.root committed_named holds.committed_is.holds.elements.1.firm.zones

  pub frozen_beside : f.at ≢ Idle → All (IsBesideRange range) (map to_payload (elements_of (nodes h.pages.frozen) f.target.root))
  frozen_beside moving =
      payloads_beside h.pages.frozen f.target.root (frozen_named moving) (holds.frozen_is moving).holds.elements.1.firm.zones

  pub current_beside : All (IsBesideRange range) (map to_payload (elements_in (basis_now h root)))
  current_beside = payloads_beside h.pages.current root current_among firm.zones

  -- a frozen page of layer 2 is committed too
  entries_beside : f.at ≢ Idle → (i : ℕ) → i < length h.pages.frozen_group → (byte : ℕ) → byte < start_of (first_undo h.bigblocks)
      → ¬ IsInPages h.pages.committed byte → Outside ((byte_of (slice_index h.pages.frozen_group i), PAGE_BYTES) ∷ []) byte
  entries_beside moving i below byte to none = by_zone (ready.placed.frozen i below) where
    by_page : (o : Option (List ℕ)) → h.pages.committed (slice_index h.pages.frozen_group i) ≡ o → is_some o ≡ true
        → Outside ((byte_of (slice_index h.pages.frozen_group i), PAGE_BYTES) ∷ []) byte
    by_page None is there = absurd (true≢false (sym there))
    by_page (Some page) is there =
        let at = slice_index h.pages.frozen_group i in
        elim (cases_lt byte (byte_of at)) [
          | inl before ↦ (inl before, tt)
          | inr from ↦ elim (cases_lt byte (byte_of at + PAGE_BYTES)) [
            | inl inside ↦ absurd (none (at, page, is, (from, inside)))
            | inr after ↦ (inr after, tt)
          ]
        ]

    committed_there : zone_of (slice_index h.pages.frozen_group i) ≡ FREEMAP_ZONE
        → (zone_of (slice_index h.pages.frozen_group i) ≡ TREE_ZONE) ⊎ IsPageOf f.target.bigblocks (slice_index h.pages.frozen_group i)
        → IsSome (h.pages.committed (slice_index h.pages.frozen_group i))
    committed_there zone (inl tree) = absurd (omega (arith, zone, tree))
    committed_there zone (inr (block, low, here)) =
        let both = sound.layer2 block (omega (arith, low, flush.bigblocks, holds.bigblocks)) in
        subst (λ (x : ℕ). IsSome (h.pages.committed x)) (sym here)
        (and_right (in_freemap (page_of block)) (is_some (h.pages.committed (page_of block))) both)

    by_zone : IsUndoPageOf f.header.bigblocks (slice_index h.pages.frozen_group i)
        → Outside ((byte_of (slice_index h.pages.frozen_group i), PAGE_BYTES) ∷ []) byte
    by_zone is = elim is.zone [
      | inl pool ↦ (inl (omega (arith, pool.1.0, to, holds.bigblocks)), tt)
      | inr layer ↦
          let only = (holds.frozen_is moving).only (slice_index h.pages.frozen_group i) (frozen_there i below) in
          by_page (h.pages.committed (slice_index h.pages.frozen_group i)) refl (committed_there layer.0 only)
    ]

  -- so is what of the freemap no committed page has
  pub freemap_beside : (byte : ℕ) → start_of 1 ≤ byte → byte < start_of (first_undo h.bigblocks) → ¬ IsInPages h.pages.committed byte
      → Outside (range ∷ []) byte
  freemap_beside byte from to none = by_kind (kind_at f h.pages f.at ready.group) where
    by_kind : Kind f h.pages f.at range → Outside (range ∷ []) byte
    by_kind (inl slots) = (inr (omega (arith, slots, from)), tt)
    by_kind (inr (inl log)) = (inl (omega (arith, log.0, to, holds.bigblocks)), tt)
    by_kind (inr (inr (i, placing, below, is))) =
        subst (λ (x : ℕ × ℕ). Outside (x ∷ []) byte) (sym is) (entries_beside (not_idle f.at i placing) i below byte to none)
