-- The space over the pages that were loaded from a sound image holds the volume of the image.
use Rattle.std.proofs.Common.{◌≡◌, ◌⊎◌, true≢false, ℕ, ◌+◌, ◌*◌, ◌^◌, ◌<◌, ◌≤◌, Bool, true, cond, List, Option, Some, None, IsSome, refl, sym, ap}
use Rattle.std.proofs.Common.{subst, ◌∙◌, arith}
use Rattle.std.proofs.Common.{length, map, pos, slice_index, is_some, ◌+ℤ◌}
use Rattle.std.specs.Prelude.{IfSome}
use Rattle.std.specs.List.{All, Contains}
use Rattle.std.proofs.lemmas.List.Elements.{All-contains, All-contains_itself, All-weaker}
use Rattle.hm_types.specs.Layout.{IsPool, blocks_per_layer2, layer2_blocks, start_of}
use Rattle.hm_types.specs.Offset.{zone_of}
use Rattle.hm_types.specs.References.{AreFew, IsPlaced, NoneOverlap, Reference, end_of, free_blocks, live_bytes}
use Rattle.hm_types.specs.declared.limits.TheConstants.{BIGBLOCK_BYTES}
use Rattle.hm_types.specs.declared.zone.TheConstants.{TREE_ZONE}
use Rattle.hm_disk.specs.Crash.{Told}
use Rattle.hm_fields.specs.Fields.{AreBytes}
use Rattle.hm_fields.specs.Pages.{PageMap, page_in}
use Rattle.hm_header.specs.OnDisk.{HasHeader, first_slot, second_slot}
use Rattle.hm_header.specs.declared.header.Header.{Header}
use Rattle.hm_header.proofs.SlotLemmas.{chosen_is_one}
use Rattle.hm_key.specs.declared.element.Element.{Element}
use Rattle.hm_search.specs.Tree.{elements_of}
use Rattle.hm_btree.specs.Tree.{IsTreeSpace}
use Rattle.hm_freemap.specs.Entry.{SpellsEntry, entry_in}
use Rattle.hm_freemap.specs.Places.{IsPageOf, page_of, place_of}
use Rattle.hm_freemap.specs.Stand.{AreAppended, IsBelow, StandBy, Tells, entry_of, entry_page, free_by, home_of}
use Rattle.hm_freemap.specs.declared.entry.Entry.{Entry}
use Rattle.hm_freemap.proofs.BoundLemmas.{live_few}
use Rattle.hm_freemap.proofs.FreeLemmas.{free_same}
use Rattle.hm_freemap.proofs.ListLemmas.{and_right}
use Rattle.hm_freemap.proofs.SpellLemmas.{entry_back}
use Rattle.hm_model.specs.Volume.{Volume}
use Rattle.hm_pages.specs.Sets.{in_freemap}
use Rattle.hm_pages.specs.Store.{Store}
use Rattle.hm_image.specs.Image.{elements_from, full_of, pages_of, references_from, to_payload}
use Rattle.hm_image.specs.Same.{HasSameBytes}
use Rattle.hm_image.specs.Sound.{HasEntry, HasLayer1, IsAmongPayloads, IsFilled, IsSoundBy}
use Rattle.hm_image.specs.StandFor.{StandFor}
use Rattle.hm_image.specs.Stands.{StandsFor}
use Rattle.hm_load.specs.Freemap.{HoldsEntryOf}
use Rattle.hm_load.specs.Held.{HoldsImage}
use Rattle.hm_load.specs.Loaded.{IsLoaded}
use Rattle.hm_load.proofs.TreeLemmas.{Keeps, same_there}
use Rattle.hm_stored.specs.Basis.{AreFixed, Basis, IsFirm, entry_outside, fulls_in, nodes, refers}
use Rattle.hm_stored.specs.Heap.{free_of, heap_of}
use Rattle.hm_stored.specs.Held.{AreOfVolume}
use Rattle.hm_stored.specs.Mounted.{IsBooksOf}
use Rattle.hm_stored.specs.Standing.{basis_now}
use Rattle.hm_stored.specs.declared.books.Books.{Books}
use Rattle.hm_state.specs.Free.{free_in}
use Rattle.hm_state.specs.Volume.{HoldsVolume}
use Rattle.hm_state.specs.Written.{IsHeaderOf, IsWritten}
use Rattle.hm_state.proofs.FreeLemmas.{free_fits, free_sum}
use Rattle.hm_state.proofs.KeptLemmas.{all_kept, nodes_keep, references_kept}
use Rattle.hm_state.proofs.ListLemmas.{all_thrice, apart_thrice}
use Rattle.hm_state.proofs.OutsideLemmas.{outside_is}

-- a volume whose three states are one
abbrev plain : Header → PageMap → Basis
plain header current = record {
  bigblocks = header.bigblocks;
  append = header.append;
  maps = record { committed = current; frozen = current; current = current };
  roots = record { committed = header.root; frozen = header.root; current = header.root };
}

module _ (image : List ℕ) (header : Header) (sound : IsSoundBy image header) (current : PageMap) (keeps : Keeps current (pages_of image))
    (there : (block : ℕ) → block < header.bigblocks → IsSome (current (page_of block)))
    (held : (block : ℕ) → block < header.bigblocks → HoldsEntryOf header block (entry_page current block))
    (tree : IsTreeSpace (nodes current) header.root) where
  abbrev refs : List Reference
  refs = refers current header.root

  abbrev named : List Reference
  named = references_from (pages_of image) header.root

  refs_same : named ≡ refs
  refs_same = references_kept (nodes current) (pages_of image) header.root (nodes_keep current (pages_of image) keeps) tree.sound

  es_same : elements_of (pages_of image) header.root ≡ elements_of (nodes current) header.root
  es_same = all_kept (nodes current) (pages_of image) header.root (nodes_keep current (pages_of image) keeps) tree.sound

  -- what the entry of a big-block leaves free
  free : (block : ℕ) → IsPool header.bigblocks block → (sound.entries block).bytes_free +ℤ pos (live_bytes named block) ≡ pos BIGBLOCK_BYTES
  free block pool = free_sum (sound.entries block).bytes_free (live_bytes named block) (sound.free_bytes block pool)

  -- the entry in the map is the one in the image
  entry_same : (block : ℕ) → IsPool header.bigblocks block → entry_of current block ≡ sound.entries block
  entry_same block pool =
      let below : block < layer2_blocks header.bigblocks * blocks_per_layer2 = omega (arith, pool.1) in
      let each = sound.layer2.each block below in
      let few = live_few header.bigblocks block named sound.extents.placed sound.extents.apart sound.extents.few in
      let fits = free_fits (sound.entries block).bytes_free (live_bytes named block) (free block pool) (omega (arith, few)) in
      let page : entry_page current block ≡ each.0.page =
      ap page_in (sym (same_there current (pages_of image) (page_of block) keeps (there block pool.1)) ∙ each.0.there) in
      ap (λ (p : List ℕ). entry_in p (place_of block)) page
      ∙ entry_back each.0.page (place_of block) (sound.entries block) each.1.entry fits each.0.spelled

  tells : Tells header.bigblocks current refs
  tells block pool = record {
    entry = record { entry = (held block pool.1).entry.pool pool; zero = (held block pool.1).zero };
    free = subst (λ (e : Entry). e.bytes_free +ℤ pos (live_bytes refs block) ≡ pos BIGBLOCK_BYTES) (sym (entry_same block pool))
        (subst (λ (rs : List Reference). (sound.entries block).bytes_free +ℤ pos (live_bytes rs block) ≡ pos BIGBLOCK_BYTES) refs_same (free block pool));
  }

  appended : AreAppended header.bigblocks header.append current
  appended = record {
    four = sound.counts.in_range.four;
    pool = λ k low. (sound.counts.in_range.append k low).0;
    zone = λ k low.
        ap (λ (e : Entry). e.zone) (entry_same (slice_index header.append k) (sound.counts.in_range.append k low).0) ∙ sound.layer2.appended k low;
  }

  is_below : (r : Reference) → IsPlaced header.bigblocks r → IsFilled sound.entries r → IsBelow current r
  is_below r placed filled =
      let same = entry_same (home_of r) placed.pool in
      record {
        zone = ap (λ (e : Entry). e.zone) same ∙ filled.zone;
        end = subst (λ (e : Entry). end_of r ≤ start_of (home_of r) + e.append_off) (sym same) filled.filled;
      }

  below : All (IsBelow current) refs
  below = subst (All (IsBelow current)) refs_same
      (All-weaker (Contains named) (IsBelow current)
      (λ r at.
      is_below r (All-contains (IsPlaced header.bigblocks) named r sound.extents.placed at)
      (All-contains (IsFilled sound.entries) named r sound.extents.filled at))
      named (All-contains_itself named))

  stand : StandBy header.bigblocks header.append (plain header current).maps (record { committed = refs; frozen = refs; current = refs })
  stand =
      let few = subst AreFew refs_same sound.extents.few in
      record {
        committed = tells;
        frozen = tells;
        current = tells;
        appended = appended;
        placed = all_thrice (IsPlaced header.bigblocks) refs (subst (All (IsPlaced header.bigblocks)) refs_same sound.extents.placed);
        below = all_thrice (IsBelow current) refs below;
        apart = apart_thrice refs (subst NoneOverlap refs_same sound.extents.apart);
        few = (few, few, few);
      }

  -- a big-block outside the pool has the entry that it must
  outside_has : (block : ℕ) → block < layer2_blocks header.bigblocks * blocks_per_layer2 → ¬ IsPool header.bigblocks block
      → HasEntry image block (entry_outside header.bigblocks block)
  outside_has block low outside =
      let each = sound.layer2.each block low in
      record {
        page = each.0.page;
        there = each.0.there;
        spelled = subst (λ (e : Entry). SpellsEntry each.0.page (place_of block) e)
            (outside_is header.bigblocks block outside (sound.entries block) each.1) each.0.spelled;
      }

  fixed : AreFixed header.bigblocks current
  fixed block low outside = by_page (current (page_of block)) refl where
    by_page : (o : Option (List ℕ)) → current (page_of block) ≡ o
        → IfSome o (λ page. SpellsEntry page (place_of block) (entry_outside header.bigblocks block))
    by_page None is = tt
    by_page (Some page) is =
        let has = outside_has block low outside in
        let both : Some has.page ≡ Some page = sym has.there ∙ keeps (page_of block) page is in
        let same : has.page ≡ page = cc in
        subst (λ (p : List ℕ). SpellsEntry p (place_of block) (entry_outside header.bigblocks block)) same has.spelled

  -- no page with an entry of the pool is missing
  pub plain_past : (block : ℕ) → block < layer2_blocks header.bigblocks * blocks_per_layer2 → current (page_of block) ≡ None
      → HasEntry image block (entry_outside header.bigblocks block)
  plain_past block low none =
      outside_has block low (λ pool. true≢false (sym (there block pool.1) ∙ ap (λ (o : Option (List ℕ)). is_some o) none))

  pub plain_firm : IsFirm (plain header current)
  plain_firm = record { tree = tree; stand = stand; zones = subst (All IsAmongPayloads) es_same sound.extents.zones; fixed = fixed }

  pub plain_fulls : fulls_in (plain header current) image ≡ elements_from image header.root
  plain_fulls = ap (λ (es : List Element). map (full_of image) es) (sym es_same)

-- the books of a space as it is mounted are those of its header
module _ (header : Header) (s : Store) (books : Books) (loaded : IsLoaded header s) (is : IsBooksOf header books) where
  pub basis_is : (told : Option Told) → basis_now (heap_of s told books) header.root ≡ plain header s.current
  unfolding heap_of
  basis_is told =
      by_parts books.bigblocks books.append s.committed s.frozen books.roots.committed books.roots.frozen is.bigblocks is.append.1
      (sym loaded.plain.current) (loaded.plain.frozen ∙ sym loaded.plain.current) is.roots.0 is.roots.1 where
        by_parts : (n : ℕ) (a : List ℕ) (c f : PageMap) (x y : ℕ) → n ≡ header.bigblocks → a ≡ header.append → c ≡ s.current → f ≡ s.current
            → x ≡ header.root → y ≡ header.root → record {
              bigblocks = n;
              append = a;
              maps = record { committed = c; frozen = f; current = s.current };
              roots = record { committed = x; frozen = y; current = header.root };
            } ≡ plain header s.current
        by_parts n a c f x y first second third fourth fifth sixth = rw (first, second, third, fourth, fifth, sixth) refl

-- the pages of layer 2 are there
layer2_there : (header : Header) (s : Store) → IsLoaded header s → (block : ℕ) → block < header.bigblocks → IsSome (s.current (page_of block))
layer2_there header s loaded block below =
    subst (λ (pages : PageMap). IsSome (pages (page_of block))) (sym loaded.plain.current)
    (and_right (in_freemap (page_of block)) (is_some (s.committed (page_of block))) (loaded.layer2 block below))

-- two headers of an image are one
header_sound : (image : List ℕ) (header : Header) (slot : ℕ) (volume : Volume) → (stands : StandsFor image volume) → HasHeader image header slot
    → stands.header ≡ header
header_sound image header slot volume stands counts =
    (chosen_is_one (first_slot image) (second_slot image) (length image) stands.header header stands.sound.slot slot stands.sound.counts counts).0

-- the header of a volume is that of its space
pub mounted_header : (told : Option Told) (header : Header) (s : Store) (books : Books) → IsBooksOf header books
    → IsHeaderOf (heap_of s told books) header.root header.last.0 header
unfolding heap_of
mounted_header told header s books is = record { bigblocks = sym is.bigblocks; append = sym is.append.1; root_is = refl; last_is = refl }

-- and its pages are nodes, or of layer 2
pub mounted_pages : (told : Option Told) (header : Header) (s : Store) (books : Books) → IsLoaded header s → IsBooksOf header books
    → AreOfVolume (heap_of s told books)
unfolding heap_of
mounted_pages told header s books loaded is at there =
    subst (λ (n : ℕ). (zone_of at ≡ TREE_ZONE) ⊎ IsPageOf n at) (sym is.bigblocks) (loaded.only at there)

module _ (t : Told) (header : Header) (slot : ℕ) (s : Store) (books : Books) (volume : Volume) (stands : StandsFor t.bytes volume)
    (counts : HasHeader t.bytes header slot) (loaded : IsLoaded header s) (holds : HoldsImage t.bytes header s) (is : IsBooksOf header books) where
  one : stands.header ≡ header
  one = header_sound t.bytes header slot volume stands counts

  sound : IsSoundBy t.bytes header
  sound = subst (IsSoundBy t.bytes) one stands.sound

  pub mounted : HoldsVolume (heap_of s (Some t) books) header.root header.last.0 volume
  unfolding heap_of
  mounted =
      let image = t.bytes in
      let there = layer2_there header s loaded in
      let same = sym (basis_is header s books loaded is (Some t)) in
      let firm = subst IsFirm same (plain_firm image header sound s.current holds.pages there loaded.entries loaded.tree) in
      let fulls = subst (λ (b : Basis). fulls_in b image ≡ elements_from image header.root) same
      (plain_fulls image header sound s.current holds.pages there loaded.entries loaded.tree) in
      record {
        bigblocks = is.bigblocks ∙ (ap (λ (h : Header). h.bigblocks) (sym one) ∙ stands.bigblocks);
        last_is = ap (λ (h : Header). h.last.0) (sym one) ∙ stands.last;
        elements = (
          elements_from image header.root,
          record { firm = firm; elements = fulls },
          subst (λ (h : Header). StandFor (elements_from image h.root) volume) one stands.elements,
        );
      }

  -- as many big-blocks are free in it as on the image
  pub mounted_free : free_of (heap_of s (Some t) books) ≡ free_in t.bytes header
  unfolding heap_of
  mounted_free =
      let there = layer2_there header s loaded in
      by_parts books.whole books.bigblocks books.append s.committed s.frozen is.closed.1 is.bigblocks is.append.1 (sym loaded.plain.current)
      (loaded.plain.frozen ∙ sym loaded.plain.current)
      ∙ (free_same header.bigblocks header.append (plain header s.current).maps _
      (stand t.bytes header sound s.current holds.pages there loaded.entries loaded.tree)
      ∙ ap (λ (rs : List Reference). free_blocks header.bigblocks header.append (record { committed = rs; frozen = rs; current = rs }))
      (sym (refs_same t.bytes header sound s.current holds.pages there loaded.entries loaded.tree)))
    where
      by_parts : (w : Bool) (n : ℕ) (a : List ℕ) (c f : PageMap) → w ≡ true → n ≡ header.bigblocks → a ≡ header.append → c ≡ s.current
          → f ≡ s.current → cond w (free_by n a (record { committed = c; frozen = f; current = s.current })) (2 ^ 32)
          ≡ free_by header.bigblocks header.append (plain header s.current).maps
      by_parts w n a c f first second third fourth fifth = rw (first, second, third, fourth, fifth) refl

  -- the disk has all of the space
  pub mounted_written : ((at : ℕ) (page : List ℕ) → s.current at ≡ Some page → AreBytes page) → IsWritten (heap_of s (Some t) books) header.root t.bytes
  unfolding heap_of
  mounted_written bytes =
      let there = layer2_there header s loaded in
      let past = plain_past t.bytes header sound s.current holds.pages there loaded.entries loaded.tree in
      let rs = map to_payload (elements_of (nodes s.current) header.root) in
      record {
        layer1 = subst (HasLayer1 t.bytes) (sym is.bigblocks) sound.layer1;
        pages = holds.pages;
        bytes = bytes;
        past = λ block low none. subst (λ (n : ℕ). HasEntry t.bytes block (entry_outside n block)) (sym is.bigblocks)
            (past block (subst (λ (n : ℕ). block < layer2_blocks n * blocks_per_layer2) is.bigblocks low) none);
        payloads = All-weaker (Contains rs) (HasSameBytes t.bytes t.bytes) (λ r at. refl) rs (All-contains_itself rs);
      }
