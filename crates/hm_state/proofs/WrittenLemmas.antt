-- Bytes to which all of a space was written stand for the volume that the space holds.
use Rattle.std.proofs.Common.{◌≡◌, inl, inr, true≢false, ℕ, ◌+◌, ◌*◌, ◌<◌, ◌≤◌, List, Option, Some, None, IsSome, refl, sym, ap, subst, ◌∙◌, arith}
use Rattle.std.proofs.Common.{length, length-drop, length-take, map, pos, slice_index, nat_le}
use Rattle.std.specs.Prelude.{IfSome, IsSomeAnd, FitsSigned}
use Rattle.std.specs.Int.{w32}
use Rattle.std.specs.List.{All, Contains}
use Rattle.std.proofs.lemmas.Bool.{leb-true}
use Rattle.std.proofs.lemmas.List.Elements.{All-contains, All-contains_itself, All-weaker}
use Rattle.std.proofs.lemmas.Option.{cond_some}
use Rattle.hm_types.specs.Elements.{FullElement}
use Rattle.hm_types.specs.Hash.{name_hash}
use Rattle.hm_types.specs.Layout.{IsPool, blocks_per_layer2, layer2_blocks, start_of}
use Rattle.hm_types.specs.Offset.{byte_of}
use Rattle.hm_types.specs.References.{AreFew, IsPlaced, NoneOverlap, Reference, end_of, live_bytes}
use Rattle.hm_types.specs.declared.limits.TheConstants.{PAGE_BYTES}
use Rattle.hm_disk.specs.Crash.{Told}
use Rattle.hm_fields.specs.Fields.{get}
use Rattle.hm_fields.specs.Pages.{PageMap, page_in}
use Rattle.hm_header.specs.OnDisk.{HasHeader}
use Rattle.hm_header.specs.declared.header.Header.{Header}
use Rattle.hm_key.specs.declared.element.Element.{Element}
use Rattle.hm_records.specs.KeysFit.{KeysFit}
use Rattle.hm_records.specs.Payload.{IsPayload}
use Rattle.hm_search.specs.Tree.{elements_of}
use Rattle.hm_freemap.specs.Entry.{IsEntryOf, IsPoolEntry, SpellsEntry, entry_in}
use Rattle.hm_freemap.specs.Places.{page_of, place_of}
use Rattle.hm_freemap.specs.Stand.{IsBelow, entry_of, home_of}
use Rattle.hm_freemap.specs.declared.entry.Entry.{Entry}
use Rattle.hm_freemap.proofs.ListLemmas.{all_left, apart_left}
use Rattle.hm_freemap.proofs.SpellLemmas.{entry_back, entry_spelled}
use Rattle.hm_model.specs.Volume.{Volume}
use Rattle.hm_image.specs.Image.{bytes_at, elements_from, full_of, pages_of, references_from}
use Rattle.hm_image.specs.Sound.{HasEntry, IsAmongPayloads, IsFilled, IsSoundBy, free_bytes_in}
use Rattle.hm_image.specs.StandFor.{StandFor}
use Rattle.hm_image.specs.Stands.{StandsFor}
use Rattle.hm_load.proofs.TreeLemmas.{same_there}
use Rattle.hm_stored.specs.Basis.{IsFirm, entry_outside, fulls_in, nodes, refers}
use Rattle.hm_stored.specs.Heap.{Heap}
use Rattle.hm_stored.specs.Standing.{HoldsBy, basis_now}
use Rattle.hm_state.specs.Volume.{HoldsVolume}
use Rattle.hm_state.specs.Written.{HasSamePayloads, IsHeaderOf, IsWritten}
use Rattle.hm_state.proofs.FreeLemmas.{free_rest}
use Rattle.hm_state.proofs.KeptLemmas.{all_kept, nodes_keep, references_kept, sound_kept}
use Rattle.hm_state.proofs.OutsideLemmas.{in_pool, no_zero_entry, outside_entry}
use Rattle.hm_state.proofs.SameLemmas.{fulls_same}

-- a page of an image is whole
page_length : (image : List ℕ) (at : ℕ) (page : List ℕ) → pages_of image at ≡ Some page → length page ≡ PAGE_BYTES
page_length image at page is =
    let within = cond_some (nat_le (byte_of at + PAGE_BYTES) (length image)) (bytes_at image at PAGE_BYTES) page is in
    let room = leb-true (byte_of at + PAGE_BYTES) (length image) within.0 in
    let long : length (bytes_at image at PAGE_BYTES) ≡ PAGE_BYTES = simp (length-take, length-drop) (omega arith) in
    ap length (sym within.1) ∙ long

module _ (h : Heap) (root : ℕ) (firm : IsFirm (basis_now h root)) (image : List ℕ) (written : IsWritten h root image) where
  abbrev current : PageMap
  current = h.pages.current

  abbrev refs : List Reference
  refs = refers current root

  abbrev entries : ℕ → Entry
  entries = entry_of (pages_of image)

  refs_same : references_from (pages_of image) root ≡ refs
  refs_same = references_kept (nodes current) (pages_of image) root (nodes_keep current (pages_of image) written.pages) firm.tree.sound

  es_same : elements_of (pages_of image) root ≡ elements_of (nodes current) root
  es_same = all_kept (nodes current) (pages_of image) root (nodes_keep current (pages_of image) written.pages) firm.tree.sound

  -- a big-block of the pool has its page
  pool_there : (block : ℕ) → IsPool h.bigblocks block → IsSome (current (page_of block))
  pool_there block pool = by_page (current (page_of block)) refl where
    by_page : (o : Option (List ℕ)) → current (page_of block) ≡ o → IsSome o
    by_page (Some page) is = refl
    by_page None is =
        absurd (no_zero_entry (place_of block) (subst (λ (o : Option (List ℕ)). IsPoolEntry (entry_in (page_in o) (place_of block))) is
        (firm.stand.current block pool).entry.entry))

  -- and there its entry, which the image has too
  entry_same : (block : ℕ) → IsPool h.bigblocks block → entries block ≡ entry_of current block
  entry_same block pool =
      ap (λ (o : Option (List ℕ)). entry_in (page_in o) (place_of block))
      (same_there current (pages_of image) (page_of block) written.pages (pool_there block pool))

  -- an entry that may be that of a big-block stands in the image
  abbrev HasOwn : ℕ → Entry → Type 0
  HasOwn block e = HasEntry image block e × IsEntryOf h.bigblocks block e

  own_in_pool : (block : ℕ) → IsPool h.bigblocks block → HasOwn block (entries block)
  unfolding place_of
  own_in_pool block pool = by_page (current (page_of block)) refl (pool_there block pool) where
    by_page : (o : Option (List ℕ)) → current (page_of block) ≡ o → IsSome o → HasOwn block (entries block)
    by_page None is there = absurd (true≢false (sym there))
    by_page (Some page) is there =
        let here = written.pages (page_of block) page is in
        let held = (firm.stand.current block pool).entry in
        let entry : IsPoolEntry (entry_in page (place_of block)) =
        subst (λ (o : Option (List ℕ)). IsPoolEntry (entry_in (page_in o) (place_of block))) is held.entry in
        let zero : get page (place_of block + 12) 4 ≡ 0 =
        subst (λ (o : Option (List ℕ)). get (page_in o) (place_of block + 12) 4 ≡ 0) is held.zero in
        let room : place_of block + 16 ≤ length page = omega (arith, page_length image (page_of block) page here) in
        let spelled = entry_spelled page (place_of block) (written.bytes (page_of block) page is) room (record { entry = inl entry; zero = zero }) in
        let same : entries block ≡ entry_in page (place_of block) = ap (λ (o : Option (List ℕ)). entry_in (page_in o) (place_of block)) here in
        subst (HasOwn block) (sym same) (
          record { page = page; there = here; spelled = spelled },
          record {
            entry = inl entry;
            headers = λ is. absurd (omega (arith, pool.0));
            freemap = λ from to. absurd (omega (arith, pool.0));
            undo = λ from to. absurd (omega (arith, pool.0));
            pool = λ again. entry;
            past = λ over from. absurd (omega (arith, pool.1));
          },
        )

  own_outside : (block : ℕ) → ¬ IsPool h.bigblocks block → HasEntry image block (entry_outside h.bigblocks block) → HasOwn block (entries block)
  own_outside block outside has =
      let own = outside_entry h.bigblocks block outside in
      let fits : FitsSigned w32 (pos 0) = record { sfits = omega arith } in
      let same : entries block ≡ entry_outside h.bigblocks block =
      ap (λ (o : Option (List ℕ)). entry_in (page_in o) (place_of block)) has.there
      ∙ entry_back has.page (place_of block) (entry_outside h.bigblocks block) own.entry fits has.spelled in
      subst (HasOwn block) (sym same) (has, own)

  own : (block : ℕ) → block < layer2_blocks h.bigblocks * blocks_per_layer2 → HasOwn block (entries block)
  own block low =
      elim (in_pool h.bigblocks block) [
        | inl pool ↦ own_in_pool block pool
        | inr outside ↦ own_outside block outside (by_page outside (current (page_of block)) refl)
      ] where
        by_page : ¬ IsPool h.bigblocks block → (o : Option (List ℕ)) → current (page_of block) ≡ o → HasEntry image block (entry_outside h.bigblocks block)
        by_page outside None is = written.past block low is
        by_page outside (Some page) is = record {
          page = page;
          there = written.pages (page_of block) page is;
          spelled = subst (λ (o : Option (List ℕ)). IfSome o (λ p. SpellsEntry p (place_of block) (entry_outside h.bigblocks block))) is
              (firm.fixed block low outside);
        }

  -- what any of the three states refers to, of which the current one's are first
  placed : All (IsPlaced h.bigblocks) refs
  placed = all_left (IsPlaced h.bigblocks) refs _ firm.stand.placed

  is_filled : (r : Reference) → IsPlaced h.bigblocks r → IsBelow current r → IsFilled entries r
  is_filled r placed below =
      let same = entry_same (home_of r) placed.pool in
      record {
        zone = ap (λ (e : Entry). e.zone) same ∙ below.zone;
        filled = subst (λ (e : Entry). end_of r ≤ start_of (home_of r) + e.append_off) (sym same) below.end;
      }

  filled : All (IsFilled entries) refs
  filled =
      All-weaker (Contains refs) (IsFilled entries)
      (λ r at.
      is_filled r (All-contains (IsPlaced h.bigblocks) refs r placed at)
      (All-contains (IsBelow current) refs r (all_left (IsBelow current) refs _ firm.stand.below) at))
      refs (All-contains_itself refs)

  free : (block : ℕ) → IsPool h.bigblocks block → (entries block).bytes_free ≡ free_bytes_in refs block
  free block pool =
      ap (λ (e : Entry). e.bytes_free) (entry_same block pool)
      ∙ free_rest (entry_of current block).bytes_free (live_bytes refs block) (firm.stand.current block pool).free

  -- so the image is sound, by a header that names what the space has
  pub written_sound : (header : Header) (slot : ℕ) → HasHeader image header slot → header.bigblocks ≡ h.bigblocks → header.append ≡ h.append
      → header.root ≡ root → All IsPayload (elements_from image root) → KeysFit name_hash (elements_from image root)
      → IsSoundBy image (record header { bigblocks = h.bigblocks; append = h.append; root = root })
  written_sound header slot counts bigblocks append root_is payloads keys =
      let named : Header = record header { bigblocks = h.bigblocks; append = h.append; root = root } in
      let same : header ≡ named = λ i. record header { bigblocks = bigblocks i; append = append i; root = root_is i } in
      record {
        slot = slot;
        entries = entries;
        counts = subst (λ (x : Header). HasHeader image x slot) same counts;
        layer1 = written.layer1;
        layer2 = record {
          each = own;
          appended = λ k low.
              ap (λ (e : Entry). e.zone) (entry_same (slice_index h.append k) (firm.stand.appended.pool k low)) ∙ firm.stand.appended.zone k low;
        };
        tree = sound_kept (nodes current) (pages_of image) root (nodes_keep current (pages_of image) written.pages) firm.tree.sound;
        payloads = record { each = payloads; keys = keys };
        extents = record {
          zones = subst (All IsAmongPayloads) (sym es_same) firm.zones;
          placed = subst (All (IsPlaced h.bigblocks)) (sym refs_same) placed;
          filled = subst (All (IsFilled entries)) (sym refs_same) filled;
          apart = subst NoneOverlap (sym refs_same) (apart_left refs _ firm.stand.apart);
          few = subst AreFew (sym refs_same) firm.stand.few.2;
        };
        free_bytes = λ block pool. subst (λ (rs : List Reference). (entries block).bytes_free ≡ free_bytes_in rs block) (sym refs_same) (free block pool);
      }

  -- and its elements are those of the space
  pub written_elements : (old : List ℕ) → HasSamePayloads h root old image → elements_from image root ≡ fulls_in (basis_now h root) old
  written_elements old same = ap (λ (es : List Element). map (full_of image) es) es_same ∙ fulls_same h root old image same

module _ (h : Heap) (root last : ℕ) (volume : Volume) (image : List ℕ) (header : Header) (slot : ℕ) (holds : HoldsVolume h root last volume)
    (written : IsWritten h root image) (counts : HasHeader image header slot) (is : IsHeaderOf h root last header) where
  abbrev es : List FullElement
  es = holds.elements.0

  by_disk : (o : Option Told) → IsSomeAnd o (λ t. HoldsBy h root t.bytes es) → IfSome o (λ t. HasSamePayloads h root t.bytes image) → StandsFor image volume
  by_disk None held same = absurd held
  by_disk (Some t) held same =
      let elements : elements_from image root ≡ es = written_elements h root held.firm image written t.bytes same ∙ held.elements in
      let stand = subst (λ (xs : List FullElement). StandFor xs volume) (sym elements) holds.elements.2 in
      record {
        header = record header { bigblocks = h.bigblocks; append = h.append; root = root };
        sound = written_sound h root held.firm image written header slot counts is.bigblocks is.append is.root_is stand.payloads stand.names;
        bigblocks = holds.bigblocks;
        last = is.last_is ∙ holds.last_is;
        elements = stand;
      }

  pub written_stands : StandsFor image volume
  written_stands = by_disk h.disk holds.elements.1 written.payloads
