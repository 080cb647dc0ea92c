-- What a recovered image has of a state, and which volume it stands for.
use Rattle.std.proofs.Common.{◌≡◌, ◌⊎◌, ◌∙◌, inl, inr, Bool, ℕ, ◌+◌, ◌*◌, ◌<◌, ◌≤◌, List, None, Option, Some, IsSome}
use Rattle.std.proofs.Common.{ap, arith, cond, is_some, length, map as map_list, refl, subst}
use Rattle.std.specs.Prelude.{slice_range}
use Rattle.std.specs.List.{Contains}
use Rattle.std.proofs.lemmas.Bool.{le-leb}
use Rattle.std.proofs.lemmas.List.Elements.{All-contains, All-contains_itself, All-map, All-weaker}
use Rattle.hm_types.specs.Layout.{blocks_per_layer2, layer2_blocks, start_of}
use Rattle.hm_types.specs.Offset.{byte_of}
use Rattle.hm_types.specs.declared.limits.TheConstants.{PAGE_BYTES}
use Rattle.hm_types.specs.declared.id.Id.{Id}
use Rattle.hm_disk.specs.Crash.{Told}
use Rattle.hm_fields.specs.Fields.{AreBytes}
use Rattle.hm_fields.specs.Pages.{PageMap}
use Rattle.hm_freemap.specs.Extents.{IsApart}
use Rattle.hm_freemap.specs.Places.{page_of}
use Rattle.hm_header.specs.Range.{IsSize}
use Rattle.hm_header.specs.declared.header.Header.{Header}
use Rattle.hm_header.specs.declared.header.TheConstants.{SLOT_BYTES}
use Rattle.hm_key.specs.declared.element.Element.{Element}
use Rattle.hm_records.proofs.MemberLemmas.{has_map}
use Rattle.hm_model.specs.Volume.{Volume}
use Rattle.hm_flush.specs.Recoverable.{HasState, IsInPages}
use Rattle.hm_image.specs.Image.{bytes_at, pages_of, to_node, to_payload}
use Rattle.hm_image.specs.Same.{HasSameBytes}
use Rattle.hm_image.specs.Sound.{HasEntry, HasLayer1}
use Rattle.hm_image.specs.Stands.{StandsFor}
use Rattle.hm_image.proofs.NamedLemmas.{page_byte}
use Rattle.hm_image.proofs.PartLemmas.{part_same}
use Rattle.hm_stored.specs.Basis.{IsFirm, elements_in, entry_outside}
use Rattle.hm_stored.specs.Heap.{Heap}
use Rattle.hm_stored.specs.Held.{AreOnlyOf}
use Rattle.hm_stored.specs.Standing.{basis_now}
use Rattle.hm_state.specs.AtRest.{HasBeside, HoldsAtRest, at_rest}
use Rattle.hm_state.specs.Written.{HasSamePayloads, IsHeaderOf, IsWritten}
use Rattle.hm_state.proofs.ApartLemmas.{pages_within, past_apart, payload_referred, payloads_apart, placed}
use Rattle.hm_state.proofs.WrittenLemmas.{written_stands}

-- the page at an offset whose page ends within an image
page_whole : (image : List ℕ) (at : ℕ) → byte_of at + PAGE_BYTES ≤ length image → pages_of image at ≡ Some (bytes_at image at PAGE_BYTES)
page_whole image at within =
    ap (λ (b : Bool). cond b (Some (bytes_at image at PAGE_BYTES)) None) (le-leb (byte_of at + PAGE_BYTES) (length image) within)

module _ (t : Told) (header : Header) (map : PageMap) (volume : Volume) (image result : List ℕ) (holds : HoldsAtRest t header map volume)
    (only : AreOnlyOf header.bigblocks map) (bytes : (at : ℕ) (page : List ℕ) → map at ≡ Some page → AreBytes page)
    (beside : HasBeside t header map image) (has : HasState header map image result) where
  abbrev h : Heap
  h = at_rest (Some t) header map

  firm : IsFirm (basis_now h header.root)
  firm = holds.elements.1.firm

  size : IsSize header.bigblocks
  size = subst IsSize has.state.bigblocks has.counts.in_range.bigblocks

  -- a part past the slots that meets no page of the state is as it was before recovery
  kept : (from to : ℕ) → 2 * SLOT_BYTES ≤ from → to ≤ start_of header.bigblocks
      → ((at : ℕ) → IsSome (map at) → (to ≤ byte_of at) ⊎ (byte_of at + PAGE_BYTES ≤ from)) → slice_range result from to ≡ slice_range image from to
  kept from to low high apart =
      part_same image result from to has.size (λ i after before. has.others i (omega (arith, low, after)) (omega (arith, before, high, beside.size))
      (outside i after before)) where
        none : (i at : ℕ) → from ≤ i → i < to → byte_of at ≤ i → i < byte_of at + PAGE_BYTES → (to ≤ byte_of at) ⊎ (byte_of at + PAGE_BYTES ≤ from) → ⊥
        none i at after before begins ends (inl past) = absurd (omega (arith, before, begins, past))
        none i at after before begins ends (inr past) = absurd (omega (arith, after, ends, past))

        outside : (i : ℕ) → from ≤ i → i < to → IsInPages map i → ⊥
        outside i after before (at, page, is, inside) =
            none i at after before inside.0 inside.1 (apart at (ap (λ (o : Option (List ℕ)). is_some o) is))

  pages_stand : (at : ℕ) (page : List ℕ) → map at ≡ Some page → pages_of result at ≡ Some page
  pages_stand at page is =
      let there : IsSome (map at) = ap (λ (o : Option (List ℕ)). is_some o) is in
      let within = pages_within h header.root firm only size at there in
      page_whole result at (omega (arith, within.1, has.size, beside.size)) ∙ ap (λ (p : List ℕ). Some p) (has.pages at page is)

  layer1_stands : HasLayer1 result header.bigblocks
  layer1_stands i few =
      kept (start_of 1 + 32 * i) (start_of 1 + 32 * i + 32) (omega (arith, few)) (omega (arith, few, size.0))
      (λ at there. inl (omega (arith, few, (pages_within h header.root firm only size at there).0)))
      ∙ beside.layer1 i few

  past_stands : (block : ℕ) → block < layer2_blocks header.bigblocks * blocks_per_layer2 → map (page_of block) ≡ None
      → HasEntry result block (entry_outside header.bigblocks block)
  past_stands block few none =
      let entry = beside.past block few none in
      let place = page_byte header.bigblocks block size few in
      let at = page_of block in
      let same : bytes_at result at PAGE_BYTES ≡ bytes_at image at PAGE_BYTES =
      kept (byte_of at) (byte_of at + PAGE_BYTES) (omega (arith, place.0)) (omega (arith, place.1, size.0))
      (λ other there. turned (past_apart h header.root firm only size other block there few none)) in
      let whole : pages_of result at ≡ pages_of image at = rw (has.size, same) refl in
      record { page = entry.page; there = whole ∙ entry.there; spelled = entry.spelled } where
        turned : {a b c d : ℕ} → (a ≤ b) ⊎ (c ≤ d) → (c ≤ d) ⊎ (a ≤ b)
        turned (inl before) = inr before
        turned (inr after) = inl after

  payload_stands : (e : Element) → Contains (elements_in (basis_now h header.root)) e → bytes_at result e.payload e.len ≡ bytes_at image e.payload e.len
  payload_stands e there =
      let both = placed h header.root firm only size (to_payload e) (payload_referred h header.root firm only size e there) in
      kept (byte_of e.payload) (byte_of e.payload + e.len) (omega (arith, both.0, size.0)) (omega (arith, both.1))
      (λ at page. apart at (payloads_apart h header.root firm only size at e page there)) where
        apart : (at : ℕ) → IsApart (to_node at) (to_payload e) → (byte_of e.payload + e.len ≤ byte_of at) ⊎ (byte_of at + PAGE_BYTES ≤ byte_of e.payload)
        apart at (inl before) = inr (omega (arith, before))
        apart at (inr after) = inl (omega (arith, after))

  payloads_stand : HasSamePayloads h header.root t.bytes result
  payloads_stand =
      let es = elements_in (basis_now h header.root) in
      let rs = map_list to_payload es in
      All-map (HasSameBytes t.bytes result) to_payload es
      (All-weaker (Contains es) (λ e. HasSameBytes t.bytes result (to_payload e))
      (λ e there. payload_stands e there ∙ payload_before e there) es (All-contains_itself es)) where
        payload_before : (e : Element) → Contains (elements_in (basis_now h header.root)) e → HasSameBytes t.bytes image (to_payload e)
        payload_before e there = All-contains (HasSameBytes t.bytes image) (map_list to_payload (elements_in (basis_now h header.root)))
            (to_payload e) beside.payloads
            (has_map to_payload (elements_in (basis_now h header.root)) e there)

  written : IsWritten h header.root result
  written = record { layer1 = layer1_stands; pages = pages_stand; bytes = bytes; past = past_stands; payloads = payloads_stand }

  header_of : IsHeaderOf h header.root header.last.0 has.own
  header_of = record {
    bigblocks = has.state.bigblocks;
    append = has.state.append;
    root_is = has.state.root;
    last_is = ap (λ (i : Id). i.0) has.state.last;
  }

  pub recovered_stands : StandsFor result volume
  recovered_stands = written_stands h header.root header.last.0 volume result has.own has.slot holds written has.counts header_of
