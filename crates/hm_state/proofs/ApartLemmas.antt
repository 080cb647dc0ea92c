-- The pages of a space share no byte with each other, nor with a payload.
use Rattle.std.proofs.Common.{◌≡◌, ◌≢◌, ◌⊎◌, inl, inr, true≢false, ℕ, ◌+◌, ◌*◌, ◌/◌, ◌<◌, ◌≤◌, List}
use Rattle.std.proofs.Common.{IsSome, None, Option, ap, refl, sym, ◌∙◌, arith, is_some}
use Rattle.std.specs.List.{Contains}
use Rattle.std.proofs.lemmas.Bool.{cases_lt}
use Rattle.std.proofs.lemmas.List.Elements.{All-contains}
use Rattle.hm_types.specs.Layout.{blocks_per_layer2, first_layer2, first_pool, layer2_blocks, start_of}
use Rattle.hm_types.specs.Offset.{byte_of, zone_of}
use Rattle.hm_types.specs.References.{IsPlaced, NoneOverlap, Reference, begin_of, end_of}
use Rattle.hm_types.specs.declared.limits.TheConstants.{PAGE_BYTES}
use Rattle.hm_types.specs.declared.zone.TheConstants.{FREEMAP_ZONE}
use Rattle.hm_fields.specs.Pages.{PageMap}
use Rattle.hm_freemap.specs.Extents.{IsApart}
use Rattle.hm_freemap.specs.Places.{entries_per_page, page_of}
use Rattle.hm_freemap.proofs.BoundLemmas.{placed_high, placed_low}
use Rattle.hm_freemap.proofs.ListLemmas.{all_left, apart_left}
use Rattle.hm_header.specs.Range.{IsSize}
use Rattle.hm_key.specs.declared.element.Element.{Element}
use Rattle.hm_image.specs.Image.{to_node, to_payload}
use Rattle.hm_image.specs.Sound.{IsAmongPayloads}
use Rattle.hm_image.proofs.ApartLemmas.{no_two_overlap}
use Rattle.hm_image.proofs.NamedLemmas.{page_byte}
use Rattle.hm_image.proofs.OffsetLemmas.{byte_is}
use Rattle.hm_stored.specs.Basis.{IsFirm, elements_in, refers}
use Rattle.hm_stored.specs.Heap.{Heap}
use Rattle.hm_stored.specs.Held.{AreOfVolume}
use Rattle.hm_stored.specs.Standing.{basis_now}
use Rattle.hm_state.proofs.KeptLemmas.{page_referred, payload_named}

-- two pages of layer 2 are one, or share no byte
layer2_apart : (a b : ℕ) → a < 1048576 → b < 1048576 → page_of a ≢ page_of b
    → (byte_of (page_of a) + PAGE_BYTES ≤ byte_of (page_of b)) ⊎ (byte_of (page_of b) + PAGE_BYTES ≤ byte_of (page_of a))
unfolding page_of
layer2_apart a b low less differ =
    let first = byte_is FREEMAP_ZONE (start_of first_layer2 + a / entries_per_page * PAGE_BYTES) (omega arith) in
    let second = byte_is FREEMAP_ZONE (start_of first_layer2 + b / entries_per_page * PAGE_BYTES) (omega arith) in
    elim (cases_lt (a / entries_per_page) (b / entries_per_page)) [
      | inl before ↦ inl (omega arith)
      | inr from ↦ elim (cases_lt (b / entries_per_page) (a / entries_per_page)) [
        | inl after ↦ inr (omega arith)
        | inr to ↦
            let same : a / entries_per_page ≡ b / entries_per_page = omega arith in
            absurd (differ (rw same refl))
      ]
    ]

module _ (h : Heap) (root : ℕ) (firm : IsFirm (basis_now h root)) (only : AreOfVolume h) (size : IsSize h.bigblocks) where
  abbrev current : PageMap
  current = h.pages.current

  abbrev refs : List Reference
  refs = refers current root

  -- what the tree refers to stands in the pool
  pub placed : (r : Reference) → Contains refs r → (start_of (first_pool h.bigblocks) ≤ begin_of r) × (end_of r ≤ start_of h.bigblocks)
  placed r there =
      let is = All-contains (IsPlaced h.bigblocks) refs r (all_left (IsPlaced h.bigblocks) refs _ firm.stand.placed) there in
      let low = placed_low h.bigblocks r is in
      let high = placed_high h.bigblocks r is in
      let pool = is.pool in
      (omega (arith, low, pool.0), omega (arith, high, pool.1))

  -- a page of layer 2 stands before
  entries_at : (block : ℕ) → block < h.bigblocks
      → (start_of first_layer2 ≤ byte_of (page_of block)) × (byte_of (page_of block) + PAGE_BYTES ≤ start_of (first_pool h.bigblocks))
  entries_at block low =
      let below : block < layer2_blocks h.bigblocks * blocks_per_layer2 = omega (arith, low) in
      let both = page_byte h.bigblocks block size below in
      (both.0, omega (arith, both.1))

  none_overlap : NoneOverlap refs
  none_overlap = apart_left refs _ firm.stand.apart

  pub pages_apart : (a b : ℕ) → IsSome (current a) → IsSome (current b) → a ≢ b → IsApart (to_node a) (to_node b)
  pages_apart a b first second differ =
      elim (only a first) [
        | inl one ↦
            let mine = page_referred current root a firm.tree one first in
            elim (only b second) [
              | inl other ↦
                  elim (no_two_overlap refs (to_node a) (to_node b) none_overlap mine (page_referred current root b firm.tree other second)) [
                    | inl same ↦ absurd (differ same.place)
                    | inr apart ↦ apart
                  ]
              | inr (block, low, here) ↦
                  let before = entries_at block low in
                  let byte = ap byte_of here in
                  inr (omega (arith, before.1, byte, (placed (to_node a) mine).0))
            ]
        | inr (block, low, here) ↦
            let before = entries_at block low in
            let byte = ap byte_of here in
            elim (only b second) [
              | inl other ↦ inl (omega (arith, before.1, byte, (placed (to_node b) (page_referred current root b firm.tree other second)).0))
              | inr (next, less, there) ↦
                  let away = layer2_apart block next (omega (arith, low, size.1)) (omega (arith, less, size.1)) (λ same. differ (here ∙ same ∙ sym there)) in
                  let at = ap byte_of there in
                  elim away [
                    | inl first_before ↦ inl (omega (arith, first_before, byte, at))
                    | inr first_after ↦ inr (omega (arith, first_after, byte, at))
                  ]
            ]
      ]

  pub payload_referred : (e : Element) → Contains (elements_in (basis_now h root)) e → Contains refs (to_payload e)
  payload_referred e there = payload_named current root e there

  pub payloads_apart : (at : ℕ) (e : Element) → IsSome (current at) → Contains (elements_in (basis_now h root)) e → IsApart (to_node at) (to_payload e)
  payloads_apart at e first there =
      let payload = payload_referred e there in
      elim (only at first) [
        | inl zone ↦
            elim (no_two_overlap refs (to_node at) (to_payload e) none_overlap (page_referred current root at firm.tree zone first) payload) [
              | inl same ↦
                  let among = All-contains IsAmongPayloads (elements_in (basis_now h root)) e firm.zones there in
                  let other = ap zone_of same.place in
                  absurd (omega (arith, other, zone, among.0))
              | inr apart ↦ apart
            ]
        | inr (block, low, here) ↦
            let before = entries_at block low in
            let byte = ap byte_of here in
            inl (omega (arith, before.1, byte, (placed (to_payload e) payload).0))
      ]

  pub pages_within : (at : ℕ) → IsSome (current at) → (start_of first_layer2 ≤ byte_of at) × (byte_of at + PAGE_BYTES ≤ start_of h.bigblocks)
  pages_within at there =
      elim (only at there) [
        | inl zone ↦
            let both = placed (to_node at) (page_referred current root at firm.tree zone there) in
            (omega (arith, both.0), omega (arith, both.1))
        | inr (block, low, here) ↦
            let both = entries_at block low in
            let byte = ap byte_of here in
            let pool = firm.stand.appended.pool 0 (omega arith) in
            (omega (arith, both.0, byte), omega (arith, both.1, byte, pool.0, pool.1))
      ]

  -- a page of layer 2 that the space does not keep shares no byte with one that it keeps
  pub past_apart : (at block : ℕ) → IsSome (current at) → block < layer2_blocks h.bigblocks * blocks_per_layer2 → current (page_of block) ≡ None
      → (byte_of at + PAGE_BYTES ≤ byte_of (page_of block)) ⊎ (byte_of (page_of block) + PAGE_BYTES ≤ byte_of at)
  past_apart at block there few none =
      let place = page_byte h.bigblocks block size few in
      elim (only at there) [
        | inl zone ↦ inr (omega (arith, place.1, (placed (to_node at) (page_referred current root at firm.tree zone there)).0))
        | inr (next, low, here) ↦
            let byte = ap byte_of here in
            elim (layer2_apart next block (omega (arith, low, size.1)) (omega (arith, few, size.1)) (λ same. missing (here ∙ same))) [
              | inl before ↦ inl (omega (arith, before, byte))
              | inr after ↦ inr (omega (arith, after, byte))
            ]
      ] where
        missing : at ≢ page_of block
        missing same = true≢false (sym there ∙ ap (λ (x : ℕ). is_some (current x)) same ∙ ap (λ (o : Option (List ℕ)). is_some o) none)
