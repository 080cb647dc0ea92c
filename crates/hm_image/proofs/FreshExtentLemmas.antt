-- What the tree of a fresh volume refers to: its node and two payloads.
use Rattle.std.proofs.Common.{◌≡◌, inl, inr, ℕ, ◌+◌, ◌-◌, ◌%◌, ◌^◌, ◌<◌, ◌≤◌, List, [], ◌∷◌, refl, sym, ap, subst, ◌∙◌, arith}
use Rattle.std.specs.Prelude.{slice_index_or}
use Rattle.std.specs.List.{All}
use Rattle.std.proofs.lemmas.List.Elements.{All-nil}
use Rattle.std.proofs.lemmas.List.Sums.{count_by-le-length}
use Rattle.hm_types.specs.Layout.{block_of, first_pool, start_of}
use Rattle.hm_types.specs.Offset.{raw_of, zone_of}
use Rattle.hm_types.specs.References.{AreFew, DoNotOverlap, IsPlaced, NoneOverlap, Reference, begin_of, end_of, is_there, unit_of}
use Rattle.hm_types.specs.Space.{IsPayloadZone, rounded}
use Rattle.hm_types.specs.declared.limits.TheConstants.{BIGBLOCK_BYTES, PAGE_BYTES}
use Rattle.hm_types.specs.declared.zone.TheConstants.{META_ZONE, SMALL_ZONE, TREE_ZONE}
use Rattle.hm_freemap.specs.declared.entry.Entry.{Entry}
use Rattle.hm_header.specs.Range.{IsSize}
use Rattle.hm_search.specs.Tree.{elements_of}
use Rattle.hm_image.specs.Fresh.{IsFresh, fresh_entry, inode_element, pool_entry, record_element, root_at}
use Rattle.hm_image.specs.Image.{pages_of, references_from, to_node, to_payload}
use Rattle.hm_image.specs.Sound.{IsAmongPayloads, IsFilled}
use Rattle.hm_image.proofs.FreshSpaceLemmas.{fresh_in_pool}
use Rattle.hm_image.proofs.FreshTreeLemmas.{fresh_node, leaf_elements, leaf_references}
use Rattle.hm_image.proofs.ListLemmas.{all_one, all_three, all_two}
use Rattle.hm_image.proofs.OffsetLemmas.{byte_is, pool_is, volume_is, zone_is}

abbrev pub fresh_references : ℕ → List Reference
fresh_references bigblocks =
    to_node (root_at bigblocks) ∷ to_payload (inode_element bigblocks) ∷ to_payload (record_element bigblocks) ∷ []

pub fresh_references_are : (bigblocks : ℕ) (image : List ℕ) → IsFresh bigblocks image
    → references_from (pages_of image) (root_at bigblocks) ≡ fresh_references bigblocks
fresh_references_are bigblocks image fresh = leaf_references (pages_of image) (root_at bigblocks) _ (fresh_node bigblocks image fresh)

-- so many bytes from a byte of a big-block on, in a zone
abbrev extent : ℕ → ℕ → ℕ → Reference
extent zone place len = record { at = raw_of zone place; len = len }

-- where they may stand
abbrev MayStand : ℕ → ℕ → ℕ → ℕ → ℕ → ℕ → Type 0
MayStand bigblocks zone block byte place len =
    (first_pool bigblocks ≤ block) × (block < bigblocks) × (TREE_ZONE ≤ zone) × (zone ≤ SMALL_ZONE) × (1 ≤ len)
    × (byte + rounded len ≤ BIGBLOCK_BYTES) × (place ≡ start_of block + byte) × (place % unit_of zone ≡ 0)

placed_in : (bigblocks zone block byte place len : ℕ) → IsSize bigblocks → MayStand bigblocks zone block byte place len
    → IsPlaced bigblocks (extent zone place len)
placed_in bigblocks zone block byte place len size may =
    let few : place < 2 ^ 52 = omega arith in
    let at = byte_is zone place few in
    let zone_here = zone_is zone place few in
    record {
      some = omega arith;
      volume = volume_is zone place few;
      zone = (omega arith, omega arith);
      unit = rw (at, zone_here) may.7;
      pool = (omega arith, omega arith);
      inside = omega arith;
    }

-- and which entry they are filled into
abbrev FitsEntry : ℕ → ℕ → ℕ → ℕ → Entry → Type 0
FitsEntry block byte place len e =
    (place < 2 ^ 52) × (byte < BIGBLOCK_BYTES) × (place ≡ start_of block + byte) × (byte + rounded len ≤ e.append_off)

filled_in : (bigblocks zone block byte place len : ℕ) (e : Entry) → fresh_entry bigblocks block ≡ e → e.zone ≡ zone
    → FitsEntry block byte place len e → IsFilled (fresh_entry bigblocks) (extent zone place len)
filled_in bigblocks zone block byte place len e is owned fits =
    let r = extent zone place len in
    let at = byte_is zone place fits.0 in
    let zone_here = zone_is zone place fits.0 in
    let block_here : block_of (begin_of r) ≡ block = omega arith in
    let entry : fresh_entry bigblocks (block_of (begin_of r)) ≡ e = ap (fresh_entry bigblocks) block_here ∙ is in
    let P : Entry → Type 0 = λ x. end_of r ≤ start_of (block_of (begin_of r)) + x.append_off in
    record {
      zone = ap (λ (x : Entry). x.zone) entry ∙ owned ∙ sym zone_here;
      filled = subst P (sym entry) (omega arith);
    }

-- the entries of the first big-blocks of the pool
pub fresh_entry_at : (bigblocks k : ℕ) → IsSize bigblocks → k < 4 → fresh_entry bigblocks (first_pool bigblocks + k) ≡ pool_entry k
fresh_entry_at bigblocks k size few =
    let pool = pool_is bigblocks size in
    let back : first_pool bigblocks + k - first_pool bigblocks ≡ k = omega arith in
    fresh_in_pool bigblocks (first_pool bigblocks + k) size (omega arith, omega arith) ∙ ap pool_entry back

module _ (bigblocks : ℕ) (size : IsSize bigblocks) where
  pub fresh_placed : All (IsPlaced bigblocks) (fresh_references bigblocks)
  fresh_placed =
      let pool = pool_is bigblocks size in
      let P = first_pool bigblocks in
      all_three (IsPlaced bigblocks) _ _ _
      (placed_in bigblocks TREE_ZONE P 0 (start_of P) PAGE_BYTES size (omega arith))
      (placed_in bigblocks META_ZONE (P + 1) 0 (start_of (P + 1)) 32 size (omega arith))
      (placed_in bigblocks META_ZONE (P + 1) 32 (start_of (P + 1) + 32) 48 size (omega arith))

  pub fresh_filled : All (IsFilled (fresh_entry bigblocks)) (fresh_references bigblocks)
  fresh_filled =
      let pool = pool_is bigblocks size in
      let P = first_pool bigblocks in
      let here : P ≡ P + 0 = omega arith in
      let first : fresh_entry bigblocks P ≡ pool_entry 0 = ap (fresh_entry bigblocks) here ∙ fresh_entry_at bigblocks 0 size (omega arith) in
      let second = fresh_entry_at bigblocks 1 size (omega arith) in
      all_three (IsFilled (fresh_entry bigblocks)) _ _ _
      (filled_in bigblocks TREE_ZONE P 0 (start_of P) PAGE_BYTES (pool_entry 0) first refl (omega arith))
      (filled_in bigblocks META_ZONE (P + 1) 0 (start_of (P + 1)) 32 (pool_entry 1) second refl (omega arith))
      (filled_in bigblocks META_ZONE (P + 1) 32 (start_of (P + 1) + 32) 48 (pool_entry 1) second refl (omega arith))

  pub fresh_apart : NoneOverlap (fresh_references bigblocks)
  fresh_apart =
      let pool = pool_is bigblocks size in
      let P = first_pool bigblocks in
      let root = byte_is 8 (start_of P) (omega arith) in
      let inode = byte_is 9 (start_of (P + 1)) (omega arith) in
      let pfs = byte_is 9 (start_of (P + 1) + 32) (omega arith) in (
        all_two (DoNotOverlap (to_node (root_at bigblocks))) (to_payload (inode_element bigblocks)) (to_payload (record_element bigblocks))
            (inr (inl (omega arith))) (inr (inl (omega arith))),
        (
          all_one (DoNotOverlap (to_payload (inode_element bigblocks))) (to_payload (record_element bigblocks)) (inr (inl (omega arith))),
          (All-nil (DoNotOverlap (to_payload (record_element bigblocks))), tt),
        ),
      )

  pub fresh_few : AreFew (fresh_references bigblocks)
  fresh_few k d below = omega (arith, count_by-le-length (is_there (slice_index_or (fresh_references bigblocks) k d)) (fresh_references bigblocks))

-- both payloads stand in the zone of such payloads
among : (byte : ℕ) → byte < 2 ^ 52 → IsPayloadZone (zone_of (raw_of META_ZONE byte))
among byte few = let zone = zone_is META_ZONE byte few in (omega arith, omega arith)

pub fresh_zones : (bigblocks : ℕ) (image : List ℕ) → IsSize bigblocks → IsFresh bigblocks image
    → All IsAmongPayloads (elements_of (pages_of image) (root_at bigblocks))
fresh_zones bigblocks image size fresh =
    let pool = pool_is bigblocks size in
    let elements = leaf_elements (pages_of image) (root_at bigblocks) _ (fresh_node bigblocks image fresh) in
    subst (All IsAmongPayloads) (sym elements)
    (all_two IsAmongPayloads (inode_element bigblocks) (record_element bigblocks)
    (among (start_of (first_pool bigblocks + 1)) (omega arith))
    (among (start_of (first_pool bigblocks + 1) + 32) (omega arith)))
