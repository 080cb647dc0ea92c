-- There is a fresh volume of each size.
use Rattle.std.proofs.Common.{◌≡◌, inl, inr, ℕ, ◌+◌, ◌-◌, ◌*◌, ◌/◌, ◌%◌, ◌<◌, ◌≤◌, List, [], ◌∷◌, Some, length, nat_lt, refl, ap, ◌∙◌, arith}
use Rattle.std.proofs.Common.{length-append, length-drop, length-take}
use Rattle.std.specs.Prelude.{nat_le, slice_index}
use Rattle.std.proofs.lemmas.Bool.{cond-false, cond-true, le-leb, le-ltb, lt-ltb}
use Rattle.std.proofs.lemmas.List.{get_or_past}
use Rattle.hm_types.specs.Layout.{blocks_per_layer2, first_layer2, first_pool, layer2_blocks, start_of}
use Rattle.hm_types.specs.Offset.{byte_of}
use Rattle.hm_types.specs.declared.limits.TheConstants.{PAGE_BYTES}
use Rattle.hm_types.specs.declared.zone.TheConstants.{META_ZONE, TREE_ZONE}
use Rattle.hm_freemap.specs.Entry.{entry_bytes}
use Rattle.hm_freemap.specs.Layer1.{layer1_bytes, layer1_of}
use Rattle.hm_freemap.specs.Places.{page_of, place_of}
use Rattle.hm_freemap.specs.declared.entry.Entry.{Entry}
use Rattle.hm_header.specs.Layout.{body_of}
use Rattle.hm_header.specs.Range.{IsSize}
use Rattle.hm_header.specs.Slots.{IsClosed}
use Rattle.hm_header.specs.declared.header.TheConstants.{GATE_OPEN, SLOT_BYTES}
use Rattle.hm_header.proofs.SlotLemmas.{length-body}
use Rattle.hm_records.specs.Inode.{inode_bytes}
use Rattle.hm_records.specs.PfsRecord.{head_bytes, interval_bytes, pfs_bytes}
use Rattle.hm_records.proofs.InodeLemmas.{length-inode}
use Rattle.hm_image.specs.Fresh.{IsFresh, fresh_entry, fresh_header, fresh_record, inode_at, record_at, root_at, root_inode}
use Rattle.hm_header.specs.OnDisk.{first_slot, second_slot}
use Rattle.hm_image.specs.Image.{bytes_at, pages_of}
use Rattle.hm_image.specs.Sound.{HasEntry, HasLayer1}
use Rattle.hm_image.proofs.FreshImageLemmas.{fresh_image, image_length, in_pool, layer1_byte, layer2_byte, row_byte, slot_byte, slot_bytes}
use Rattle.hm_image.proofs.FreshPageLemmas.{fresh_page}
use Rattle.hm_image.proofs.NamedLemmas.{page_byte}
use Rattle.hm_image.proofs.PartLemmas.{part_at, part_is}
use Rattle.hm_image.proofs.OffsetLemmas.{byte_is, layer2_is, pool_is}

length-layer1 : (raw : ℕ) → length (layer1_bytes raw) ≡ 32
unfolding layer1_bytes
length-layer1 raw = refl

length-entry : (e : Entry) → length (entry_bytes e) ≡ 16
unfolding entry_bytes
length-entry e = refl

length-record : length (pfs_bytes fresh_record) ≡ 48
unfolding pfs_bytes head_bytes interval_bytes
length-record = refl

length-slot : (bigblocks : ℕ) → length (slot_bytes bigblocks) ≡ 16384
length-slot bigblocks = omega (arith, length-append (body_of (fresh_header bigblocks)) (GATE_OPEN ∷ []), length-body (fresh_header bigblocks))

row_32 : (f : ℕ → List ℕ) (from n k i : ℕ) → k < 32 → i ≡ from + 32 * n + k → row_byte from 32 f i ≡ slice_index (f n) k
row_32 f from n k i few is =
    let row : (i - from) / 32 ≡ n = omega arith in
    let at : (i - from) % 32 ≡ k = omega arith in
    rw (row, at) refl

row_16 : (f : ℕ → List ℕ) (from n k i : ℕ) → k < 16 → i ≡ from + 16 * n + k → row_byte from 16 f i ≡ slice_index (f n) k
row_16 f from n k i few is =
    let row : (i - from) / 16 ≡ n = omega arith in
    let at : (i - from) % 16 ≡ k = omega arith in
    rw (row, at) refl

-- where an entry of layer 2 stands
entry_byte : (bigblocks block : ℕ) → IsSize bigblocks → block < layer2_blocks bigblocks * blocks_per_layer2
    → byte_of (page_of block) + place_of block ≡ start_of 2 + 16 * block
unfolding page_of place_of
entry_byte bigblocks block size few =
    elim (layer2_is bigblocks size) [
      | inl one ↦ let byte = byte_is 4 (start_of first_layer2 + block / 256 * PAGE_BYTES) (omega arith) in omega arith
      | inr two ↦ let byte = byte_is 4 (start_of first_layer2 + block / 256 * PAGE_BYTES) (omega arith) in omega arith
    ]

place_few : (block : ℕ) → place_of block + 16 ≤ PAGE_BYTES
unfolding place_of
place_few block = omega arith

module _ (bigblocks : ℕ) (size : IsSize bigblocks) where
  abbrev page : List ℕ
  page = (fresh_page bigblocks size).page

  abbrev image : List ℕ
  image = fresh_image bigblocks page

  first : first_slot image ≡ slot_bytes bigblocks
  first =
      let long = image_length bigblocks size page in
      let own = length-slot bigblocks in
      part_is image (slot_bytes bigblocks) 0 SLOT_BYTES own (omega arith)
      (λ k few.
      let same : 0 + k ≡ k = omega arith in
      ap (slice_index image) same ∙ slot_byte bigblocks size page k (omega arith))

  second : IsClosed (second_slot image)
  second gate =
      let at = part_at image SLOT_BYTES (2 * SLOT_BYTES) 16383 (omega arith) in
      let byte = slot_byte bigblocks size page 32767 (omega arith) in
      let none = get_or_past (slot_bytes bigblocks) 32767 0 (omega (arith, length-slot bigblocks)) in
      omega arith

  layer1 : HasLayer1 image bigblocks
  layer1 i few =
      let long = image_length bigblocks size page in
      let own = length-layer1 (layer1_of bigblocks i) in
      let from = start_of 1 + 32 * i in
      part_is image (layer1_bytes (layer1_of bigblocks i)) from (from + 32) (omega arith) (omega arith)
      (λ k below.
      layer1_byte bigblocks size page (from + k) (omega arith) (omega arith)
      ∙ row_32 (λ n. layer1_bytes (layer1_of bigblocks n)) (start_of 1) i k (from + k) (omega arith) refl)

  layer2 : (block : ℕ) → block < layer2_blocks bigblocks * blocks_per_layer2 → HasEntry image block (fresh_entry bigblocks block)
  layer2 block few =
      let pool = pool_is bigblocks size in
      let long = image_length bigblocks size page in
      let within = page_byte bigblocks block size few in
      let here = entry_byte bigblocks block size few in
      let room = place_few block in
      let own = length-entry (fresh_entry bigblocks block) in
      let from = byte_of (page_of block) in
      let held : List ℕ = bytes_at image (page_of block) PAGE_BYTES in
      let held_long : length held ≡ PAGE_BYTES = simp (length-take, length-drop) (omega arith) in
      record {
        page = held;
        there = cond-true (nat_le (from + PAGE_BYTES) (length image)) _ _ (le-leb (from + PAGE_BYTES) (length image) (omega arith));
        spelled = part_is held (entry_bytes (fresh_entry bigblocks block)) (place_of block) (place_of block + 16) (omega arith) (omega arith)
            (λ k below.
            part_at image from (from + PAGE_BYTES) (place_of block + k) (omega arith)
            ∙ layer2_byte bigblocks size page (from + (place_of block + k)) (omega arith) (omega arith)
            ∙ row_16 (λ n. entry_bytes (fresh_entry bigblocks n)) (start_of 2) block k (from + (place_of block + k)) (omega arith) (omega arith));
      }

  root : pages_of image (root_at bigblocks) ≡ Some page
  root =
      let pool = pool_is bigblocks size in
      let P = first_pool bigblocks in
      let long = image_length bigblocks size page in
      let byte = byte_is TREE_ZONE (start_of P) (omega arith) in
      let own = (fresh_page bigblocks size).spelled.sized in
      let from = byte_of (root_at bigblocks) in
      let part : bytes_at image (root_at bigblocks) PAGE_BYTES ≡ page =
      part_is image page from (from + PAGE_BYTES) (omega arith) (omega arith)
      (λ k below.
      let i = from + k in
      let same : i - start_of P ≡ k = omega arith in
      in_pool bigblocks size page i (omega arith) (omega arith)
      ∙ cond-true (nat_lt i (start_of (P + 1))) _ _ (lt-ltb i (start_of (P + 1)) (omega arith))
      ∙ ap (slice_index page) same) in
      cond-true (nat_le (from + PAGE_BYTES) (length image)) _ _ (le-leb (from + PAGE_BYTES) (length image) (omega arith))
      ∙ ap (λ (bytes : List ℕ). Some bytes) part

  inode : bytes_at image (inode_at bigblocks) 32 ≡ inode_bytes root_inode
  inode =
      let pool = pool_is bigblocks size in
      let Q = start_of (first_pool bigblocks + 1) in
      let long = image_length bigblocks size page in
      let byte = byte_is META_ZONE Q (omega arith) in
      let own = length-inode root_inode in
      let from = byte_of (inode_at bigblocks) in
      part_is image (inode_bytes root_inode) from (from + 32) (omega arith) (omega arith)
      (λ k below.
      let i = from + k in
      let same : i - Q ≡ k = omega arith in
      in_pool bigblocks size page i (omega arith) (omega arith)
      ∙ cond-false (nat_lt i Q) _ _ (le-ltb i Q (omega arith))
      ∙ cond-true (nat_lt i (Q + 32)) _ _ (lt-ltb i (Q + 32) (omega arith))
      ∙ ap (slice_index (inode_bytes root_inode)) same)

  pfs : bytes_at image (record_at bigblocks) 48 ≡ pfs_bytes fresh_record
  pfs =
      let pool = pool_is bigblocks size in
      let Q = start_of (first_pool bigblocks + 1) in
      let long = image_length bigblocks size page in
      let byte = byte_is META_ZONE (Q + 32) (omega arith) in
      let own = length-record in
      let from = byte_of (record_at bigblocks) in
      part_is image (pfs_bytes fresh_record) from (from + 48) (omega arith) (omega arith)
      (λ k below.
      let i = from + k in
      let same : i - (Q + 32) ≡ k = omega arith in
      in_pool bigblocks size page i (omega arith) (omega arith)
      ∙ cond-false (nat_lt i Q) _ _ (le-ltb i Q (omega arith))
      ∙ cond-false (nat_lt i (Q + 32)) _ _ (le-ltb i (Q + 32) (omega arith))
      ∙ ap (slice_index (pfs_bytes fresh_record)) same)

  pub fresh_there : (image : List ℕ) × IsFresh bigblocks image
  fresh_there = (
    image,
    record {
      size = omega (arith, image_length bigblocks size page);
      first = first;
      second = second;
      layer1 = layer1;
      layer2 = layer2;
      page = page;
      root = root;
      spelled = (fresh_page bigblocks size).spelled;
      inode = inode;
      pfs = pfs;
    },
  )
