-- The bytes that all steps leave are those of a volume as it is made.
use Rattle.std.proofs.Common.{◌≡◌, ◌⊎◌, inl, inr, ⊎_elim, ℕ, ◌+◌, ◌*◌, ◌/◌, ◌%◌, ◌<◌, ◌≤◌, List, [], ◌∷◌, ◌++◌, Some}
use Rattle.std.proofs.Common.{sym, ap, subst, ◌∙◌, arith, length, take, slice_index, slice_range}
use Rattle.std.specs.Prelude.{nat_le}
use Rattle.std.proofs.lemmas.Bool.{cond-true, le-leb}
use Rattle.std.proofs.lemmas.List.{take_at, drop_at}
use Rattle.hm_types.specs.Layout.{blocks_per_layer2, first_layer2, first_pool, layer2_blocks, start_of}
use Rattle.hm_types.specs.Offset.{byte_of}
use Rattle.hm_types.specs.declared.limits.TheConstants.{PAGE_BYTES}
use Rattle.hm_types.specs.declared.zone.TheConstants.{FREEMAP_ZONE, META_ZONE, TREE_ZONE}
use Rattle.hm_disk.specs.Crash.{MayLeave}
use Rattle.hm_freemap.specs.Entry.{SpellsEntry}
use Rattle.hm_freemap.specs.Layer1.{layer1_bytes, layer1_of}
use Rattle.hm_freemap.specs.Places.{page_of, place_of}
use Rattle.hm_header.specs.Layout.{body_of}
use Rattle.hm_header.specs.OnDisk.{HasFault, HasSlots, first_slot, gate_place, second_slot}
use Rattle.hm_header.specs.declared.fault.HeaderFault.TheVariants.{NotVolume}
use Rattle.hm_header.specs.Range.{IsSize}
use Rattle.hm_header.specs.Slots.{IsClosed}
use Rattle.hm_header.specs.declared.header.TheConstants.{GATE_OPEN}
use Rattle.hm_header.proofs.GateLemmas.{closed-by-byte, is-open}
use Rattle.hm_header.proofs.OnDiskLemmas.{slot-kept, slot-of-body}
use Rattle.hm_header.proofs.SliceLemmas.{slice-byte}
use Rattle.hm_header.proofs.SlotLemmas.{length-body}
use Rattle.hm_image.specs.Fresh.{IsFresh, fresh_entry, fresh_header, fresh_record, inode_at, record_at, root_at, root_inode, fresh_root}
use Rattle.hm_image.specs.Image.{bytes_at, pages_of}
use Rattle.hm_image.specs.Sound.{HasEntry, HasLayer1}
use Rattle.hm_image.proofs.NamedLemmas.{page_byte}
use Rattle.hm_image.proofs.OffsetLemmas.{byte_is, layer2_is, pool_is}
use Rattle.hm_node.specs.Node.{Spells}
use Rattle.hm_records.specs.Inode.{inode_bytes}
use Rattle.hm_records.specs.PfsRecord.{head_bytes, interval_bytes, pfs_bytes}
use Rattle.hm_records.proofs.InodeLemmas.{length-inode}
use Rattle.hm_newfs.specs.Contents.{HasContents}
use Rattle.hm_newfs.specs.Steps.{AreGatesClosed}
use Rattle.hm_newfs.proofs.ClosingLemmas.{no-volume}
use Rattle.hm_newfs.proofs.ContentLemmas.{contents-kept}
use Rattle.hm_newfs.proofs.PageLemmas.{slice-slice}

module _ (bigblocks : ℕ) (size : IsSize bigblocks) (image : List ℕ) (room : bigblocks * 8388608 ≤ length image)
    (contents : HasContents bigblocks image) where
  slots : HasSlots image
  slots = omega (arith, room, size.0)

  first : slice_index image (gate_place 0) ≡ GATE_OPEN → first_slot image ≡ body_of (fresh_header bigblocks) ++ GATE_OPEN ∷ []
  first gate =
      slot-of-body 0 image (body_of (fresh_header bigblocks)) (omega arith) slots (length-body (fresh_header bigblocks))
      (λ i few. sym (slice-byte image 0 16383 i (omega arith)) ∙ ap (λ (xs : List ℕ). slice_index xs i) contents.body)
      ∙ ap (λ (byte : ℕ). body_of (fresh_header bigblocks) ++ byte ∷ []) gate

  layer1 : HasLayer1 image bigblocks
  layer1 i few =
      let number = i / 128 in
      let at : start_of 1 + number * 4096 + i % 128 * 32 ≡ start_of 1 + 32 * i = omega arith in
      let entry : number * 128 + i % 128 ≡ i = omega arith in
      subst (λ (from : ℕ). slice_range image from (from + 32) ≡ layer1_bytes (layer1_of bigblocks i)) at
      (sym (slice-slice image (start_of 1 + number * 4096) 4096 (i % 128 * 32) 32 (omega arith))
      ∙ (contents.layer1 number (omega arith) (i % 128) (omega arith) ∙ ap (λ (n : ℕ). layer1_bytes (layer1_of bigblocks n)) entry))

  -- a page that lies inside is there
  page-there : (at : ℕ) → byte_of at + 4096 ≤ length image → pages_of image at ≡ Some (bytes_at image at PAGE_BYTES)
  page-there at fits = cond-true (nat_le (byte_of at + PAGE_BYTES) (length image)) _ _ (le-leb (byte_of at + PAGE_BYTES) (length image) fits)

  page-at : (block : ℕ) → block < layer2_blocks bigblocks * blocks_per_layer2 → byte_of (page_of block) ≡ start_of 2 + block / 256 * 4096
  unfolding page_of
  page-at block few = elim (layer2_is bigblocks size) [
    | inl one ↦ byte_is FREEMAP_ZONE (start_of first_layer2 + block / 256 * PAGE_BYTES) (omega arith)
    | inr two ↦ byte_is FREEMAP_ZONE (start_of first_layer2 + block / 256 * PAGE_BYTES) (omega arith)
  ]

  layer2 : (block : ℕ) → block < layer2_blocks bigblocks * blocks_per_layer2 → HasEntry image block (fresh_entry bigblocks block)
  unfolding place_of
  layer2 block few =
      let pool = pool_is bigblocks size in
      let inside = page_byte bigblocks block size few in
      let number = block / 256 in
      let from = start_of 2 + number * 4096 in
      let entry : number * 256 + block % 256 ≡ block = omega arith in
      let there = contents.layer2 number (omega arith) (block % 256) (omega arith) in
      record {
        page = bytes_at image (page_of block) PAGE_BYTES;
        there = page-there (page_of block) (omega arith);
        spelled = subst (λ (from : ℕ). SpellsEntry (slice_range image from (from + 4096)) (block % 256 * 16) (fresh_entry bigblocks block))
            (sym (page-at block few))
            (subst (λ (n : ℕ). SpellsEntry (slice_range image from (from + 4096)) (block % 256 * 16) (fresh_entry bigblocks n)) entry there);
      }

  -- where the pool begins
  root-is : byte_of (root_at bigblocks) ≡ start_of (first_pool bigblocks)
  root-is = let pool = pool_is bigblocks size in byte_is TREE_ZONE (start_of (first_pool bigblocks)) (omega arith)

  inode-is : byte_of (inode_at bigblocks) ≡ start_of (first_pool bigblocks + 1)
  inode-is = let pool = pool_is bigblocks size in byte_is META_ZONE (start_of (first_pool bigblocks + 1)) (omega arith)

  record-is : byte_of (record_at bigblocks) ≡ start_of (first_pool bigblocks + 1) + 32
  record-is = let pool = pool_is bigblocks size in byte_is META_ZONE (start_of (first_pool bigblocks + 1) + 32) (omega arith)

  inode : bytes_at image (inode_at bigblocks) 32 ≡ inode_bytes root_inode
  inode =
      let Q = start_of (first_pool bigblocks + 1) in
      let none : Q + 0 ≡ Q = omega arith in
      ap (λ (from : ℕ). slice_range image from (from + 32)) (inode-is ∙ sym none)
      ∙ (sym (slice-slice image Q 80 0 32 (omega arith))
      ∙ (ap (λ (xs : List ℕ). slice_range xs 0 32) contents.tree.payloads
      ∙ take_at (inode_bytes root_inode) (pfs_bytes fresh_record) 32 (length-inode root_inode)))

  pfs : bytes_at image (record_at bigblocks) 48 ≡ pfs_bytes fresh_record
  unfolding pfs_bytes head_bytes interval_bytes
  pfs =
      let Q = start_of (first_pool bigblocks + 1) in
      ap (λ (from : ℕ). slice_range image from (from + 48)) record-is
      ∙ (sym (slice-slice image Q 80 32 48 (omega arith))
      ∙ (ap (λ (xs : List ℕ). slice_range xs 32 80) contents.tree.payloads
      ∙ ap (λ (xs : List ℕ). take 48 xs) (drop_at (inode_bytes root_inode) (pfs_bytes fresh_record) 32 (length-inode root_inode))))

  -- so it is a volume as it is made, once the gate of the first slot is open
  pub fresh-volume : slice_index image (gate_place 0) ≡ GATE_OPEN → IsClosed (second_slot image) → IsFresh bigblocks image
  fresh-volume gate closed =
      let pool = pool_is bigblocks size in
      record {
        size = room;
        first = first gate;
        second = closed;
        layer1 = layer1;
        layer2 = layer2;
        page = bytes_at image (root_at bigblocks) PAGE_BYTES;
        root = page-there (root_at bigblocks) (omega (arith, root-is));
        spelled = subst (λ (from : ℕ). Spells (slice_range image from (from + 4096)) (fresh_root bigblocks)) (sym root-is) contents.tree.root;
        inode = inode;
        pfs = pfs;
      }

-- The gate of the first slot is written over the contents, and no other byte.
module _ (bigblocks : ℕ) (size : IsSize bigblocks) (old new : List ℕ) (room : bigblocks * 8388608 ≤ length old)
    (contents : HasContents bigblocks old) (lacks : AreGatesClosed old) (change : MayLeave old ((gate_place 0, 1) ∷ []) new) where
  inside : bigblocks * 8388608 ≤ length new
  inside = omega (arith, room, change.size)

  second-closed : IsClosed (second_slot new)
  second-closed = subst IsClosed (sym (slot-kept 1 old new (gate_place 0) 1 (omega arith) (inr (omega arith)) change)) lacks.second

  -- where it is open then there is the volume
  pub opened : slice_index new (gate_place 0) ≡ GATE_OPEN → IsFresh bigblocks new
  opened gate =
      fresh-volume bigblocks size new inside
      (contents-kept bigblocks size (gate_place 0) old new (omega arith) (omega arith) change contents) gate second-closed

  -- and else there is none
  pub opened-or-not : HasFault new NotVolume ⊎ IsFresh bigblocks new
  opened-or-not =
      ⊎_elim (λ gate. inr (opened gate))
      (λ shut. inl (no-volume new (record { first = closed-by-byte 0 new (omega arith) shut; second = second-closed })))
      (is-open (slice_index new (gate_place 0)))
