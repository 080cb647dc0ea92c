-- An image of a fresh volume of each size, byte by byte.
use Rattle.std.proofs.Common.{◌≡◌, ℕ, ◌+◌, ◌-◌, ◌*◌, ◌/◌, ◌%◌, ◌<◌, ◌≤◌, List, [], ◌∷◌, ◌++◌, length, ◌∙◌, arith, map, nat_lt}
use Rattle.std.specs.Prelude.{if◌then◌else◌, slice_index}
use Rattle.std.specs.List.{range_with_len}
use Rattle.std.proofs.lemmas.Bool.{cond-false, cond-true, le-ltb, lt-ltb}
use Rattle.std.proofs.lemmas.List.FromFn.{get_or-map-range_with_len, length-map-range_with_len}
use Rattle.hm_types.specs.Layout.{first_pool, first_undo, start_of}
use Rattle.hm_types.specs.declared.limits.TheConstants.{BIGBLOCK_BYTES}
use Rattle.hm_freemap.specs.Entry.{entry_bytes}
use Rattle.hm_freemap.specs.Layer1.{layer1_bytes, layer1_of}
use Rattle.hm_header.specs.Layout.{body_of}
use Rattle.hm_header.specs.Range.{IsSize}
use Rattle.hm_header.specs.declared.header.TheConstants.{GATE_OPEN}
use Rattle.hm_records.specs.Inode.{inode_bytes}
use Rattle.hm_records.specs.PfsRecord.{pfs_bytes}
use Rattle.hm_image.specs.Fresh.{fresh_entry, fresh_header, fresh_record, root_inode}
use Rattle.hm_image.proofs.OffsetLemmas.{pool_is}

-- ---- bytes

-- equal records of 16 or 32 bytes that follow one another from a byte on
abbrev pub row_byte : ℕ → ℕ → (ℕ → List ℕ) → ℕ → ℕ
row_byte from width f i = slice_index (f ((i - from) / width)) ((i - from) % width)

-- the bytes of the pool: a node in its first big-block, two payloads in the second, and zeros else
abbrev pub pool_byte : ℕ → List ℕ → ℕ → ℕ
pool_byte p page i =
    if nat_lt i (start_of (p + 1)) then slice_index page (i - start_of p) else
    (if nat_lt i (start_of (p + 1) + 32) then slice_index (inode_bytes root_inode) (i - start_of (p + 1))
    else slice_index (pfs_bytes fresh_record) (i - (start_of (p + 1) + 32)))

-- the bytes of all
abbrev pub slot_bytes : ℕ → List ℕ
slot_bytes bigblocks = body_of (fresh_header bigblocks) ++ GATE_OPEN ∷ []

abbrev pub byte_at : ℕ → List ℕ → ℕ → ℕ
byte_at bigblocks page i =
    if nat_lt i (start_of 1) then slice_index (slot_bytes bigblocks) i else
    (if nat_lt i (start_of 2) then row_byte (start_of 1) 32 (λ k. layer1_bytes (layer1_of bigblocks k)) i else
    (if nat_lt i (start_of (first_undo bigblocks)) then row_byte (start_of 2) 16 (λ k. entry_bytes (fresh_entry bigblocks k)) i else
    (if nat_lt i (start_of (first_pool bigblocks)) then 0 else pool_byte (first_pool bigblocks) page i)))

unfoldable pub fresh_image : ℕ → List ℕ → List ℕ
fresh_image bigblocks page = map (byte_at bigblocks page) (range_with_len 0 (bigblocks * BIGBLOCK_BYTES))

module _ (bigblocks : ℕ) (size : IsSize bigblocks) (page : List ℕ) where
  pub image_length : length (fresh_image bigblocks page) ≡ bigblocks * BIGBLOCK_BYTES
  unfolding fresh_image
  image_length = length-map-range_with_len (byte_at bigblocks page) 0 (bigblocks * BIGBLOCK_BYTES)

  pub image_byte : (i : ℕ) → i < bigblocks * BIGBLOCK_BYTES → slice_index (fresh_image bigblocks page) i ≡ byte_at bigblocks page i
  unfolding fresh_image
  image_byte i few = get_or-map-range_with_len (byte_at bigblocks page) 0 (bigblocks * BIGBLOCK_BYTES) i i 0 few (omega arith)

  -- its parts
  pub slot_byte : (i : ℕ) → i < start_of 1 → slice_index (fresh_image bigblocks page) i ≡ slice_index (slot_bytes bigblocks) i
  slot_byte i few =
      image_byte i (omega arith)
      ∙ cond-true (nat_lt i (start_of 1)) _ _ (lt-ltb i (start_of 1) few)

  pub layer1_byte : (i : ℕ) → start_of 1 ≤ i → i < start_of 2
      → slice_index (fresh_image bigblocks page) i ≡ row_byte (start_of 1) 32 (λ k. layer1_bytes (layer1_of bigblocks k)) i
  layer1_byte i after before =
      image_byte i (omega arith)
      ∙ cond-false (nat_lt i (start_of 1)) _ _ (le-ltb i (start_of 1) after)
      ∙ cond-true (nat_lt i (start_of 2)) _ _ (lt-ltb i (start_of 2) before)

  pub layer2_byte : (i : ℕ) → start_of 2 ≤ i → i < start_of (first_undo bigblocks)
      → slice_index (fresh_image bigblocks page) i ≡ row_byte (start_of 2) 16 (λ k. entry_bytes (fresh_entry bigblocks k)) i
  layer2_byte i after before =
      let pool = pool_is bigblocks size in
      image_byte i (omega arith)
      ∙ cond-false (nat_lt i (start_of 1)) _ _ (le-ltb i (start_of 1) (omega arith))
      ∙ cond-false (nat_lt i (start_of 2)) _ _ (le-ltb i (start_of 2) after)
      ∙ cond-true (nat_lt i (start_of (first_undo bigblocks))) _ _ (lt-ltb i (start_of (first_undo bigblocks)) before)

  pub in_pool : (i : ℕ) → start_of (first_pool bigblocks) ≤ i → i < bigblocks * BIGBLOCK_BYTES
      → slice_index (fresh_image bigblocks page) i ≡ pool_byte (first_pool bigblocks) page i
  in_pool i after before =
      let pool = pool_is bigblocks size in
      image_byte i before
      ∙ cond-false (nat_lt i (start_of 1)) _ _ (le-ltb i (start_of 1) (omega arith))
      ∙ cond-false (nat_lt i (start_of 2)) _ _ (le-ltb i (start_of 2) (omega arith))
      ∙ cond-false (nat_lt i (start_of (first_undo bigblocks))) _ _ (le-ltb i (start_of (first_undo bigblocks)) (omega arith))
      ∙ cond-false (nat_lt i (start_of (first_pool bigblocks))) _ _ (le-ltb i (start_of (first_pool bigblocks)) (omega arith))
