-- What two images have in common, so far as it matters for what they mean.
use Rattle.std.specs.Prelude.{◌≡◌, ℕ, ◌+◌, ◌*◌, ◌<◌, List, ◌≤◌, length, slice_index, slice_range}
use Rattle.std.specs.List.{All, Contains}
use Rattle.hm_types.specs.Layout.{blocks_per_layer2, first_undo, layer2_blocks, start_of}
use Rattle.hm_types.specs.References.{Reference, begin_of}
use Rattle.hm_freemap.specs.Places.{page_of}
use Rattle.hm_header.specs.declared.header.Header.{Header}
use Rattle.hm_header.specs.declared.header.TheConstants.{SLOT_BYTES}
use Rattle.hm_image.specs.Image.{bytes_at, pages_of, references_from}
use Rattle.hm_image.specs.Sound.{layer1_entries}

-- the bytes that a reference names are the same
abbrev pub HasSameBytes : List ℕ → List ℕ → Reference → Type 0
HasSameBytes old new r = bytes_at new r.at r.len ≡ bytes_at old r.at r.len

-- the bytes of all that the old tree from a root on refers to are the same
pub record HasSameTree (old new : List ℕ) (root : ℕ) : Type 0 where
  pub size : length new ≡ length old
  pub bytes : All (HasSameBytes old new) (references_from (pages_of old) root)

-- both layers of the freemap are the same
pub record HasSameFreemap (old new : List ℕ) (bigblocks : ℕ) : Type 0 where
  pub layer1 : (i : ℕ) → i < layer1_entries
      → slice_range new (start_of 1 + 32 * i) (start_of 1 + 32 * i + 32)
      ≡ slice_range old (start_of 1 + 32 * i) (start_of 1 + 32 * i + 32)
  pub layer2 : (block : ℕ) → block < layer2_blocks bigblocks * blocks_per_layer2 → pages_of new (page_of block) ≡ pages_of old (page_of block)

-- a byte of a reference
abbrev pub IsByteOf : Reference → ℕ → Type 0
IsByteOf r i = (begin_of r ≤ i) × (i < begin_of r + r.len)

-- A byte of an image that means something where this header counts: one of a header slot, of the freemap, or of what
-- the tree refers to. The UNDO log is not of these, nor what stands in the pool beside the tree.
pub data IsNamed (image : List ℕ) (header : Header) (i : ℕ) : Type 0 where
  of_slot : i < 2 * SLOT_BYTES → IsNamed image header i
  of_freemap : start_of 1 ≤ i → i < start_of (first_undo header.bigblocks) → IsNamed image header i
  of_tree : (r : Reference) → Contains (references_from (pages_of image) header.root) r → IsByteOf r i → IsNamed image header i

-- each such byte is the same
pub record HasSameNamed (old new : List ℕ) (header : Header) : Type 0 where
  pub size : length new ≡ length old
  pub bytes : (i : ℕ) → i < length old → IsNamed old header i → slice_index new i ≡ slice_index old i
