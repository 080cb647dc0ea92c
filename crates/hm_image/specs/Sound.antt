-- Which images are sound: one sentence for each part of a volume.
use Rattle.std.specs.Prelude.{◌≡◌, ℕ, ℤ, ◌+◌, ◌-ℤ◌, ◌*◌, ◌<◌, ◌≤◌, pos, List, slice_index, slice_range, Some}
use Rattle.std.specs.List.{All}
use Rattle.hm_types.specs.Hash.{name_hash}
use Rattle.hm_types.specs.Layout.{IsPool, block_of, blocks_per_layer2, layer2_blocks, start_of}
use Rattle.hm_types.specs.Offset.{zone_of}
use Rattle.hm_types.specs.References.{Reference, IsPlaced, NoneOverlap, AreFew, begin_of, end_of, live_bytes}
use Rattle.hm_types.specs.Space.{IsPayloadZone}
use Rattle.hm_types.specs.declared.limits.TheConstants.{BIGBLOCK_BYTES}
use Rattle.hm_types.specs.declared.zone.TheConstants.{TREE_ZONE}
use Rattle.hm_freemap.specs.Entry.{IsEntryOf, SpellsEntry}
use Rattle.hm_freemap.specs.Layer1.{layer1_bytes, layer1_of}
use Rattle.hm_freemap.specs.Places.{page_of, place_of}
use Rattle.hm_freemap.specs.declared.entry.Entry.{Entry}
use Rattle.hm_header.specs.declared.header.Header.{Header}
use Rattle.hm_key.specs.declared.element.Element.{Element}
use Rattle.hm_records.specs.KeysFit.{KeysFit}
use Rattle.hm_records.specs.Payload.{IsPayload}
use Rattle.hm_search.specs.Tree.{IsSoundTree, elements_of}
use Rattle.hm_header.specs.OnDisk.{HasHeader}
use Rattle.hm_image.specs.Image.{elements_from, pages_of, references_from}

-- how many entries layer 1 has, whatever the size of the volume
abbrev pub layer1_entries : ℕ
layer1_entries = 262144

-- layer 1: each entry names the big-block of layer 2 that tells of its part of the volume, or none
abbrev pub HasLayer1 : List ℕ → ℕ → Type 0
HasLayer1 image bigblocks =
    (i : ℕ) → i < layer1_entries
    → slice_range image (start_of 1 + 32 * i) (start_of 1 + 32 * i + 32) ≡ layer1_bytes (layer1_of bigblocks i)

-- layer 2 has this entry for a big-block
pub record HasEntry (image : List ℕ) (block : ℕ) (e : Entry) : Type 0 where
  pub page : List ℕ
  pub there : pages_of image (page_of block) ≡ Some page
  pub spelled : SpellsEntry page (place_of block) e

-- layer 2: each big-block that it tells of has an entry that may be its own, and the big-blocks that zones are
-- appending to are theirs
pub record HasLayer2 (image : List ℕ) (header : Header) (entries : ℕ → Entry) : Type 0 where
  pub each : (block : ℕ) → block < layer2_blocks header.bigblocks * blocks_per_layer2
      → HasEntry image block (entries block) × IsEntryOf header.bigblocks block (entries block)
  pub appended : (k : ℕ) → k < 4 → (entries (slice_index header.append k)).zone ≡ TREE_ZONE + k

-- the tree: from the root on each node keeps the rules of nodes and those of its place
abbrev pub HasTree : List ℕ → Header → Type 0
HasTree image header = IsSoundTree (pages_of image) header.root

-- payloads: each is what the type of its element says, and the key of an entry fits its name
pub record HasPayloads (image : List ℕ) (header : Header) : Type 0 where
  pub each : All IsPayload (elements_from image header.root)
  pub keys : KeysFit name_hash (elements_from image header.root)

-- an extent lies in a big-block of its zone, in the part of it that was filled
pub record IsFilled (entries : ℕ → Entry) (r : Reference) : Type 0 where
  pub zone : (entries (block_of (begin_of r))).zone ≡ zone_of r.at
  pub filled : end_of r ≤ start_of (block_of (begin_of r)) + (entries (block_of (begin_of r))).append_off

-- a payload stands in a zone of payloads, apart from the nodes, which are written where they stand
abbrev pub IsAmongPayloads : Element → Type 0
IsAmongPayloads e = IsPayloadZone (zone_of e.payload)

-- extents: each stands where one may, two are equal or share no byte, and none is referred to too often
pub record HasExtents (image : List ℕ) (header : Header) (entries : ℕ → Entry) : Type 0 where
  pub zones : All IsAmongPayloads (elements_of (pages_of image) header.root)
  pub placed : All (IsPlaced header.bigblocks) (references_from (pages_of image) header.root)
  pub filled : All (IsFilled entries) (references_from (pages_of image) header.root)
  pub apart : NoneOverlap (references_from (pages_of image) header.root)
  pub few : AreFew (references_from (pages_of image) header.root)

-- how many bytes of a big-block are free by what a tree refers to: fewer than none where extents are shared often
abbrev pub free_bytes_in : List Reference → ℕ → ℤ
free_bytes_in references block = pos BIGBLOCK_BYTES -ℤ pos (live_bytes references block)

-- each big-block of the pool has as many free bytes as are not live in it
abbrev pub HasFreeBytes : List ℕ → Header → (ℕ → Entry) → Type 0
HasFreeBytes image header entries =
    (block : ℕ) → IsPool header.bigblocks block
    → (entries block).bytes_free ≡ free_bytes_in (references_from (pages_of image) header.root) block

-- a sound image, with the header that counts
pub record IsSoundBy (image : List ℕ) (header : Header) : Type 0 where
  pub slot : ℕ
  pub entries : ℕ → Entry
  pub counts : HasHeader image header slot
  pub layer1 : HasLayer1 image header.bigblocks
  pub layer2 : HasLayer2 image header entries
  pub tree : HasTree image header
  pub payloads : HasPayloads image header
  pub extents : HasExtents image header entries
  pub free_bytes : HasFreeBytes image header entries

-- a sound image
abbrev pub IsSound : List ℕ → Type 0
IsSound image = (header : Header) × IsSoundBy image header
